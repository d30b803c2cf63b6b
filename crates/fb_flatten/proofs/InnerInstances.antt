-- The applications of a text have no plugs and no sockets.
use Rattle.std.proofs.Common.{◌≡◌, ℕ, Bool, true, false, List, [], ◌∷◌, ◌++◌, length, Some, Result, Ok, Err, sym, ap, ◌∙◌, subst, inl, inr}
use Rattle.std.specs.FinMap.{get}
use Rattle.fb_types.specs.{Text.declared.token.Span.{Span}, Text.declared.name.NameUse.{NameUse}, Forms.Lexemes.{lexemes_of}, Forms.declared.kind.Kind.{Kind}}
use Rattle.fb_types.specs.{Forms.declared.lexeme.Lexeme.{Lexeme}, Forms.Form.{Form, Spells, both, many, as_value}, Forms.Words.{before, behind, key, name}}
use Rattle.fb_types.specs.{Sections.Network.{blocks, instance, inner_subapplication, subapplications}, Sections.Sections.{section}}
use Rattle.fb_types.specs.Tree.Tree.{ApplicationTree, DeclTree, InstanceTree, SystemTree, system_configuration}
use Rattle.fb_types.specs.Parse.Grammar.{application, application_of, application_section, network_section, system, system_of, system_section, unit}
use Rattle.fb_types.specs.{Parse.SystemContents.{SystemContentsTree, system_joined}, Library.View.{Sources, tree_at, tree_in, tree_of}}
use Rattle.fb_types.specs.{Tree.declared.network.Role.{Role}, Parse.Body.{BodyTree, Whole, BrokenAt, IsBodyIn, body_of}, Parse.Contents.{ContentsTree, joined}}
use Rattle.fb_types.specs.Forms.declared.kind.Kind.TheVariants as kinds
use Rattle.fb_types.specs.Tree.declared.network.Role.TheVariants as roles
use Rattle.fb_types.proofs.Parse.Bodies.{told}
use Rattle.fb_faults.proofs.Netcheck.Locality.{Each}
use Rattle.fb_flatten.proofs.FlatLocality.{reached}

-- each value that tokens spell by the form has the fact
abbrev GivesOnly : {A : Type 0} → Form A → (A → Type 0) → Type 0
GivesOnly {A = A} x P = (tokens : List Lexeme) (value : A) → Spells x tokens value → P value

gives_each : {A : Type 0} (x : Form A) (P : A → Type 0) → GivesOnly x P → GivesOnly (many x) (Each P)
gives_each x P h tokens [] s = tt
gives_each x P h tokens (v ∷ vs) s = (h s.0 v s.3, gives_each x P h s.1 vs s.4)

gives_section : {A : Type 0} (start end : Kind) (x : Form A) (P : A → Type 0) → GivesOnly x P → GivesOnly (section start x end) (Each P)
gives_section start end x P h tokens value s = subst (Each P) (sym (s.2 ∙ s.1.4.2)) (gives_each x P h s.1.4.1.0 s.1.4.0.0 s.1.4.1.3)

each_append : {A : Type 0} (P : A → Type 0) (xs ys : List A) → Each P xs → Each P ys → Each P (xs ++ ys)
each_append P [] ys h more = more
each_append P (x ∷ xs) ys h more = (h.0, each_append P xs ys h.1 more)

-- a block or a subapplication
abbrev pub is_inner : Role → Bool
is_inner roles.Plug = false
is_inner roles.Socket = false
is_inner roles.Block = true
is_inner roles.Subapplication = true

abbrev pub IsInnerInstance : InstanceTree → Type 0
IsInnerInstance i = is_inner i.role ≡ true

gives_blocks : GivesOnly blocks (Each IsInnerInstance)
unfolding blocks instance
gives_blocks = gives_section kinds.Fbs kinds.EndFbs (instance roles.Block) IsInnerInstance (λ tokens value s. ap (λ (i : InstanceTree). is_inner i.role) s.2)

gives_subapplications : GivesOnly subapplications (Each IsInnerInstance)
unfolding subapplications inner_subapplication
gives_subapplications = gives_section kinds.Subapps kinds.EndSubapps inner_subapplication IsInnerInstance (λ tokens value s. ap (λ (i : InstanceTree). is_inner i.role) s.2)

abbrev InContents : ContentsTree → Type 0
InContents c = Each IsInnerInstance c.network.instances

gives_application_section : GivesOnly application_section InContents
unfolding application_section network_section
gives_application_section tokens value (inl (inl s)) = subst InContents (sym s.2) (gives_blocks tokens s.0 s.1)
gives_application_section tokens value (inl (inr s)) = subst InContents (sym s.2) tt
gives_application_section tokens value (inr s) = subst InContents (sym s.2) (gives_subapplications tokens s.0 s.1)

-- a name and sections between two words
gives_closed : {S A B : Type 0} (start end : Kind) (x : Form S) (join : List S → A) (make : NameUse × A → B) (P : S → Type 0) (Q : A → Type 0) (R : B → Type 0) → ((all : List S) → Each P all → Q (join all)) → ((v : NameUse × A) → Q v.1 → R (make v)) → GivesOnly x P → GivesOnly (as_value make (behind (key start) (both name (before (as_value join (many x)) (key end))))) R
gives_closed start end x join make P Q R joins makes h tokens value s =
    let sections = s.1.1.4.4.1 in
    subst R (sym s.2) (makes s.0 (subst Q (sym (ap (λ v. v.1) s.1.2 ∙ s.1.1.4.4.2 ∙ sections.3.2)) (joins sections.3.0 (gives_each x P h sections.0 sections.3.0 sections.3.1))))

in_joined : (sections : List ContentsTree) → Each InContents sections → InContents (joined sections)
in_joined [] h = tt
in_joined (c ∷ cs) h = each_append IsInnerInstance c.network.instances (joined cs).network.instances h.0 (in_joined cs h.1)

abbrev InApplication : ApplicationTree → Type 0
InApplication a = Each IsInnerInstance a.network.instances

gives_application : GivesOnly application InApplication
unfolding application
gives_application = gives_closed kinds.Application kinds.EndApplication application_section joined application_of InContents InContents InApplication in_joined (λ v h. h) gives_application_section

abbrev InSystem : SystemContentsTree → Type 0
InSystem c = Each InApplication c.applications

gives_system_section : GivesOnly system_section InSystem
unfolding system_section
gives_system_section tokens value (inl s) = subst InSystem (sym s.2) (gives_application tokens s.0 s.1, tt)
gives_system_section tokens value (inr (inl s)) = subst InSystem (sym s.2) tt
gives_system_section tokens value (inr (inr s)) = subst InSystem (sym s.2) tt

in_system_joined : (sections : List SystemContentsTree) → Each InSystem sections → InSystem (system_joined sections)
in_system_joined [] h = tt
in_system_joined (c ∷ cs) h = each_append InApplication c.applications (system_joined cs).applications h.0 (in_system_joined cs h.1)

abbrev InSystemTree : SystemTree → Type 0
InSystemTree s = Each InApplication s.applications

gives_system : GivesOnly system InSystemTree
unfolding system
gives_system = gives_closed kinds.System kinds.EndSystem system_section system_joined system_of InSystem InSystem InSystemTree in_system_joined (λ v h. h) gives_system_section

abbrev InUnit : DeclTree → Type 0
InUnit (system_configuration s) = InSystemTree s
InUnit other = Unit {0}

gives_unit : GivesOnly unit InUnit
unfolding unit
gives_unit tokens value (inl s) = subst InUnit (sym s.2) tt
gives_unit tokens value (inr (inl s)) = subst InUnit (sym s.2) tt
gives_unit tokens value (inr (inr (inl s))) = subst InUnit (sym s.2) tt
gives_unit tokens value (inr (inr (inr (inl s)))) = subst InUnit (sym s.2) (gives_system tokens s.0 s.1)
gives_unit tokens value (inr (inr (inr (inr s)))) = subst InUnit (sym s.2) tt

in_body : (end : ℕ) (r : Result (List Lexeme) Span) (body : BodyTree) (decl : DeclTree) → IsBodyIn end r body → tree_in body ≡ Some decl → InUnit decl
in_body end (Err bad) (Whole tree) decl h e = absurd (let no : ⊥ = cc in no)
in_body end (Ok lexemes) (Whole tree) decl h e = let same : tree ≡ decl = cc in subst InUnit same (gives_unit lexemes tree h)
in_body end r (BrokenAt span) decl h e = absurd (let no : ⊥ = cc in no)

-- in a text that declares a system, each application has blocks and subapplications alone
pub inner_instances : (sources : Sources) (unit : List ℕ) (s : SystemTree) → tree_at sources unit ≡ Some (system_configuration s) → Each (λ (a : ApplicationTree). Each IsInnerInstance a.network.instances) s.applications
inner_instances sources unit s e =
    let r = reached tree_of (get sources unit) (system_configuration s) e in
    in_body (length r.0) (lexemes_of r.0) (body_of r.0) (system_configuration s) (told r.0) r.2
