-- A name is kept with each read that has no text, and with no other.
use Rattle.std.proofs.Common.{◌≡◌, List, ℕ, [], ◌∷◌, ◌++◌, map, cond, is_none, is_some, not, Bool, true, false, Option, Some, None, Vec, sym, ap, subst, ◌∙◌}
use Rattle.std.proofs.lemmas.Bool.{false≢true}
use Rattle.std.specs.declared.alloc.Global.{Global}
use Rattle.fb_jobs.specs.Texts.{text_of, seen_in, seen_under, AreNamed}
use Rattle.fb_jobs.proofs.{TextLemmas.{more_named, more_seen}, keys.read_list.ReadList.with.Goals.{then-is_none+in_ok-push, else-is_none}}
use Rattle.fb_jobs.proofs.keys.read_list.ReadList.with.Goals as goal

told : {X : Type 0} (v : Option X) (answer known : Bool) → is_some v ≡ not answer → answer ≡ known → known ≡ is_none v
told None true known is same = sym same
told None false known is same = absurd (false≢true is)
told (Some x) true known is same = absurd (false≢true (sym is))
told (Some x) false known is same = sym same

names_are : (c : goal.In_ok-push-2) → c.if-is_none.absent.items ≡ cond (is_none c.args.version) (c.self.inside.absent.items ++ c.args.name ∷ []) c.self.inside.absent.items
names_are c = elim c.if-is_none.branch [
  | then-is_none+in_ok-push w ↦
      ap (λ (names : Vec (List ℕ) Global). names.items) w.absent-is ∙ w.in_ok-push.ensures.items
      ∙ ap (λ b. cond b (c.self.inside.absent.items ++ c.args.name ∷ []) c.self.inside.absent.items) (told c.args.version c.is_none.result true c.is_none.ensures w.if-is_none.true)
  | else-is_none w ↦
      ap (λ (names : Vec (List ℕ) Global). names.items) w.absent-is
      ∙ ap (λ b. cond b (c.self.inside.absent.items ++ c.args.name ∷ []) c.self.inside.absent.items) (told c.args.version c.is_none.result false c.is_none.ensures w.if-is_none.false)
]

pub invariant_of-result : goal.invariant_of-result
invariant_of-result c =
    subst (λ versions. AreNamed (map text_of versions) c.if-is_none.absent.items) (sym c.in_ok-push-2.ensures.items)
    (more_named c.self.inside.versions.items c.args.version c.self.inside.absent.items c.if-is_none.absent.items c.args.name c.self.invariant (names_are c))

pub returns : goal.returns
returns c =
    ap (λ versions. seen_in (map text_of versions) c.if-is_none.absent.items) c.in_ok-push-2.ensures.items
    ∙ more_seen c.self.inside.versions.items c.args.version c.self.inside.absent.items c.if-is_none.absent.items c.args.name c.self.invariant (names_are c)
    ∙ ap (λ seen. seen ++ seen_under c.args.name (text_of c.args.version) ∷ []) c.self.view_is
