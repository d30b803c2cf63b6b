-- The body of a text: the tree that its tokens spell, or the place where they spell none.
use Rattle.std.specs.Prelude.{◌≡◌, ℕ, List, [], ◌∷◌, length, if◌then◌else◌, Some, None, Result, Ok, Err}
use Rattle.fb_tree.specs.{Text.declared.token.Span.{Span}, Tree.{DeclTree, decl_tree}, Mentions.{Mentioned, all_mentions_of, nothing_mentioned}}
use Rattle.fb_structured_text.specs.{Forms.declared.lexeme.Lexeme.{Lexeme}, Forms.Form.{Spells}, Forms.Fault.{IsFault}, Forms.Lexemes.{lexemes_of, place}}
use Rattle.fb_structured_text.specs.{Forms.Reading.{Outcome, read}, Forms.Upcoming.{closing, front}, Forms.Kind.{same_kind}}
use Rattle.fb_structured_text.specs.Forms.declared.kind.Kind.TheVariants.{End}
use Rattle.fb_parse.specs.{declared.body.Body.{Body}, declared.body.Body.TheVariants.{Tree as IsTree, Broken}, Grammar.{unit}}

-- a body without its place in memory
pub data BodyTree : Type 0 where
  Whole : DeclTree → BodyTree
  BrokenAt : Span → BodyTree

abbrev pub body_tree : Body → BodyTree
body_tree (IsTree decl) = Whole (decl_tree decl)
body_tree (Broken span) = BrokenAt span

-- what the declaration mentions; nothing if the text is broken
abbrev pub mentions_in_body : BodyTree → Mentioned
mentions_in_body (Whole decl) = all_mentions_of decl
mentions_in_body (BrokenAt span) = nothing_mentioned

-- By the tokens of a text of this number of bytes. The tree that they spell; if they spell none, the place of the first token such
-- that the tokens up to it are no prefix of a unit, or the end. If a comment is never closed, its span.
abbrev pub IsBodyIn : ℕ → Result (List Lexeme) Span → BodyTree → Type 0
IsBodyIn end (Err bad) body = body ≡ BrokenAt bad
IsBodyIn end (Ok lexemes) (Whole tree) = Spells unit lexemes tree
IsBodyIn end (Ok lexemes) (BrokenAt span) = ((tree : DeclTree) → Spells unit lexemes tree → ⊥) × (rest : List Lexeme) × IsFault unit lexemes rest × (span ≡ place end rest)

-- the body of the text
abbrev pub IsBody : List ℕ → BodyTree → Type 0
IsBody text body = IsBodyIn (length text) (lexemes_of text) body

-- the tree, unless tokens are left
abbrev pub whole_or_broken : ℕ → DeclTree → List Lexeme → BodyTree
whole_or_broken end tree [] = Whole tree
whole_or_broken end tree (lexeme ∷ lexemes) = BrokenAt lexeme.span

abbrev pub body_read : ℕ → Outcome DeclTree → BodyTree
body_read end (Ok found) = whole_or_broken end found.0 found.1
body_read end (Err rest) = BrokenAt (place end rest)

abbrev pub body_in : ℕ → Result (List Lexeme) Span → BodyTree
body_in end (Err bad) = BrokenAt bad
body_in end (Ok lexemes) = body_read end (read unit lexemes)

-- the body of the text, computed
unfoldable pub body_of : List ℕ → BodyTree
body_of text = body_in (length text) (lexemes_of text)

-- By all that is pulled of a text, from the first token that can't follow those before it: a comment that is never closed, or else this token.
abbrev pub broken_at : List Lexeme → BodyTree
broken_at tokens = elim (closing tokens) [ Some comment ↦ BrokenAt comment | None ↦ BrokenAt (front tokens).span ]

-- the tree, unless tokens or a comment that is never closed are left
abbrev pub whole_if_over : DeclTree → List Lexeme → BodyTree
whole_if_over tree tokens = if same_kind (front tokens).kind End then Whole tree else broken_at tokens
