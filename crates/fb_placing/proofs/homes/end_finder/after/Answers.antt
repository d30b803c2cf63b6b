-- A text that begins so is the beginning and the rest.
use Rattle.std.proofs.{Common.{◌≡◌, ◌+◌, ◌++◌, ℕ, List, Option, Some, None, true, false, MatchOption, IfSome, take, drop, length, nat_eq, sym, ◌∙◌}, lemmas.List.{take-append-drop}}
use Rattle.std.specs.{Borrow.{Bor}, Cmp.Lexicographic.{pointwise}}
use Rattle.fb_placing.proofs.TableLemmas.{same_text}
use Rattle.fb_placing.proofs.homes.end_finder.after.Goals as goal

begins : (text beginning : List ℕ) (r : Option (Bor (List ℕ))) → MatchOption r (pointwise nat_eq (take (length beginning) text) beginning ≡ false) (λ rest. (pointwise nat_eq (take (length beginning) text) beginning ≡ true) × (rest.now ≡ drop (length beginning) text) × (length rest.now + length beginning ≡ length text))
    → IfSome r (λ rest. text ≡ beginning ++ rest.now)
begins text beginning None other = tt
begins text beginning (Some rest) is = sym (take-append-drop (length beginning) text) ∙ (λ i. same_text (take (length beginning) text) beginning is.0 i ++ sym is.1 i)

pub returns : goal.returns
returns c = begins c.args.text.now c.args.beginning.now c.strip_prefix.result c.strip_prefix.ensures.cases
