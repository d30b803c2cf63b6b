use Rattle.std.proofs.Common.{◌≡◌, ℕ, ◌∙◌, List, None, Option, Some, ap, option_map, refl, sym}
use Rattle.std.specs.Str.Parse.{ExplainsUnsignedError, HasUnsignedDigitsIfOk, ParsesUnsigned, digits_value, without_leading_plus}
use Rattle.clap.specs.{Words.{ReadsOne, Text, found_of, one_text, rows_of}, declared.parser.matches.Found.{Found}}
use Rattle.clap.proofs.WalkLemmas.{one_text-rows}
use Rattle.fb_program.specs.Words.{number_of}
use Rattle.fb_program.proofs.arguments.number_at.Goals as goal

number_read : (f : Found) (name : Text) (n : ℕ) → (one_text f name ≡ None → Some n ≡ None)
    → ((t : List ℕ) → one_text f name ≡ Some t → ReadsOne (λ bs r. ParsesUnsigned 64 10 bs r × ExplainsUnsignedError 10 bs r × HasUnsignedDigitsIfOk bs r) t (Some n))
    → number_of name (rows_of f) ≡ Some n
number_read f name n none value = by_text (one_text f name) refl
  where
    by_text : (o : Option Text) → one_text f name ≡ o → number_of name (rows_of f) ≡ Some n
    by_text None is = let bad : Some n ≡ None = none is in cc
    by_text (Some t) is =
        let read = value t is in
        ap (option_map (λ text. digits_value 10 (without_leading_plus text))) (sym (one_text-rows f name) ∙ is) ∙ ap Some (sym read.0.1)

pub returns-then-number-most : goal.returns-then-number-most
returns-then-number-most c =
    (number_read (found_of c.args.matches.now) c.args.name.now c.in_ok-number.number c.in_ok-number.ensures.none c.in_ok-number.ensures.value, c.if-least-number.true, c.if-number-most.true)
