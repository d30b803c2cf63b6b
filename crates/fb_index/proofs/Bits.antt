-- What is known of truth values.
use Rattle.fb_text.proofs.Tests.{no_both}
use Rattle.std.proofs.Common.{◌≡◌, Bool, true, false, ◌||◌, ◌&&◌, not, refl, sym, ap}

-- one more name: `s` is whether it is this one, and `f` whether it is one before it
pub one_less : (o u f s k : Bool) → (s ≡ true → k ≡ false) → ((o && not (u && (f && not k))) && not (u && s)) ≡ (o && not (u && ((f || s) && not k)))
one_less false u f s k is = refl
one_less true false f s k is = refl
one_less true true true true true is = no_both true refl (is refl)
one_less true true true false true is = refl
one_less true true true s false is = refl
one_less true true false true true is = no_both true refl (is refl)
one_less true true false true false is = refl
one_less true true false false k is = refl

pub one_kept : (o u f s k : Bool) → (s ≡ true → k ≡ true) → (o && not (u && (f && not k))) ≡ (o && not (u && ((f || s) && not k)))
one_kept o u true s k is = refl
one_kept o u false false k is = refl
one_kept o u false true k is = ap (λ b. o && not (u && not b)) (sym (is refl))

pub one_more : (o u f s k : Bool) → (s ≡ true → k ≡ false) → ((o || (u && (f && not k))) || (u && s)) ≡ (o || (u && ((f || s) && not k)))
one_more true u f s k is = refl
one_more false false f s k is = refl
one_more false true true true true is = no_both true refl (is refl)
one_more false true true false true is = refl
one_more false true true s false is = refl
one_more false true false true true is = no_both true refl (is refl)
one_more false true false true false is = refl
one_more false true false false k is = refl

pub one_known : (o u f s k : Bool) → (s ≡ true → k ≡ true) → (o || (u && (f && not k))) ≡ (o || (u && ((f || s) && not k)))
one_known o u true s k is = refl
one_known o u false false k is = refl
one_known o u false true k is = ap (λ b. o || (u && not b)) (sym (is refl))

-- what the unit itself uses: what it used before in `o`, what it uses after in `n`
pub own_bits : (o n : Bool) → ((o && not (o && not n)) || (n && not o)) ≡ n
own_bits true true = refl
own_bits true false = refl
own_bits false true = refl
own_bits false false = refl

-- what another unit uses
pub other_bits : (uses : Bool) → ((uses && true) || false) ≡ uses
other_bits true = refl
other_bits false = refl
