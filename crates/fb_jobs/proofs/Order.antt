-- Keys that compare equal are one.
use Rattle.std.proofs.Common.{◌≡◌, refl, true, arith}
use Rattle.std.specs.{declared.cmp.Ordering.TheVariants.{Equal}, Ordering.{nat_cmp}, FinMap.{nat_cmp-IsAntisymmetric}}
use Rattle.fb_text.proofs.OrderLemmas.{is_equal, both_equal}
use Rattle.fb_deploy.proofs.Library.Names.{exact_name}
use Rattle.fb_jobs.specs.{declared.keys.key.Kind.{Kind}, declared.keys.key.Kind.TheVariants.{Faults, Net, Deploy}, declared.keys.key.Key.{Key}}
use Rattle.fb_jobs.specs.KeyOrder.{kind_number, key_cmp, same_key}

pub exact_kind : (a b : Kind) → kind_number a ≡ kind_number b → a ≡ b
exact_kind Faults Faults e = refl
exact_kind Faults Net e = absurd (omega arith)
exact_kind Faults Deploy e = absurd (omega arith)
exact_kind Net Faults e = absurd (omega arith)
exact_kind Net Net e = refl
exact_kind Net Deploy e = absurd (omega arith)
exact_kind Deploy Faults e = absurd (omega arith)
exact_kind Deploy Net e = absurd (omega arith)
exact_kind Deploy Deploy e = refl

pub exact_key : (a b : Key) → key_cmp a b ≡ Equal → a ≡ b
exact_key a b e =
    let parts = both_equal (nat_cmp (kind_number a.kind) (kind_number b.kind)) _ e in
    let kinds = exact_kind a.kind b.kind (nat_cmp-IsAntisymmetric (kind_number a.kind) (kind_number b.kind) parts.0) in
    let units = exact_name a.unit b.unit parts.1 in
    λ i. record { kind = kinds i; unit = units i }

-- the test of equality is right
pub keys_equal : (a b : Key) → same_key a b ≡ true → a ≡ b
keys_equal a b e = exact_key a b (is_equal (key_cmp a b) e)
