-- Faults that compare equal are one.
use Rattle.std.specs.FinMap.{IsAntisymmetric, nat_cmp-IsAntisymmetric}
use Rattle.fb_tree.proofs.Text.OrderLemmas.{both_equal}
use Rattle.fb_iface.specs.{Code.{code_number}, Fault.{fault_cmp}}
use Rattle.fb_iface.proofs.CodeLemmas.{code_number-exact}

pub fault_cmp-exact : IsAntisymmetric fault_cmp
fault_cmp-exact a b e =
    let first = both_equal _ _ e in
    let second = both_equal _ _ first.1 in
    let starts = nat_cmp-IsAntisymmetric a.span.start b.span.start first.0 in
    let ends = nat_cmp-IsAntisymmetric a.span.end b.span.end second.0 in
    let codes = code_number-exact a.code b.code (nat_cmp-IsAntisymmetric (code_number a.code) (code_number b.code) second.1) in
    λ i. record { code = codes i; span = record { start = starts i; end = ends i } }
