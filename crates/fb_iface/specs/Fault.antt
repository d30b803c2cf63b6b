-- Faults, in the order of their places and then of their codes.
use Rattle.std.specs.{Prelude.{List, map}, declared.cmp.Ordering.{Ordering}, Ordering.{nat_cmp, on, then_cmp}}
use Rattle.std.specs.Cmp.{IsTotalOrder, then_total, on_total, nat_cmp_total}
use Rattle.fb_tree.specs.{Text.Order.{in_order}, Text.declared.name.NameUse.{NameUse}}
use Rattle.fb_iface.specs.{declared.code.Code.{Code}, declared.fault.Fault.{Fault}, Code.{code_number}}

-- a fault at a name
abbrev pub fault_at : Code → NameUse → Fault
fault_at code name = record { code = code; span = name.span }

-- a fault at each of these names
abbrev pub faults_at : Code → List NameUse → List Fault
faults_at code names = map (fault_at code) names

-- by start, by end, and then by the code's number
abbrev pub fault_cmp : Fault → Fault → Ordering
fault_cmp =
    then_cmp (on (λ (f : Fault). f.span.start) nat_cmp) (then_cmp (on (λ (f : Fault). f.span.end) nat_cmp) (on (λ (f : Fault). code_number f.code) nat_cmp))

-- the faults in order, each once
abbrev pub faults_in_order : List Fault → List Fault
faults_in_order faults = in_order fault_cmp faults

pub fault_cmp_total : IsTotalOrder fault_cmp
fault_cmp_total = then_total (on_total (λ (f : Fault). f.span.start) nat_cmp_total) (then_total (on_total (λ (f : Fault). f.span.end) nat_cmp_total) (on_total (λ (f : Fault). code_number f.code) nat_cmp_total))
