-- Without faults, no check reports any.
use Rattle.std.proofs.Common.{◌≡◌, List, [], ◌∷◌, ◌++◌, refl, subst}
use Rattle.std.specs.List.{Contains}
use Rattle.fb_types.proofs.Text.Members.{contains_here, contains_nothing}
use Rattle.fb_types.specs.{Iface.Declarations.{iface_faults_of}, Iface.declared.fault.Fault.{Fault}}
use Rattle.fb_faults.specs.{Expr.Charts.{expr_faults_of}, Ecc.Charts.{ecc_faults_of}, Netcheck.Networks.{net_faults_of}, Faults.{reported_of, syntax_faults_of}}
use Rattle.fb_faults.specs.Mappings.{mapping_faults_of}
use Rattle.fb_faults.proofs.{Netcheck.CleanLemmas.{left_none, right_none}, OrderLemmas.{those_reported}}
use Rattle.fb_flatten.specs.Nothing.{NothingIsReported}

without_members : {A : Type 0} (xs : List A) → ((x : A) → Contains xs x → ⊥) → xs ≡ []
without_members [] h = refl
without_members (x ∷ xs) h = absurd (h x (contains_here x xs))

pub nothing_reported : NothingIsReported
nothing_reported sources unit none =
    let s = syntax_faults_of sources unit in
    let i = iface_faults_of sources unit in
    let e = expr_faults_of sources unit in
    let c = ecc_faults_of sources unit in
    let n = net_faults_of sources unit in
    let m = mapping_faults_of sources unit in
    let all : reported_of sources unit ≡ [] = without_members (reported_of sources unit) (λ f h. contains_nothing f (subst (λ (l : List Fault). Contains l f) none ((those_reported sources unit f).1 h))) in
    let five = left_none ((((s ++ i) ++ e) ++ c) ++ n) m all in
    let four = left_none (((s ++ i) ++ e) ++ c) n five in
    let three = left_none ((s ++ i) ++ e) c four in
    let two = left_none (s ++ i) e three in
    record {
      syntax = left_none s i two;
      declarations = right_none s i two;
      expressions = right_none (s ++ i) e three;
      charts = right_none ((s ++ i) ++ e) c four;
      networks = right_none (((s ++ i) ++ e) ++ c) n five;
      mappings = right_none ((((s ++ i) ++ e) ++ c) ++ n) m all;
    }
