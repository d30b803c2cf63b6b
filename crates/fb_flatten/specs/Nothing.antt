-- Units without faults: no check reports one.
use Rattle.std.specs.Prelude.{◌≡◌, ℕ, List, []}
use Rattle.fb_types.specs.{Library.View.{Sources}, Iface.Declarations.{iface_faults_of}}
use Rattle.fb_faults.specs.{Expr.Charts.{expr_faults_of}, Ecc.Charts.{ecc_faults_of}, Netcheck.Networks.{net_faults_of}, Faults.{faults_of, syntax_faults_of}}
use Rattle.fb_faults.specs.Mappings.{mapping_faults_of}

-- no check reports a fault of the unit
pub record HasNoReport (sources : Sources) (unit : List ℕ) : Type 0 where
  pub syntax : syntax_faults_of sources unit ≡ []
  pub declarations : iface_faults_of sources unit ≡ []
  pub expressions : expr_faults_of sources unit ≡ []
  pub charts : ecc_faults_of sources unit ≡ []
  pub networks : net_faults_of sources unit ≡ []
  pub mappings : mapping_faults_of sources unit ≡ []

abbrev pub NothingIsReported : Type 0
NothingIsReported = (sources : Sources) (unit : List ℕ) → faults_of sources unit ≡ [] → HasNoReport sources unit
