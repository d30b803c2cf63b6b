-- Each unit that is found is indexed.
use Rattle.std.proofs.{Common.{◌≡◌, ◌↔◌, true, ℕ, List, IfOk, subst}, lemmas.Result.{IfOk-weaker}}
use Rattle.fb_library.specs.Seen.{has_name}
use Rattle.fb_index.specs.{Indexed.{Indexed}, Near.{AreUnits, NearSome}}
use Rattle.fb_index.proofs.Units.{near_indexed}
use Rattle.fb_index.proofs.index.Index.near_of.Goals as goal

pub returns-clause-exact : goal.returns-clause-exact
returns-clause-exact c =
    subst (λ (it : Indexed). IfOk c.near_of.result (λ units. (unit : List ℕ) → (has_name units.items unit ≡ true) ↔ NearSome it unit c.args.names.now)) c.self.view_is c.near_of.ensures.exact

pub returns-clause-indexed : goal.returns-clause-indexed
returns-clause-indexed c =
    IfOk-weaker c.near_of.result _ _
    (λ units exact. near_indexed c.args.self.now (subst AreUnits c.self.view_is c.self.invariant) c.args.names.now units.items exact)
    (returns-clause-exact c)
