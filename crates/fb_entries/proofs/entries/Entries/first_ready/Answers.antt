-- The first of the set is the least, and where there is none the set is empty.
use Rattle.std.proofs.Common.{Some, None, subst, rules}
use Rattle.fb_entries.specs.Keyed.{Keyed, IsFirstReady}
use Rattle.fb_entries.proofs.Firsts.{none_in}
use Rattle.fb_entries.proofs.entries.Entries.first_ready.Goals as goal

pub returns-in-Some : goal.returns-in-Some
returns-in-Some c = subst (λ (it : Keyed). IsFirstReady it (Some c.in-Some.key.now)) c.self.view_is (search rules, c.in-Some.ensures.least)

pub returns-in-None : goal.returns-in-None
returns-in-None c = subst (λ (it : Keyed). IsFirstReady it None) c.self.view_is (λ key. none_in c.self.inside.ready.keys key (search rules))
