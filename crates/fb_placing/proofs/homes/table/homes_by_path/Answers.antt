-- Each home that is passed is added, if its path has none yet.
use Rattle.std.proofs.Common.{cond, Some, None, ◌∙◌}
use Rattle.std.specs.{Option.{option_or}, Str.{bytes_eq}}
use Rattle.fb_placing.specs.{HomeTable.{home_by_path}, declared.homes.Home.{Home}}
use Rattle.fb_placing.proofs.FirstEntryLemmas.{table_step}
use Rattle.fb_placing.proofs.homes.table.homes_by_path.Goals as goal

pub loop-home-preserved : goal.loop-home-preserved
loop-home-preserved c =
    let x = c.home-item.result in
    let old = home_by_path c.loop-home.by_path in
    let path = c.as_str.ensures in
    table_step (λ (h : Home). h.path) (λ (h : Home). h.resource) c.args.homes.now c.loop-home.home-index x old (home_by_path c.add_home.new.by_path) c.loop-home-test.true c.home-item.is c.loop-home.invariant
    (λ q. c.in_ok-add_home.ensures q ∙ (λ i. option_or (old q) (cond (bytes_eq (path i) q) (Some x.resource) None)))
