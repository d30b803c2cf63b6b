use Rattle.fb_bench.specs.History.Machine.{ToDeliver}
use Rattle.fb_locked.proofs.Works.{ends_as, ends_refused, refused_names, stays_gives}
use Rattle.fb_locked.proofs.locked.Locked.settle.Goals as goal

pub returns-in-Err : goal.returns-in-Err
returns-in-Err c =
    let cause = c.in-Err.refused in
    let call = ToDeliver c.in-Some.finished.now in
    let seat = c.args.seat.now in
    let after = c.perform_into.new.seat in
    let old = c.args.receipts.now.items in
    let new = c.perform_into.new.receipts.items in
    rw (c.in-Some.is, c.of.ensures) record {
      settles = (ends_as _ cause c.in-Err.ensures.performs.0, stays_gives cause c.args.self.now c.perform_into.new.self seat after c.args.job.now old new c.in-Err.ensures.performs.1);
      works = ends_refused c.args.job.now seat after old new call cause c.in-Err.ensures.answers;
      names = refused_names seat after old new call cause c.in-Err.ensures.answers;
    }
