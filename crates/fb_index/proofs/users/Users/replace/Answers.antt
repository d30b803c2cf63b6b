-- The unit is taken out under the old names, and put under the new ones.
use Rattle.std.proofs.lemmas.Result.{IfOk-weaker}
use Rattle.fb_index.proofs.Lookups.{replaced}
use Rattle.fb_index.proofs.users.Users.replace.Goals as goal

pub returns : goal.returns
returns c =
    IfOk-weaker c.put_in.result _ _
    (λ _ put.
    replaced c.args.self.now c.take_out.new.self c.put_in.new.self c.args.unit.now c.args.old.now c.args.new.now c.in_ok-before.before c.in_ok-after.after c.in_ok-before.ensures c.in_ok-after.ensures c.requires.known c.in_ok-take_out.ensures put)
    c.put_in.ensures
