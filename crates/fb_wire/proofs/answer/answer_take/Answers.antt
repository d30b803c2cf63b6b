use Rattle.std.proofs.{Common.{◌≡◌, arith, false, length, nat_le}, lemmas.Bool.Decides.{nat_tests}, lemmas.Grind.{common_steps}}
use Rattle.fb_wire.proofs.Conversations.{take_served}
use Rattle.fb_wire.proofs.answer.answer_take.Goals as goal

pub returns : goal.returns
returns g c =
    let room : nat_le 64 (length c.args.held.now.items) ≡ false = grind (arith, common_steps, nat_tests) in
    take_served g.D.Desk.step g.D.Desk.checkpoint_step g.D.Desk.read_step _ _ c.take-taken.result _ _ _ room c.take-taken.ensures c.keep_taken.ensures
