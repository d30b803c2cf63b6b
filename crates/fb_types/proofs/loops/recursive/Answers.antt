use Rattle.std.proofs.lemmas.Result.{IfOk-weaker}
use Rattle.fb_types.proofs.PartLemmas.{part_members, part_sorted}
use Rattle.fb_types.proofs.loops.recursive.Goals as goal

pub returns-clause-members : goal.returns-clause-members
returns-clause-members g c =
    IfOk-weaker c.recursive_part.result _ _ (λ found part v. part_members (g.V.View.sources c.args.view.now) c.args.names.now found.items part v) c.recursive_part.ensures

pub returns-clause-sorted : goal.returns-clause-sorted
returns-clause-sorted g c sorted =
    IfOk-weaker c.recursive_part.result _ _ (λ found part. part_sorted (g.V.View.sources c.args.view.now) c.args.names.now found.items part sorted) c.recursive_part.ensures
