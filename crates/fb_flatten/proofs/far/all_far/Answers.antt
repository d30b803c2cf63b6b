-- There is one list of all that the unit rests on.
use Rattle.std.proofs.Common.{Result, Ok, Err}
use Rattle.std.specs.Prelude.{IfOk}
use Rattle.fb_types.proofs.Library.FarLemmas.{one_list}
use Rattle.fb_flatten.specs.Far.{far_of}
use Rattle.fb_flatten.proofs.FarNames.{far_is_all}
use Rattle.fb_flatten.proofs.far.all_far.Goals as goal

all_three : {X E : Type 0} (r : Result X E) (P Q R S : X → Type 0) → ((x : X) → P x → Q x → R x → S x) → IfOk r P → IfOk r Q → IfOk r R → IfOk r S
all_three (Ok x) P Q R S f p q s = f x p q s
all_three (Err e) P Q R S f p q s = tt

pub returns : goal.returns
returns g c =
    let sources = g.V.View.sources c.args.view.now in
    let unit = c.args.unit in
    all_three c.far.result _ _ _ _
    (λ names ordered sound complete. one_list sources unit names.items (far_of sources unit) (ordered, λ v. (sound v, complete v)) (far_is_all sources unit))
    c.far.ensures.ordered c.far.ensures.sound c.far.ensures.complete
