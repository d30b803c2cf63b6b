-- What is composed of the applications, joined.
use Rattle.std.proofs.{Common.{List, subst}, lemmas.Result.{IfOk-weaker}}
use Rattle.fb_network.specs.{SystemFlat.{IsSystemFlat}, declared.flat.application.FlatApplication.{FlatApplication}}
use Rattle.fb_types.proofs.composed.flat_of_applications.Goals as goal

pub returns : goal.returns
returns g c =
    IfOk-weaker c.join.result _ _
    (λ flat is whole can. record {
      flats = c.in_ok-flats.flats.items;
      each = c.in_ok-flats.ensures whole can;
      joined = subst (λ (l : List FlatApplication). IsSystemFlat l flat) c.as_slice.ensures.value is;
    })
    c.join.ensures
