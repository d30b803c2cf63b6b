-- The keys of each kind, one kind after the other.
use Rattle.std.proofs.Common.{◌≡◌, ◌++◌, ap, ◌∙◌}
use Rattle.fb_jobs.specs.declared.keys.key.Kind.TheVariants as kind
use Rattle.fb_entries.proofs.Present.{all_present, present}
use Rattle.fb_entries.proofs.keys.present_keys.Goals as goal

pub returns : goal.returns
returns c =
    let library = c.args.library.now in
    let fars = c.args.fars.now in
    let plans : c.add_nets_and_plans.new.plans.items ≡ present library kind.Deploy fars = c.in_ok-add_nets_and_plans.ensures.plans ∙ ap (λ keys. keys ++ present library kind.Deploy fars) c.new-plans.ensures.items in
    c.in_ok-append.ensures.items
    ∙ ap (λ keys. keys ++ c.add_nets_and_plans.new.plans.items) (c.in_ok-add_nets_and_plans.ensures.nets ∙ ap (λ keys. keys ++ present library kind.Net fars) c.in_ok-keys.ensures)
    ∙ ap (λ keys. (present library kind.Faults c.args.nears.now ++ present library kind.Net fars) ++ keys) plans
    ∙ all_present library c.args.nears.now fars
