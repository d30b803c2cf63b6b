-- Nothing stands at an empty path.
use Rattle.std.proofs.Common.{sym, rules}
use Rattle.fb_library.specs.View.{tree_at}
use Rattle.fb_placing.specs.Systems.{applications_in}
use Rattle.fb_placing.proofs.ResolvedLemmas.{nothing_at}
use Rattle.fb_placing.proofs.paths.resolver.Resolver.new.Goals as goal

pub invariant_of-result : goal.invariant_of-result
invariant_of-result g c =
    let sources = g.V.View.sources c.args.view.now in
    record {
      applications = c.in_ok-applications.ensures;
      units = search rules;
      last = sym (nothing_at sources c.args.system.now (applications_in (tree_at sources c.args.system.now)) _ c.new-last_path.ensures.bytes);
    }
