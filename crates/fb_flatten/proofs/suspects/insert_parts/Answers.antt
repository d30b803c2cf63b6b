-- What is known to be whole has no part beyond.
use Rattle.std.proofs.Common.{◌||◌, [], if◌then◌else◌, sym, ap, ◌∙◌}
use Rattle.fb_types.proofs.Text.Tests.{or_false}
use Rattle.fb_types.specs.{Library.Seen.{has_name}, Library.View.{parts_at}}
use Rattle.fb_flatten.proofs.suspects.insert_parts.Goals as goal

pub returns-then-is_known_whole : goal.returns-then-is_known_whole
returns-then-is_known_whole g c =
    λ v. sym (or_false (has_name c.args.parts.now.keys v))
    ∙ sym (ap (λ b. has_name c.args.parts.now.keys v || has_name (if b then [] else parts_at (g.V.View.sources c.args.view.now) c.args.name.now) v) (sym c.is_known_whole.ensures ∙ c.if-is_known_whole.true))
