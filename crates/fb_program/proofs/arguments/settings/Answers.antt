use Rattle.std.proofs.Common.{◌≡◌, ◌∙◌, List, Option, ap, map, refl, subst, true}
use Rattle.clap.specs.Words.{App, Row, Text, app_of, is_simple, subcommand_of}
use Rattle.fb_program.specs.Words.{IsAsked, bench_app}
use Rattle.fb_program.proofs.arguments.settings.Goals as goal

bench_is_simple : is_simple bench_app ≡ true
bench_is_simple = refl

pub returns-in-Some : goal.returns-in-Some
returns-in-Some c =
    let app : app_of c.in_ok-command.command ≡ bench_app = c.in_ok-command.ensures in
    let matched = (c.in_ok-matches.ensures.ok.2 (ap is_simple app ∙ bench_is_simple)).1 in
    let asked = subst (λ (found : Option (Text × List Row)). IsAsked found c.in-Some.settings) matched c.in-Some.ensures in
    subst (λ (a : App). IsAsked (subcommand_of a (map (λ word. word.now) c.args.words.now)) c.in-Some.settings) app asked
