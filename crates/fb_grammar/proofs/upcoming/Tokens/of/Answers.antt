use Rattle.std.proofs.{Common.{sym}, lemmas.Str.{IsCharBoundary-start}}
use Rattle.fb_grammar.specs.Upcoming.{tokens_to_end}
use Rattle.fb_grammar.proofs.upcoming.Tokens.of.Goals as goal

pub next_front-next-requires-clause-boundary : goal.next_front-next-requires-clause-boundary
next_front-next-requires-clause-boundary c = IsCharBoundary-start c.args.text.now c.utf8.text

pub returns : goal.returns
unfolding tokens_to_end
returns c = sym c.next_front-next.ensures.passed
