-- What is answered is what the texts and the calls say.
use Rattle.fb_bench.proofs.Headline.{shows_asked}
use Rattle.fb_bench.proofs.bench.Bench.ask.Goals as goal

pub returns-clause-shows : goal.returns-clause-shows
returns-clause-shows c = shows_asked _ c.args.self.now c.args.key c.begins.ensures c.in_ok-answer.ensures.answer
