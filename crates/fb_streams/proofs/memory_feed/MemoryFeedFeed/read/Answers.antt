use Rattle.std.proofs.{Common.{◌+◌, take, drop, ◌∙◌, ◌++◌, sym, ap, arith}, Math.Seq.{take-add}}
use Rattle.fb_streams.proofs.Pieces.{drop-by, copied_is}
use Rattle.fb_streams.proofs.memory_feed.MemoryFeedFeed.read.Goals as goal

pub returns-clause-given : goal.returns-clause-given
returns-clause-given c =
    let f = c.args.self.now in
    let copied = copied_is f.source.now _ f.at _ (omega arith) c.copy_prefix.ensures in
    take-add f.at _ f.source.now ∙ ap (λ xs. take f.at f.source.now ++ xs) (sym copied)

pub returns-clause-left : goal.returns-clause-left
returns-clause-left c =
    let f = c.args.self.now in
    let copied = copied_is f.source.now _ f.at _ (omega arith) c.copy_prefix.ensures in
    drop-by f.source.now f.at _ ∙ ap (λ xs. xs ++ drop (f.at + c.min-count.result) f.source.now) (sym copied)
