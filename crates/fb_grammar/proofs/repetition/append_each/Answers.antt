use Rattle.std.proofs.Common.{rules, ◌≡◌, true, false, length, map}
use Rattle.fb_grammar.specs.{Reading.{is_next, read_each}, Repetition.{with_prefix}}
use Rattle.fb_grammar.proofs.Repeating.{each_more, each_done}
use Rattle.fb_grammar.proofs.repetition.append_each.Goals as goal

pub loop-alloc-preserved : goal.loop-alloc-preserved
loop-alloc-preserved g c =
    let next : is_next c.args.kinds.now c.loop-alloc.tokens ≡ true = search rules in
    each_more g.R.Reader.view (g.R.Reader.reads c.args.reader.now) c.args.kinds.now c.loop-alloc.items.items c.push.new.self.items c.in_ok-item.item c.loop-alloc.tokens c.read.new.tokens (with_prefix (map g.R.Reader.view c.args.items.items) (read_each (g.R.Reader.reads c.args.reader.now) c.args.kinds.now (length c.args.tokens.now) c.args.tokens.now))
    next c.in_ok-item.ensures.reads c.in_ok-item.ensures.takes c.in_ok-push.ensures.items c.loop-alloc.invariant

pub returns : goal.returns
returns g c =
    let next : is_next c.args.kinds.now c.loop-alloc.tokens ≡ false = search rules in
    each_done (g.R.Reader.reads c.args.reader.now) c.args.kinds.now (map g.R.Reader.view c.loop-alloc.items.items) c.loop-alloc.tokens (with_prefix (map g.R.Reader.view c.args.items.items) (read_each (g.R.Reader.reads c.args.reader.now) c.args.kinds.now (length c.args.tokens.now) c.args.tokens.now)) next c.loop-alloc.invariant
