use Rattle.std.proofs.Common.{◌≡◌, ◌+◌, ◌*◌, ◌∙◌, arith}
use Rattle.fb_text.proofs.NameOrder.{all_left, unequal_words, equal_words, last_words, none_left}
use Rattle.fb_text.proofs.name.NameOrd.cmp.Goals as goal

pub loop-i-init : goal.loop-i-init
loop-i-init c = all_left c.args.self.now c.args.other.now c.self.inside.bytes c.other.inside.bytes _ _ c.self.view_is c.other.view_is c.self.invariant c.other.invariant

pub returns-then-x-y : goal.returns-then-x-y
returns-then-x-y c =
    c.cmp.ensures ∙ unequal_words c.args.self.now c.args.other.now c.self.inside.bytes c.other.inside.bytes _ _ (8 * c.loop-i.i) _ _ c.self.invariant c.other.invariant (omega arith) c.loop-i.invariant c.eight_from-x.ensures c.eight_from-y.ensures c.if-x-y.true

pub returns-then-x-eq0 : goal.returns-then-x-eq0
returns-then-x-eq0 c =
    last_words c.args.self.now c.args.other.now c.self.inside.bytes c.other.inside.bytes _ _ (8 * c.loop-i.i) _ _ c.self.invariant c.other.invariant (omega arith) c.loop-i.invariant c.eight_from-x.ensures c.eight_from-y.ensures c.if-x-y.false c.if-x-eq0.true

pub loop-i-preserved : goal.loop-i-preserved
loop-i-preserved c =
    let next : 8 * c.loop-i.i + 8 ≡ 8 * (c.loop-i.i + 1) = omega arith in
    rw (← next)
    (equal_words c.args.self.now c.args.other.now c.self.inside.bytes c.other.inside.bytes _ _ (8 * c.loop-i.i) _ _ c.self.invariant c.other.invariant (omega arith) c.loop-i.invariant c.eight_from-x.ensures c.eight_from-y.ensures c.if-x-y.false)

pub returns : goal.returns
returns c = none_left c.args.self.now c.args.other.now c.self.inside.bytes c.other.inside.bytes (8 * c.loop-i.i) (omega arith) (omega arith) c.loop-i.invariant
