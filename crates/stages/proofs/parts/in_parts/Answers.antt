-- `stages::parts::in_parts` meets its contract: each turn is a part of the definition's, and what the parts so far wrote, followed by
-- what those left will, is the whole.
-- Assumes nothing.
use Rattle.std.proofs.Common.{rules, arith, ◌≡◌, ◌∙◌, length, length-take, length-drop, drop, ◌*◌, ◌-◌, min}
use Rattle.stages.proofs.Laws.Loop.{length-zero}
use Rattle.stages.proofs.Laws.Pass.{units-start, units-whole, units-few, units-room, units-turn, units-end}
use Rattle.stages.proofs.parts.in_parts.Goals as goal

pub loop-xs-init : goal.loop-xs-init
loop-xs-init g c =
    let S = g.S.Stage in
    let it = c.args.stage.now in
    let all : c.into_iter-xs-iterator.result.rest.now ≡ c.args.input.now = search rules in
    let start = units-start (S.unit it) (S.gives it) (S.most it) c.requires.sizes.0 (omega arith) (S.made it) (S.next it) (g.met.S.Stage.counts it) {before = c.args.out.now} {s₀ = c.args.words} c.requires.whole.0 c.requires.whole.1 in
    search rules

pub part-p-requires : goal.part-p-requires
part-p-requires g c =
    let S = g.S.Stage in
    let it = c.args.stage.now in
    let s = c.in-Some.ensures.steps in
    let f = c.loop-xs.invariant in
    let l : length c.in-Some.xs.now ≡ min (S.most it * S.unit it) (length c.loop-xs.xs-iterator.rest.now) = omega arith in
    let counts = g.met.S.Stage.counts it in
    let p = c.requires.sizes.0 in (
      units-whole _ (S.gives it) _ p (omega arith) _ _ counts _ _ s.1.0 l s.1.2 f.3,
      units-few _ (S.gives it) _ p (omega arith) _ _ counts _ _ s.1.0 l s.1.2 f.3,
      omega (arith, units-room _ (S.gives it) _ p (omega arith) _ _ counts _ _ s.1.0 l s.1.2 f.3, length-take (length c.loop-xs.out - c.loop-xs.written) (drop c.loop-xs.written c.loop-xs.out), length-drop c.loop-xs.written c.loop-xs.out),
    )

pub loop-xs-preserved : goal.loop-xs-preserved
loop-xs-preserved g c =
    let S = g.S.Stage in
    let it = c.args.stage.now in
    let s = c.in-Some.ensures.steps in
    let f = c.loop-xs.invariant in
    let l : length c.in-Some.xs.now ≡ min (S.most it * S.unit it) (length c.loop-xs.xs-iterator.rest.now) = omega arith in
    let counts = g.met.S.Stage.counts it in
    let p = c.part-p.ensures in (
      omega arith,
      tt,
      s.0 ∙ f.2,
      units-turn _ (S.gives it) _ c.requires.sizes.0 (omega arith) _ _ counts _ _ s.1.0 l s.1.2 f.3 p.written p.staged.filled p.staged.carried,
    )

pub returns : goal.returns
returns g c =
    let S = g.S.Stage in
    let it = c.args.stage.now in
    let none = length-zero _ c.in-None.ensures.steps.1.0 in
    let end = units-end (S.unit it) (S.gives it) (S.most it) c.requires.sizes.0 (omega arith) (S.made it) (S.next it) (g.met.S.Stage.counts it) c.requires.whole.0 none c.loop-xs.invariant.3 in
    record { written = end.2; staged = rw c.requires.sizes.2 (record { filled = end.0; carried = end.1 }) }
