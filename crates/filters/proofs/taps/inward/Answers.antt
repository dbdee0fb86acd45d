-- `filters::taps::inward` meets its contract: what is summed, and the products that are left, are the definition's sum.
-- Assumes nothing.
use Rattle.std.proofs.Common.{rules, arith, ◌≡◌, ◌+◌, ◌*◌, length, drop, length-drop}
use Rattle.fixed.specs.Fixed.{times}
use Rattle.filters.specs.Stage.DownFir.{outer_sums}
use Rattle.filters.proofs.Laws.Dot.{sum-none}
use Rattle.filters.proofs.taps.inward.Goals as goal

pub three_inward-all-requires : goal.three_inward-all-requires
three_inward-all-requires c = (omega arith, c.requires.2, c.requires.3)

pub loop-turn-preserved : goal.loop-turn-preserved
loop-turn-preserved c =
    let e : 3 * (c.loop-turn.turn + 1) ≡ 3 * c.loop-turn.turn + 3 = omega arith in
    rw e (search rules)

pub returns : goal.returns
returns c =
    let k = 3 * c.loop-turn.turn in
    let taps = c.args.taps.now in
    let none = sum-none times c.loop-turn.all (drop k taps) (drop k (outer_sums (length c.args.ys.now) c.args.ys.now)) (omega (arith, length-drop k taps)) in
    let now = c.loop-turn.invariant in
    search rules
