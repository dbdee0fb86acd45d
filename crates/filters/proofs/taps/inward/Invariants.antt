-- `filters::taps::inward` meets its contract: what is summed, and the products that are left, are the definition's sum.
-- Assumes nothing.
use Rattle.std.proofs.Common.{◌≡◌, length, drop, ◌*◌}
use lib.IntN.{pos}
use Rattle.fixed.specs.Fixed.{times}
use Rattle.filters.specs.Reader.{sum}
use Rattle.filters.specs.Stage.DownFir.{outer_sums}
use Rattle.filters.proofs.taps.inward.Given as goal

abbrev pub invariant-loop-turn : goal.invariant-loop-turn
invariant-loop-turn l =
    let outer = outer_sums (length l.ys) l.ys in
    sum times l.all (drop (3 * l.turn) l.taps) (drop (3 * l.turn) outer) ≡ sum times (pos 0) l.taps outer
