-- `filters::taps::backward` meets its contract: what is summed, and the products that are left, are the definition's sum.
-- Assumes nothing.
use Rattle.std.proofs.Common.{◌≡◌, true, length, ◌≤◌, reverse}
use Rattle.filters.specs.Lists.{every}
use Rattle.filters.specs.Reader.{sum}
use Rattle.filters.proofs.taps.backward.Given as goal

abbrev pub invariant-loop-c : goal.invariant-loop-c
invariant-loop-c g l =
    let taps = l.c-iterator.a.iter.rest.now in
    let ys = l.c-iterator.b.rest.now in
    (length taps ≤ length ys) × (every g.T.Tap.fits taps ≡ true) × (sum g.T.Tap.product l.all (reverse taps) ys ≡ sum g.T.Tap.product l.fn.acc (reverse l.fn.taps) l.fn.ys)
