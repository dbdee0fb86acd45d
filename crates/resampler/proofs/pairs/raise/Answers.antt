-- `resampler::pairs::raise` meets its contract: the test is the definition's, and one step of it is this.
-- Assumes nothing.
use mathlib.Core.Path.{refl}
use Prim.Native.Nat.{◌*◌, ◌/◌}
use native.Mathlib.Omega.{arith}
use borrow.Author.Tests.{lt-ltb, le-ltb}
use Rattle.resampler.specs.Pairs.{raised}
use Rattle.resampler.proofs.pairs.raise.Goals as goal

pub returns-then-increment-outHz : goal.returns-then-increment-outHz
unfolding raised
returns-then-increment-outHz c = let a = c.args in (rw (lt-ltb (a.increment * a.outHz / 65536) a.goal c.if-increment-outHz.true) refl, omega arith)

pub returns : goal.returns
unfolding raised
returns c = let a = c.args in (rw (le-ltb (a.increment * a.outHz / 65536) a.goal c.if-increment-outHz.false) refl, omega arith)
