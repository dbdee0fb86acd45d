-- `resampler::resample::refusal_of` meets its contract: its tests are the rows behind that of the pair, in their order.
-- Assumes nothing.
use mathlib.Core.Path.{refl}
use Prim.Native.Nat.{◌*◌, ◌/◌, ◌%◌}
use native.Mathlib.Omega.{arith}
use borrow.Author.Tests.{eq-eqb, ne_eqb, lt-ltb, le-ltb}
use Rattle.resampler.specs.Resample.{made}
use Rattle.resampler.specs.Entry.{resample_row}
use Rattle.resampler.proofs.Laws.Pairs.{small}
use Rattle.resampler.proofs.resample.refusal_of.Goals as goal
use Rattle.resampler.proofs.resample.refusal_of.Goals.{then-n-eq0-via-then-n-eq0, then-n-eq0-via-else-n-eq0+then-n-inKhz-ne0}

pub nonzero_rem-n : goal.nonzero_rem-n
nonzero_rem-n c = omega (arith, (small _ c.args.known.now.supported).1)

pub returns-then-n-eq0 : goal.returns-then-n-eq0
unfolding resample_row
returns-then-n-eq0 c =
    let yes = c.args.known.now.supported in
    elim c.then-n-eq0.branch [
      | then-n-eq0-via-then-n-eq0 w ↦ rw (yes, eq-eqb c.args.n 0 w.if-n-eq0.true) refl
      | then-n-eq0-via-else-n-eq0+then-n-inKhz-ne0 w ↦
          rw (yes, ne_eqb c.args.n 0 w.if-n-eq0.false, ne_eqb (c.args.n % c.args.known.now.state.inKhz) 0 w.if-n-inKhz-ne0.true) refl
    ]

pub returns-then-inKhz-n : goal.returns-then-inKhz-n
unfolding resample_row
returns-then-inKhz-n c =
    let a = c.args in
    let k = a.known.now.state.inKhz in
    rw (a.known.now.supported, ne_eqb a.n 0 c.if-n-eq0.false, eq-eqb (a.n % k) 0 c.if-n-inKhz-ne0.false, lt-ltb (1000 * k) a.n c.if-inKhz-n.true) refl

pub returns-then-room-n : goal.returns-then-room-n
unfolding resample_row made
returns-then-room-n c =
    let a = c.args in
    let s = a.known.now.state in
    rw (a.known.now.supported, ne_eqb a.n 0 c.if-n-eq0.false, eq-eqb (a.n % s.inKhz) 0 c.if-n-inKhz-ne0.false, le-ltb (1000 * s.inKhz) a.n c.if-inKhz-n.false, lt-ltb a.room (a.n / s.inKhz * s.outKhz) c.if-room-n.true) refl

pub returns-else-room-n : goal.returns-else-room-n
unfolding resample_row made
returns-else-room-n c =
    let a = c.args in
    let s = a.known.now.state in
    rw (a.known.now.supported, ne_eqb a.n 0 c.if-n-eq0.false, eq-eqb (a.n % s.inKhz) 0 c.if-n-inKhz-ne0.false, le-ltb (1000 * s.inKhz) a.n c.if-inKhz-n.false, le-ltb a.room (a.n / s.inKhz * s.outKhz) c.if-room-n.false) refl
