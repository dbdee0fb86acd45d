-- `resampler::entries::living` meets its contract: each test is the path's.
-- Assumes nothing.
use mathlib.Core.Path.{refl, ap}
use native.Mathlib.Omega.{arith}
use Rattle.filters.specs.Stage.DownFir.{Filter}
use Rattle.resampler.specs.Record.{living}
use Rattle.resampler.proofs.Laws.Entries.{delay-few}
use Rattle.resampler.proofs.entries.living.Goals as goal

pub returns-in-Copy : goal.returns-in-Copy
unfolding living
returns-in-Copy c =
    let few = delay-few _ c.args.known.now.supported in
    record { counts = rw c.in-Copy.ensures.0 (refl, refl, refl, refl, c.delay.ensures); within_arrays = omega (arith, c.delay.ensures) }

pub returns-in-Doubler : goal.returns-in-Doubler
unfolding living
returns-in-Doubler c =
    let few = delay-few _ c.args.known.now.supported in
    record { counts = rw c.in-Doubler.ensures.0 (refl, refl, refl, refl, c.delay.ensures); within_arrays = omega (arith, c.delay.ensures) }

pub returns-in-Interpolator : goal.returns-in-Interpolator
unfolding living
returns-in-Interpolator c =
    let few = delay-few _ c.args.known.now.supported in
    record { counts = rw c.in-Interpolator.ensures (refl, refl, refl, refl, c.delay.ensures); within_arrays = omega (arith, c.delay.ensures) }

pub returns-in-Down : goal.returns-in-Down
unfolding living
returns-in-Down c =
    let few = delay-few _ c.args.known.now.supported in
    record { counts = rw c.in-Down.ensures (refl, refl, refl, ap (λ (f : Filter). f.order) c.filter.ensures, c.delay.ensures); within_arrays = omega (arith, c.delay.ensures, c.filter.result.fitting.most) }
