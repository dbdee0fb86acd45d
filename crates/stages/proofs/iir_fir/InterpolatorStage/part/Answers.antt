-- A batch of the interpolator meets its contract: the buffer's front is the carried samples and the doubled input, what is read
-- from it are the outputs, and its last eight samples are carried on.
-- Assumes nothing.
use Rattle.std.proofs.Common.{arith, ◌≡◌, ◌∙◌, ap, List, length, length-append, ◌++◌, ◌+◌, ◌*◌, ◌-◌}
use lib.IntN.{ℤ}
use Rattle.fixed.specs.Fixed.{narrowed}
use Rattle.filters.specs.Reader.{read, outputs}
use Rattle.filters.specs.Stage.Up2Hq.{up2}
use Rattle.filters.specs.Stage.IirFir.{interpolation, interpolated, iir_fir, iir_fir_batch, iir_fir_carried}
use Rattle.filters.proofs.Laws.Lengths.{up2-length}
use Rattle.filters.proofs.Laws.Lists.{last-part}
use Rattle.stages.specs.Outcome.{over}
use Rattle.stages.proofs.Laws.Loop.{over-front}
use Rattle.stages.proofs.Laws.Reading.{whole-reach}
use Rattle.stages.proofs.iir_fir.InterpolatorStage.part.Goals as goal

both-length : (w carried xs : List ℤ) → length carried ≡ 8 → length (carried ++ up2 w xs) ≡ 8 + 2 * length xs
both-length w carried xs h = length-append carried (up2 w xs) ∙ omega (arith, up2-length w xs)

pub read-requires-clause-begins_inside : goal.read-requires-clause-begins_inside
read-requires-clause-begins_inside c =
    let w = c.args.words in
    let xs = c.args.input.now in
    let n = 2 * length xs in
    let r = c.args.self.now.rates in
    let both = both-length w.doubler w.samples xs (omega (arith, c.well_formed)) in
    let size = ap length (over-front (w.samples ++ up2 w.doubler xs) _ (8 + n) both c.fill-doubler.ensures.filled) ∙ both in
    let e : 8 + n - 8 ≡ n = omega arith in
    rw (size, e) (omega arith, whole-reach 2 r (length xs) c.args.self.now.steady c.requires.0 c.requires.1)

pub returns-clause-staged : goal.returns-clause-staged
unfolding iir_fir_batch iir_fir iir_fir_carried interpolated
returns-clause-staged c =
    let w = c.args.words in
    let xs = c.args.input.now in
    let n = 2 * length xs in
    let r = c.args.self.now.rates in
    let all = w.samples ++ up2 w.doubler xs in
    let both = both-length w.doubler w.samples xs (omega (arith, c.well_formed)) in
    let front = over-front all _ (8 + n) both c.fill-doubler.ensures.filled in
    let samples = c.copy_from_slice.ensures.after ∙ last-part 8 n all _ both front in
    record {
      filled = c.read.ensures
          ∙ ap (λ (b : List ℤ). over (read (λ fraction ys. narrowed 15 (interpolation fraction ys)) r.increment (outputs r (length xs)) b) c.args.out.now) front;
      carried = λ i. record { doubler = c.fill-doubler.ensures.carried i; samples = samples i };
    }
