-- `filters::up2_hq::step` meets its contract: each chain is the definition's, on its half of the words.
-- Assumes nothing.
use Rattle.std.proofs.Common.{rules, arith}
use Rattle.filters.specs.Lists.{tabulate}
use Rattle.filters.specs.Rom.{silk_resampler_up2_hq_0, silk_resampler_up2_hq_1}
use Rattle.filters.specs.Stage.Up2Hq.{up2_raw, up2_even, up2_odd, up2_next}
use Rattle.filters.proofs.Laws.Lists.{spelt}
use Rattle.filters.proofs.up2_hq.step.Goals as goal

pub returns : goal.returns
unfolding up2_raw up2_even up2_odd up2_next silk_resampler_up2_hq_0 silk_resampler_up2_hq_1 tabulate
returns c =
    let all = spelt 6 c.args.words (omega (arith, c.well_formed)) in
    let even = spelt 3 c.three-even.result.words (omega (arith, c.well_formed)) in
    let odd = spelt 3 c.three-odd.result.words (omega (arith, c.well_formed)) in
    search rules
