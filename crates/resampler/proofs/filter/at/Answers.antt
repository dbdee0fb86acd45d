-- `resampler::filter::at` meets its contract: each test is the definition's, and the filter that it finds is the one answered.
-- Assumes nothing.
use mathlib.Core.Path.{sym}
use Rattle.filters.specs.Rom.{silk_Resampler_3_4_COEFS, silk_Resampler_2_3_COEFS, silk_Resampler_1_2_COEFS, silk_Resampler_1_3_COEFS, silk_Resampler_1_4_COEFS, silk_Resampler_1_6_COEFS}
use Rattle.resampler.specs.Pairs.{pair}
use Rattle.resampler.proofs.Laws.Steady.{filter-3/4, filter-2/3, filter-1/2, filter-1/3, filter-1/4, filter-1/6}
use Rattle.resampler.proofs.filter.at.Goals as goal

pub returns-then-outKhz-inKhz : goal.returns-then-outKhz-inKhz
unfolding silk_Resampler_3_4_COEFS
returns-then-outKhz-inKhz c = sym (filter-3/4 (pair 0 c.args.inKhz c.args.outKhz) c.if-outKhz-inKhz.true)

pub returns-then-outKhz-inKhz-2 : goal.returns-then-outKhz-inKhz-2
unfolding silk_Resampler_2_3_COEFS
returns-then-outKhz-inKhz-2 c = sym (filter-2/3 (pair 0 c.args.inKhz c.args.outKhz) c.if-outKhz-inKhz.false c.if-outKhz-inKhz-2.true)

pub returns-then-outKhz-inKhz-3 : goal.returns-then-outKhz-inKhz-3
unfolding silk_Resampler_1_2_COEFS
returns-then-outKhz-inKhz-3 c = sym (filter-1/2 (pair 0 c.args.inKhz c.args.outKhz) c.if-outKhz-inKhz.false c.if-outKhz-inKhz-2.false c.if-outKhz-inKhz-3.true)

pub returns-then-outKhz-inKhz-4 : goal.returns-then-outKhz-inKhz-4
unfolding silk_Resampler_1_3_COEFS
returns-then-outKhz-inKhz-4 c = sym (filter-1/3 (pair 0 c.args.inKhz c.args.outKhz) c.if-outKhz-inKhz.false c.if-outKhz-inKhz-2.false c.if-outKhz-inKhz-3.false c.if-outKhz-inKhz-4.true)

pub returns-then-outKhz-inKhz-5 : goal.returns-then-outKhz-inKhz-5
unfolding silk_Resampler_1_4_COEFS
returns-then-outKhz-inKhz-5 c = sym (filter-1/4 (pair 0 c.args.inKhz c.args.outKhz) c.if-outKhz-inKhz.false c.if-outKhz-inKhz-2.false c.if-outKhz-inKhz-3.false c.if-outKhz-inKhz-4.false c.if-outKhz-inKhz-5.true)

pub returns : goal.returns
unfolding silk_Resampler_1_6_COEFS
returns c = sym (filter-1/6 (pair 0 c.args.inKhz c.args.outKhz) c.if-outKhz-inKhz.false c.if-outKhz-inKhz-2.false c.if-outKhz-inKhz-3.false c.if-outKhz-inKhz-4.false c.if-outKhz-inKhz-5.false)
