-- `filters::rom::tied` meets its contract: each table computes to its definition, entry by entry.
-- Assumes nothing.
use mathlib.Core.Path.{refl}
use Rattle.filters.specs.Rom as Rom
use Rattle.filters.proofs.rom.tied.Goals as goal

pub sections_are-requires : goal.sections_are-requires
unfolding Rom.silk_resampler_up2_hq_0 Rom.silk_resampler_up2_hq_1
sections_are-requires c =
    record { decimator = (refl, refl); split = (refl, refl); doubler = (refl, refl) }

pub filters_are-requires : goal.filters_are-requires
unfolding
    Rom.silk_Resampler_3_4_COEFS Rom.silk_Resampler_2_3_COEFS Rom.silk_Resampler_1_2_COEFS
    Rom.silk_Resampler_1_3_COEFS Rom.silk_Resampler_1_4_COEFS Rom.silk_Resampler_1_6_COEFS
    Rom.silk_Resampler_2_3_COEFS_LQ
filters_are-requires c =
    record { down_3_4_and_2_3 = (refl, refl); down_1_2_and_1_3 = (refl, refl); down_1_4_and_1_6 = (refl, refl); down2_3 = refl }

pub interpolation_is-requires : goal.interpolation_is-requires
unfolding Rom.silk_resampler_frac_FIR_12
interpolation_is-requires c = refl
