-- `probes::probe_up2_HQ` is safe: past its test the output has two places for each sample. Assumes nothing.
use Rattle.std.proofs.Common.{arith}
use Rattle.probes.proofs.probe_up2_HQ.Goals as goal

pub silk_resampler_private_up2_HQ-w-requires : goal.silk_resampler_private_up2_HQ-w-requires
silk_resampler_private_up2_HQ-w-requires c = omega (arith, c.if-out-input.false)
