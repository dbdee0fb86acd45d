-- The claims of specs/Claims.antt. Assumes nothing.
use mathlib.Core.Path.{refl}
use lib.ListN.{length}
use Rattle.filters.specs.Lists as Lists
use Rattle.filters.specs.Run as Run
use Rattle.fixed.specs.Fixed as Fixed
use Rattle.fixed.specs.Ar2 as Step
use Rattle.filters.specs.Rom as Rom
use Rattle.filters.specs.Section as Section
use Rattle.filters.specs.Reader as Reader
use Rattle.filters.specs.Stage.Ar2 as Ar2
use Rattle.filters.specs.Stage.Up2Hq as Up2Hq
use Rattle.filters.specs.Stage.IirFir as IirFir
use Rattle.filters.specs.Stage.Down2 as Down2
use Rattle.filters.specs.Stage.Down2_3 as Down23
use Rattle.filters.specs.Stage.AnaFiltBank1 as AnaFiltBank1
use Rattle.resampler.specs.Pairs as Pairs
use Rattle.resampler.specs.Record as Record
use Rattle.resampler.specs.Resample as Resample
use Rattle.little_endian.specs.Bytes as Bytes
use Rattle.resampler.specs.Block as Block
use Rattle.resampler.specs.Entry.{open_outcome, resample_outcome}
use Rattle.resampler.specs.Block.{park_outcome, resume_outcome}
use Rattle.stages.proofs.Claims.{fixed}
use Rattle.resampler.proofs.Laws.Call.{call-count}
use Rattle.resampler.proofs.Laws.Rows.{called}
use Rattle.resampler.specs.Claims.{CasesHold, ThirtySupported, IncrementsReach, OutcomesFixed, ResumeParked, ParkResumed, OutputsCounted}
use Rattle.resampler.proofs.Laws.RoundTrip as RoundTrip

-- both sides compute to one list of lists
pub cases_hold : CasesHold
unfolding
    CasesHold
    Lists.tabulate Lists.joined Lists.pairs Run.run Run.end
    Fixed.wrapped Fixed.times Fixed.clipped Fixed.rounded Fixed.narrowed
    Rom.silk_resampler_up2_hq_0 Rom.silk_resampler_up2_hq_1
    Rom.silk_Resampler_1_6_COEFS Rom.silk_Resampler_2_3_COEFS_LQ Rom.silk_resampler_frac_FIR_12
    Section.section_x Section.section_out Section.section_next
    Section.row_out Section.row_next Section.even_out Section.odd_out Section.halves_next
    Reader.mirrored Reader.sum
    Ar2.ar2 Ar2.ar2_end Step.ar2_out Step.ar2_after Step.ar2_next
    Up2Hq.up2 Up2Hq.up2_end Up2Hq.up2_even Up2Hq.up2_odd Up2Hq.up2_out Up2Hq.up2_next
    IirFir.interpolation IirFir.interpolated
    Down2.down2 Down2.down2_end Down2.down2_sum Down2.down2_out Down2.down2_next
    Down23.tapped Down23.group_out Down23.down23
    AnaFiltBank1.split_low AnaFiltBank1.split_high AnaFiltBank1.split_next
    AnaFiltBank1.low_sum AnaFiltBank1.high_sum AnaFiltBank1.low_out AnaFiltBank1.high_out
    Pairs.rate_id Pairs.delay_matrix_enc Pairs.delay_matrix_dec Pairs.delay
    Pairs.filter Pairs.path Pairs.up2x Pairs.raised Pairs.increment
    Record.living Record.live Record.live_delay Record.keeping Record.record_of Record.cleaned Record.fresh
    Bytes.bytes Bytes.value Bytes.bits_of Bytes.laid_by Block.weighed Block.check Block.body Block.block_of
    mathlib.Core.List.flat_map
cases_hold = refl

pub thirty_supported : ThirtySupported
unfolding ThirtySupported Pairs.thirty Pairs.supported mathlib.Core.List.flat_map
thirty_supported = (refl, refl)

pub increments_reach : IncrementsReach
unfolding
    IncrementsReach Pairs.thirty Pairs.filter Pairs.path Pairs.up2x Pairs.raised Pairs.increment mathlib.Core.List.flat_map
increments_reach = refl

pub outcomes_fixed : OutcomesFixed
unfolding OutcomesFixed
outcomes_fixed = (
  λ inHz outHz forEnc. fixed (open_outcome inHz outHz forEnc),
  λ s input out. fixed (resample_outcome s input out),
  λ s block. fixed (park_outcome s block),
  λ block. fixed (resume_outcome block),
)

pub resume_parked : ResumeParked
unfolding ResumeParked
resume_parked = RoundTrip.resume_parked

pub park_resumed : ParkResumed
unfolding ParkResumed
park_resumed = RoundTrip.park_resumed

pub outputs_counted : OutputsCounted
unfolding OutputsCounted Resample.made
outputs_counted s input room h r = call-count s input room (called s (length input) room (h.doubler.0, h.samples.0, h.ar2.0, h.fir.0, h.delay.0) r)
