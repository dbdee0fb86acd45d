-- `stages::iir_fir::silk_resampler_private_IIR_FIR` meets its contract: the batches' words, side by side, are the definition's.
-- Assumes nothing.
use Rattle.std.proofs.Common.{◌∙◌, ap, refl, List, ◌*◌}
use lib.IntN.{ℤ}
use Rattle.filters.specs.Stage.Up2Hq.{up2_end}
use Rattle.filters.specs.Stage.IirFir.{iir_fir_carried, iir_fir_batch, iir_fir_next, iir_fir_pass, iir_fir_end}
use Rattle.stages.specs.declared.iir_fir.IirFirWords.{IirFirWords}
use Rattle.stages.proofs.Laws.Pass.{pass-seen}
use Rattle.stages.proofs.iir_fir.silk_resampler_private_IIR_FIR.Goals as goal

view : IirFirWords → List ℤ × List ℤ
view w = (w.doubler, w.samples)

next : IirFirWords → List ℤ → IirFirWords
next w xs = record { doubler = up2_end w.doubler xs; samples = iir_fir_carried w.doubler w.samples xs }

pub returns-clause-staged : goal.returns-clause-staged
unfolding iir_fir_pass iir_fir_end iir_fir_next view next
returns-clause-staged c =
    let r = c.args.r in
    let made = c.in_parts.ensures.staged in
    let seen = pass-seen (λ w. iir_fir_batch r (view w)) next (iir_fir_batch r) iir_fir_next view (λ w. Unit {0}) (λ w xs h. tt) (λ w xs h. refl) (λ w xs h. refl) (10 * r.inKhz) c.args.s c.args.input.now tt in
    record { filled = rw seen.0 at made.filled; carried = ap view made.carried ∙ seen.1 }
