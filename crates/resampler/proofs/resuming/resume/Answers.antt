-- `resampler::resuming::resume` meets its contract: its tests are the rows, in their order.
-- Assumes nothing.
use mathlib.Core.Path.{◌≡◌, refl, sym, ap, ◌∙◌}
use mathlib.Core.Bool.{true, false, ◌&&◌}
use lib.Dec.{eqb}
use lib.ListN.{length, take, drop}
use Rattle.filters.specs.Lists.{every}
use Rattle.stages.specs.declared.answer.Refusal.TheVariants.{NotABlock, BlockPairUnsupported, DeadNotZero}
use Rattle.stages.specs.Outcome.{row_of}
use Rattle.stages.proofs.Laws.Outcome.{refusal-is-no-0, ruled-refused, ruled-done}
use Rattle.resampler.specs.Record.{blank}
use Rattle.resampler.specs.Block.{resume_row, resume_outcome}
use Rattle.resampler.proofs.Laws.Resuming.{all_zero, row-length, row-seal, row-pair, row-dead, row-none}
use Rattle.resampler.proofs.resuming.resume.Goals as goal
use Rattle.resampler.proofs.resuming.resume.Goals.{else-dead_zero-via-then-dead_zero+else-pads_zero, else-dead_zero-via-else-dead_zero}

pub returns-in_default : goal.returns-in_default
unfolding resume_outcome blank
returns-in_default c =
    let e : 8 ≡ resume_row c.args.block.now = sym (row-length c.args.block.now c.in_default.ensures.1) in
    ruled-refused blank tt _ NotABlock e c.refused.ensures

pub returns-in-Some : goal.returns-in-Some
unfolding resume_outcome blank
returns-in-Some c =
    let b = c.in-Ok.block.now in
    let chunk = c.in-Ok.ensures.1 in
    let room : length b ≡ 512 = ap length chunk.same ∙ chunk.long in
    let refusal = c.in-Some.refusal in
    let e : row_of refusal ≡ resume_row b = sym (row-seal b room _ c.in-Some.ensures (refusal-is-no-0 refusal)) in
    ruled-refused blank tt _ refusal e c.refused-in-Some.ensures ∙ ap resume_outcome chunk.same

pub returns-in_default-of : goal.returns-in_default-of
unfolding resume_outcome blank
returns-in_default-of c =
    let b = c.in-Ok.block.now in
    let chunk = c.in-Ok.ensures.1 in
    let room : length b ≡ 512 = ap length chunk.same ∙ chunk.long in
    let no = rw c.record_in.ensures at c.in_default-of.ensures in
    let e : 11 ≡ resume_row b = sym (row-pair b room _ c.in_default-seal_refusal.ensures refl no) in
    ruled-refused blank tt _ BlockPairUnsupported e c.refused-in_default-of.ensures ∙ ap resume_outcome chunk.same

pub returns-then-pads_zero : goal.returns-then-pads_zero
unfolding resume_outcome blank
returns-then-pads_zero c =
    let b = c.in-Ok.block.now in
    let chunk = c.in-Ok.ensures.1 in
    let room : length b ≡ 512 = ap length chunk.same ∙ chunk.long in
    let known = c.in-Some-of.ensures ∙ c.record_in.ensures in
    let yes = rw known at c.in-Some-of.known.supported in
    let zeros = rw known at c.if-dead_zero.ensures in
    let all : all_zero b ≡ true = λ i. sym zeros i && sym c.if-pads_zero.ensures i in
    let e : 0 ≡ resume_row b = sym (row-none b room _ c.in_default-seal_refusal.ensures refl yes all) in
    ruled-done blank tt e c.done.ensures known refl ∙ ap resume_outcome chunk.same

pub returns-else-dead_zero : goal.returns-else-dead_zero
unfolding resume_outcome blank
returns-else-dead_zero c =
    let b = c.in-Ok.block.now in
    let chunk = c.in-Ok.ensures.1 in
    let room : length b ≡ 512 = ap length chunk.same ∙ chunk.long in
    let known = c.in-Some-of.ensures ∙ c.record_in.ensures in
    let yes = rw known at c.in-Some-of.known.supported in
    let pads = every (eqb 0) (take 216 (drop 292 b)) in
    let all : all_zero b ≡ false =
    elim c.else-dead_zero.branch [
      | else-dead_zero-via-then-dead_zero+else-pads_zero w ↦ let zeros = rw known at w.if-dead_zero.ensures in λ i. sym zeros i && sym w.if-pads_zero.ensures i
      | else-dead_zero-via-else-dead_zero w ↦ let zeros = rw known at w.if-dead_zero.ensures in λ i. sym zeros i && pads
    ] in
    let e : 12 ≡ resume_row b = sym (row-dead b room _ c.in_default-seal_refusal.ensures refl yes all) in
    ruled-refused blank tt _ DeadNotZero e c.refused-else-dead_zero.ensures ∙ ap resume_outcome chunk.same
