-- `stages::down2_3::silk_resampler_down2_3` meets its contract: its row is the definition's, and where none applies the output's
-- front is filled.
-- Assumes nothing.
use mathlib.Core.Path.{sym}
use Rattle.stages.specs.Entry.{down23_outcome}
use Rattle.stages.proofs.Laws.Outcome.{ruled-refused, ruled-done, third-fits}
use Rattle.stages.proofs.down2_3.silk_resampler_down2_3.Goals as goal

pub returns-in-Some : goal.returns-in-Some
unfolding down23_outcome
returns-in-Some c = ruled-refused c.args.words c.args.out.now _ c.in-Some.refusal c.in-Some.ensures c.refused.ensures

pub decimate-after-requires : goal.decimate-after-requires
decimate-after-requires c = third-fits _ _ (sym c.in_default.ensures)

pub returns : goal.returns
unfolding down23_outcome
returns c =
    let after = c.decimate-after.ensures in
    ruled-done c.args.words c.args.out.now c.in_default.ensures c.done.ensures after.carried after.filled
