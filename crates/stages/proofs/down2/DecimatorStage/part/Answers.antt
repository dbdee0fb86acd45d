-- A part of the 1/2 decimator meets its contract: what is narrowed are the sums at the buffer's front.
-- Assumes nothing.
use Rattle.std.proofs.Common.{arith, ◌∙◌, ap, length, map, List, ◌/◌}
use lib.IntN.{ℤ}
use Rattle.stages.specs.Outcome.{over}
use Rattle.filters.specs.Stage.Down2.{down2_sum, down2_next}
use Rattle.filters.specs.Lists.{pairs}
use Rattle.filters.specs.Run.{run}
use Rattle.filters.proofs.Laws.Run.{run_length}
use Rattle.filters.proofs.Laws.Lists.{pairs-length}
use Rattle.stages.proofs.Laws.Loop.{over-front}
use Rattle.stages.proofs.Laws.Parts.{down2-narrowed}
use Rattle.fixed.specs.Fixed.{narrowed}
use Rattle.stages.proofs.down2.DecimatorStage.part.Goals as goal

pub returns : goal.returns
returns c =
    let w = c.args.words in
    let xs = c.args.input.now in
    let sums = run down2_sum down2_next w (pairs xs) in
    let n = run_length down2_sum down2_next w (pairs xs) ∙ pairs-length xs in
    let front = over-front sums _ (length xs / 2) n c.sums-after.ensures.filled in
    let made = ap (map (narrowed 11)) front ∙ down2-narrowed w xs in
    record {
      written = omega arith;
      staged = record { filled = c.narrow.ensures ∙ ap (λ (ys : List ℤ). over ys c.args.out.now) made; carried = c.sums-after.ensures.carried };
    }
