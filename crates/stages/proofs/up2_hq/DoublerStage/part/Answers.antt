-- A part of the doubler meets its contract: what is narrowed are the words at the buffer's front.
-- Assumes nothing.
use Rattle.std.proofs.Common.{arith, ◌∙◌, ap, length, map, List, ◌*◌}
use lib.IntN.{ℤ}
use Rattle.stages.specs.Outcome.{over}
use Rattle.filters.specs.Stage.Up2Hq.{up2_raw, up2_next}
use Rattle.filters.specs.Lists.{joined}
use Rattle.filters.specs.Run.{run}
use Rattle.filters.proofs.Laws.Lengths.{up2_raw-length}
use Rattle.stages.proofs.Laws.Loop.{over-front}
use Rattle.stages.proofs.Laws.Parts.{up2-narrowed}
use Rattle.fixed.specs.Fixed.{narrowed}
use Rattle.stages.proofs.up2_hq.DoublerStage.part.Goals as goal

pub returns : goal.returns
returns c =
    let w = c.args.words in
    let xs = c.args.input.now in
    let raw = joined (run up2_raw up2_next w xs) in
    let front = over-front raw _ (2 * length xs) (up2_raw-length w xs) c.chains-after.ensures.filled in
    let made = ap (map (narrowed 10)) front ∙ up2-narrowed w xs in
    record {
      written = omega arith;
      staged = record { filled = c.narrow.ensures ∙ ap (λ (ys : List ℤ). over ys c.args.out.now) made; carried = c.chains-after.ensures.carried };
    }
