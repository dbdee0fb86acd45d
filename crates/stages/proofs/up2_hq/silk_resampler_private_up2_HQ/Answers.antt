-- `stages::up2_hq::silk_resampler_private_up2_HQ` meets its contract: what the doubler makes of parts is what it makes of the whole.
-- Assumes nothing.
use Rattle.std.proofs.Common.{arith}
use Rattle.filters.specs.Stage.Up2Hq.{up2, up2_end}
use Rattle.stages.proofs.Laws.Pass.{pass-whole}
use Rattle.stages.proofs.Laws.Parts.{up2-nothing, up2-parts}
use Rattle.stages.proofs.up2_hq.silk_resampler_private_up2_HQ.Goals as goal

pub returns : goal.returns
returns c =
    let whole = pass-whole up2 up2_end 160 (omega arith) up2-nothing (up2-parts 160) c.args.state c.args.input.now in
    let made = c.in_parts-p.ensures.staged in
    record { filled = rw whole.0 at made.filled; carried = rw whole.1 at made.carried }
