-- `stages::up2_hq::chains` meets its contract: what is written, followed by what the samples left make, is the whole.
-- Assumes nothing.
use Rattle.std.proofs.Common.{drop, ◌*◌}
use Rattle.filters.specs.Stage.Up2Hq.{up2_raw, up2_next}
use Rattle.stages.proofs.Laws.Loop.{Doubling}
use Rattle.stages.proofs.up2_hq.chains.Given as goal

abbrev pub invariant-loop-k : goal.invariant-loop-k
invariant-loop-k l = Doubling up2_raw up2_next l.fn.state l.input l.fn.out (2 * l.k) l.out l.s (drop l.k l.input)
