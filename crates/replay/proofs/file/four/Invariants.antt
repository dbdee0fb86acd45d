-- `replay::file::four` is safe: what has been read lies within the four bytes.
-- Assumes nothing.
use Rattle.std.proofs.Common.{◌≤◌}
use Rattle.replay.proofs.file.four.Given as goal

abbrev pub invariant-loop : goal.invariant-loop
invariant-loop l = l.n ≤ 4
