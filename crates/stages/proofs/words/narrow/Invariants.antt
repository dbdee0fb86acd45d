-- `stages::words::narrow` meets its contract: what is narrowed, followed by what is left narrowed, is the whole.
-- Assumes nothing.
use Rattle.std.proofs.Common.{map, drop}
use Rattle.fixed.specs.Fixed.{narrowed}
use Rattle.stages.proofs.Laws.Loop.{Filling}
use Rattle.stages.proofs.words.narrow.Given as goal

abbrev pub invariant-loop-k : goal.invariant-loop-k
invariant-loop-k l = Filling (map (narrowed l.n) l.from) l.fn.out l.k l.out (map (narrowed l.n) (drop l.k l.from))
