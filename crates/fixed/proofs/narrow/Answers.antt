-- `fixed::narrow` meets its contract: half of (x >> (n - 1)) + 1 is x / 2^n rounded, and no step leaves the word.
-- Assumes nothing.
use Rattle.std.proofs.Common.{rules}
use Rattle.fixed.specs.Fixed.{narrowed}
use Rattle.fixed.proofs.Laws.Narrow.{halved-rounds, inc-fits}
use Rattle.fixed.proofs.Laws.Fit.{shr-fits}
use Rattle.fixed.proofs.narrow.Goals as goal

pub overflow_add-x : goal.overflow_add-x
overflow_add-x c = search (rules, shr-fits, inc-fits)

pub returns : goal.returns
unfolding narrowed
returns c = search (rules, halved-rounds, inc-fits, shr-fits)
