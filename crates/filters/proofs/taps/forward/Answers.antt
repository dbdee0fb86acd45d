-- `filters::taps::forward` meets its contract: what is summed, and the products that are left, are the definition's sum.
-- Assumes nothing.
use Rattle.std.proofs.Common.{rules, arith}
use Rattle.std.proofs.lemmas.Grind.{common_steps}
use Rattle.filters.specs.Reader.{sum}
use Rattle.filters.proofs.Laws.Dot.{sum-none}
use Rattle.filters.proofs.taps.forward.Goals as goal

pub loop-c-preserved : goal.loop-c-preserved
unfolding sum
loop-c-preserved g c = search rules

pub returns : goal.returns
returns g c = grind (arith, common_steps, sum-none)
