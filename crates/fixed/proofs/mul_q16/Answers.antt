-- `fixed::mul_q16` meets its contract: widening keeps the coefficient, and its bound with it.
-- Assumes nothing.
use Rattle.std.proofs.Common.{rules}
use Rattle.fixed.proofs.mul_q16.Goals as goal

pub returns : goal.returns
returns c = search rules
