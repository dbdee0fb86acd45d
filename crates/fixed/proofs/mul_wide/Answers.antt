-- `fixed::mul_wide` meets its contract: the product fits 64 bits and its floor fits the word, since |c| < 65536.
-- Assumes nothing.
use Rattle.std.proofs.Common.{rules}
use Rattle.fixed.specs.Fixed.{times}
use Rattle.fixed.proofs.Laws.Fit.{mul-fits, times-fits}
use Rattle.fixed.proofs.mul_wide.Goals as goal

pub returns : goal.returns
unfolding times
returns c = search (rules, mul-fits, times-fits)
