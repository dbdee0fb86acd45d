-- A tap of the interpolator meets its contract: its product fits the word, and the sum wraps as the definition's does.
-- Assumes nothing.
use Rattle.std.proofs.Common.{rules}
use borrow.Author.Tests.{ltb-true}
use lib.IntN.{nat_abs}
use Rattle.fixed.proofs.Laws.Fit.{sample-fits}
use Rattle.filters.proofs.taps.I32Tap.more.Goals as goal

pub returns : goal.returns
returns c = let h = ltb-true (nat_abs c.args.self) 65536 c.requires in search (rules, sample-fits)
