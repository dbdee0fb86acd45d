-- A tap of a down filter meets its contract: its product, rounded down, and the sum wraps as the definition's does.
-- Assumes nothing.
use Rattle.std.proofs.Common.{rules}
use borrow.Author.Tests.{ltb-true}
use lib.IntN.{nat_abs}
use Rattle.filters.proofs.taps.I64Tap.more.Goals as goal

pub mul_wide-requires : goal.mul_wide-requires
mul_wide-requires c = let h = ltb-true (nat_abs c.args.self) 65536 c.requires in search rules
