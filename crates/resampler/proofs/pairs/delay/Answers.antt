-- `resampler::pairs::delay` meets its contract: a supported pair has its row and its column, and the matrix is the definition's.
-- Assumes nothing.
use mathlib.Core.Path.{refl}
use Prim.Native.Nat.{◌<◌}
use native.Mathlib.Omega.{arith}
use borrow.Author.Rules.{rules}
use borrow.Author.Tests.{ne_eqb}
use Rattle.resampler.specs.Pairs.{pair, rate_id, delay, delay_matrix_enc, delay_matrix_dec}
use Rattle.resampler.proofs.Laws.Pairs.{places}
use Rattle.resampler.proofs.pairs.delay.Goals as goal

-- the row and the column of the decoder's pair, and of the encoder's
dec : (c : goal.After-result-1) → (rate_id c.args.inKhz < 3) × (rate_id c.args.outKhz < 5)
dec c = (places (pair c.args.direction c.args.inKhz c.args.outKhz) c.requires).0 c.if-direction-eq0.true

enc : (c : goal.After-result-2-1) → (rate_id c.args.inKhz < 5) × (rate_id c.args.outKhz < 3)
enc c = (places (pair c.args.direction c.args.inKhz c.args.outKhz) c.requires).1 c.if-direction-eq0.false

pub offset_bounds-i : goal.offset_bounds-i
offset_bounds-i c = let p = dec c in search rules

pub offset_bounds-i-o : goal.offset_bounds-i-o
offset_bounds-i-o c = let p = dec c in search rules

pub returns-then-direction-eq0 : goal.returns-then-direction-eq0
unfolding delay delay_matrix_dec
returns-then-direction-eq0 c =
    rw (c.if-direction-eq0.true, c.rate_id-o.ensures, c.rate_id-i.ensures) refl

pub offset_bounds-i-2 : goal.offset_bounds-i-2
offset_bounds-i-2 c = let p = enc c in search rules

pub offset_bounds-i-o-2 : goal.offset_bounds-i-o-2
offset_bounds-i-o-2 c = let p = enc c in search rules

pub returns : goal.returns
unfolding delay delay_matrix_enc
returns c =
    rw (ne_eqb c.args.direction 0 c.if-direction-eq0.false, c.rate_id-o.ensures, c.rate_id-i.ensures) refl

pub bounds-i : goal.bounds-i
bounds-i c = let p = dec c in omega arith

pub bounds-o : goal.bounds-o
bounds-o c = let p = dec c in omega arith

pub bounds-i-else-direction-eq0 : goal.bounds-i-else-direction-eq0
bounds-i-else-direction-eq0 c = let p = enc c in omega arith

pub bounds-o-else-direction-eq0 : goal.bounds-o-else-direction-eq0
bounds-o-else-direction-eq0 c = let p = enc c in omega arith
