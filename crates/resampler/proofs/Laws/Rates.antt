-- Rates in Hz and the direction, which an opening takes as signed words: what their tests say. Assumes nothing.
use Rattle.std.specs.Prelude.{if◌then◌else◌}
use Rattle.std.specs.Int.{FitsUnsignedBits}
use mathlib.Core.Path.{◌≡◌, refl}
use mathlib.Core.Bool.{Bool, true, false, not}
use Prim.Native.Nat.{ℕ, ◌/◌, ◌%◌}
use native.Mathlib.Omega.{arith}
use borrow.Author.Tests.{ne_eqb}
use lib.Dec.{eqb}
use lib.IntN.{ℤ, pos, negsuc, nat_abs}
use mir.Syntax.{w32}
use mir.Val.{SFits, of_z, bool_byte}
use Rattle.resampler.specs.Entry.{khz, direction_of}

-- a rate that is a size, and what is no size
pub khz-of : (z : ℤ) {n : ℕ} → FitsUnsignedBits 64 z → n ≡ nat_abs z → khz z ≡ if eqb (n % 1000) 0 then n / 1000 else 0
unfolding khz
khz-of (pos m) f e = rw e refl
khz-of (negsuc m) f e = absurd f

pub khz-none : (z : ℤ) → SFits w32 z → (FitsUnsignedBits 64 z → ⊥) → khz z ≡ 0
unfolding khz
khz-none (pos n) f h = absurd (h (omega (arith, f.sfits)))
khz-none (negsuc n) f h = refl

pub direction-is : (z : ℤ) → SFits w32 z → bool_byte (not (eqb (of_z w32 z) 0)) ≡ direction_of z
unfolding direction_of
direction-is (pos n) f = go (eqb n 0)
  where
    go : (b : Bool) → bool_byte (not b) ≡ if b then 0 else 1
    go true = refl
    go false = refl
direction-is (negsuc n) f = rw (ne_eqb (of_z w32 (negsuc n)) 0 (λ e. omega (arith, e, f.sfits))) refl
