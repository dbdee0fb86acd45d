-- Signed ranges, and which products with a coefficient stay in them. Assumes nothing.
use Prim.Native.Nat.{ℕ, ◌+◌, ◌*◌, ◌^◌, ◌<◌, ◌≤◌}
use native.Mathlib.Omega.{arith}
use native.Mathlib.Nat as NatL
use lib.IntN.{ℤ, pos, negsuc, nat_abs, ◌*ℤ◌}
use lib.Signed.{shr_z, mag_shr}
use mir.Syntax.{Width, w16, w32, w64}
use mir.Val.{SFits, hbits}
use Rattle.fixed.specs.Fixed.{times}
use Rattle.fixed.proofs.Laws.Integer.{P, N, pn-abs, p_mul, n-mul, shr-floor}

-- ---- ranges

-- z is in range where neither part, less the other, passes the bound
pub in-range : (w : Width) (z : ℤ) → P z < 2 ^ hbits w + N z → N z ≤ 2 ^ hbits w + P z → SFits w z
unfolding P N
in-range w (pos n) h k = record { sfits = omega arith }
in-range w (negsuc n) h k = record { sfits = omega arith }

pub shr-fits : (w : Width) (z : ℤ) (m : ℕ) → SFits w z → SFits w (shr_z z m)
shr-fits w z m f = record { sfits = NatL.lt_of_le_of_lt (mag_shr z m) f.sfits }

-- the size of a number that fits
abs-fits : (w : Width) (z : ℤ) → SFits w z → P z + N z ≤ 2 ^ hbits w
unfolding P N
abs-fits w (pos n) h = omega (arith, h.sfits)
abs-fits w (negsuc n) h = omega (arith, h.sfits)

-- ---- products with a coefficient

-- |c| < 65536 and |y| ≤ 2^b: |c y| ≤ 65535 × 2^b
mul-bound : (w : Width) (c y : ℤ) → nat_abs c < 65536 → SFits w y → P (c *ℤ y) + N (c *ℤ y) ≤ 65535 * 2 ^ hbits w
mul-bound w c y h f =
    omega (
      arith,
      p_mul c y,
      n-mul c y,
      NatL.mul-le-mul {n₁ = P c + N c} {m₁ = P y + N y} {n₂ = 65535} {m₂ = 2 ^ hbits w} (omega (arith, pn-abs c)) (abs-fits w y f),
    )

-- with a word, and with a sample
pub mul-fits : (c y : ℤ) → nat_abs c < 65536 → SFits w32 y → SFits w64 (c *ℤ y)
mul-fits c y h f = let b = mul-bound w32 c y h f in in-range w64 (c *ℤ y) (omega arith) (omega arith)

pub sample-fits : (c x : ℤ) → nat_abs c < 65536 → SFits w16 x → SFits w32 (c *ℤ x)
sample-fits c x h f = let b = mul-bound w16 c x h f in in-range w32 (c *ℤ x) (omega arith) (omega arith)

pub times-fits : (c y : ℤ) → nat_abs c < 65536 → SFits w32 y → SFits w32 (times c y)
unfolding times
times-fits c y h f =
    let b = shr-floor (c *ℤ y) 65536 (omega arith) in
    let g = mul-bound w32 c y h f in
    in-range w32 (shr_z (c *ℤ y) 65536) (omega arith) (omega arith)
