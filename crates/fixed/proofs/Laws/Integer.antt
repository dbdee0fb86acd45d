-- Integers for `omega`, which reads natural numbers only: `P z` and `N z` are the positive and the negative part of z, and
-- `D a b` is a - b, all three shut, so that a fact over ℤ becomes one over ℕ. Assumes nothing.
use mathlib.Core.Path.{◌≡◌, refl, ap}
use mathlib.Core.Logic.{◌⊎◌, inl, inr}
use mathlib.Core.Bool.{Bool, true, false, not, cond}
use Prim.Native.Nat.{ℕ, zero, suc, ◌+◌, ◌*◌, ◌-◌, ◌/◌, ◌<◌, ◌≤◌}
use native.Mathlib.Omega.{arith}
use native.Mathlib.Nat as NatL
use lib.Dec.{T, ltb, ltb→lt, nltb→le}
use lib.IntN.{ℤ, pos, negsuc, neg_ℤ, nat_abs, sub_ℕ, ◌+ℤ◌, ◌*ℤ◌}
use lib.Signed.{shr_z}

unfoldable pub P : ℤ → ℕ
P (pos n) = n
P (negsuc n) = 0

unfoldable pub N : ℤ → ℕ
N (pos n) = 0
N (negsuc n) = suc n

unfoldable pub D : ℕ → ℕ → ℤ
D a b = sub_ℕ a b

-- ---- the parts

cond_ind : (c : Bool) (x y : ℤ) (Q : ℤ → Type 0) → (T c → Q x) → (T (not c) → Q y) → Q (cond c x y)
cond_ind true x y Q f g = f tt
cond_ind false x y Q f g = g tt

sub-pn : (a b : ℕ) → P (sub_ℕ a b) + b ≡ a + N (sub_ℕ a b)
unfolding P N
sub-pn a b = cond_ind (ltb a b) (negsuc (b - suc a)) (pos (a - b)) (λ z. P z + b ≡ a + N z)
    (λ t. lo a b (ltb→lt a b t)) (λ t. hi a b (nltb→le a b t))
  where
    lo : (a b : ℕ) → a < b → 0 + b ≡ a + suc (b - suc a)
    lo a b h = omega arith

    hi : (a b : ℕ) → b ≤ a → a - b + b ≡ a + 0
    hi a b h = omega arith

pub pn-D : (a b : ℕ) → P (D a b) + b ≡ a + N (D a b)
unfolding D
pn-D a b = sub-pn a b

-- two integers with one difference are one
pub from-pn : (x y : ℤ) → P x + N y ≡ P y + N x → x ≡ y
unfolding P N
from-pn (pos a) (pos b) h = ap pos (omega arith)
from-pn (pos a) (negsuc b) h = absurd (omega arith)
from-pn (negsuc a) (pos b) h = absurd (omega arith)
from-pn (negsuc a) (negsuc b) h = ap negsuc (omega arith)

-- one of the two parts is 0
pub pn-or : (z : ℤ) → (P z ≡ 0) ⊎ (N z ≡ 0)
unfolding P N
pn-or (pos n) = inr refl
pn-or (negsuc n) = inl refl

pub pn-abs : (z : ℤ) → P z + N z ≡ nat_abs z
unfolding P N
pn-abs (pos n) = omega arith
pn-abs (negsuc n) = omega arith

pub pn-sum : (x y : ℤ) → P (x +ℤ y) + N x + N y ≡ P x + P y + N (x +ℤ y)
unfolding P N
pn-sum (pos a) (pos b) = omega arith
pn-sum (pos a) (negsuc b) = omega (arith, sub-pn a (suc b))
pn-sum (negsuc a) (pos b) = omega (arith, sub-pn b (suc a))
pn-sum (negsuc a) (negsuc b) = omega arith

pub p-neg : (x : ℤ) → P (neg_ℤ x) ≡ N x
unfolding P N
p-neg (pos zero) = refl
p-neg (pos (suc n)) = refl
p-neg (negsuc n) = refl

pub n-neg : (x : ℤ) → N (neg_ℤ x) ≡ P x
unfolding P N
n-neg (pos zero) = refl
n-neg (pos (suc n)) = refl
n-neg (negsuc n) = refl

pn-mul : (x y : ℤ) → (P (x *ℤ y) ≡ P x * P y + N x * N y) × (N (x *ℤ y) ≡ P x * N y + N x * P y)
unfolding P N
pn-mul (pos a) (pos b) = (omega arith, omega arith)
pn-mul (pos a) (negsuc b) = (omega (arith, p-neg (pos (a * suc b))), omega (arith, n-neg (pos (a * suc b))))
pn-mul (negsuc a) (pos b) = (omega (arith, p-neg (pos (suc a * b))), omega (arith, n-neg (pos (suc a * b))))
pn-mul (negsuc a) (negsuc b) = (omega arith, omega arith)

pub p_mul : (x y : ℤ) → P (x *ℤ y) ≡ P x * P y + N x * N y
p_mul x y = (pn-mul x y).0

pub n-mul : (x y : ℤ) → N (x *ℤ y) ≡ P x * N y + N x * P y
n-mul x y = (pn-mul x y).1

-- a product with a numeral
pub p-scale : (m : ℕ) (y : ℤ) → P (pos m *ℤ y) ≡ m * P y
unfolding P N
p-scale m y = omega (arith, p_mul (pos m) y)

pub n-scale : (m : ℕ) (y : ℤ) → N (pos m *ℤ y) ≡ m * N y
unfolding P N
n-scale m y = omega (arith, n-mul (pos m) y)

-- ---- differences, calculated with

pub D-of : (z : ℤ) → z ≡ D (P z) (N z)
D-of z = from-pn z (D (P z) (N z)) (omega (arith, pn-D (P z) (N z)))

pub D-pos : (n : ℕ) → pos n ≡ D n 0
unfolding P N
D-pos n = from-pn (pos n) (D n 0) (omega (arith, pn-D n 0))

pub D-sum : (a b c d : ℕ) → D a b +ℤ D c d ≡ D (a + c) (b + d)
D-sum a b c d = from-pn (D a b +ℤ D c d) (D (a + c) (b + d))
    (omega (arith, pn-D a b, pn-D c d, pn-D (a + c) (b + d), pn-sum (D a b) (D c d)))

pub D-neg : (a b : ℕ) → neg_ℤ (D a b) ≡ D b a
D-neg a b = from-pn (neg_ℤ (D a b)) (D b a) (omega (arith, pn-D a b, pn-D b a, p-neg (D a b), n-neg (D a b)))

pub D-eq : (a b c d : ℕ) → a + d ≡ c + b → D a b ≡ D c d
D-eq a b c d h = from-pn (D a b) (D c d) (omega (arith, pn-D a b, pn-D c d))

pub D-mul : (a b c d : ℕ) → D a b *ℤ D c d ≡ D (a * c + b * d) (a * d + b * c)
D-mul a b c d =
    let x = D a b in
    let y = D c d in
    from-pn (x *ℤ y) (D (a * c + b * d) (a * d + b * c))
    (omega (
      arith,
      pn-D (a * c + b * d) (a * d + b * c),
      p_mul x y,
      n-mul x y,
      ap (λ (k : ℕ). k * P y) (pn-D a b),
      ap (λ (k : ℕ). k * N y) (pn-D a b),
      ap (λ (k : ℕ). a * k) (pn-D c d),
      ap (λ (k : ℕ). b * k) (pn-D c d),
    ))

-- ---- division rounded down by m: m q ≤ z < m q + m

pub record Floor (z q : ℤ) (m : ℕ) : Type 0 where
  pub low : m * P q + N z ≤ P z + m * N q
  pub high : P z + m * N q < m * P q + N z + m

div-mod : (a m : ℕ) → 0 < m → (m * (a / m) ≤ a) × (a < m * (a / m) + m)
div-mod a m h = (omega (arith, NatL.div-add-mod' a m, NatL.mod-lt a h), omega (arith, NatL.div-add-mod' a m, NatL.mod-lt a h))

pub shr-floor : (z : ℤ) (m : ℕ) → 0 < m → Floor z (shr_z z m) m
unfolding P N
shr-floor (pos a) m h = record { low = omega (arith, div-mod a m h); high = omega (arith, div-mod a m h) }
shr-floor (negsuc a) m h = record { low = omega (arith, div-mod a m h); high = omega (arith, div-mod a m h) }

-- the quotient is the only such number
pub floor-unique : (z q r : ℤ) (m : ℕ) → 0 < m → Floor z q m → Floor z r m → q ≡ r
floor-unique z q r m h f g =
    let a : P q + N r < P r + N q + 1 = NatL.lt_of_mul-lt-mul_left m (omega (arith, f.low, g.high)) in
    let b : P r + N q < P q + N r + 1 = NatL.lt_of_mul-lt-mul_left m (omega (arith, g.low, f.high)) in
    from-pn q r (omega arith)

pub floor-is : (z q : ℤ) (m : ℕ) → 0 < m → Floor z q m → shr_z z m ≡ q
floor-is z q m h f = floor-unique z (shr_z z m) q m h (shr-floor z m h) f
