-- The fewest digits that hold a number are its decimal. Assumes nothing.
use mathlib.Core.Path.{◌≡◌, refl, ap, ◌∙◌}
use mathlib.Core.List.{List, ◌++◌}
use Prim.Native.Nat.{ℕ, zero, suc, ◌+◌, ◌-◌, ◌/◌, ◌%◌, ◌^◌, ◌<◌, ◌≤◌}
use native.Mathlib.Nat.{pow-suc, one-le-pow}
use native.Mathlib.Omega.{arith}
use borrow.Author.Tests.{lt-ltb, le-ltb}
use Rattle.io.specs.Digits.{IsDigitCount}
use Rattle.io.specs.Digits as Io
use Rattle.line.specs.Message.{digits, decimal}

-- a digit's glyph
glyph-is : (d : ℕ) → d < 10 → Io.hex_digit_ascii d ≡ 48 + d
glyph-is d h = rw (lt-ltb d 10 h) refl

fewest : (k f n : ℕ) → n < f → n < 10 ^ suc k → (0 < k → 10 ^ k ≤ n) → Io.last_digits 10 (suc k) n ≡ digits f n
unfolding digits
fewest k zero n h a b = absurd (omega arith)
fewest zero (suc f) n h a b =
    rw (lt-ltb n 10 (omega arith), glyph-is (n % 10) (omega arith)) refl
fewest (suc k) (suc f) n h a b =
    let low : 10 ^ suc k ≤ n = b (omega arith) in
    let p = pow-suc 10 k in
    let q = pow-suc 10 (suc k) in
    let some : 0 < 10 ^ k = one-le-pow k 10 (omega arith) in
    rw (le-ltb n 10 (omega arith), glyph-is (n % 10) (omega arith), ← fewest k f (n / 10) (omega arith) (omega arith) (λ z. omega arith)) refl

more : (k : ℕ) → suc k - 1 ≡ k
more k = omega arith

pub decimal-is : (k n : ℕ) → IsDigitCount 10 1 n k → Io.last_digits 10 k n ≡ decimal n
unfolding decimal
decimal-is zero n (a, b, c) = absurd (omega arith)
decimal-is (suc k) n (a, b, c) = fewest k (suc n) n (omega arith) b (λ z. rw (more k) at (c (omega arith)))

-- three parts, one behind the other
pub three-parts : {s t u p : List ℕ} (q l : List ℕ) → s ≡ p → t ≡ s ++ q → u ≡ t ++ l → u ≡ p ++ q ++ l
three-parts q l e f g = g ∙ ap (λ (t : List ℕ). t ++ l) (f ∙ ap (λ (t : List ℕ). t ++ q) e)
