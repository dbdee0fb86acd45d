-- One step of AR2 (ar2.rs). Its words are s0 and s1; a table begins with A0 and A1. Cited by src/ar2.rt. Assumes nothing.
use Rattle.std.specs.Prelude.{ℕ, List, [], ◌∷◌, ℤ, pos, ◌+ℤ◌, ◌*ℤ◌, get_or}
use Rattle.fixed.specs.Fixed.{wrapped, times}

infixl 80 ◌!◌
-- the word at place i
abbrev pub ◌!◌ : List ℤ → ℕ → ℤ
xs ! i = get_or xs i (pos 0)

unfoldable pub ar2_out : List ℤ → ℤ → ℤ
ar2_out s x = wrapped (s ! 0 +ℤ pos 256 *ℤ x)

-- the words after an output: four times it goes into both
unfoldable pub ar2_after : List ℤ → List ℤ → ℤ → List ℤ
ar2_after A s out = let q = wrapped (pos 4 *ℤ out) in wrapped (s ! 1 +ℤ times (A ! 0) q) ∷ times (A ! 1) q ∷ []

unfoldable pub ar2_next : List ℤ → List ℤ → ℤ → List ℤ
ar2_next A s x = ar2_after A s (ar2_out s x)
