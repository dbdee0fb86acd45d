-- The allpass section with coefficient a, word s and input x: alone, a row of them, and one each on even and odd samples.
-- Shared by the doubler, the 1/2 decimator and the split. Assumes nothing.
use Rattle.std.specs.Prelude.{List, [], ◌∷◌, ℤ, pos, ◌+ℤ◌, ◌-ℤ◌, ◌*ℤ◌}
use Rattle.filters.specs.Lists.{◌!◌}
use Rattle.fixed.specs.Fixed.{wrapped, times}

-- X, which the output and the new word share
unfoldable pub section_x : ℤ → ℤ → ℤ → ℤ
section_x a s x = times a (wrapped (x -ℤ s))

unfoldable pub section_out : ℤ → ℤ → ℤ → ℤ
section_out a s x = wrapped (s +ℤ section_x a s x)

unfoldable pub section_next : ℤ → ℤ → ℤ → ℤ
section_next a s x = wrapped (x +ℤ section_x a s x)

-- sections in a row, one for each coefficient and its word: what the last puts out, and the new words
unfoldable pub row_out : List ℤ → List ℤ → ℤ → ℤ
row_out [] ss x = x
row_out (a ∷ cs) [] x = x
row_out (a ∷ cs) (s ∷ ss) x = row_out cs ss (section_out a s x)

unfoldable pub row_next : List ℤ → List ℤ → ℤ → List ℤ
row_next [] ss x = []
row_next (a ∷ cs) [] x = []
row_next (a ∷ cs) (s ∷ ss) x = section_next a s x ∷ row_next cs ss (section_out a s x)

-- a sample at the sections' scale
abbrev pub scaled : ℤ → ℤ
scaled x = pos 1024 *ℤ x

-- section a on the even sample of a pair, with word 0, and section b on the odd one, with word 1
unfoldable pub even_out : ℤ → List ℤ → ℤ × ℤ → ℤ
even_out a w x = section_out a (w ! 0) (scaled x.0)

unfoldable pub odd_out : ℤ → List ℤ → ℤ × ℤ → ℤ
odd_out b w x = section_out b (w ! 1) (scaled x.1)

unfoldable pub halves_next : ℤ → ℤ → List ℤ → ℤ × ℤ → List ℤ
halves_next a b w x = section_next a (w ! 0) (scaled x.0) ∷ section_next b (w ! 1) (scaled x.1) ∷ []
