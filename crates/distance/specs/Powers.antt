-- The exact doubler on whole numbers. A list of whole numbers over D stands for fractions: the k-th number, counted from 0, for
-- itself over 65536^k D. So what is under grows by 65536 from sample to sample and is not written. A section multiplies what is
-- under by 65536 once more: from D = 1, the k-th output of three sections is a whole number over 65536^(k+3). Assumes nothing.
use Rattle.std.specs.Prelude.{◌≡◌, ℕ, ◌*◌, ◌<◌, List, [], ◌∷◌, ℤ, pos, ◌+ℤ◌, ◌-ℤ◌, ◌*ℤ◌}
use Rattle.filters.specs.Run.{run}
use Rattle.filters.specs.Section.{scaled}
use Rattle.distance.specs.Exact.{Fraction, fraction}

-- samples at the sections' scale, as numbers over D
unfoldable pub lifted : ℕ → List ℤ → List ℤ
lifted D [] = []
lifted D (v ∷ vs) = (scaled v *ℤ pos D) ∷ lifted (65536 * D) vs

-- a section's output and new word, 65536 times as large, from its word w and its input u, which are over one power
abbrev pub out_number : ℤ → ℤ → ℤ → ℤ
out_number a w u = pos 65536 *ℤ w +ℤ a *ℤ (u -ℤ w)

abbrev pub next_number : ℤ → ℤ → ℤ → ℤ
next_number a w u = pos 65536 *ℤ u +ℤ a *ℤ (u -ℤ w)

-- a section over a list
unfoldable pub numbers : ℤ → ℤ → List ℤ → List ℤ
numbers a w us = run (out_number a) (next_number a) w us

-- one section after the other, each over the whole list and from word 0
unfoldable pub passes : List ℤ → List ℤ → List ℤ
passes [] us = us
passes (a ∷ cs) us = passes cs (numbers a (pos 0) us)

-- numbers over D as the fractions that they stand for
abbrev pub powers : ℕ → List ℤ → List Fraction
powers D [] = []
powers D (u ∷ us) = fraction u D ∷ powers (65536 * D) us

-- two fractions of one value, neither of them over 0
abbrev pub Same : Fraction → Fraction → Type 0
Same f g = (0 < f.under) × (0 < g.under) × (f.over *ℤ pos g.under ≡ g.over *ℤ pos f.under)
