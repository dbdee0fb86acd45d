-- Three sections in a row, written out. Assumes nothing.
use mathlib.Core.Path.{◌≡◌, refl}
use mathlib.Core.List.{List, [], ◌∷◌}
use lib.IntN.{ℤ}
use lib.ListN.{length}
use Rattle.filters.specs.Lists.{◌!◌, tabulate}
use Rattle.filters.proofs.Laws.Lists.{spelt}
use Rattle.filters.specs.Section.{section_out, section_next, row_out, row_next}

-- what each puts out is the next one's input
pub row-three : (c w : List ℤ) (x : ℤ) {p q r d e f : ℤ} → length c ≡ 3 → length w ≡ 3 → p ≡ section_out (c ! 0) (w ! 0) x → d ≡ section_next (c ! 0) (w ! 0) x
    → q ≡ section_out (c ! 1) (w ! 1) p → e ≡ section_next (c ! 1) (w ! 1) p → r ≡ section_out (c ! 2) (w ! 2) q → f ≡ section_next (c ! 2) (w ! 2) q
    → (r ≡ row_out c w x) × (d ∷ e ∷ f ∷ [] ≡ row_next c w x)
unfolding row_out row_next tabulate
row-three c w x h l p d q e r f = rw (spelt 3 c h, spelt 3 w l) (rw (r, q, p) refl, rw (d, e, f, q, p) refl)
