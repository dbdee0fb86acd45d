-- Stages that make numbers part by part and narrow them apart: the narrowed numbers are the stage's outputs, and what it makes
-- of parts, one behind the other, is what it makes of the whole. Assumes nothing.
use mathlib.Core.Path.{◌≡◌, refl, sym, ap, ◌∙◌}
use mathlib.Core.List.{List, [], ◌++◌, map}
use Prim.Native.Nat.{ℕ, ◌*◌}
use lib.IntN.{ℤ}
use lib.ListN.{take, drop, take-append-drop}
use Rattle.fixed.specs.Fixed.{narrowed}
use Rattle.filters.specs.Lists.{joined, pairs}
use Rattle.filters.specs.Run.{run, end}
use Rattle.filters.specs.Stage.Up2Hq.{up2_raw, up2_out, up2_next, up2, up2_end}
use Rattle.filters.specs.Stage.Down2.{down2_sum, down2_out, down2_next, down2, down2_end}
use Rattle.filters.proofs.Laws.Lists.{pairs-split}
use Rattle.filters.proofs.Laws.Run.{run-append, run-map, end-append, joined-append, joined-map}

-- ---- the doubler

pub up2-narrowed : (w xs : List ℤ) → map (narrowed 10) (joined (run up2_raw up2_next w xs)) ≡ up2 w xs
unfolding up2 up2_raw up2_out
up2-narrowed w xs = joined-map (narrowed 10) up2_raw up2_next w xs

pub up2-nothing : (w : List ℤ) → (up2 w [] ≡ []) × (up2_end w [] ≡ w)
unfolding up2 up2_end run joined end
up2-nothing w = (refl, refl)

pub up2-parts : (n : ℕ) (w xs : List ℤ)
    → (up2 w xs ≡ up2 w (take n xs) ++ up2 (up2_end w (take n xs)) (drop n xs)) × (up2_end w xs ≡ up2_end (up2_end w (take n xs)) (drop n xs))
unfolding up2 up2_end
up2-parts n w xs =
    let cut = sym (take-append-drop n xs) in
    let a = take n xs in (
      ap (λ (t : List ℤ). joined (run up2_out up2_next w t)) cut ∙ ap joined (run-append up2_out up2_next w a (drop n xs))
          ∙ joined-append (run up2_out up2_next w a) _,
      ap (end up2_next w) cut ∙ end-append up2_next w a (drop n xs),
    )

-- ---- the 1/2 decimator, cut between two pairs

pub down2-narrowed : (w xs : List ℤ) → map (narrowed 11) (run down2_sum down2_next w (pairs xs)) ≡ down2 w xs
unfolding down2 down2_out
down2-narrowed w xs = run-map down2_sum down2_next (narrowed 11) w (pairs xs)

pub down2-nothing : (w : List ℤ) → (down2 w [] ≡ []) × (down2_end w [] ≡ w)
unfolding down2 down2_end run end pairs
down2-nothing w = (refl, refl)

pub down2-parts : (m : ℕ) (w xs : List ℤ)
    → (down2 w xs ≡ down2 w (take (2 * m) xs) ++ down2 (down2_end w (take (2 * m) xs)) (drop (2 * m) xs))
    × (down2_end w xs ≡ down2_end (down2_end w (take (2 * m) xs)) (drop (2 * m) xs))
unfolding down2 down2_end
down2-parts m w xs =
    let cut = pairs-split m xs in
    let a = pairs (take (2 * m) xs) in
    let b = pairs (drop (2 * m) xs) in (
      ap (run down2_out down2_next w) cut ∙ run-append down2_out down2_next w a b,
      ap (end down2_next w) cut ∙ end-append down2_next w a b,
    )
