-- The 2/3 decimator goes on group by group: what it makes of three samples and more is what it makes of the three, then what
-- it makes of the rest from the words they leave. Assumes nothing.
use mathlib.Core.Path.{◌≡◌, refl, sym, ◌∙◌, ap}
use mathlib.Core.List.{List, [], ◌∷◌, ◌++◌}
use Prim.Native.Nat.{ℕ, zero, suc, ◌+◌, ◌-◌, ◌*◌, ◌/◌, ◌≤◌}
use native.Mathlib.Omega.{arith}
use lib.IntN.{ℤ}
use lib.ListN.{length, take, drop, length-append, length-drop}
use lib.Seq.{drop-drop, length-take-le}
use Rattle.filters.specs.Lists.{tabulate, joined, last, ◌!◌}
use Rattle.filters.specs.Run.{run, end}
use Rattle.fixed.specs.Fixed.{narrowed}
use Rattle.filters.specs.Reader.{sum}
use Rattle.filters.specs.Rom.{silk_Resampler_2_3_COEFS_LQ}
use Rattle.fixed.specs.Ar2.{ar2_out, ar2_next, ar2_after}
use Rattle.filters.specs.Stage.Ar2.{ar2, ar2_end}
use Rattle.filters.specs.Stage.Down2_3.{group_out, tapped, first_taps, second_taps, down23, down23_end}
use Rattle.filters.proofs.Laws.Lengths.{ar2_end-length}
use Rattle.filters.proofs.Laws.Lists.{spelt}

-- ---- the groups of a buffer

-- a group later is the same group three samples on
group-later : (i : ℕ) (buf : List ℤ) → group_out buf (i + 1) ≡ group_out (drop 3 buf) i
unfolding group_out
group-later i buf =
    let p : 3 * (i + 1) ≡ 3 + 3 * i = omega arith in
    let q : 3 * (i + 1) + 1 ≡ 3 + (3 * i + 1) = omega arith in
    let a = ap (λ (k : ℕ). drop k buf) p ∙ sym (drop-drop (3 * i) 3 buf) in
    let b = ap (λ (k : ℕ). drop k buf) q ∙ sym (drop-drop (3 * i + 1) 3 buf) in
    λ j. narrowed 6 (tapped first_taps (a j)) ∷ narrowed 6 (tapped second_taps (b j)) ∷ []

groups-later : (i m : ℕ) (buf : List ℤ) → tabulate (i + 1) m (group_out buf) ≡ tabulate i m (group_out (drop 3 buf))
unfolding tabulate
groups-later i zero buf = refl
groups-later i (suc m) buf = λ j. group-later i buf j ∷ groups-later (i + 1) m buf j

-- what stands before the last four does not matter
last-behind : (a b c : ℤ) (xs : List ℤ) → 4 ≤ length xs → last 4 (a ∷ b ∷ c ∷ xs) ≡ last 4 xs
last-behind a b c xs h =
    let n : length (a ∷ b ∷ c ∷ xs) - 4 ≡ suc (suc (suc (length xs - 4))) = omega arith in
    rw n refl

-- ---- six words, three samples and the rest

pub six : (w : List ℤ) → length w ≡ 6 → w ≡ w ! 0 ∷ w ! 1 ∷ w ! 2 ∷ w ! 3 ∷ w ! 4 ∷ w ! 5 ∷ []
unfolding tabulate
six w h = spelt 6 w h

module _ (b0 b1 b2 b3 s0 s1 : ℤ) where
  abbrev words : List ℤ
  words = b0 ∷ b1 ∷ b2 ∷ b3 ∷ s0 ∷ s1 ∷ []

  abbrev poles : List ℤ
  poles = s0 ∷ s1 ∷ []

  -- one group, of which AR2 makes ys and leaves ts
  module _ (x y z : ℤ) {ys ts : List ℤ} (made : ys ≡ ar2 silk_Resampler_2_3_COEFS_LQ poles (x ∷ y ∷ z ∷ [])) (left : ts ≡ ar2_end silk_Resampler_2_3_COEFS_LQ poles (x ∷ y ∷ z ∷ [])) (n : length ys ≡ 3) (m : length ts ≡ 2) where
    pub one_out : narrowed 6 (tapped first_taps (b0 ∷ b1 ∷ b2 ∷ b3 ∷ [])) ∷ narrowed 6 (tapped second_taps (b1 ∷ b2 ∷ b3 ∷ ys ! 0 ∷ [])) ∷ [] ≡ down23 words (x ∷ y ∷ z ∷ [])
    unfolding down23 joined tabulate group_out tapped sum
    one_out = λ i. joined (tabulate 0 1 (group_out (b0 ∷ b1 ∷ b2 ∷ b3 ∷ (sym (spelt 3 ys n) ∙ made) i)))

    pub one_end : b3 ∷ ys ! 0 ∷ ys ! 1 ∷ ys ! 2 ∷ ts ! 0 ∷ ts ! 1 ∷ [] ≡ down23_end words (x ∷ y ∷ z ∷ [])
    unfolding down23_end tabulate
    one_end = λ i. last 4 (b0 ∷ b1 ∷ b2 ∷ b3 ∷ (sym (spelt 3 ys n) ∙ made) i) ++ (sym (spelt 2 ts m) ∙ left) i

  module _ (x y z : ℤ) (rest : List ℤ) where
    abbrev three : List ℤ
    three = x ∷ y ∷ z ∷ []

    words-first : down23 words (x ∷ y ∷ z ∷ rest) ≡ down23 words three ++ down23 (down23_end words three) rest
    unfolding down23 down23_end joined tabulate group_out tapped sum ar2 ar2_end run end ar2_next ar2_after
    words-first =
        let m : length (x ∷ y ∷ z ∷ rest) / 3 ≡ suc (length rest / 3) = omega arith in
        rw (m, groups-later 0 (length rest / 3)) refl

    words-end : down23_end words (x ∷ y ∷ z ∷ rest) ≡ down23_end (down23_end words three) rest
    unfolding down23_end ar2 ar2_end run end ar2_next ar2_after
    words-end =
        let left = ar2_end silk_Resampler_2_3_COEFS_LQ poles three in
        let new = ar2 silk_Resampler_2_3_COEFS_LQ poles three ++ ar2 silk_Resampler_2_3_COEFS_LQ left rest in
        ap (λ (l : List ℤ). l ++ ar2_end silk_Resampler_2_3_COEFS_LQ left rest) (last-behind b0 b1 b2 (b3 ∷ new) (omega arith))

-- the same, of any six words
module _ (w : List ℤ) (x y z : ℤ) (rest : List ℤ) (h : length w ≡ 6) where
  abbrev group : List ℤ
  group = x ∷ y ∷ z ∷ []

  pub group-first : down23 w (x ∷ y ∷ z ∷ rest) ≡ down23 w group ++ down23 (down23_end w group) rest
  group-first = rw (six w h) (words-first (w ! 0) (w ! 1) (w ! 2) (w ! 3) (w ! 4) (w ! 5) x y z rest)

  pub group-end : down23_end w (x ∷ y ∷ z ∷ rest) ≡ down23_end (down23_end w group) rest
  group-end = rw (six w h) (words-end (w ! 0) (w ! 1) (w ! 2) (w ! 3) (w ! 4) (w ! 5) x y z rest)

-- and of no sample nothing comes
pub no-group : (w : List ℤ) → length w ≡ 6 → down23_end w [] ≡ w
unfolding down23_end ar2 ar2_end run end
no-group w h = rw (six w h) refl

-- ---- lengths

groups-length : (i m : ℕ) (buf : List ℤ) → length (joined (tabulate i m (group_out buf))) ≡ 2 * m
unfolding joined tabulate group_out
groups-length i zero buf = refl
groups-length i (suc m) buf = let e = groups-length (i + 1) m buf in omega arith

pub down23-length : (w xs : List ℤ) → length (down23 w xs) ≡ 2 * (length xs / 3)
unfolding down23
down23-length w xs = groups-length 0 (length xs / 3) (take 4 w ++ ar2 silk_Resampler_2_3_COEFS_LQ (drop 4 w) xs)

pub down23_end-length : (w xs : List ℤ) → length w ≡ 6 → length (down23_end w xs) ≡ 6
unfolding down23_end
down23_end-length w xs h =
    let new = take 4 w ++ ar2 silk_Resampler_2_3_COEFS_LQ (drop 4 w) xs in
    let carried = length-drop (length new - 4) new in
    let four = length-append (take 4 w) (ar2 silk_Resampler_2_3_COEFS_LQ (drop 4 w) xs) in
    let poles = ar2_end-length silk_Resampler_2_3_COEFS_LQ (drop 4 w) xs (length-drop 4 w ∙ omega arith) in
    length-append (last 4 new) _ ∙ omega (arith, length-take-le 4 w (omega arith))

-- three steps of AR2 are its run over three samples
pub three_steps : (A s : List ℤ) (x y z : ℤ) {p q r : ℤ} {a b c : List ℤ} → p ≡ ar2_out s x → a ≡ ar2_after A s p → q ≡ ar2_out a y → b ≡ ar2_after A a q
    → r ≡ ar2_out b z → c ≡ ar2_after A b r → (p ∷ q ∷ r ∷ [] ≡ ar2 A s (x ∷ y ∷ z ∷ [])) × (c ≡ ar2_end A s (x ∷ y ∷ z ∷ []))
unfolding ar2 ar2_end ar2_next run end
three_steps A s x y z d e f g h i = (rw (h, g, f, e, d) refl, rw (i, h, g, f, e, d) refl)
