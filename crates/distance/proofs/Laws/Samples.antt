-- The doubler sample by sample: the bounds of its six sections pass their tests, and each sample keeps them. Assumes nothing.
use mathlib.Core.Path.{◌≡◌, refl, ap, subst, ◌∙◌}
use mathlib.Core.Bool.{true}
use mathlib.Core.List.{List, [], ◌∷◌, ◌++◌, map}
use Prim.Native.Nat.{ℕ, ◌*◌, ◌<◌, ◌≤◌}
use native.Mathlib.Omega.{arith}
use borrow.Author.Tests.{ltb-true}
use lib.IntN.{ℤ, pos, negsuc, nat_abs, ◌-ℤ◌, ◌*ℤ◌}
use lib.ListN.{take, drop, replicate, take-append-drop}
use lib.Seq.{take_at, drop_at}
use Rattle.fixed.proofs.Laws.Integer.{pn-abs, p-scale, n-scale}
use Rattle.fixed.proofs.Laws.Ring.{#, lit, ◌⊖◌, ◌⊗◌, eq_z}
use Rattle.filters.specs.Lists.{every}
use Rattle.filters.specs.Run.{run, end}
use Rattle.filters.specs.Rom.{silk_resampler_up2_hq_0, silk_resampler_up2_hq_1}
use Rattle.filters.specs.Section.{scaled, row_next}
use Rattle.filters.specs.Stage.Up2Hq.{up2_even, up2_odd, up2_raw, up2_out, up2_next, up2_end}
use Rattle.filters.proofs.Laws.Lists.{both_true}
use Rattle.distance.specs.Exact.{Fraction, whole, through_next, exact_out, exact_next, exact_both, exact_words}
use Rattle.distance.specs.Distance.{Matched, sample?}
use Rattle.distance.specs.Claims.{Close, CloseRounded, fresh, plain_raw, plain_words, bounds as sizes}
use Rattle.distance.proofs.Laws.Near.{Near, Bounds, RowNear, tests, row_out-near, row_next-near, row-lengths, row_plain, row-sizes}
use Rattle.distance.proofs.Laws.Within.{within}
use Rattle.distance.proofs.Laws.Round.{rounds}

abbrev bounds : ℕ → ℕ → ℕ → ℕ → ℕ → ℕ → Bounds
bounds a b word out off out_off = record { a = a; b = b; word = 1048576 * word; out = 1048576 * out; off = off; out_off = out_off }

-- of the even output and of the odd
abbrev pub even : List Bounds
even = bounds 1746 63790 34 34 66 129 ∷ bounds 14986 50550 55 51 289 317 ∷ bounds 39083 26453 203 113 1413 824 ∷ []

abbrev pub odd : List Bounds
odd = bounds 6854 58682 40 40 72 129 ∷ bounds 25769 39767 93 73 402 359 ∷ bounds 55542 9994 890 198 4769 1096 ∷ []

abbrev most : ℕ
most = 33554432

even-passes : tests most 0 even ≡ true
even-passes = refl

odd-passes : tests most 0 odd ≡ true
odd-passes = refl

-- a sample at the sections' scale is exact
few : (x : ℤ) → sample? x ≡ true → nat_abs x ≤ 32768
unfolding sample?
few (pos n) h = omega (arith, ltb-true n 32768 h)
few (negsuc n) h = omega (arith, ltb-true n 32768 h)

sample-size : (x : ℤ) → sample? x ≡ true → nat_abs (scaled x) ≤ most
sample-size x h = omega (arith, few x h, pn-abs x, pn-abs (scaled x), p-scale 1024 x, n-scale 1024 x)

nothing : (D : ℕ) (z : ℤ) → pos 64 *ℤ (pos D *ℤ z -ℤ z *ℤ pos D) ≡ pos 0
nothing D z = eq_z (lit 64 ⊗ (lit D ⊗ # z ⊖ # z ⊗ lit D)) (lit 0) (omega arith)

given : (D m e : ℕ) (z : ℤ) → nat_abs z ≤ m → Near D m e z (whole z)
given D m e z h = record {
  size = h;
  num = z *ℤ pos D;
  reads = eq_z (# z ⊗ lit D) (# z ⊗ lit D ⊗ lit 1) (omega arith);
  under = omega arith;
  off = rw (nothing D z) (omega arith);
}

-- ---- a sample

pub record State (D : ℕ) (w : List ℤ) (f : List Fraction) : Type 0 where
  pub evens : RowNear D even (take 3 w) (take 3 f)
  pub odds : RowNear D odd (drop 3 w) (drop 3 f)

pub started : State 1 fresh (replicate 6 (whole (pos 0)))
started = record {
  evens = (given _ _ _ (pos 0) (omega arith), (given _ _ _ (pos 0) (omega arith), (given _ _ _ (pos 0) (omega arith), tt)));
  odds = (given _ _ _ (pos 0) (omega arith), (given _ _ _ (pos 0) (omega arith), (given _ _ _ (pos 0) (omega arith), tt)));
}

module _ (D : ℕ) (w : List ℤ) (f : List Fraction) (h : State D w f) (x : ℤ) (k : sample? x ≡ true) where
  abbrev input : Near D most 0 (scaled x) (whole (scaled x))
  input = given D most 0 (scaled x) (sample-size x k)

  -- the new words of the two rows, and of their exact ones
  abbrev words0 : List ℤ
  words0 = row_next silk_resampler_up2_hq_0 (take 3 w) (scaled x)

  abbrev words1 : List ℤ
  words1 = row_next silk_resampler_up2_hq_1 (drop 3 w) (scaled x)

  abbrev exact0 : List Fraction
  exact0 = through_next exact_out exact_next silk_resampler_up2_hq_0 (take 3 f) (whole (scaled x))

  abbrev exact1 : List Fraction
  exact1 = through_next exact_out exact_next silk_resampler_up2_hq_1 (drop 3 f) (whole (scaled x))

  pub moved : State (65536 * D) (up2_next w x) (exact_words f x)
  unfolding up2_next exact_words silk_resampler_up2_hq_0 silk_resampler_up2_hq_1
  moved =
      let e = row_next-near even most 0 D even-passes input (take 3 w) (take 3 f) h.evens in
      let o = row_next-near odd most 0 D odd-passes input (drop 3 w) (drop 3 f) h.odds in
      let (l, m) = row-lengths even (65536 * D) words0 exact0 e in
      record {
        evens = rw (take_at words0 words1 3 l, take_at exact0 exact1 3 m) e;
        odds = rw (drop_at words0 words1 3 l, drop_at exact0 exact1 3 m) o;
      }

  pub close : 0 < D → Close (up2_raw w x) (exact_both f x)
  unfolding up2_raw up2_even up2_odd exact_both silk_resampler_up2_hq_0 silk_resampler_up2_hq_1
  close s =
      let e = row_out-near even most 0 D even-passes input (take 3 w) (take 3 f) h.evens in
      let o = row_out-near odd most 0 D odd-passes input (drop 3 w) (drop 3 f) h.odds in
      let d : 0 < 65536 * (65536 * (65536 * D)) = omega arith in (
        within (65536 * (65536 * (65536 * D))) 824 _ (up2_even w x) (exact_both f x).0 e.num e.reads e.under e.off (omega arith) d,
        within (65536 * (65536 * (65536 * D))) 1096 _ (up2_odd w x) (exact_both f x).1 o.num o.reads o.under o.off (omega arith) d,
      )

  pub unwrapped : (up2_raw w x ≡ plain_raw w x) × (up2_next w x ≡ plain_words w x)
  unfolding up2_raw up2_even up2_odd up2_next plain_raw plain_words silk_resampler_up2_hq_0 silk_resampler_up2_hq_1
  unwrapped =
      let (e, n) = row_plain even most 0 D even-passes input (take 3 w) (take 3 f) h.evens in
      let (o, m) = row_plain odd most 0 D odd-passes input (drop 3 w) (drop 3 f) h.odds in
      (λ i. e i ∷ o i ∷ [], λ i. n i ++ m i)

-- ---- all of them

matched-append : {A B : Type 0} (R : A → B → Type 0) (a c : List A) (b d : List B) → Matched R a b → Matched R c d → Matched R (a ++ c) (b ++ d)
matched-append R [] c [] d p q = q
matched-append R [] c (y ∷ b) d p q = absurd p
matched-append R (x ∷ a) c [] d p q = absurd p
matched-append R (x ∷ a) c (y ∷ b) d (r, p) q = (r, matched-append R a c b d p q)

pub plain-run : (D : ℕ) (w : List ℤ) (f : List Fraction) → State D w f → (xs : List ℤ) → every sample? xs ≡ true
    → (run up2_raw up2_next w xs ≡ run plain_raw plain_words w xs) × Matched (λ s n. nat_abs s ≤ n) (up2_end w xs) sizes
unfolding run end up2_end
plain-run D w f h [] k = (
  refl,
  subst (λ (v : List ℤ). Matched (λ s n. nat_abs s ≤ n) v sizes) (take-append-drop 3 w)
      (matched-append _ (take 3 w) (drop 3 w) (map (λ β. β.word) even) (map (λ β. β.word) odd) (row-sizes even D (take 3 w) (take 3 f) h.evens) (row-sizes odd D (drop 3 w) (drop 3 f) h.odds)),
)
plain-run D w f h (x ∷ xs) k =
    let (k1, k2) = both_true (sample? x) _ k in
    let (o, n) = unwrapped D w f h x k1 in
    let (r, b) = plain-run (65536 * D) (up2_next w x) (exact_words f x) (moved D w f h x k1) xs k2 in
    ((λ i. o i ∷ (r ∙ ap (λ (v : List ℤ). run plain_raw plain_words v xs) n) i), b)

-- what holds of the outputs of each sample holds of all
module _ (out : List ℤ → ℤ → List ℤ) (R : List ℤ → Fraction × Fraction → Type 0)
    (one : (D : ℕ) (w : List ℤ) (f : List Fraction) → State D w f → (x : ℤ) → sample? x ≡ true → 0 < D → R (out w x) (exact_both f x)) where
  pub all : (D : ℕ) (w : List ℤ) (f : List Fraction) → State D w f → 0 < D → (xs : List ℤ) → every sample? xs ≡ true
      → Matched R (run out up2_next w xs) (run exact_both exact_words f xs)
  unfolding run
  all D w f h s [] k = tt
  all D w f h s (x ∷ xs) k =
      let (k1, k2) = both_true (sample? x) _ k in
      (one D w f h x k1 s, all (65536 * D) (up2_next w x) (exact_words f x) (moved D w f h x k1) (omega arith) xs k2)

-- after rounding
pub close-rounded : (D : ℕ) (w : List ℤ) (f : List Fraction) → State D w f → (x : ℤ) → sample? x ≡ true → 0 < D → CloseRounded (up2_out w x) (exact_both f x)
unfolding up2_raw up2_out
close-rounded D w f h x k s =
    let (e, o) = close D w f h x k s in
    (rounds 13 (up2_even w x) (exact_both f x).0 (omega arith) e, rounds 18 (up2_odd w x) (exact_both f x).1 (omega arith) o)
