-- How many samples each stage puts out, and how many words it carries on. Assumes nothing.
use mathlib.Core.Path.{◌≡◌, refl, ◌∙◌, ap}
use mathlib.Core.List.{List, [], ◌∷◌, ◌++◌}
use Prim.Native.Nat.{ℕ, suc, ◌*◌, ◌/◌, ◌≤◌, ◌-◌}
use native.Mathlib.Nat.{not-suc-le-zero, le_of_suc-le-suc}
use native.Mathlib.Omega.{arith}
use lib.IntN.{ℤ}
use lib.ListN.{length, take, drop, length-append, length-drop}
use lib.Seq.{length-take-le}
use Rattle.filters.specs.Lists.{joined}
use Rattle.filters.specs.Run.{run}
use Rattle.filters.specs.Rom.{silk_resampler_up2_hq_0, silk_resampler_up2_hq_1}
use Rattle.filters.specs.declared.rates.Rates.{Rates}
use Rattle.filters.specs.Reader.{read, outputs}
use Rattle.filters.specs.Section.{scaled, section_out, row_next}
use Rattle.fixed.specs.Ar2.{ar2_out, ar2_after, ar2_next}
use Rattle.filters.specs.Stage.Ar2.{ar2, ar2_end}
use Rattle.filters.specs.Stage.Up2Hq.{up2, up2_end, up2_raw, up2_out, up2_next}
use Rattle.filters.specs.Stage.DownFir.{Filter, outer_sums, down_fir, down_batch}
use Rattle.filters.specs.Stage.IirFir.{iir_fir, iir_fir_carried, iir_fir_batch, iir_fir_next}
use Rattle.filters.specs.Stage.Down2.{down2, down2_out, down2_next}
use Rattle.filters.specs.Stage.AnaFiltBank1.{split_low, split_high, low_out, high_out, split_next}
use Rattle.filters.proofs.Laws.Lists.{tabulate-length, pairs-length}
use Rattle.filters.proofs.Laws.Run.{run_length, end-keeps}

-- ---- AR2

pub ar2-length : (A s xs : List ℤ) → length (ar2 A s xs) ≡ length xs
unfolding ar2
ar2-length A s xs = run_length ar2_out (ar2_next A) s xs

pub ar2_end-length : (A s xs : List ℤ) → length s ≡ 2 → length (ar2_end A s xs) ≡ 2
unfolding ar2_end ar2_next ar2_after
ar2_end-length A s xs h = end-keeps (ar2_next A) (λ w. length w ≡ 2) (λ w x k. refl) s xs h

-- ---- the doubler

row_next-length : (cs ss : List ℤ) (x : ℤ) → length cs ≤ length ss → length (row_next cs ss x) ≡ length cs
unfolding row_next
row_next-length [] ss x h = refl
row_next-length (a ∷ cs) [] x h = absurd (not-suc-le-zero h)
row_next-length (a ∷ cs) (s ∷ ss) x h = ap suc (row_next-length cs ss (section_out a s x) (le_of_suc-le-suc h))

pub up2_next-length : (w : List ℤ) (x : ℤ) → length w ≡ 6 → length (up2_next w x) ≡ 6
unfolding up2_next silk_resampler_up2_hq_0 silk_resampler_up2_hq_1
up2_next-length w x h =
    let e = row_next-length silk_resampler_up2_hq_0 (take 3 w) (scaled x) (omega (arith, length-take-le 3 w (omega arith))) in
    let o = row_next-length silk_resampler_up2_hq_1 (drop 3 w) (scaled x) (omega (arith, length-drop 3 w)) in
    length-append (row_next silk_resampler_up2_hq_0 (take 3 w) (scaled x)) _ ∙ omega arith

pub up2_end-length : (w xs : List ℤ) → length w ≡ 6 → length (up2_end w xs) ≡ 6
unfolding up2_end
up2_end-length w xs h = end-keeps up2_next (λ v. length v ≡ 6) up2_next-length w xs h

-- a run that puts out two each time, before narrowing and after
two-each : (out : List ℤ → ℤ → List ℤ) → ((w : List ℤ) (x : ℤ) → length (out w x) ≡ 2) → (w xs : List ℤ) → length (joined (run out up2_next w xs)) ≡ 2 * length xs
unfolding run joined
two-each out two w [] = refl
two-each out two w (x ∷ xs) = let e = two-each out two (up2_next w x) xs in length-append (out w x) _ ∙ omega (arith, two w x)

pub up2_raw-length : (w xs : List ℤ) → length (joined (run up2_raw up2_next w xs)) ≡ 2 * length xs
unfolding up2_raw
up2_raw-length = two-each up2_raw (λ w x. refl)

pub up2-length : (w xs : List ℤ) → length (up2 w xs) ≡ 2 * length xs
unfolding up2 up2_out
up2-length = two-each up2_out (λ w x. refl)

-- the same, sample by sample
pub up2-counts : (w xs : List ℤ) → length (up2 w xs) ≡ length xs / 1 * 2
up2-counts w xs = up2-length w xs ∙ omega arith

-- ---- the down filters

pub outer_sums-length : (order : ℕ) (buf : List ℤ) → length (outer_sums order buf) ≡ order / 2
unfolding outer_sums
outer_sums-length order buf = tabulate-length 0 (order / 2) _

pub down_batch-length : (f : Filter) (r : Rates) (s : List ℤ × List ℤ) (xs : List ℤ) → length (down_batch f r s xs) ≡ outputs r (length xs)
unfolding down_batch down_fir read
down_batch-length f r s xs = tabulate-length 0 (outputs r (length xs)) _

-- ---- the interpolator

pub iir_fir_batch-length : (r : Rates) (s : List ℤ × List ℤ) (xs : List ℤ) → length (iir_fir_batch r s xs) ≡ outputs r (length xs)
unfolding iir_fir_batch iir_fir read
iir_fir_batch-length r s xs = tabulate-length 0 (outputs r (length xs)) _

pub iir_fir_next-length : (s : List ℤ × List ℤ) (xs : List ℤ) → length s.0 ≡ 6 → length s.1 ≡ 8
    → (length (iir_fir_next s xs).0 ≡ 6) × (length (iir_fir_next s xs).1 ≡ 8)
unfolding iir_fir_next iir_fir_carried
iir_fir_next-length s xs h k =
    let all = s.1 ++ up2 s.0 xs in
    (up2_end-length s.0 xs h, length-drop (length all - 8) all ∙ omega (arith, length-append s.1 (up2 s.0 xs)))

-- ---- the 1/2 decimator and the split

pub down2-length : (w xs : List ℤ) → length (down2 w xs) ≡ length xs / 2
unfolding down2
down2-length w xs = run_length down2_out down2_next w _ ∙ pairs-length xs

pub down2-counts : (w xs : List ℤ) → length (down2 w xs) ≡ length xs / 2 * 1
down2-counts w xs = down2-length w xs ∙ omega arith

pub split_low-length : (w xs : List ℤ) → length (split_low w xs) ≡ length xs / 2
unfolding split_low
split_low-length w xs = run_length low_out split_next w _ ∙ pairs-length xs

pub split_high-length : (w xs : List ℤ) → length (split_high w xs) ≡ length xs / 2
unfolding split_high
split_high-length w xs = run_length high_out split_next w _ ∙ pairs-length xs
