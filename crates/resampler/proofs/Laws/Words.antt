-- The live words of a record through a pass: they stay as many as the path uses, so the record that keeps them has them as its
-- live words again. Assumes nothing.
use mathlib.Core.Path.{◌≡◌, refl, ◌∙◌}
use mathlib.Core.Bool.{true, ◌&&◌}
use mathlib.Core.List.{List, [], ◌∷◌, ◌++◌}
use Prim.Native.Nat.{ℕ, ◌-◌, ◌≤◌}
use native.Mathlib.Omega.{arith}
use borrow.Author.Tests.{leb-true}
use lib.Dec.{leb}
use lib.IntN.{ℤ}
use lib.ListN.{length, length-append, length-drop}
use lib.Seq.{length-take-le}
use Rattle.filters.specs.Lists.{last}
use Rattle.filters.specs.Stage.IirFir.{iir_fir_next}
use Rattle.filters.specs.Stage.DownFir.{down_fir_carried}
use Rattle.filters.specs.Stage.Ar2.{ar2}
use Rattle.filters.proofs.Laws.Lists.{both_true, take-padded}
use Rattle.filters.proofs.Laws.Lengths.{up2_end-length, iir_fir_next-length, ar2_end-length}
use Rattle.filters.proofs.Laws.Run.{end-keeps}
use Rattle.filters.specs.Run.{pass_end}
use Rattle.resampler.specs.declared.Record.{Record}
use Rattle.resampler.specs.Pairs.{Pair, Path, copy, doubler, interpolator, down, supported, path, filter}
use Rattle.resampler.specs.Record.{Words, arrays, living, live, pair_of, keeping}
use Rattle.resampler.specs.Resample.{after_path, batch_next, pass_words}
use Rattle.resampler.proofs.Laws.Pairs.{of-each}
use Rattle.resampler.proofs.Laws.Entries.{Whole}
use Rattle.resampler.proofs.Laws.Passes.{unused}

-- as many words as are live on a path
abbrev pub Sized : Path → Words → Type 0
Sized q w =
    let n = living q in
    (length w.doubler ≡ n.doubler) × (length w.samples ≡ n.samples) × (length w.ar2 ≡ n.ar2) × (length w.fir ≡ n.fir)

-- no path uses more than there are
room : (p : Pair) → supported p ≡ true → let n = living (path p) in (n.doubler ≤ 6) × (n.samples ≤ 8) × (n.ar2 ≤ 2) × (n.fir ≤ 36)
unfolding living path filter
room p h =
    let t = of-each (λ p. let n = living (path p) in leb n.doubler 6 && (leb n.samples 8 && (leb n.ar2 2 && leb n.fir 36))) refl p h in
    let (d, t1) = both_true _ _ t in
    let (x, t2) = both_true _ _ t1 in
    let (a, f) = both_true _ _ t2 in
    (leb-true _ 6 d, leb-true _ 8 x, leb-true _ 2 a, leb-true _ 36 f)

none : {A : Type 0} (xs : List A) → length xs ≡ 0 → xs ≡ []
none [] h = refl
none (x ∷ xs) h = absurd (omega (arith, h))

pub sized-unused : (q : Path) (w : Words) → Sized q w → unused q w
unfolding living unused
sized-unused copy w (d, x, a, f) = (none _ d, none _ x, none _ a, none _ f)
sized-unused doubler w (d, x, a, f) = (none _ x, none _ a, none _ f)
sized-unused interpolator w (d, x, a, f) = (none _ a, none _ f)
sized-unused (down g) w (d, x, a, f) = (none _ d, none _ x)

pub live-sized : (s : Record) → supported (pair_of s) ≡ true → Whole s → Sized (path (pair_of s)) (live s)
unfolding live
live-sized s h w =
    let r = room (pair_of s) h in (
      length-take-le _ s.doubler (omega (arith, r.0, w.0)),
      length-take-le _ s.samples (omega (arith, r.1, w.1)),
      length-take-le _ s.ar2 (omega (arith, r.2, w.2)),
      length-take-le _ s.fir (omega (arith, r.3, w.3)),
    )

last-length : (n : ℕ) (xs : List ℤ) → n ≤ length xs → length (last n xs) ≡ n
last-length n xs h = length-drop (length xs - n) xs ∙ omega arith

after-sized : (q : Path) (w : Words) (xs : List ℤ) → Sized q w → Sized q (after_path q w xs)
unfolding living after_path iir_fir_next down_fir_carried
after-sized copy w xs h = (refl, refl, refl, refl)
after-sized doubler w xs h = (up2_end-length w.doubler xs h.0, refl, refl, refl)
after-sized interpolator w xs h =
    let (d, x) = iir_fir_next-length (w.doubler, w.samples) xs h.0 h.1 in
    (d, x, refl, refl)
after-sized (down g) w xs h =
    let ys = ar2 g.coefs w.ar2 xs in
    let l = length-append w.fir ys in
    (refl, refl, ar2_end-length g.coefs w.ar2 xs h.2, last-length g.order (w.fir ++ ys) (omega (arith, l, h.3)))

module _ (p : Pair) (w : Words) where
  pub pass-sized : (xs : List ℤ) → Sized (path p) w → Sized (path p) (pass_words p w xs)
  unfolding pass_words pass_end batch_next
  pass-sized xs h = end-keeps (batch_next p) (Sized (path p)) (λ v ys k. after-sized (path p) v ys k) w _ h

  pub keeping-live : (d : List ℤ) → Sized (path p) w → live (keeping p w d) ≡ w
  unfolding live keeping
  keeping-live d h =
      let a = take-padded 6 w.doubler _ h.0 in
      let b = take-padded 8 w.samples _ h.1 in
      let c = take-padded 2 w.ar2 _ h.2 in
      let f = take-padded 36 w.fir _ h.3 in
      λ i. arrays (a i) (b i) (c i) (f i)
