-- A pass of the resampler on each path is the pass of its stage: the words that the path uses go through the stage, and the
-- others stay empty. Assumes nothing.
use mathlib.Core.Path.{◌≡◌, refl, sym, ap, ◌∙◌, subst}
use mathlib.Core.List.{List, [], ◌∷◌}
use Prim.Native.Nat.{ℕ, ◌*◌, ◌<◌}
use lib.IntN.{ℤ}
use native.Mathlib.Omega.{arith}
use lib.ListN.{take-append-drop}
use Rattle.filters.proofs.Laws.Run.{end-keeps}
use Rattle.stages.proofs.Laws.Pass.{pass-whole}
use Rattle.stages.proofs.Laws.Parts.{up2-nothing, up2-parts}
use Rattle.filters.specs.declared.rates.Rates.{Rates}
use Rattle.filters.specs.Lists.{joined, cut}
use Rattle.filters.specs.Run.{run, end, pass_out, pass_end}
use Rattle.filters.specs.Stage.Up2Hq.{up2, up2_end}
use Rattle.filters.specs.Stage.IirFir.{iir_fir_batch, iir_fir_next, iir_fir_pass, iir_fir_end}
use Rattle.filters.specs.Stage.DownFir.{Filter, down_batch, down_next, down_pass, down_end}
use Rattle.resampler.specs.Pairs.{Pair, Path, copy, doubler, interpolator, down, path}
use Rattle.resampler.specs.Record.{Words, arrays}
use Rattle.resampler.specs.Resample.{rates_of, made, on_path, after_path, batch_out, batch_next, pass, pass_words}

-- ---- a stage whose state is a part of another's

module _ {S R A B : Type 0} (out : S → List A → List B) (next : S → List A → S) (out' : R → List A → List B) (next' : R → List A → R) (f : S → R)
    (same : (s : S) (xs : List A) → (out s xs ≡ out' (f s) xs) × (f (next s xs) ≡ next' (f s) xs)) where
  run-part : (s : S) (xss : List (List A)) → (run out next s xss ≡ run out' next' (f s) xss) × (f (end next s xss) ≡ end next' (f s) xss)
  unfolding run end
  run-part s [] = (refl, refl)
  run-part s (xs ∷ xss) =
      let (o, n) = same s xs in
      let (r, e) = run-part (next s xs) xss in
      ((λ i. o i ∷ (r ∙ ap (λ (t : R). run out' next' t xss) n) i), e ∙ ap (λ (t : R). end next' t xss) n)

  pub pass-part : (n : ℕ) (s : S) (xs : List A) → (pass_out out next n s xs ≡ pass_out out' next' n (f s) xs) × (f (pass_end next n s xs) ≡ pass_end next' n (f s) xs)
  unfolding pass_out pass_end
  pass-part n s xs = let (r, e) = run-part s (cut n xs) in (ap joined r, e)

-- ---- the words that a path does not use

unfoldable pub unused : Path → Words → Type 0
unused copy w = (w.doubler ≡ []) × (w.samples ≡ []) × (w.ar2 ≡ []) × (w.fir ≡ [])
unused doubler w = (w.samples ≡ []) × (w.ar2 ≡ []) × (w.fir ≡ [])
unused interpolator w = (w.ar2 ≡ []) × (w.fir ≡ [])
unused (down f) w = (w.doubler ≡ []) × (w.samples ≡ [])

after-unused : (q : Path) (w : Words) (xs : List ℤ) → unused q (after_path q w xs)
unfolding after_path unused
after-unused copy w xs = (refl, refl, refl, refl)
after-unused doubler w xs = (refl, refl, refl)
after-unused interpolator w xs = (refl, refl)
after-unused (down f) w xs = (refl, refl)

-- ---- each path

module _ (p : Pair) (w : Words) (xs : List ℤ) where
  stay-unused : unused (path p) w → unused (path p) (pass_words p w xs)
  unfolding pass_words pass_end batch_next
  stay-unused h = end-keeps (batch_next p) (unused (path p)) (λ v ys k. after-unused (path p) v ys) w _ h

  -- the same where the path is known
  still : {q : Path} → path p ≡ q → unused q w → unused q (pass_words p w xs)
  still e k = subst (λ r. unused r (pass_words p w xs)) e (stay-unused (subst (λ r. unused r w) (sym e) k))

  pub copied : 0 < p.inKhz → path p ≡ copy → unused copy w → (pass p w xs ≡ xs) × (pass_words p w xs ≡ arrays [] [] [] [])
  unfolding pass pass_words batch_out batch_next on_path after_path unused
  copied h e k =
      let same : (v : Words) (ys : List ℤ) → (batch_out p v ys ≡ ys) × (◌≡◌ {A = Unit {0}} tt tt) = λ v ys. (rw e refl, refl) in
      let (d, s, a, f) = still e k in (
        (pass-part (batch_out p) (batch_next p) (λ u ys. ys) (λ u ys. u) (λ v. tt) same (10 * p.inKhz) w xs).0
            ∙ (pass-whole (λ u ys. ys) (λ u ys. u) (10 * p.inKhz) (omega arith) (λ u. (refl, refl)) (λ u ys. (sym (take-append-drop (10 * p.inKhz) ys), refl)) tt xs).0,
        λ i. arrays (d i) (s i) (a i) (f i),
      )

  pub doubled : 0 < p.inKhz → path p ≡ doubler → unused doubler w
      → (pass p w xs ≡ up2 w.doubler xs) × (pass_words p w xs ≡ arrays (up2_end w.doubler xs) [] [] [])
  unfolding pass pass_words batch_out batch_next on_path after_path unused
  doubled h e k =
      let same : (v : Words) (ys : List ℤ) → (batch_out p v ys ≡ up2 v.doubler ys) × ((batch_next p v ys).doubler ≡ up2_end v.doubler ys) = λ v ys. rw e (refl, refl) in
      let (o, n) = pass-part (batch_out p) (batch_next p) up2 up2_end (λ v. v.doubler) same (10 * p.inKhz) w xs in
      let (q, m) = pass-whole up2 up2_end (10 * p.inKhz) (omega arith) up2-nothing (up2-parts (10 * p.inKhz)) w.doubler xs in
      let (s, a, f) = still e k in
      (o ∙ q, λ i. arrays ((n ∙ m) i) (s i) (a i) (f i))

  pub interpolated : {r : Rates} → path p ≡ interpolator → r ≡ rates_of p → unused interpolator w
      → let made = iir_fir_pass r (w.doubler, w.samples) xs in let left = iir_fir_end r (w.doubler, w.samples) xs in
      (pass p w xs ≡ made) × (pass_words p w xs ≡ arrays left.0 left.1 [] [])
  unfolding pass pass_words batch_out batch_next on_path after_path unused made iir_fir_batch iir_fir_next iir_fir_pass iir_fir_end
  interpolated e same-rates k =
      let r = rates_of p in
      let same : (v : Words) (ys : List ℤ) → (batch_out p v ys ≡ iir_fir_batch r (v.doubler, v.samples) ys)
      × (◌≡◌ {A = List ℤ × List ℤ} ((batch_next p v ys).doubler, (batch_next p v ys).samples) (iir_fir_next (v.doubler, v.samples) ys)) = λ v ys. rw e (refl, refl) in
      let (o, n) = pass-part (batch_out p) (batch_next p) (iir_fir_batch r) iir_fir_next (λ v. (v.doubler, v.samples)) same (10 * p.inKhz) w xs in
      let (a, f) = still e k in
      rw same-rates (o, λ i. arrays (n i).0 (n i).1 (a i) (f i))

  pub lowered : {g : Filter} {r : Rates} → path p ≡ down g → r ≡ rates_of p → unused (down g) w
      → let made = down_pass g r (w.ar2, w.fir) xs in let left = down_end g r (w.ar2, w.fir) xs in
      (pass p w xs ≡ made) × (pass_words p w xs ≡ arrays [] [] left.0 left.1)
  unfolding pass pass_words batch_out batch_next on_path after_path unused made down_batch down_next down_pass down_end
  lowered {g} e same-rates k =
      let r = rates_of p in
      let same : (v : Words) (ys : List ℤ) → (batch_out p v ys ≡ down_batch g r (v.ar2, v.fir) ys)
      × (◌≡◌ {A = List ℤ × List ℤ} ((batch_next p v ys).ar2, (batch_next p v ys).fir) (down_next g (v.ar2, v.fir) ys)) = λ v ys. rw e (refl, refl) in
      let (o, n) = pass-part (batch_out p) (batch_next p) (down_batch g r) (down_next g) (λ v. (v.ar2, v.fir)) same (10 * p.inKhz) w xs in
      let (d, s) = still e k in
      rw same-rates (o, λ i. arrays (d i) (s i) (n i).0 (n i).1)
