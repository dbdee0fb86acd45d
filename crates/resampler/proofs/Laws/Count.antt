-- How many samples a pass puts out: as many as its milliseconds make, on every path. Assumes nothing.
use mathlib.Core.Path.{◌≡◌, refl, sym, ap, subst, ◌∙◌}
use mathlib.Core.Bool.{Bool, true, false}
use mathlib.Core.List.{List}
use Prim.Native.Nat.{◌*◌, ◌%◌, ◌<◌}
use native.Mathlib.Omega.{arith}
use borrow.Author.Tests.{eqb-true, eqb-false, ltb-true, ltb-false}
use lib.Dec.{eqb, ltb}
use lib.IntN.{ℤ}
use lib.ListN.{length}
use Rattle.filters.specs.Stage.IirFir.{iir_fir_batch}
use Rattle.filters.specs.Stage.DownFir.{down_batch}
use Rattle.filters.proofs.Laws.Lengths.{up2-length, iir_fir_batch-length, down_batch-length}
use Rattle.stages.proofs.Laws.Pass as Pass
use Rattle.resampler.specs.Pairs.{Pair, path, filter}
use Rattle.resampler.specs.Record.{Words}
use Rattle.resampler.specs.Resample.{rates_of, made, on_path, batch_out, batch_next, pass}
use Rattle.resampler.proofs.Laws.Passes.{unused, copied, doubled}
use Rattle.resampler.proofs.Laws.Paths.{path-copy, path-doubler, path-interpolator, path-down, made-equal, made-twice}

module _ (p : Pair) (some : 0 < p.inKhz) (w : Words) (xs : List ℤ) (whole : length xs % p.inKhz ≡ 0) (u : unused (path p) w) where
  -- a path that reads puts out as many as it is told
  reading : ((v : Words) (ys : List ℤ) → length (batch_out p v ys) ≡ made p (length ys)) → length (pass p w xs) ≡ made p (length xs)
  unfolding pass made
  reading each = Pass.pass-length p.inKhz p.outKhz 10 some (omega arith) (batch_out p) (batch_next p) each w xs whole

  pub pass-count : length (pass p w xs) ≡ made p (length xs)
  unfolding batch_out on_path made iir_fir_batch down_batch
  pass-count = go (eqb p.outKhz p.inKhz) (eqb p.outKhz (2 * p.inKhz)) (ltb p.inKhz p.outKhz) refl refl refl
    where
      go : (a b c : Bool) → eqb p.outKhz p.inKhz ≡ a → eqb p.outKhz (2 * p.inKhz) ≡ b → ltb p.inKhz p.outKhz ≡ c
          → length (pass p w xs) ≡ made p (length xs)
      go true b c h k m =
          let e = eqb-true _ _ h in
          let q = path-copy p e in
          ap length (copied p w xs some q (subst (λ r. unused r w) q u)).0 ∙ sym (made-equal p _ whole e)
      go false true c h k m =
          let e = eqb-true _ _ k in
          let q = path-doubler p (eqb-false _ _ h) e in
          ap length (doubled p w xs some q (subst (λ r. unused r w) q u)).0 ∙ up2-length w.doubler xs ∙ sym (made-twice p _ whole e)
      go false false true h k m =
          let q = path-interpolator p (eqb-false _ _ h) (eqb-false _ _ k) (ltb-true _ _ m) in
          reading (λ v ys. rw q (iir_fir_batch-length (rates_of p) (v.doubler, v.samples) ys))
      go false false false h k m =
          let q = path-down p (eqb-false _ _ h) (eqb-false _ _ k) (ltb-false _ _ m) in
          reading (λ v ys. rw q (down_batch-length (filter p) (rates_of p) (v.ar2, v.fir) ys))
