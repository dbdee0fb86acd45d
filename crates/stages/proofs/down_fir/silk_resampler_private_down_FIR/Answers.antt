-- `stages::down_fir::silk_resampler_private_down_FIR` meets its contract: the batches' words, the live ones of them, are the
-- definition's, and behind them stand zeros.
-- Assumes nothing.
use Rattle.std.proofs.Common.{arith, ◌≡◌, ◌∙◌, sym, ap, ℕ, List, length, length-append, length-drop, take, ◌++◌, ◌*◌, ◌-◌, ◌≤◌}
use Rattle.std.proofs.lemmas.List.{length-take-le}
use lib.IntN.{ℤ}
use Rattle.filters.specs.Lists.{padded}
use Rattle.filters.specs.Run.{pass_out, pass_end}
use Rattle.stages.specs.Outcome.{over}
use Rattle.filters.specs.declared.rates.Rates.{Rates}
use Rattle.filters.specs.Stage.Ar2.{ar2, ar2_end}
use Rattle.filters.specs.Stage.DownFir.{Filter, filter_of, down_fir_carried, down_batch, down_next, down_pass, down_end}
use Rattle.filters.proofs.Laws.Lengths.{ar2-length}
use Rattle.filters.proofs.Laws.Lists.{take-padded, padded-length}
use Rattle.stages.specs.declared.down_fir.DownWords.{DownWords}
use Rattle.stages.proofs.Laws.Pass.{pass-seen}
use Rattle.stages.proofs.down_fir.silk_resampler_private_down_FIR.Goals as goal

module _ (f : Filter) (most : f.order ≤ 36) where
  view : DownWords → List ℤ × List ℤ
  view w = (w.ar2, take f.order w.fir)

  next : DownWords → List ℤ → DownWords
  next w xs = record { ar2 = ar2_end f.coefs w.ar2 xs; fir = padded 36 (down_fir_carried f w.ar2 (take f.order w.fir) xs) }

  -- live words, and zeros behind them
  Live : DownWords → Type 0
  Live w = (length w.fir ≡ 36) × (w.fir ≡ padded 36 (take f.order w.fir))

  live : (xs : List ℤ) → length xs ≡ f.order → (length (padded 36 xs) ≡ 36) × (padded 36 xs ≡ padded 36 (take f.order (padded 36 xs)))
  live xs h = (padded-length 36 xs (omega arith), ap (padded 36) (sym (take-padded 36 xs f.order h)))

  carries : (w : DownWords) (xs : List ℤ) → length w.fir ≡ 36 → length (down_fir_carried f w.ar2 (take f.order w.fir) xs) ≡ f.order
  unfolding down_fir_carried
  carries w xs h =
      let all = take f.order w.fir ++ ar2 f.coefs w.ar2 xs in
      length-drop (length all - f.order) all
      ∙ omega (arith, length-append (take f.order w.fir) (ar2 f.coefs w.ar2 xs), length-take-le f.order w.fir (omega arith), ar2-length f.coefs w.ar2 xs)

  seen : (r : Rates) (n : ℕ) (w : DownWords) (xs : List ℤ) → Live w
      → (pass_out (λ v. down_batch f r (view v)) next n w xs ≡ pass_out (down_batch f r) (down_next f) n (view w) xs)
      × (view (pass_end next n w xs) ≡ pass_end (down_next f) n (view w) xs) × Live (pass_end next n w xs)
  unfolding view next Live down_next
  seen r n w xs h =
      pass-seen (λ v. down_batch f r (view v)) next (down_batch f r) (down_next f) view Live
      (λ v ys k. live _ (carries v ys k.0)) (λ v ys k. λ i. down_batch f r (view v) ys)
      (λ v ys k. λ i. (ar2_end f.coefs v.ar2 ys, take-padded 36 _ f.order (carries v ys k.0) i)) n w xs h

pub returns : goal.returns
unfolding down_pass down_end view next Live
returns c =
    let f = filter_of c.args.filter.order c.args.filter.coefs.now in
    let most = c.args.filter.fitting.most in
    let given = take f.order c.args.s.fir in
    let size = length-take-le f.order c.args.s.fir (omega (arith, c.well_formed)) in
    let fir : c.carried-fir.result ≡ padded 36 given = c.carried-fir.ensures in
    let words : DownWords = record { ar2 = c.args.s.ar2; fir = c.carried-fir.result } in
    let start : view f most words ≡ (c.args.s.ar2, given) = λ i. (c.args.s.ar2, (ap (take f.order) fir ∙ take-padded 36 given f.order size) i) in
    let r = c.args.r in
    let n = 10 * r.inKhz in
    let xs = c.args.input.now in
    let see = seen f most r n words xs (rw fir (live f most given size)) in
    let made = c.in_parts.ensures in
    record {
      written = made.written;
      staged = record {
        filled = made.staged.filled ∙ ap (λ (ys : List ℤ). over ys c.args.out.now) (see.0 ∙ ap (λ (v : List ℤ × List ℤ). pass_out (down_batch f r) (down_next f) n v xs) start);
        carried = ap (view f most) made.staged.carried ∙ see.1 ∙ ap (λ (v : List ℤ × List ℤ). pass_end (down_next f) n v xs) start;
      };
      dead = rw made.staged.carried see.2.1;
    }
