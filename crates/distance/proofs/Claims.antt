-- The claims of specs/Claims.antt. Assumes nothing.
use mathlib.Core.Path.{◌≡◌, refl, sym, ap, ◌∙◌}
use mathlib.Core.List.{List, [], ◌∷◌, ◌++◌}
use native.Mathlib.Omega.{arith}
use lib.IntN.{ℤ, pos}
use lib.ListN.{replicate, length-replicate}
use Rattle.filters.specs.Lists.{joined}
use Rattle.filters.specs.Run.{run}
use Rattle.filters.specs.Rom.{silk_resampler_up2_hq_0, silk_resampler_up2_hq_1}
use Rattle.filters.specs.Stage.Up2Hq.{up2_raw, up2_out, up2, up2_end}
use Rattle.stages.proofs.Laws.Parts.{up2-nothing}
use Rattle.distance.specs.Claims.{fresh, Close, CloseRounded, ExactReads, DoublerNear, DoublerRounds, NothingWraps, CallsAreOne, LinesDouble}
use Rattle.distance.specs.Exact.{whole, exact}
use Rattle.resampler.specs.declared.Record.{Record}
use Rattle.resampler.specs.Pairs.{delay}
use Rattle.resampler.specs.Resample.{converted, after}
use Rattle.distance.proofs.Laws.Lines.{up2-append, opened, lines}
use Rattle.distance.proofs.Laws.Powers.{row_reads, rows_apart}
use Rattle.distance.proofs.Laws.Samples.{started, plain-run, close, close-rounded, all}

calls : (w : List ℤ) (xss : List (List ℤ)) → joined (run up2 up2_end w xss) ≡ up2 w (joined xss)
unfolding run joined
calls w [] = sym (up2-nothing w).0
calls w (xs ∷ xss) = ap (λ (t : List ℤ). up2 w xs ++ t) (calls (up2_end w xs) xss) ∙ sym (up2-append w xs (joined xss))

pub calls_are_one : CallsAreOne
unfolding CallsAreOne
calls_are_one xss = calls fresh xss

pub exact_reads : ExactReads
unfolding ExactReads exact silk_resampler_up2_hq_0 silk_resampler_up2_hq_1
exact_reads xs =
    let z = replicate 3 (whole (pos 0)) in
    let (e, o) = rows_apart z z refl xs in
    (rw e (row_reads silk_resampler_up2_hq_0 xs), rw o (row_reads silk_resampler_up2_hq_1 xs))

pub doubler_near : DoublerNear
unfolding DoublerNear exact
doubler_near xs k = all up2_raw Close close 1 fresh (replicate 6 (whole (pos 0))) started (omega arith) xs k

pub doubler_rounds : DoublerRounds
unfolding DoublerRounds exact
doubler_rounds xs k = all up2_out CloseRounded close-rounded 1 fresh (replicate 6 (whole (pos 0))) started (omega arith) xs k

pub nothing_wraps : NothingWraps
unfolding NothingWraps
nothing_wraps xs k = plain-run 1 fresh (replicate 6 (whole (pos 0))) started xs k

pub lines_double : LinesDouble
unfolding LinesDouble
lines_double p h q xss =
    let all = joined xss in
    ap (λ (s : Record). joined (run converted after s xss)) (opened p h q)
    ∙ lines p h q fresh (replicate (delay p) (pos 0)) refl (length-replicate (delay p) (pos 0)) xss
