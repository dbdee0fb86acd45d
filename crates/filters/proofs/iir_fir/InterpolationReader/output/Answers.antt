-- The interpolator's output meets its contract: the row and its mirror are the definition's.
-- Assumes nothing.
use Rattle.std.proofs.Common.{rules, arith, ◌≡◌, ◌*◌, ◌/◌, ◌-◌, ◌∙◌, sym, reverse, take, drop, get_or, []}
use Rattle.std.proofs.lemmas.List.{length-reverse}
use lib.IntN.{pos, ◌*ℤ◌}
use Rattle.filters.specs.Rom.{silk_resampler_frac_FIR_12}
use Rattle.filters.specs.Reader.{sum}
use Rattle.filters.specs.Stage.IirFir.{interpolation}
use Rattle.filters.proofs.Laws.Dot.{sum-rows}
use Rattle.filters.proofs.Laws.Taps.{frac-width, frac-mirrored}
use Rattle.filters.proofs.iir_fir.InterpolationReader.output.Goals as goal

pub returns : goal.returns
unfolding interpolation silk_resampler_frac_FIR_12
returns c =
    let k = c.args.fraction * 12 / 65536 in
    let xs = c.args.from.now in
    let row = get_or silk_resampler_frac_FIR_12 k [] in
    let mirror = get_or silk_resampler_frac_FIR_12 (11 - k) [] in
    let front : c.forward-front.result ≡ sum ◌*ℤ◌ (pos 0) row (take 4 xs) = search rules in
    let all : c.backward.result ≡ sum ◌*ℤ◌ c.forward-front.result (reverse mirror) (take 4 (drop 4 xs)) = search rules in
    let both = sum-rows ◌*ℤ◌ (pos 0) row (reverse mirror) xs 4 4 (frac-width k (omega arith)) (length-reverse mirror ∙ frac-width (11 - k) (omega arith)) (omega arith) in
    let read : c.backward.result ≡ interpolation c.args.fraction xs =
    all ∙ (λ i. sum ◌*ℤ◌ (front i) (reverse mirror) (take 4 (drop 4 xs))) ∙ both ∙ (λ i. sum ◌*ℤ◌ (pos 0) (sym (frac-mirrored c.args.fraction) i) xs) in
    search rules
