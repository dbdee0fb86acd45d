-- `filters::taps::backward` meets its contract: what is summed, and the products that are left, are the definition's sum.
-- Assumes nothing.
use Rattle.std.proofs.Common.{rules, arith, ap, length, length-append}
use Rattle.std.proofs.lemmas.Grind.{common_steps}
use Rattle.filters.proofs.Laws.Dot.{sum-none, sum-back}
use Rattle.filters.proofs.Laws.Taps.{every-last}
use Rattle.filters.proofs.taps.backward.Goals as goal

pub more-all-requires : goal.more-all-requires
more-all-requires g c = grind (arith, common_steps, every-last)

pub loop-c-preserved : goal.loop-c-preserved
loop-c-preserved g c =
    let taps = c.in-Some.ensures.steps.0 in
    let ys = c.in-Some.ensures.steps.1 in
    let now = c.loop-c.invariant in
    let back = sum-back g.T.Tap.product c.loop-c.all _ _ _ _ _ _ taps ys in (
      omega (arith, simp length-append at (ap length taps), ap length ys),
      (every-last g.T.Tap.fits _ _ _ taps now.1).1,
      search rules,
    )

pub returns : goal.returns
returns g c = grind (arith, common_steps, sum-none)
