-- `resampler::pairs::increment` meets its contract: the quotient is the definition's, and four steps raise it as the definition does.
-- Assumes nothing.
use mathlib.Core.Path.{◌≡◌, refl, ◌∙◌, ap}
use Prim.Native.Nat.{ℕ, ◌+◌, ◌*◌, ◌/◌, ◌^◌}
use lib.Pow.{pow-add}
use Rattle.resampler.specs.Pairs.{pair, path, up2x, raised, increment}
use Rattle.resampler.proofs.Laws.Pairs.{raised-four}
use Rattle.resampler.proofs.pairs.increment.Goals as goal

pub returns : goal.returns
unfolding increment
returns c =
    let f = c.doubled-f.result in
    let inHz = 1000 * c.args.inKhz in
    let outHz = 1000 * c.args.outKhz in
    let up = up2x (path (pair 0 c.args.inKhz c.args.outKhz)) in
    let scale : 16384 * f ≡ 2 ^ (14 + up) = ap (λ (k : ℕ). 16384 * k) c.doubled-f.ensures.0 ∙ rw (pow-add 2 14 up) refl in
    raised-four outHz (inHz * f) (inHz * (16384 * f) / outHz * 4) c.raise-a.ensures.0 c.raise-b.ensures.0 c.raise-c.ensures.0 c.raise.ensures.0
    ∙ (λ i. raised 4 outHz (inHz * c.doubled-f.ensures.0 i) (inHz * scale i / outHz * 4))
