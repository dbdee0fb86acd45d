-- `resampler::pairs::doubled` meets its contract: only the interpolator reads doubled samples.
-- Assumes nothing.
use mathlib.Core.Path.{◌≡◌, refl}
use native.Mathlib.Omega.{arith}
use Rattle.resampler.specs.declared.path.Kind.{Kind}
use Rattle.resampler.specs.declared.path.Kind.TheVariants.{Copy, Doubler, Interpolator, Down}
use Rattle.resampler.specs.Kinds.{Is}
use Rattle.resampler.specs.Pairs.{Pair, path, up2x}
use Rattle.resampler.proofs.pairs.doubled.Goals as goal

undoubled : (k : Kind) (p : Pair) → (k ≡ Interpolator → ⊥) → Is k p → up2x (path p) ≡ 0
unfolding up2x
undoubled = elim [
  | Copy ↦ λ p n h. rw h.0 refl
  | Doubler ↦ λ p n h. rw h.0 refl
  | Interpolator ↦ λ p n h. absurd (n refl)
  | Down ↦ λ p n h. rw h refl
]

pub returns-in-Interpolator : goal.returns-in-Interpolator
unfolding up2x
returns-in-Interpolator c = (rw c.in-Interpolator.ensures refl, omega arith, omega arith)

pub returns-in_default : goal.returns-in_default
returns-in_default c = (rw (undoubled _ _ c.in_default.not-Interpolator c.at.ensures) refl, omega arith, omega arith)
