-- `resampler::known::Known::kind` meets its contract: the path does not depend on the direction.
-- Assumes nothing.
use Prim.Native.Nat.{ℕ}
use Rattle.resampler.specs.declared.path.Kind.{Kind}
use Rattle.resampler.specs.declared.path.Kind.TheVariants.{Copy, Doubler, Interpolator, Down}
use Rattle.resampler.specs.Kinds.{Is}
use Rattle.resampler.specs.Pairs.{pair, path, filter}
use Rattle.resampler.proofs.Laws.Pairs.{small}
use Rattle.resampler.proofs.known.Known.kind.Goals as goal

either : (k : Kind) (d i o : ℕ) → Is k (pair 0 i o) → Is k (pair d i o)
unfolding path filter
either = elim [ Copy ↦ λ d i o h. h | Doubler ↦ λ d i o h. h | Interpolator ↦ λ d i o h. h | Down ↦ λ d i o h. h ]

pub at-requires : goal.at-requires
at-requires c = (small _ c.args.self.now.supported).2

pub returns : goal.returns
returns c = either _ c.args.self.now.state.direction _ _ c.at.ensures
