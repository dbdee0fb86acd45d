-- `stages::ar2::silk_resampler_private_AR2` meets its contract: what is filtered, followed by what the samples left make, is the whole.
-- Assumes nothing.
use Rattle.std.proofs.Common.{drop, ◌*◌, ◌≡◌, [], ◌∷◌}
use Rattle.fixed.specs.Ar2.{ar2_out, ar2_next}
use Rattle.stages.proofs.Laws.Loop.{Running}
use Rattle.stages.proofs.ar2.silk_resampler_private_AR2.Given as goal

abbrev pub invariant-loop-k : goal.invariant-loop-k
invariant-loop-k l = (l.k-iterator.iter.size ≡ 2) × (l.k-iterator.iter.rest.now ≡ drop (2 * l.k-iterator.count) l.input) × Running ar2_out (ar2_next l.AQ14) l.fn.state l.input l.fn.outQ8 (2 * l.k-iterator.count) l.outQ8 (l.s0 ∷ l.s1 ∷ []) l.k-iterator.iter.rest.now
