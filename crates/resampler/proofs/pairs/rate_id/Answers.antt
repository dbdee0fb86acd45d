-- `resampler::pairs::rate_id` meets its contract: each arm is a test of the definition.
-- Assumes nothing.
use mathlib.Core.Path.{refl}
use Rattle.resampler.specs.Pairs.{rate_id}
use Rattle.std.proofs.Common.{arith}
use Rattle.std.proofs.lemmas.Bool.Decides.{nat_tests}
use Rattle.resampler.proofs.pairs.rate_id.Goals as goal

pub returns-in-8 : goal.returns-in-8
unfolding rate_id
returns-in-8 c = rw c.in-8.is refl

pub returns-in-12 : goal.returns-in-12
unfolding rate_id
returns-in-12 c = rw c.in-12.is refl

pub returns-in-16 : goal.returns-in-16
unfolding rate_id
returns-in-16 c = rw c.in-16.is refl

pub returns-in-24 : goal.returns-in-24
unfolding rate_id
returns-in-24 c = rw c.in-24.is refl

pub returns-in-48 : goal.returns-in-48
unfolding rate_id
returns-in-48 c = rw c.in-48.is refl

pub returns-in_default : goal.returns-in_default
unfolding rate_id
returns-in_default c = grind (arith, nat_tests)
