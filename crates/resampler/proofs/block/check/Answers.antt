-- `resampler::block::check` meets its contract: at each turn the sum and what the bytes to come weigh are the whole.
-- Assumes nothing.
use Prim.Native.Nat.{◌<◌}
use native.Mathlib.Omega.{arith}
use lib.Seq.{length-take-le, get_or-take}
use Rattle.resampler.proofs.Laws.Check.{weigh-start, weigh-turn, weigh-end}
use Rattle.resampler.proofs.block.check.Goals as goal

pub loop-i-init : goal.loop-i-init
loop-i-init c = weigh-start _ c.requires

pub loop-i-preserved : goal.loop-i-preserved
loop-i-preserved c =
    let i = c.loop-i.i in
    let n : i < 508 = omega (arith, length-take-le 508 c.args.block.now c.requires) in
    rw (c.from.ensures, get_or-take 508 c.args.block.now i 0 n) (weigh-turn _ n c.loop-i.invariant (c.type_inv.block i).fits)

pub returns : goal.returns
returns c = weigh-end _ (omega (arith, length-take-le 508 c.args.block.now c.requires)) c.loop-i.invariant
