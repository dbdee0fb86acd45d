-- `resampler::known::Known::rates` meets its contract: an increment does not depend on the direction.
-- Assumes nothing.
use mathlib.Core.Path.{◌∙◌}
use Rattle.resampler.specs.Record.{pair_of}
use Rattle.resampler.proofs.Laws.Pairs.{small}
use Rattle.resampler.proofs.Laws.Paths.{increment-same, at-increment}
use Rattle.resampler.proofs.known.Known.rates.Goals as goal

pub increment-requires : goal.increment-requires
increment-requires c = let (d, i, j, o, q) = small _ c.args.self.now.supported in (j, o, q)

pub returns : goal.returns
returns c =
    let p = pair_of c.args.self.now.state in
    at-increment p (c.increment.ensures ∙ increment-same p.direction p.inKhz p.outKhz)
