-- `resampler::parking::seal` meets its contract: four bytes end the block.
-- Assumes nothing.
use Rattle.resampler.proofs.Laws.Body.{sealed}
use Rattle.resampler.proofs.parking.seal.Goals as goal

pub returns : goal.returns
returns c = sealed c.args.to.now c.requires c.check-sum.ensures c.put.ensures
