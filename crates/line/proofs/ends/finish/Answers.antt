-- `line::ends::finish` meets its contract: a supported pair is parked. Assumes nothing.
use Rattle.line.proofs.Laws.Ends.{parked}
use Rattle.line.proofs.ends.finish.Goals as goal

pub returns : goal.returns
returns c = parked c.args.s c.args.block.now c.requires.0 c.requires.1 c.park.ensures
