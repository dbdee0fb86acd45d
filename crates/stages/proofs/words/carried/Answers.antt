-- `stages::words::carried` meets its contract: what stands behind the words that were copied are zeros.
-- Assumes nothing.
use Rattle.std.proofs.Common.{rules, length}
use Rattle.filters.proofs.Laws.Lists.{drop-same}
use Rattle.stages.proofs.words.carried.Goals as goal

pub returns : goal.returns
returns g c = let rest = drop-same (length c.args.from.now) g.row.N c.args.zero in search rules
