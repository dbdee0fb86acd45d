-- `fixed::clip` meets its contract: the library's clamp is the definition's two tests.
-- Assumes nothing.
use Rattle.std.proofs.Common.{rules}
use Rattle.fixed.proofs.Laws.Narrow.{clamp-clips}
use Rattle.fixed.proofs.clip.Goals as goal

pub returns : goal.returns
returns c = search (rules, clamp-clips)
