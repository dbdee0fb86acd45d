-- `resampler::resuming::pads_zero` meets its contract: the closure is the definition's test, with its sides turned round.
-- Assumes nothing.
use mathlib.Core.Path.{◌∙◌}
use borrow.Author.Rules.{rules}
use borrow.Author.Tests.{tests}
use lib.Dec.{eqb}
use lib.ListN.{take, drop}
use Rattle.std.proofs.lemmas.Iterator.{YieldsList-from_slice}
use Rattle.std.proofs.lemmas.Iterator.Search.{all_from_yields_List}
use Rattle.resampler.proofs.Laws.Scan.{all-pads}
use Rattle.resampler.proofs.resuming.pads_zero.Goals as goal

pub returns : goal.returns
returns c =
    let part = take 216 (drop 292 c.args.block.now) in
    all_from_yields_List (λ x. eqb x 0) _ _ c.all.result c.all.ensures.ran (YieldsList-from_slice part cc) (λ x b q k. search (rules, tests)) ∙ all-pads part
