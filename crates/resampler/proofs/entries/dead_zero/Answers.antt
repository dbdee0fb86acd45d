-- `resampler::entries::dead_zero` meets its contract: each array is looked through from its live entries on.
-- Assumes nothing.
use Prim.Native.Nat.{◌-◌}
use mathlib.Core.Path.{◌∙◌}
use borrow.Author.Rules.{rules}
use borrow.Author.Tests.{tests}
use lib.IntN.{pos}
use lib.ListN.{length, take, drop}
use Rattle.std.specs.Ordering.{int_eq}
use Rattle.std.proofs.lemmas.Iterator.{YieldsList-from_slice}
use Rattle.std.proofs.lemmas.Iterator.Search.{all_from_yields_List}
use Rattle.resampler.proofs.Laws.Entries.{looked, dead-is}
use Rattle.resampler.proofs.Laws.Scan.{rest-words}
use Rattle.resampler.proofs.entries.dead_zero.Goals as goal

pub returns : goal.returns
returns c =
    let s = c.args.known.now.state in
    let n = c.living-n.result in
    let (d, m, a, f, l) = c.living-n.ensures.counts in
    dead-is s (
      looked s.doubler d (all_from_yields_List (λ z. int_eq z (pos 0)) _ _ c.all-inDoubler.result c.all-inDoubler.ensures.ran (YieldsList-from_slice (take (length s.doubler - n.doubler) (drop n.doubler s.doubler)) cc) (λ x b q k. search (rules, tests)) ∙ rest-words n.doubler s.doubler),
      looked s.samples m (all_from_yields_List (λ z. int_eq z (pos 0)) _ _ c.all-inSamples.result c.all-inSamples.ensures.ran (YieldsList-from_slice (take (length s.samples - n.samples) (drop n.samples s.samples)) cc) (λ x b q k. search (rules, tests)) ∙ rest-words n.samples s.samples),
      looked s.ar2 a (all_from_yields_List (λ z. int_eq z (pos 0)) _ _ c.all-inAr2.result c.all-inAr2.ensures.ran (YieldsList-from_slice (take (length s.ar2 - n.ar2) (drop n.ar2 s.ar2)) cc) (λ x b q k. search (rules, tests)) ∙ rest-words n.ar2 s.ar2),
      looked s.fir f (all_from_yields_List (λ z. int_eq z (pos 0)) _ _ c.all-inFir.result c.all-inFir.ensures.ran (YieldsList-from_slice (take (length s.fir - n.fir) (drop n.fir s.fir)) cc) (λ x b q k. search (rules, tests)) ∙ rest-words n.fir s.fir),
    )
    (looked s.delay l (all_from_yields_List (λ z. int_eq z (pos 0)) _ _ c.all-inDelay.result c.all-inDelay.ensures.ran (YieldsList-from_slice (take (length s.delay - n.delay) (drop n.delay s.delay)) cc) (λ x b q k. search (rules, tests)) ∙ rest-words n.delay s.delay))
