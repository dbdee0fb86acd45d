-- `resampler::entries::cleaned` meets its contract: the first entries of each array stay, as many as are live, and the others are cleared.
-- Assumes nothing.
use borrow.Author.Rules.{rules}
use Rattle.resampler.proofs.Laws.Entries.{cleaned-is, cleared}
use Rattle.resampler.proofs.entries.cleaned.Goals as goal

pub returns : goal.returns
returns c =
    let s = c.args.known.now.state in
    let (d, m, a, f, l) = c.living-n.ensures.counts in
    let (db, mb, ab, fb, lb) = c.living-n.ensures.within_arrays in
    cleaned-is s (
      cleared 6 _ s.doubler (search rules) d db (c.fill.ensures.after (λ y k. search rules)),
      cleared 8 _ s.samples (search rules) m mb (c.fill-2.ensures.after (λ y k. search rules)),
      cleared 2 _ s.ar2 (search rules) a ab (c.fill-3.ensures.after (λ y k. search rules)),
      cleared 36 _ s.fir (search rules) f fb (c.fill-4.ensures.after (λ y k. search rules)),
    )
    (cleared 48 _ s.delay (search rules) l lb (c.fill-5.ensures.after (λ y k. search rules)))
