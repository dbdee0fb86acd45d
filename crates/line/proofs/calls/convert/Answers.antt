-- `line::calls::convert` meets its contract: no row applies, so the call is done, and as many samples as it makes are laid.
-- Assumes nothing.
use mathlib.Core.Path.{refl}
use Rattle.line.proofs.Laws.Calls.{call-done, laid-front}
use Rattle.line.proofs.calls.convert.Goals as goal

pub returns : goal.returns
returns c =
    let s = c.args in
    let (r, o) = call-done s.s s.xs.now 4800 c.requires.0 _ c.requires.1 refl c.silk_resampler-resampled.ensures in (
      r,
      laid-front s.s s.xs.now 4800 c.requires.0 _ _ s.out.now s.m o c.requires.2 c.put_words.ensures,
    )
