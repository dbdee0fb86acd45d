-- `stages::answer::half_refusal` meets its contract: its tests are the definition's, in the same order.
-- Assumes nothing.
use mathlib.Core.Path.{refl}
use borrow.Author.Tests.{eq-eqb, ne_eqb, lt-ltb, le-ltb}
use Rattle.stages.specs.Entry.{half_row}
use Rattle.stages.proofs.answer.half_refusal.Goals as goal

pub returns-then-n-ne0 : goal.returns-then-n-ne0
unfolding half_row
returns-then-n-ne0 c = rw (ne_eqb _ _ c.if-n-ne0.true) refl

pub returns-then-n-gt-MOST_SAMPLES : goal.returns-then-n-gt-MOST_SAMPLES
unfolding half_row
returns-then-n-gt-MOST_SAMPLES c = rw (eq-eqb _ _ c.if-n-ne0.false, lt-ltb _ _ c.if-n-gt-MOST_SAMPLES.true) refl

pub returns-then-half : goal.returns-then-half
unfolding half_row
returns-then-half c = rw (eq-eqb _ _ c.if-n-ne0.false, le-ltb _ _ c.if-n-gt-MOST_SAMPLES.false, c.if-half.true) refl

pub returns-else-half : goal.returns-else-half
unfolding half_row
returns-else-half c = rw (eq-eqb _ _ c.if-n-ne0.false, le-ltb _ _ c.if-n-gt-MOST_SAMPLES.false, c.if-half.false) refl
