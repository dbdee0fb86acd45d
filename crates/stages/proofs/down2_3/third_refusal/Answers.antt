-- `stages::down2_3::third_refusal` meets its contract: its tests are the definition's, in the same order.
-- Assumes nothing.
use mathlib.Core.Path.{refl}
use borrow.Author.Tests.{eq-eqb, ne_eqb, lt-ltb, le-ltb}
use Rattle.stages.specs.Entry.{down23_row}
use Rattle.stages.proofs.down2_3.third_refusal.Goals as goal

pub returns-then-n-ne0 : goal.returns-then-n-ne0
unfolding down23_row
returns-then-n-ne0 c = rw (ne_eqb _ _ c.if-n-ne0.true) refl

pub returns-then-n-gt-MOST_SAMPLES : goal.returns-then-n-gt-MOST_SAMPLES
unfolding down23_row
returns-then-n-gt-MOST_SAMPLES c = rw (eq-eqb _ _ c.if-n-ne0.false, lt-ltb _ _ c.if-n-gt-MOST_SAMPLES.true) refl

pub returns-then-room-n : goal.returns-then-room-n
unfolding down23_row
returns-then-room-n c = rw (eq-eqb _ _ c.if-n-ne0.false, le-ltb _ _ c.if-n-gt-MOST_SAMPLES.false, lt-ltb _ _ c.if-room-n.true) refl

pub returns-else-room-n : goal.returns-else-room-n
unfolding down23_row
returns-else-room-n c = rw (eq-eqb _ _ c.if-n-ne0.false, le-ltb _ _ c.if-n-gt-MOST_SAMPLES.false, le-ltb _ _ c.if-room-n.false) refl
