-- `resampler::init::khz` meets its contract: a rate from zero up is its size, and a quotient is the kHz where nothing is left over.
-- Assumes nothing.
use mathlib.Core.Path.{refl, sym, ◌∙◌}
use borrow.Author.Tests.{eq-eqb, ne_eqb}
use Rattle.std.proofs.lemmas.Int.{to_z-of_z}
use mir.Syntax.{w32}
use Rattle.resampler.proofs.Laws.Rates.{khz-of, khz-none}
use Rattle.resampler.proofs.init.khz.Goals as goal

pub returns-in_default : goal.returns-in_default
returns-in_default c =
    let e = to_z-of_z w32 c.args.hz c.ranges.hz in
    sym (khz-none c.args.hz c.ranges.hz (rw e at c.in_default.ensures))

pub returns-then-n-eq0 : goal.returns-then-n-eq0
returns-then-n-eq0 c =
    let e = to_z-of_z w32 c.args.hz c.ranges.hz in
    let (f, n) = rw e at c.in-Ok.ensures in
    sym (khz-of c.args.hz f n ∙ rw (eq-eqb _ _ c.if-n-eq0.true) refl)

pub returns-else-n-eq0 : goal.returns-else-n-eq0
returns-else-n-eq0 c =
    let e = to_z-of_z w32 c.args.hz c.ranges.hz in
    let (f, n) = rw e at c.in-Ok.ensures in
    sym (khz-of c.args.hz f n ∙ rw (ne_eqb _ _ c.if-n-eq0.false) refl)
