-- `resampler::pairs::supported` meets its contract: a rate's place tells whether it is one of the first three, or of the five.
-- Assumes nothing.
use mathlib.Core.Path.{◌≡◌, refl, sym}
use borrow.Author.Rules.{rules}
use borrow.Author.Tests.{ne_eqb}
use Rattle.resampler.specs.Pairs.{supported}
use Rattle.resampler.proofs.Laws.Pairs.{id-three, id-five, enc-only}
use Rattle.resampler.proofs.pairs.supported.Goals as goal

pub returns-in-1 : goal.returns-in-1
unfolding supported
returns-in-1 c =
    rw (c.in-1.is, c.rate_id-o.ensures, c.rate_id-i.ensures, id-five c.args.inKhz, id-three c.args.outKhz) (sym (enc-only _))

pub returns-in-0 : goal.returns-in-0
unfolding supported
returns-in-0 c = rw (c.in-0.is, c.rate_id-o.ensures, c.rate_id-i.ensures, id-three c.args.inKhz, id-five c.args.outKhz) refl

pub returns-in_default : goal.returns-in_default
unfolding supported
returns-in_default c =
    let no₁ : c.args.direction ≡ 1 → ⊥ = search rules in
    let no₀ : c.args.direction ≡ 0 → ⊥ = search rules in
    rw (ne_eqb c.args.direction 1 no₁, ne_eqb c.args.direction 0 no₀) refl
