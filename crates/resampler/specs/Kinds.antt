-- What the code's kind of a path says of a pair. Assumes nothing.
use Rattle.std.specs.Prelude.{◌≡◌, ◌*◌}
use Rattle.resampler.specs.declared.path.Kind.{Kind}
use Rattle.resampler.specs.declared.path.Kind.TheVariants.{Copy, Doubler, Interpolator, Down}
use Rattle.resampler.specs.Pairs.{Pair, copy, doubler, interpolator, down, path, filter}

abbrev pub Is : Kind → Pair → Type 0
Is Copy p = (path p ≡ copy) × (p.outKhz ≡ p.inKhz)
Is Doubler p = (path p ≡ doubler) × (p.outKhz ≡ 2 * p.inKhz)
Is Interpolator p = path p ≡ interpolator
Is Down p = path p ≡ down (filter p)
