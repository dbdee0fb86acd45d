-- Rates that are small enough to be computed with. Assumes nothing.
use Rattle.std.specs.Prelude.{◌<◌, ◌≤◌}
use Rattle.filters.specs.declared.rates.Rates.{Rates}

pub record Small (r : Rates) : Type 0 where
  pub some : 0 < r.inKhz
  pub few : r.inKhz ≤ 48
  pub made : r.outKhz ≤ 48
  pub moves : 0 < r.increment
  pub step : r.increment < 16777216
