-- AR2 (ar2.rs), the two-pole filter before the taps of a down filter: a run of its steps. Its words are s0 and s1; a table begins
-- with A0 and A1. Cited by src/ar2.rt. Checked against the stored answers (crates/replay). Assumes nothing.
use Rattle.std.specs.Prelude.{List, ℤ}
use Rattle.fixed.specs.Ar2.{ar2_out, ar2_next}
use Rattle.filters.specs.Run.{run, end}

unfoldable pub ar2 : List ℤ → List ℤ → List ℤ → List ℤ
ar2 A = run ar2_out (ar2_next A)

unfoldable pub ar2_end : List ℤ → List ℤ → List ℤ → List ℤ
ar2_end A = end (ar2_next A)
