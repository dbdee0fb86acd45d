-- The marked cases: for each, what the definitions give and what it should be. Claims.antt states that all of them agree.
use Rattle.std.specs.Prelude.{ℕ, List, [], ◌∷◌, ℤ, pos, drop, replicate}
use Rattle.filters.specs.Rom.{+◌, -◌, silk_Resampler_1_6_COEFS}
use Rattle.filters.specs.Stage.Ar2.{ar2, ar2_end}
use Rattle.filters.specs.Stage.Up2Hq.{up2, up2_end}
use Rattle.filters.specs.Stage.IirFir.{interpolated}
use Rattle.filters.specs.Stage.Down2.{down2, down2_end}
use Rattle.filters.specs.Stage.Down2_3.{down23}
use Rattle.filters.specs.Stage.AnaFiltBank1.{split_low, split_high}
use Rattle.resampler.specs.Pairs.{pair, increment, delay}
use Rattle.resampler.specs.Record.{fresh}
use Rattle.little_endian.specs.Bytes.{value}
use Rattle.resampler.specs.Block.{block_of}

infix 20 ◌is◌
pub record Case : Type 0 where
  pub given : List ℤ
  pub said : List ℤ

abbrev pub ◌is◌ : List ℤ → List ℤ → Case
g is s = record { given = g; said = s }

abbrev one : ℕ → List ℤ
one n = pos n ∷ []

abbrev zeros : ℕ → List ℤ
zeros n = replicate n (pos 0)

abbrev pub cases : List Case
cases =
    -- increments
    (one (increment (pair 1 8 12)) is + 87382 ∷ [])
    ∷ (one (increment (pair 0 8 12)) is + 87382 ∷ [])
    ∷ (one (increment (pair 1 16 12)) is + 87382 ∷ [])
    ∷ (one (increment (pair 0 16 12)) is + 87382 ∷ [])
    ∷ (one (increment (pair 0 8 24)) is + 43691 ∷ [])
    ∷ (one (increment (pair 0 8 48)) is + 21846 ∷ [])
    ∷ (one (increment (pair 1 12 16)) is + 98304 ∷ [])
    ∷ (one (increment (pair 0 12 16)) is + 98304 ∷ [])
    ∷ (one (increment (pair 1 48 8)) is + 393216 ∷ [])
    -- delays
    ∷ (one (delay (pair 1 48 8)) is + 18 ∷ [])
    ∷ (one (delay (pair 0 16 16)) is + 12 ∷ [])
    ∷ (one (delay (pair 1 8 12)) is + 0 ∷ [])
    -- the doubler, fresh: outputs, then words
    ∷ (up2 (zeros 6) (+ 1 ∷ []) is + 0 ∷ + 0 ∷ [])
    ∷ (up2_end (zeros 6) (+ 1 ∷ []) is + 1051 ∷ + 33 ∷ + 9 ∷ + 1131 ∷ + 149 ∷ + 77 ∷ [])
    ∷ (up2 (zeros 6) (- 1 ∷ []) is + 0 ∷ + 0 ∷ [])
    ∷ (up2_end (zeros 6) (- 1 ∷ []) is - 1052 ∷ - 35 ∷ - 12 ∷ - 1132 ∷ - 151 ∷ - 80 ∷ [])
    -- AR2 of 1/6, fresh: output, then words
    ∷ (ar2 silk_Resampler_1_6_COEFS (zeros 2) (+ 1 ∷ []) is + 256 ∷ [])
    ∷ (ar2_end silk_Resampler_1_6_COEFS (zeros 2) (+ 1 ∷ []) is + 430 ∷ - 239 ∷ [])
    -- the 1/2 decimator, fresh: output, then words
    ∷ (down2 (zeros 2) (+ 1024 ∷ + 0 ∷ []) is + 311 ∷ [])
    ∷ (down2_end (zeros 2) (+ 1024 ∷ + 0 ∷ []) is + 1685520 ∷ + 0 ∷ [])
    -- the split, fresh: low, high
    ∷ (split_low (zeros 2) (+ 1024 ∷ + 0 ∷ []) is + 322 ∷ [])
    ∷ (split_high (zeros 2) (+ 1024 ∷ + 0 ∷ []) is - 322 ∷ [])
    -- the 2/3 decimator, fresh
    ∷ (down23 (zeros 6) (+ 1024 ∷ + 0 ∷ + 0 ∷ []) is + 0 ∷ + 294 ∷ [])
    -- the interpolator at row 0; the second is clipped
    ∷ (interpolated 0 (replicate 8 (+ 1000)) ∷ [] is + 1000 ∷ [])
    ∷ (interpolated 0 (replicate 8 (+ 32767)) ∷ [] is + 32767 ∷ [])
    -- the check of a fresh encoder block, 8 to 16
    ∷ (one (value (drop 508 (block_of (fresh (pair 1 8 16))))) is + 69 ∷ [])
    ∷ []
