-- Pairs of rates with their paths, delays and increments (mod.rs). Assumes nothing.
use Rattle.std.specs.Prelude.{if◌then◌else◌, ℕ, zero, suc, ◌+◌, ◌*◌, ◌/◌, ◌^◌, Bool, false, ◌&&◌, ◌||◌, ltb, eqb, get_or}
use mathlib.Core.List.{List, [], ◌∷◌, ◌++◌, map, flat_map}
use Rattle.filters.specs.Stage.DownFir.{Filter, down_3_4, down_2_3, down_1_2, down_1_3, down_1_4, down_1_6}

-- direction 1 is the encoder's, 0 the decoder's
pub record Pair : Type 0 where
  pub direction : ℕ
  pub inKhz : ℕ
  pub outKhz : ℕ

abbrev pub pair : ℕ → ℕ → ℕ → Pair
pair d i o = record { direction = d; inKhz = i; outKhz = o }

abbrev pub three : List ℕ
three = 8 ∷ 12 ∷ 16 ∷ []

abbrev pub five : List ℕ
five = 8 ∷ 12 ∷ 16 ∷ 24 ∷ 48 ∷ []

abbrev pub has : List ℕ → ℕ → Bool
has [] n = false
has (x ∷ xs) n = eqb n x || has xs n

-- the encoder goes from any of five to one of three, the decoder from one of three to any of five
unfoldable pub supported : Pair → Bool
supported p =
    (eqb p.direction 1 && has five p.inKhz && has three p.outKhz)
    || (eqb p.direction 0 && has three p.inKhz && has five p.outKhz)

-- all of them, for what is shown of each by one computation
unfoldable pub thirty : List Pair
thirty = flat_map (λ i. map (pair 1 i) three) five ++ flat_map (λ i. map (pair 0 i) five) three

-- a rate's row or column in the matrices of delays; 5 is none
unfoldable pub rate_id : ℕ → ℕ
rate_id r =
    if eqb r 8 then 0 else if eqb r 12 then 1 else if eqb r 16 then 2 else if eqb r 24 then 3 else if eqb r 48 then 4 else 5

-- a row for each rate in, a column for each rate out
unfoldable pub delay_matrix_enc : List (List ℕ)
delay_matrix_enc =
    (6 ∷ 0 ∷ 3 ∷ [])
    ∷ (0 ∷ 7 ∷ 3 ∷ [])
    ∷ (0 ∷ 1 ∷ 10 ∷ [])
    ∷ (0 ∷ 2 ∷ 6 ∷ [])
    ∷ (18 ∷ 10 ∷ 12 ∷ [])
    ∷ []

unfoldable pub delay_matrix_dec : List (List ℕ)
delay_matrix_dec =
    (4 ∷ 0 ∷ 2 ∷ 0 ∷ 0 ∷ [])
    ∷ (0 ∷ 9 ∷ 4 ∷ 7 ∷ 4 ∷ [])
    ∷ (0 ∷ 3 ∷ 12 ∷ 7 ∷ 7 ∷ [])
    ∷ []

-- in input samples
unfoldable pub delay : Pair → ℕ
delay p =
    let matrix = if eqb p.direction 0 then delay_matrix_dec else delay_matrix_enc in
    get_or (get_or matrix (rate_id p.inKhz) []) (rate_id p.outKhz) 0

pub data Path : Type 0 where
  copy : Path
  doubler : Path
  interpolator : Path
  down : Filter → Path

-- the down filter, by the ratio of out to in; the smallest ratio of the thirty is 1/6
unfoldable pub filter : Pair → Filter
filter p =
    let i = p.inKhz in
    let o = p.outKhz in
    if eqb (o * 4) (i * 3) then down_3_4
    else if eqb (o * 3) (i * 2) then down_2_3
    else if eqb (o * 2) i then down_1_2
    else if eqb (o * 3) i then down_1_3
    else if eqb (o * 4) i then down_1_4
    else down_1_6

-- an equal rate is copied, twice the rate doubled, any other higher rate doubled and interpolated, a lower one filtered down
unfoldable pub path : Pair → Path
path p =
    if eqb p.outKhz p.inKhz then copy
    else if eqb p.outKhz (2 * p.inKhz) then doubler
    else if ltb p.inKhz p.outKhz then interpolator
    else down (filter p)

-- up2x of the source: 1 where doubled samples are read
unfoldable pub up2x : Path → ℕ
up2x copy = 0
up2x doubler = 0
up2x interpolator = 1
up2x (down f) = 0

-- one more while the outputs of a second read fewer than the goal's samples; the start is less than 4 short
unfoldable pub raised : ℕ → ℕ → ℕ → ℕ → ℕ
raised zero outHz goal increment = increment
raised (suc k) outHz goal increment =
    if ltb (increment * outHz / 65536) goal then raised k outHz goal (increment + 1) else increment

-- how far apart two outputs are read, in 65536ths of a sample: a quotient cut to a multiple of 4, then raised
unfoldable pub increment : Pair → ℕ
increment p =
    let up = up2x (path p) in
    let inHz = 1000 * p.inKhz in
    let outHz = 1000 * p.outKhz in
    raised 4 outHz (inHz * 2 ^ up) (inHz * 2 ^ (14 + up) / outHz * 4)
