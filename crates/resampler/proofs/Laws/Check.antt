-- The loop of the check: at each turn the sum and what the bytes to come weigh are the whole, and the sum is small.
-- Assumes nothing.
use mathlib.Core.Path.{◌≡◌}
use mathlib.Core.List.{List}
use Prim.Native.Nat.{ℕ, ◌+◌, ◌*◌, ◌<◌, ◌≤◌}
use native.Mathlib.Nat.{mul-le-mul}
use native.Mathlib.Omega.{arith}
use lib.ListN.{length, take, drop, get_or}
use lib.Seq.{length-take-le, get_or-take}
use Rattle.filters.proofs.Laws.Lists.{drop-next, drop-none}
use Rattle.resampler.specs.Block.{weighed, check}

module _ (b : List ℕ) where
  -- the bytes before i are weighed; each weighs at most 508 × 255
  pub record Weighing (i sum : ℕ) : Type 0 where
    pub room : 508 ≤ length b
    pub within : i ≤ 508
    pub fits : sum ≤ 129540 * i
    pub is : sum + weighed i (drop i (take 508 b)) ≡ check b

  pub weigh-start : 508 ≤ length b → Weighing 0 0
  unfolding check
  weigh-start h = record { room = h; within = omega arith; fits = omega arith; is = omega arith }

  pub weigh-turn : {i sum : ℕ} → i < 508 → Weighing i sum → get_or b i 0 < 256
      → Weighing (i + 1) (sum + (i + 1) * get_or b i 0)
  unfolding weighed
  weigh-turn {i} h w l =
      let n = length-take-le 508 b w.room in
      let weight = mul-le-mul {n₁ = i + 1} {m₁ = get_or b i 0} {n₂ = 508} {m₂ = 255} (omega arith) (omega arith) in
      let e = rw (drop-next (take 508 b) i 0 (omega arith), get_or-take 508 b i 0 h) at w.is in
      record { room = w.room; within = omega arith; fits = omega (arith, w.fits); is = omega arith }

  pub weigh-end : {i sum : ℕ} → 508 ≤ i → Weighing i sum → sum ≡ check b
  unfolding weighed
  weigh-end {i} {sum} h w =
      let n = length-take-le 508 b w.room in
      let e = rw (drop-none (take 508 b) i (omega arith)) at w.is in
      omega arith
