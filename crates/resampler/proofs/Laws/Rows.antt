-- A call on which no row applies is one that is asked for; and what such a call makes is small. Assumes nothing.
use Rattle.std.specs.Prelude.{if◌then◌else◌}
use mathlib.Core.Path.{◌≡◌, refl}
use mathlib.Core.Bool.{Bool, true, false, not, ◌||◌}
use Prim.Native.Nat.{ℕ, zero, suc, ◌*◌, ◌/◌, ◌%◌, ◌<◌, ◌≤◌}
use native.Mathlib.Nat.{mul-le-mul, div-le_of_le-mul}
use native.Mathlib.Omega.{arith}
use borrow.Author.Tests.{eqb-true, eqb-false, ltb-false}
use lib.Dec.{eqb, ltb}
use Rattle.resampler.specs.Pairs.{Pair, supported}
use Rattle.resampler.specs.declared.Record.{Record}
use Rattle.resampler.specs.Record.{pair_of}
use Rattle.resampler.specs.Resample.{made, Calling}
use Rattle.resampler.specs.Entry.{resample_row}
use Rattle.resampler.proofs.Laws.Pairs.{small}
use Rattle.resampler.proofs.Laws.Entries.{Whole}

pub record Clear (p : Pair) (n room : ℕ) : Type 0 where
  pub pair : supported p ≡ true
  pub some : 0 < n
  pub whole : n % p.inKhz ≡ 0
  pub few : n ≤ 1000 * p.inKhz
  pub fits : made p n ≤ room

positive : (n : ℕ) → (n ≡ 0 → ⊥) → 0 < n
positive zero h = absurd (h refl)
positive (suc n) h = omega arith

module _ (p : Pair) (n room : ℕ) where
  pub row-clear : resample_row p n room ≡ 0 → Clear p n room
  unfolding resample_row
  row-clear = go (supported p) (eqb n 0) (eqb (n % p.inKhz) 0) (ltb (1000 * p.inKhz) n) (ltb room (made p n)) refl refl refl refl refl
    where
      go : (a b c d e : Bool) → supported p ≡ a → eqb n 0 ≡ b → eqb (n % p.inKhz) 0 ≡ c → ltb (1000 * p.inKhz) n ≡ d → ltb room (made p n) ≡ e
          → ◌≡◌ {A = ℕ} (if not a then 2 else if b || not c then 3 else if d then 4 else if e then 5 else 0) 0 → Clear p n room
      go false b c d e ha hb hc hd he h = absurd (omega (arith, h))
      go true true c d e ha hb hc hd he h = absurd (omega (arith, h))
      go true false false d e ha hb hc hd he h = absurd (omega (arith, h))
      go true false true true e ha hb hc hd he h = absurd (omega (arith, h))
      go true false true false true ha hb hc hd he h = absurd (omega (arith, h))
      go true false true false false ha hb hc hd he h =
          let z = eqb-false n 0 hb in record {
            pair = ha;
            some = positive n z;
            whole = eqb-true _ 0 hc;
            few = ltb-false _ n hd;
            fits = ltb-false room _ he;
          }

-- a thousand milliseconds make at most 48000 samples
pub made-small : (p : Pair) (n : ℕ) → supported p ≡ true → n ≤ 1000 * p.inKhz → n / p.inKhz * p.outKhz ≤ 48000
made-small p n h l =
    let (d, i, j, o, q) = small p h in
    let m : n / p.inKhz ≤ 1000 = div-le_of_le-mul p.inKhz (omega (arith, l)) in
    omega (arith, mul-le-mul m q)

-- a call on which no row applies is one that may be made
pub called : (s : Record) (n room : ℕ) → Whole s → resample_row (pair_of s) n room ≡ 0 → Calling s n room
called s n room w h =
    let k = row-clear (pair_of s) n room h in
    record { pair = k.pair; whole = k.whole; some = k.some; fits = k.fits; doubler = w.0; samples = w.1; ar2 = w.2; fir = w.3; delay = w.4 }
