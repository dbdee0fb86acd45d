-- How much a call of the program takes and makes: all of it within its buffers. Assumes nothing.
use mathlib.Core.Path.{◌≡◌, sym, ap, ◌∙◌}
use Prim.Native.Nat.{ℕ, ◌*◌, ◌/◌, ◌%◌, ◌<◌, ◌≤◌}
use native.Mathlib.Nat.{mul_assoc, mul_comm, mul-le-mul_right, div-le_of_le-mul, div-add-mod', mul-div_cancel, mul-mod_left}
use native.Mathlib.Omega.{arith}
use Rattle.resampler.specs.declared.Record.{Record}
use Rattle.resampler.specs.Record.{pair_of}
use Rattle.resampler.specs.Resample as Resample
use Rattle.resampler.proofs.Laws.Pairs.{small}
use Rattle.line.specs.Line.{unit}
use Rattle.line.specs.Call.{Asks}

-- of `len` bytes, `ms` whole milliseconds
pub record Sizes (s : Record) (len room ms : ℕ) : Type 0 where
  pub some : 0 < s.inKhz
  pub taken : ms * s.inKhz ≤ 4800
  pub few : ms * s.inKhz ≤ 100 * s.inKhz
  pub held : 2 * (ms * s.inKhz) ≤ len
  pub whole : ms * s.inKhz % s.inKhz ≡ 0
  pub makes : Resample.made (pair_of s) (ms * s.inKhz) ≡ ms * s.outKhz
  pub made : ms * s.outKhz ≤ 4800
  pub fits : 2 * (ms * s.outKhz) ≤ room

twice : (m k : ℕ) → m * (2 * k) ≡ 2 * (m * k)
twice m k = sym (mul_assoc m 2 k) ∙ ap (λ (j : ℕ). j * k) (mul_comm m 2) ∙ mul_assoc 2 m k

pub sizes : {s : Record} {len room : ℕ} → Asks s len room → Sizes s len room (len / unit s)
unfolding Resample.made
sizes {s} {len} {room} a =
    let (d, i, j, o, q) = small (pair_of s) a.pair in
    let ms = len / unit s in
    let h : ms ≤ 100 = div-le_of_le-mul (unit s) (omega (arith, a.few)) in
    let k = mul-le-mul_right s.inKhz h in
    let m = mul-le-mul_right s.outKhz h in
    record {
      some = omega arith;
      taken = omega arith;
      few = k;
      held = omega (arith, twice ms s.inKhz, div-add-mod' len (unit s));
      whole = mul-mod_left ms s.inKhz;
      makes = ap (λ (t : ℕ). t * s.outKhz) (mul-div_cancel ms (omega arith));
      made = omega arith;
      fits = omega (arith, a.fits);
    }
