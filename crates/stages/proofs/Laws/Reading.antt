-- A loop that reads a buffer at j increments, as specs/Reader.antt says: its invariant, its turn, its end. Assumes nothing.
use mathlib.Core.Path.{◌≡◌, refl, sym, ◌∙◌, ap}
use mathlib.Core.List.{List, map}
use Prim.Native.Nat.{ℕ, ◌+◌, ◌*◌, ◌-◌, ◌/◌, ◌%◌, ◌<◌, ◌≤◌}
use native.Mathlib.Nat.{add-mul, mul_assoc, mul_comm, mul-sub, mul-le-mul_right, le_of_mul-le-mul_right, div-add-mod'}
use native.Mathlib.Omega.{arith}
use lib.IntN.{ℤ}
use lib.ListN.{length, drop, set}
use Rattle.filters.specs.Lists.{tabulate}
use Rattle.stages.specs.Outcome.{over}
use Rattle.filters.specs.declared.rates.Rates.{Rates}
use Rattle.filters.specs.Reader.{read, outputs, Steady}
use Rattle.filters.proofs.Laws.Lists.{tabulate-next, tabulate-none, tabulate-length, tabulate-map}
use Rattle.stages.proofs.Laws.Loop.{Filling, fill_start, fill_one, fill_end}

module _ {A B : Type 0} (f : ℕ → List A → B) (increment n : ℕ) (buf : List A) (before : List B) where
  abbrev sample : ℕ → B
  sample j = f (j * increment % 65536) (drop (j * increment / 65536) buf)

  -- j samples are written, and the position is p
  pub record Reading (j p : ℕ) (o : List B) : Type 0 where
    pub within : j ≤ n
    pub room : n ≤ length before
    pub place : p ≡ j * increment
    pub filling : Filling (read f increment n buf) before j o (tabulate j (n - j) sample)

  pub read-start : n ≤ length before → Reading 0 0 before
  unfolding read
  read-start h =
      let e : n - 0 ≡ n = omega arith in
      record { within = omega arith; room = h; place = omega arith; filling = rw e (fill_start _ before) }

  module _ {j p : ℕ} {o : List B} (h : j < n) (r : Reading j p o) where
    pub read-room : j < length o
    read-room = omega (arith, r.filling.len, r.room)

    pub read-turn : {y : B} → y ≡ f (p % 65536) (drop (p / 65536) buf) → Reading (j + 1) (p + increment) (set o j y)
    read-turn {y} e =
        let s : y ≡ sample j = e ∙ rw r.place refl in
        let t = rw (tabulate-next n j sample h, ← s) at r.filling in
        record {
          within = omega arith;
          room = r.room;
          place = omega (arith, r.place, add-mul j 1 increment);
          filling = fill_one (read f increment n buf) before t read-room;
        }

  pub read-end : {j p : ℕ} {o : List B} → n ≤ j → Reading j p o → o ≡ over (read f increment n buf) before
  read-end {j} h r = fill_end _ before (rw (tabulate-none n j sample h) at r.filling)

-- what is read and then changed one by one is what is read changed
pub read-map : {A : Type 0} (k : ℤ → ℤ) (g : ℕ → List A → ℤ) (increment n : ℕ) (buf : List A)
    → map k (read g increment n buf) ≡ read (λ fraction ys. k (g fraction ys)) increment n buf
unfolding read
read-map k g increment n buf = tabulate-map k 0 n (λ j. g (j * increment % 65536) (drop (j * increment / 65536) buf))

pub read_length : {A B : Type 0} (f : ℕ → List A → B) (increment n : ℕ) (buf : List A) → length (read f increment n buf) ≡ n
unfolding read
read_length f increment n buf = tabulate-length 0 n _

-- the outputs of m milliseconds, at most ten, begin before their samples end
steady-reach : (num : ℕ) (r : Rates) → Steady num r → (m : ℕ) → m ≤ 10
    → m * r.outKhz * r.increment < 65536 * (m * num) + r.increment
steady-reach num r s m h =
    let o = r.outKhz * r.increment in
    let b = num * 65536 in
    let x = mul-le-mul_right (o - b) h in
    let y = mul-sub m o b in
    let z = mul-sub 10 o b in
    let v = mul_assoc m r.outKhz r.increment in
    let w = mul_assoc m num 65536 in
    omega (arith, s.reach, s.moves)

-- the same of n samples of input, whole milliseconds, each of which puts d samples into the buffer
pub whole-reach : (d : ℕ) (r : Rates) (n : ℕ) → Steady (d * r.inKhz) r → n % r.inKhz ≡ 0 → n ≤ 10 * r.inKhz
    → outputs r n * r.increment < 65536 * (d * n) + r.increment
whole-reach d r n s h l =
    let m = n / r.inKhz in
    let whole : m * r.inKhz ≡ n = omega (arith, div-add-mod' n r.inKhz) in
    let few = le_of_mul-le-mul_right {m = m} {n = 10} (omega arith) s.some in
    let e : m * (d * r.inKhz) ≡ d * n = sym (mul_assoc m d r.inKhz) ∙ ap (λ (k : ℕ). k * r.inKhz) (mul_comm m d) ∙ mul_assoc d m r.inKhz ∙ ap (λ (k : ℕ). d * k) whole in
    rw e at (steady-reach (d * r.inKhz) r s m few)
