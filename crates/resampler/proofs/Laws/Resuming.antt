-- The rows of resuming, in the order in which they are tested, and the record that stands in a block. Assumes nothing.
use Rattle.std.specs.Prelude.{if◌then◌else◌}
use mathlib.Core.Path.{◌≡◌, refl, ◌∙◌}
use mathlib.Core.Bool.{Bool, true, false, not, ◌&&◌}
use mathlib.Core.List.{List}
use Prim.Native.Nat.{ℕ}
use native.Mathlib.Omega.{arith}
use borrow.Author.Tests.{eq-eqb, ne_eqb, eqb-true}
use lib.Dec.{eqb}
use lib.ListN.{length, take, drop, get_or}
use Rattle.filters.specs.Lists.{every}
use Rattle.stages.specs.Outcome.{Done, outcome}
use Rattle.filters.proofs.Laws.Lists.{tabulate-length, both_true}
use Rattle.resampler.specs.declared.Record.{Record}
use Rattle.resampler.specs.Pairs.{supported}
use Rattle.resampler.specs.Record.{pair_of, dead}
use Rattle.little_endian.specs.Bytes.{value, read_by}
use Rattle.resampler.specs.Block.{check, layout, zero?, record_in, resume_row, resume_outcome}
use Rattle.resampler.proofs.Laws.Entries.{Whole}

pub in_whole : (b : List ℕ) → Whole (record_in b)
unfolding read_by record_in
in_whole b =
    (tabulate-length 0 6 _, tabulate-length 0 8 _, tabulate-length 0 2 _, tabulate-length 0 36 _, tabulate-length 0 48 _)

-- the rows of the check and the layout, before those that come later
abbrev sealing : Bool → Bool → ℕ → ℕ
sealing whole known later = if not whole then 9 else if not known then 10 else later

seal-refused : (whole known : Bool) (row later : ℕ) → row ≡ sealing whole known 0 → (row ≡ 0 → ⊥) → sealing whole known later ≡ row
seal-refused false known row later e n = rw e refl
seal-refused true false row later e n = rw e refl
seal-refused true true row later e n = absurd (n e)

seal-passed : (whole known : Bool) (row later : ℕ) → row ≡ sealing whole known 0 → row ≡ 0 → sealing whole known later ≡ later
seal-passed false known row later e z = absurd (omega arith)
seal-passed true false row later e z = absurd (omega arith)
seal-passed true true row later e z = refl

-- no row applies where every test is passed
passed : (long whole known pair zero : Bool)
    → ◌≡◌ {A = ℕ} (if not long then 8 else if not whole then 9 else if not known then 10 else if not pair then 11 else if not zero then 12 else 0) 0
    → (long ≡ true) × (whole ≡ true) × (known ≡ true) × (pair ≡ true) × (zero ≡ true)
passed false w k p z e = absurd (omega arith)
passed true false k p z e = absurd (omega arith)
passed true true false p z e = absurd (omega arith)
passed true true true false z e = absurd (omega arith)
passed true true true true false e = absurd (omega arith)
passed true true true true true e = (refl, refl, refl, refl, refl)

module _ (b : List ℕ) where
  abbrev whole : Bool
  whole = eqb (value (drop 508 b)) (check b)

  abbrev known : Bool
  known = eqb (get_or b 3 0) layout

  abbrev pub all_zero : Bool
  all_zero = every zero? (dead (record_in b)) && every (eqb 0) (take 216 (drop 292 b))

  abbrev later_row : ℕ
  later_row = if not (supported (pair_of (record_in b))) then 11 else if not all_zero then 12 else 0

  pub row-length : (length b ≡ 512 → ⊥) → resume_row b ≡ 8
  unfolding resume_row
  row-length n = rw (ne_eqb (length b) 512 n) refl

  module _ (room : length b ≡ 512) (row : ℕ) (is : row ≡ sealing whole known 0) where
    pub row-seal : (row ≡ 0 → ⊥) → resume_row b ≡ row
    unfolding resume_row
    row-seal n = rw (eq-eqb (length b) 512 room) (seal-refused whole known row later_row is n)

    row-later : row ≡ 0 → resume_row b ≡ later_row
    unfolding resume_row
    row-later z = rw (eq-eqb (length b) 512 room) (seal-passed whole known row later_row is z)

    pub row-pair : row ≡ 0 → supported (pair_of (record_in b)) ≡ false → resume_row b ≡ 11
    row-pair z n = row-later z ∙ rw n refl

    pub row-dead : row ≡ 0 → supported (pair_of (record_in b)) ≡ true → all_zero ≡ false → resume_row b ≡ 12
    row-dead z y n = row-later z ∙ rw (y, n) refl

    pub row-none : row ≡ 0 → supported (pair_of (record_in b)) ≡ true → all_zero ≡ true → resume_row b ≡ 0
    row-none z y a = row-later z ∙ rw (y, a) refl

  -- all that a block passes on which no row applies
  pub record Accepted : Type 0 where
    pub long : length b ≡ 512
    pub sum : value (drop 508 b) ≡ check b
    pub form : get_or b 3 0 ≡ layout
    pub pair : supported (pair_of (record_in b)) ≡ true
    pub rest : every zero? (dead (record_in b)) ≡ true
    pub pads : every (eqb 0) (take 216 (drop 292 b)) ≡ true

  pub row-accepted : resume_row b ≡ 0 → Accepted
  unfolding resume_row
  row-accepted e =
      let (l, w, k, p, z) = passed (eqb (length b) 512) whole known (supported (pair_of (record_in b))) all_zero e in
      let (d, q) = both_true _ _ z in
      record { long = eqb-true _ 512 l; sum = eqb-true _ _ w; form = eqb-true _ layout k; pair = p; rest = d; pads = q }

  pub accepted-row : Accepted → resume_row b ≡ 0
  unfolding resume_row
  accepted-row a =
      rw (eq-eqb (length b) 512 a.long, eq-eqb (value (drop 508 b)) (check b) a.sum, eq-eqb (get_or b 3 0) layout a.form, a.pair, a.rest, a.pads) refl

  pub resume-done : {r : Record} → r ≡ record_in b → resume_row b ≡ 0 → outcome (Done 0) r tt ≡ resume_outcome b
  unfolding resume_outcome
  resume-done e h = (λ i. outcome (Done 0) (e i) tt) ∙ rw h refl
