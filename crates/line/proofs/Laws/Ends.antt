-- What resuming and parking leave, by their rows; and that calls keep a line's pair. Assumes nothing.
use Rattle.std.specs.Prelude.{if◌then◌else◌}
use mathlib.Core.Path.{◌≡◌, refl, sym, ap, ◌∙◌}
use mathlib.Core.Bool.{Bool, true, false, not, ◌&&◌}
use mathlib.Core.List.{List}
use Prim.Native.Nat.{ℕ, ◌*◌, ◌≤◌}
use native.Mathlib.Omega.{arith}
use borrow.Author.Tests.{eq-eqb, eqb-true, eqb-false}
use lib.Dec.{eqb}
use lib.IntN.{ℤ}
use lib.ListN.{length, take, drop, get_or, length-append}
use Rattle.filters.specs.Lists.{every, cut}
use Rattle.filters.specs.Run.{pass_end}
use Rattle.stages.specs.Outcome.{Answer, Done, Refused, Outcome, outcome, number}
use Rattle.filters.proofs.Laws.Run.{end-keeps}
use Rattle.resampler.specs.declared.Record.{Record}
use Rattle.resampler.specs.Pairs.{supported}
use Rattle.resampler.specs.Record.{pair_of, dead, keeping, record_of, blank}
use Rattle.resampler.specs.Resample.{after}
use Rattle.little_endian.specs.Bytes.{laid, value}
use Rattle.resampler.specs.Block.{check, layout, zero?, record_in, resume_row, resume_outcome, block_of, park_row, park_outcome}
use Rattle.resampler.proofs.Laws.Resuming.{row-length}
use Rattle.line.specs.Line.{taken, made, kept}
use Rattle.line.specs.Call.{Begins, Leaves}

-- a supported pair is parked
pub parked : (s : Record) (before : List ℕ) {a : Answer} {t : Record} {block : List ℕ} → supported (pair_of s) ≡ true → length before ≡ 512
    → outcome a t block ≡ park_outcome s before → block ≡ block_of s
unfolding park_outcome park_row
parked s before h l r = ap (λ (t : Outcome Record (List ℕ)). t.lent) (rw (h, eq-eqb (length before) 512 l) at r)

-- where no row applies, the pair is supported
pub row-supported : (b : List ℕ) → resume_row b ≡ 0 → supported (pair_of (record_in b)) ≡ true
unfolding resume_row
row-supported b h =
    go (eqb (length b) 512) (eqb (value (drop 508 b)) (check b)) (eqb (get_or b 3 0) layout) (supported (pair_of (record_in b)))
    (every zero? (dead (record_in b)) && every (eqb 0) (take 216 (drop 292 b))) refl h
  where
    go : (w x y z later : Bool) → supported (pair_of (record_in b)) ≡ z
        → ◌≡◌ {A = ℕ} (if not w then 8 else if not x then 9 else if not y then 10 else if not z then 11 else if not later then 12 else 0) 0
        → supported (pair_of (record_in b)) ≡ true
    go false x y z later e q = absurd (omega (arith, q))
    go true false y z later e q = absurd (omega (arith, q))
    go true true false z later e q = absurd (omega (arith, q))
    go true true true false later e q = absurd (omega (arith, q))
    go true true true true later e q = e

-- and the block has its length
pub row-whole : (b : List ℕ) → resume_row b ≡ 0 → length b ≡ 512
row-whole b h = go (eqb (length b) 512) refl
  where
    go : (z : Bool) → eqb (length b) 512 ≡ z → length b ≡ 512
    go true e = eqb-true _ 512 e
    go false e = absurd (omega (arith, h, row-length b (eqb-false _ 512 e)))

-- a resuming is its row and the record in the block
pub begins : (b : List ℕ) {a : Answer} {r : Record} {row : ℕ} → outcome a r (tt {0}) ≡ resume_outcome b → row ≡ number a → Begins b row r
unfolding resume_outcome
begins b {a} {r} {row} e f = go (eqb (resume_row b) 0) refl e
  where
    go : (z : Bool) → eqb (resume_row b) 0 ≡ z
        → outcome a r (tt {0}) ≡ (if z then outcome (Done 0) (record_in b) (tt {0}) else outcome (Refused (resume_row b)) blank (tt {0})) → Begins b row r
    go true y q =
        let n = eqb-true (resume_row b) 0 y in
        let s = ap (λ (t : Outcome Record (Unit {0})). t.state) q in
        record {
          is = f ∙ ap (λ (t : Outcome Record (Unit {0})). number t.answer) q ∙ sym n;
          resumed = λ z. s;
          pair = λ z. ap (λ (t : Record). supported (pair_of t)) s ∙ row-supported b n;
        }
    go false y q =
        let n = eqb-false (resume_row b) 0 y in
        let is = f ∙ ap (λ (t : Outcome Record (Unit {0})). number t.answer) q in
        record { is = is; resumed = λ z. absurd (n (sym is ∙ z)); pair = λ z. absurd (n (sym is ∙ z)) }

-- ---- the pair

after-pair : (s : Record) (xs : List ℤ) → pair_of (after s xs) ≡ pair_of s
unfolding after record_of keeping
after-pair s xs = refl

pub kept_pair : (s : Record) (b : List ℕ) → pair_of (kept s b) ≡ pair_of s
unfolding kept pass_end
kept_pair s b =
    end-keeps after (λ t. pair_of t ≡ pair_of s) (λ t xs h. after-pair t xs ∙ h) s (cut (100 * s.inKhz) (taken s b)) refl

pub still_supported : (s : Record) (b : List ℕ) {t : Record} → supported (pair_of s) ≡ true → t ≡ kept s b → supported (pair_of t) ≡ true
still_supported s b h e = ap (λ (t : Record). supported (pair_of t)) e ∙ ap supported (kept_pair s b) ∙ h

-- ---- what was made lies within its room

pub count_within : {s : Record} {b before after : List ℕ} {t : Record} {count left : ℕ} → Leaves s b before after t count left → count ≤ length after
count_within {s} {b} {before} {after} {t} {count} l =
    let new = laid 2 (made s b) in
    omega (arith, l.counted, ap length l.filled, length-append new (drop (length new) before))
