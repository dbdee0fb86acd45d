-- The claims of specs/Claims.antt. Assumes nothing.
use mathlib.Core.Path.{◌≡◌, refl, sym, ap, ◌∙◌}
use mathlib.Core.Bool.{true}
use mathlib.Core.List.{List, [], ◌∷◌, ◌++◌, append-nil, append_assoc}
use Prim.Native.Nat.{ℕ, ◌*◌}
use native.Mathlib.Omega.{arith}
use borrow.Author.Tests.{eqb-true}
use lib.Dec.{eqb}
use lib.ListN.{length}
use lib.Seq.{take_all, take_at, drop_at}
use Rattle.filters.specs.Lists.{joined, every}
use Rattle.filters.proofs.Laws.Lists.{both_true}
use Rattle.resampler.specs.declared.Record.{Record}
use Rattle.resampler.specs.Pairs.{Pair, supported}
use Rattle.resampler.specs.Record.{pair_of}
use Rattle.little_endian.specs.Bytes.{laid}
use Rattle.resampler.specs.Block.{record_in, resume_row}
use Rattle.resampler.proofs.Laws.Resuming.{row-length}
use Rattle.line.specs.Line.{streams, unit, made, kept, goes_on, program}
use Rattle.line.specs.Claims.{fed, CallByCall, ShortRefused, EmptyLine}
use Rattle.line.proofs.Laws.Ends.{row-supported, row-whole, kept_pair, still_supported}
use Rattle.line.proofs.Laws.Pieces.{goes-on-front, goes-on-empty}

-- by induction: each piece is the front of what is left
by-pieces : (s : Record) (pieces : List (List ℕ)) (last : List ℕ) → supported (pair_of s) ≡ true
    → every (λ b. eqb (length b) (100 * unit s)) pieces ≡ true → goes_on s (joined pieces ++ last) ≡ fed s pieces last
unfolding joined fed
by-pieces s [] last h q = refl
by-pieces s (b ∷ bs) last h q =
    let (here, there) = both_true (eqb (length b) (100 * unit s)) (every (λ c. eqb (length c) (100 * unit s)) bs) q in
    let rate = ap (λ (p : Pair). p.inKhz) (kept_pair s b) in
    let rest : every (λ c. eqb (length c) (100 * unit (kept s b))) bs ≡ true = ap (λ (k : ℕ). every (λ c. eqb (length c) (100 * (2 * k))) bs) rate ∙ there in
    let later = by-pieces (kept s b) bs last (still_supported s b h refl) rest in
    ap (goes_on s) (append_assoc b (joined bs) last) ∙ goes-on-front s h b (joined bs ++ last) (eqb-true _ _ here)
    ∙ (λ i. streams (laid 2 (made s b) ++ (later i).out) (later i).err)

-- a block that is not refused, and what comes behind it
accepted : (block rest : List ℕ) → resume_row block ≡ 0 → program (block ++ rest) ≡ goes_on (record_in block) rest
unfolding program
accepted block rest h =
    let l = row-whole block h in
    rw (take_at block rest 512 l, drop_at block rest 512 l, h) refl

pub call_by_call : CallByCall
unfolding CallByCall
call_by_call block pieces last h q =
    accepted block (joined pieces ++ last) h ∙ by-pieces (record_in block) pieces last (row-supported block h) q

pub short_refused : ShortRefused
unfolding ShortRefused program
short_refused input h =
    let t = take_all 512 input (omega arith) in
    let r = row-length input (λ e. omega (arith, e, h)) in
    rw (t, r) refl

pub empty_line : EmptyLine
unfolding EmptyLine
empty_line block h = ap program (sym (append-nil block)) ∙ accepted block [] h ∙ goes-on-empty (record_in block)
