-- The claims of specs/Claims.antt. Assumes nothing.
use Rattle.std.specs.Prelude.{if◌then◌else◌}
use mathlib.Core.Path.{◌≡◌, refl, sym, ap, ◌∙◌}
use mathlib.Core.List.{List}
use mathlib.Core.Bool.{Bool, true, false}
use Prim.Native.Nat.{ℕ, ◌*◌, ◌/◌}
use native.Mathlib.Omega.{arith}
use borrow.Author.Tests.{ne_eqb, le-ltb}
use lib.Dec.{eqb}
use lib.IntN.{ℤ}
use lib.ListN.{length, drop}
use lib.Seq.{drop-append_seam}
use Rattle.stages.specs.Outcome.{Done, Refused, Outcome, outcome, ruled, written, over}
use Rattle.filters.specs.Lists.{tabulate, joined, pairs, padded}
use Rattle.filters.specs.Run.{run, end}
use Rattle.filters.specs.Stage.Down2.{down2, down2_end}
use Rattle.filters.specs.Stage.Down2_3.{down23, down23_end}
use Rattle.filters.specs.Stage.AnaFiltBank1.{split_low, split_high, split_end}
use Rattle.stages.specs.Entry.{half_row, down23_row, down2_outcome, split_outcome, down23_outcome}
use Rattle.stages.specs.Claims.{Fixed, OutcomesFixed, AnswersFixed, StagesFixed, DeadFixed, RefusedBy, RefusalsRefuse, NothingKept, BeyondUntouched}
use Rattle.filters.proofs.Laws.Group.{no-group, down23-length}
use Rattle.stages.proofs.Laws.Outcome.{answer-tells}

-- two that equal the same
pub fixed : {S L : Type 0} (promised : Outcome S L) → Fixed promised
fixed promised a b p q = p ∙ sym q

pub outcomes_fixed : OutcomesFixed
unfolding OutcomesFixed
outcomes_fixed w input out high = (fixed (down2_outcome w input out), fixed (split_outcome w input out high), fixed (down23_outcome w input out))

pub answers_fixed : AnswersFixed
unfolding AnswersFixed
answers_fixed S L promised a b s t l m p q =
    let same = p ∙ sym q in
    (answer-tells a b (ap (λ o. o.answer) same), ap (λ o. o.state) same, ap (λ o. o.lent) same)

pub stages_fixed : StagesFixed
unfolding StagesFixed
stages_fixed S A made before kept o p w v a b = (a.filled ∙ sym b.filled, a.carried ∙ sym b.carried)

pub dead_fixed : DeadFixed
unfolding DeadFixed
dead_fixed order f g live zf zg = zf ∙ ap (padded 36) live ∙ sym zg

-- every outcome is ruled by its row
ruled-refuses : {S L : Type 0} (row : ℕ) (s : S) (lent : L) (done : Outcome S L) → RefusedBy row s lent (ruled row s lent done)
ruled-refuses row s lent done h = rw (ne_eqb row 0 h) (record { numbered = refl; none = refl; same = refl; untouched = refl })

pub refusals_refuse : RefusalsRefuse
unfolding RefusalsRefuse down2_outcome split_outcome down23_outcome
refusals_refuse w input out high = (
  ruled-refuses (half_row (length input) _) w out _,
  ruled-refuses (half_row (length input) _) w (out, high) _,
  ruled-refuses (down23_row (length input) (length out)) w out _,
)

pub nothing_kept : NothingKept
unfolding NothingKept down2_outcome split_outcome down23_outcome half_row down23_row down2 down2_end split_low split_high split_end down23 tabulate joined pairs run end
nothing_kept w v out h = (refl, refl, rw (le-ltb (length out) 0 (omega arith), no-group w h) refl)

-- done or refused, what is behind the written count is the old output's
behind : (row : ℕ) (w made out : List ℤ) (n : ℕ) (s : List ℤ) → length made ≡ n
    → let o = ruled row w out (outcome (Done n) s (over made out)) in drop (written o.answer) o.lent ≡ drop (written o.answer) out
behind row w made out n s e = go (eqb row 0)
  where
    go : (b : Bool) → let o = if b then outcome (Done n) s (over made out) else outcome (Refused row) w out in
        drop (written o.answer) o.lent ≡ drop (written o.answer) out
    go true = rw (← e) (drop-append_seam made (drop (length made) out))
    go false = refl

pub beyond_untouched : BeyondUntouched
unfolding BeyondUntouched down23_outcome
beyond_untouched w input out =
    behind (down23_row (length input) (length out)) w (down23 w input) out (2 * (length input / 3)) (down23_end w input) (down23-length w input)
