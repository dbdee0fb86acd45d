-- `line::opening::open` meets its contract: the words' numbers are the pair asked for, and without one there is no pair.
-- Assumes nothing.
use mathlib.Core.Path.{◌≡◌, refl, ap, ◌∙◌}
use Rattle.std.specs.Prelude.{Option, Some, None, Result, Ok, Err, unwrap_or}
use Rattle.std.specs.Option.{ok_or}
use Rattle.std.proofs.lemmas.Result.{err_from_is_err_and}
use Rattle.stages.specs.declared.answer.Refusal.{Refusal}
use Rattle.stages.specs.declared.answer.Refusal.TheVariants.{PairNotListed}
use Rattle.line.specs.Opening.{asked_for}
use Rattle.line.proofs.Laws.Opening.{no-direction, no-rate-in, no-rate-out, stays-shut}
use Rattle.line.proofs.opening.open.Goals as goal

-- where a word is refused, it has no number, and the refusal is the pair's
refused : {A : Type 0} (word : Option A) {r : Result A Refusal} {e y : Refusal} → r ≡ ok_or word PairNotListed → r ≡ Err e → y ≡ e → (None ≡ word) × (y ≡ PairNotListed)
refused None p q k = (refl, cc)
refused (Some x) p q k = cc

-- and where it is taken, its number is the one in it
taken : {A : Type 0} (word : Option A) {r : Result A Refusal} {x : A} → r ≡ ok_or word PairNotListed → r ≡ Ok x → Some x ≡ word
taken None p q = cc
taken (Some y) p q = cc

pub returns-in_err-forEnc : goal.returns-in_err-forEnc
unfolding asked_for
returns-in_err-forEnc c =
    let p = err_from_is_err_and c.from_residual.result c.from_residual.ensures.1 in
    let (none, is) = refused c.direction_in.result c.ok_or.ensures.value c.in_err-forEnc.was p.2 in
    rw (p.1, is) (stays-shut _ _ refl (no-direction _ _ _ (ap (λ o. unwrap_or o 2) none ∙ c.direction_in.ensures.0)))

pub returns-in_err-inKhz : goal.returns-in_err-inKhz
unfolding asked_for
returns-in_err-inKhz c =
    let p = err_from_is_err_and c.from_residual-in_err-inKhz.result c.from_residual-in_err-inKhz.ensures.1 in
    let (none, is) = refused c.khz_in.result c.ok_or-2.ensures.value c.in_err-inKhz.was p.2 in
    rw (p.1, is) (stays-shut _ _ refl (no-rate-in _ _ _ (ap (λ o. unwrap_or o 0) none ∙ c.khz_in.ensures)))

pub returns-in_err-outKhz : goal.returns-in_err-outKhz
unfolding asked_for
returns-in_err-outKhz c =
    let p = err_from_is_err_and c.from_residual-in_err-outKhz.result c.from_residual-in_err-outKhz.ensures.1 in
    let (none, is) = refused c.khz_in-2.result c.ok_or-3.ensures.value c.in_err-outKhz.was p.2 in
    rw (p.1, is) (stays-shut _ _ refl (no-rate-out _ _ _ (ap (λ o. unwrap_or o 0) none ∙ c.khz_in-2.ensures)))

pub returns : goal.returns
unfolding asked_for
returns c =
    let d = ap (λ o. unwrap_or o 2) (taken c.direction_in.result c.ok_or.ensures.value c.in_ok-forEnc.was) ∙ c.direction_in.ensures.0 in
    let i = ap (λ o. unwrap_or o 0) (taken c.khz_in.result c.ok_or-2.ensures.value c.in_ok-inKhz.was) ∙ c.khz_in.ensures in
    let o = ap (λ o. unwrap_or o 0) (taken c.khz_in-2.result c.ok_or-3.ensures.value c.in_ok-outKhz.was) ∙ c.khz_in-2.ensures in
    rw (← d, ← i, ← o) c.fresh_block.ensures
