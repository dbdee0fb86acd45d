-- `resampler::init::silk_resampler_init` meets its contract: the pair asked for is tested, and its record is the fresh one.
-- Assumes nothing.
use Rattle.std.specs.Prelude.{if◌then◌else◌}
use mathlib.Core.Path.{◌≡◌, refl, sym, ap, ◌∙◌}
use mathlib.Core.Bool.{true, false, not}
use Prim.Native.Nat.{ℕ}
use native.Mathlib.Omega.{arith}
use lib.IntN.{ℤ}
use mir.Syntax.{w32}
use Rattle.std.proofs.lemmas.Int.{to_z-of_z}
use Rattle.stages.specs.declared.answer.Refusal.TheVariants.{PairNotListed}
use Rattle.stages.proofs.Laws.Outcome.{ruled-refused, ruled-done}
use Rattle.resampler.specs.Pairs.{Pair, pair, supported}
use Rattle.resampler.specs.Record.{fresh, blank}
use Rattle.resampler.specs.Entry.{khz, direction_of, asked, open_outcome}
use Rattle.resampler.proofs.Laws.Pairs.{small, none-in, none-out}
use Rattle.resampler.proofs.init.silk_resampler_init.Goals as goal
use Rattle.resampler.proofs.init.silk_resampler_init.Goals.{in_default-via-in-Some+in_default, in_default-via-in_default}

abbrev row : Pair → ℕ
row p = if not (supported p) then 1 else 0

unlisted : (p : Pair) → supported p ≡ false → 1 ≡ row p
unlisted p e = rw e refl

listed : (p : Pair) → supported p ≡ true → 0 ≡ row p
listed p e = rw e refl

pub returns-in_default : goal.returns-in_default
unfolding open_outcome blank asked
returns-in_default c =
    let p = asked c.args.Fs_Hz_in c.args.Fs_Hz_out c.args.forEnc in
    let i = rw (to_z-of_z w32 c.args.Fs_Hz_in c.ranges.Fs_Hz_in) at c.khz.ensures in
    let o = rw (to_z-of_z w32 c.args.Fs_Hz_out c.ranges.Fs_Hz_out) at c.khz-2.ensures in
    elim c.in_default.branch [
      | in_default-via-in-Some+in_default w ↦ let none = rw w.in_default.is-1 at o in
          ruled-refused blank tt _ PairNotListed (unlisted p (none-out p (sym none))) c.refused.ensures
      | in_default-via-in_default w ↦ let none = rw w.in_default.is-0 at i in
          ruled-refused blank tt _ PairNotListed (unlisted p (none-in p (sym none))) c.refused.ensures
    ]

-- the pair that is tested is the one asked for
given : (inHz outHz forEnc : ℤ) {d i o : ℕ} → d ≡ direction_of forEnc → i ≡ khz inHz → o ≡ khz outHz → pair d i o ≡ asked inHz outHz forEnc
unfolding asked
given inHz outHz forEnc e f g = λ k. pair (e k) (f k) (g k)

pub returns-then-not-supported : goal.returns-then-not-supported
unfolding open_outcome blank
returns-then-not-supported c =
    let d = rw (to_z-of_z w32 c.args.forEnc c.ranges.forEnc) at c.direction_of-direction.ensures in
    let i = rw (to_z-of_z w32 c.args.Fs_Hz_in c.ranges.Fs_Hz_in) at c.in-Some-Some.ensures in
    let o = rw (to_z-of_z w32 c.args.Fs_Hz_out c.ranges.Fs_Hz_out) at c.in-Some-Some.ensures' in
    let is = given c.args.Fs_Hz_in c.args.Fs_Hz_out c.args.forEnc d i o in
    let p = asked c.args.Fs_Hz_in c.args.Fs_Hz_out c.args.forEnc in
    let no = sym (ap supported is) ∙ sym c.if-not-supported.ensures in
    ruled-refused blank tt _ PairNotListed (unlisted p no) c.refused-then-not-supported.ensures

few : (c : goal.Else-not-supported) → let p = pair c.direction_of-direction.result c.in-Some-Some.inKhz c.in-Some-Some.outKhz in supported p ≡ true
few c = sym c.if-not-supported.ensures

pub overflow_cast-direction : goal.overflow_cast-direction
overflow_cast-direction c = let (d, i, j, o, q) = small _ (few c) in record { fits = omega arith }

pub overflow_cast-inKhz : goal.overflow_cast-inKhz
overflow_cast-inKhz c = let (d, i, j, o, q) = small _ (few c) in record { fits = omega arith }

pub overflow_cast-outKhz : goal.overflow_cast-outKhz
overflow_cast-outKhz c = let (d, i, j, o, q) = small _ (few c) in record { fits = omega arith }

pub returns : goal.returns
unfolding open_outcome
returns c =
    let d = rw (to_z-of_z w32 c.args.forEnc c.ranges.forEnc) at c.direction_of-direction.ensures in
    let i = rw (to_z-of_z w32 c.args.Fs_Hz_in c.ranges.Fs_Hz_in) at c.in-Some-Some.ensures in
    let o = rw (to_z-of_z w32 c.args.Fs_Hz_out c.ranges.Fs_Hz_out) at c.in-Some-Some.ensures' in
    let is = given c.args.Fs_Hz_in c.args.Fs_Hz_out c.args.forEnc d i o in
    let yes = sym (ap supported is) ∙ sym c.if-not-supported.ensures in
    ruled-done blank tt (listed _ yes) c.done.ensures (c.fresh.ensures ∙ ap fresh is) refl
