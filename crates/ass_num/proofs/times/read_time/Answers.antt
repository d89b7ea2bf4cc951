-- The parts one behind the other, or the first that is missing.
use Rattle.std.proofs.Common.{inl, inr, refl, arith}
use Rattle.std.proofs.lemmas.Int.{ints}
use Rattle.std.proofs.lemmas.List.{take_rest}
use Rattle.ass_num.proofs.Clocks.{no_hours, no_minutes, no_seconds, no_hundredths, time_some}
use Rattle.ass_num.proofs.times.read_time.Goals as goal
use Rattle.ass_num.proofs.times.read_time.Goals.{then-digits-eq0-via-then-digits-eq0, then-digits-eq0-via-else-digits-eq0+then-digits-gt6, then-digits-eq0-via-else-digits-eq0+else-digits-gt6+then-end-blanks_before}

pub returns-in_err-hours-clause-none : goal.returns-in_err-hours-clause-none
returns-in_err-hours-clause-none c =
    rw c.from_residual.ensures (λ time m. no_hours c.args.text.now _ c.blanks_before-start.ensures.count time m (simp take_rest at c.in_err-hours.ensures.none))

pub returns-in_err-minutes-clause-none : goal.returns-in_err-minutes-clause-none
returns-in_err-minutes-clause-none c =
    rw c.from_residual-in_err-minutes.ensures
    (λ time m. no_minutes c.args.text.now _ c.blanks_before-start.ensures.count time m _ _ (simp take_rest at c.in_ok-hours.ensures.some) (simp take_rest at c.in_err-minutes.ensures.none))

pub returns-in_err-seconds-clause-none : goal.returns-in_err-seconds-clause-none
returns-in_err-seconds-clause-none c =
    rw c.from_residual-in_err-seconds.ensures
    (λ time m. no_seconds c.args.text.now _ c.blanks_before-start.ensures.count time m _ _ (simp take_rest at c.in_ok-hours.ensures.some) _ _ (simp take_rest at c.in_ok-minutes.ensures.some)
    (simp take_rest at c.in_err-seconds.ensures.none))

pub returns-then-digits-eq0-clause-none : goal.returns-then-digits-eq0-clause-none
returns-then-digits-eq0-clause-none c =
    let t = c.args.text.now in
    let blanks = c.blanks_before-start.ensures.count in
    let hours = simp take_rest at c.in_ok-hours.ensures.some in
    let minutes = simp take_rest at c.in_ok-minutes.ensures.some in
    let seconds = simp take_rest at c.in_ok-seconds.ensures.some in
    let digits = simp take_rest at c.decimal_digits-hundredths.ensures.count in
    λ time m. elim c.then-digits-eq0.branch [
      | then-digits-eq0-via-then-digits-eq0 w ↦ no_hundredths t _ blanks time m _ _ hours _ _ minutes _ _ _ _ seconds digits refl (inl w.if-digits-eq0.true)
      | then-digits-eq0-via-else-digits-eq0+then-digits-gt6 w ↦ no_hundredths t _ blanks time m _ _ hours _ _ minutes _ _ _ _ seconds digits refl (inr (inl w.if-digits-gt6.true))
      | then-digits-eq0-via-else-digits-eq0+else-digits-gt6+then-end-blanks_before w ↦
          no_hundredths t _ blanks time m _ _ hours _ _ minutes _ _ _ _ seconds digits (simp take_rest at w.blanks_before.ensures.count) (inr (inr w.if-end-blanks_before.true))
    ]

pub returns-clause-some : goal.returns-clause-some
returns-clause-some c =
    time_some c.args.text.now _ _ _ _ _ _ _ _ _ _ c.blanks_before-start.ensures.count (simp take_rest at c.in_ok-hours.ensures.some) (simp take_rest at c.in_ok-minutes.ensures.some)
    (simp take_rest at c.in_ok-seconds.ensures.some) (simp take_rest at c.decimal_digits-hundredths.ensures.count) (simp take_rest at c.decimal_digits-hundredths.ensures.number)
    (simp take_rest at c.blanks_before.ensures.count) (omega arith) (omega arith) (omega arith) _
    (omega (arith, ints, c.in_ok-hours.ensures.small, c.in_ok-minutes.ensures.small, c.in_ok-seconds.ensures.small, c.decimal_digits-hundredths.ensures.number))
