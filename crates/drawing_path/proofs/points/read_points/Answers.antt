use Rattle.std.proofs.Common.{◌≡◌, ℕ, ◌<◌, None, List, get_or, sym, ◌∙◌, subst, arith, rules}
use Rattle.std.proofs.Common.{ℤ, FitsSigned, w64}
use Rattle.std.proofs.lemmas.Int.{to_z-of_z}
use Rattle.ass_num.specs.Fronts.{IsLongestFront, HasNoFront}
use Rattle.ass_num.specs.Numerals.{IsMilli}
use Rattle.drawing_path.specs.Tokens.{command_of}
use Rattle.drawing_path.specs.Runs.{AddsNumber}
use Rattle.drawing_path.proofs.ReadingLemmas.{reading_number, reading_skipped, reading_ends, rest_of, no_command, ends_at, some_bytes}
use Rattle.drawing_path.proofs.points.read_points.Goals as goal

pub returns-then-is_some : goal.returns-then-is_some
returns-then-is_some c =
    reading_ends c.args.text.now c.loop-at.at c.loop-at.points.items c.loop-at.waiting c.loop-at.invariant
    (ends_at c.args.text.now c.loop-at.at c.command_of.result c.loop-at-test.true c.command_of.ensures (sym c.is_some.ensures ∙ c.if-is_some.true))

pub returns : goal.returns
returns c =
    reading_ends c.args.text.now c.loop-at.at c.loop-at.points.items c.loop-at.waiting c.loop-at.invariant (λ _. c.loop-at-test.false)

pub loop-at-smaller-in-Some : goal.loop-at-smaller-in-Some
loop-at-smaller-in-Some c =
    let some : 0 < c.in-Some.len = some_bytes _ c.in-Some.number c.in-Some.len c.in-Some.ensures.some in
    omega arith

pub loop-at-preserved : goal.loop-at-preserved
loop-at-preserved c =
    let none : command_of (get_or c.args.text.now c.loop-at.at 0) ≡ None = sym c.command_of.ensures ∙ no_command c.command_of.result (sym c.is_some.ensures ∙ c.if-is_some.false) in
    let P : List ℕ → Type 0 = λ z. HasNoFront IsMilli z in
    reading_skipped c.args.text.now c.loop-at.at c.loop-at.points.items c.loop-at.waiting c.loop-at-test.true none
    (subst P (rest_of c.args.text.now c.loop-at.at) c.in_default.ensures.none) c.loop-at.invariant

pub loop-at-preserved-in-Some : goal.loop-at-preserved-in-Some
loop-at-preserved-in-Some c =
    let none : command_of (get_or c.args.text.now c.loop-at.at 0) ≡ None = sym c.command_of.ensures ∙ no_command c.command_of.result (sym c.is_some.ensures ∙ c.if-is_some.false) in
    let P : List ℕ → Type 0 = λ z. IsLongestFront IsMilli z c.in-Some.number c.in-Some.len in
    let fits : FitsSigned w64 c.in-Some.number = search rules in
    let Q : ℤ → Type 0 = λ z. AddsNumber c.loop-at.points.items c.loop-at.waiting z c.add_number.new.points.items c.in_ok-waiting.waiting in
    reading_number c.args.text.now c.loop-at.at c.loop-at.points.items c.loop-at.waiting c.in-Some.number c.in-Some.len c.add_number.new.points.items c.in_ok-waiting.waiting c.loop-at-test.true none
    (subst P (rest_of c.args.text.now c.loop-at.at) c.in-Some.ensures.some) (subst Q (to_z-of_z w64 c.in-Some.number fits) c.in_ok-waiting.ensures) c.loop-at.invariant
