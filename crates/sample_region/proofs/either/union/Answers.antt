use Rattle.std.proofs.Common.{rules, arith, FitsSigned, w32, to_z-of_z, ◌∙◌, ◌≡◌, ◌≤ℤ◌, ◌<ℤ◌, ℤ, false, sym, ⊎_elim}
use Rattle.std.proofs.lemmas.Int.{ints}
use Rattle.std.proofs.lemmas.Bool.{or_from, or_cases}
use Rattle.ass_num.specs.Regions.{member}
use Rattle.sample_region.specs.Unions.{in_either}
use Rattle.region_rows.proofs.JoinLemmas.{member_above, member_below}
use Rattle.ass_num.proofs.LimitLemmas.{within_from, member_near}
use Rattle.sample_region.proofs.either.union.Goals as goal

pub add_rows-requires-clause-rows : goal.add_rows-requires-clause-rows
add_rows-requires-clause-rows c =
    let f : FitsSigned w32 c.rows_of-rows.result.first = search rules in
    let g = rw (to_z-of_z f) at c.new-growth.ensures in
    let ha = c.rows_of-rows.ensures.above_a in
    let hb = c.rows_of-rows.ensures.above_b in
    let none : (i j : ℤ) → j <ℤ c.rows_of-rows.result.first → in_either c.args.a.now c.args.b.now i j ≡ false =
    λ i j l. or_from (member c.args.a.now.top c.args.a.now.rows i j) (member c.args.b.now.top c.args.b.now.rows i j) (member_above c.args.a.now.top c.args.a.now.rows i j (omega (arith, ints))) (member_above c.args.b.now.top c.args.b.now.rows i j (omega (arith, ints))) in
    rw (to_z-of_z f) (g (in_either c.args.a.now c.args.b.now) none)

pub returns-clause-samples : goal.returns-clause-samples
returns-clause-samples c =
    let f : FitsSigned w32 c.rows_of-rows.result.end = search rules in
    let s = rw (to_z-of_z f) at c.in_ok-add_rows.ensures in
    let ha = c.rows_of-rows.ensures.below_a in
    let hb = c.rows_of-rows.ensures.below_b in
    let none : (i j : ℤ) → c.rows_of-rows.result.end ≤ℤ j → in_either c.args.a.now c.args.b.now i j ≡ false =
    λ i j l. or_from (member c.args.a.now.top c.args.a.now.rows i j) (member c.args.b.now.top c.args.b.now.rows i j) (member_below c.args.a.now.top c.args.a.now.rows i j (omega (arith, ints))) (member_below c.args.b.now.top c.args.b.now.rows i j (omega (arith, ints))) in
    c.finish.ensures.samples (in_either c.args.a.now c.args.b.now) c.rows_of-rows.result.end s none

pub returns-clause-within : goal.returns-clause-within
returns-clause-within c = λ limit wa wb.
    within_from limit c.finish.result.top c.finish.result.rows c.finish.ensures.canonical
    (λ i j m. ⊎_elim
    (λ e. member_near limit c.args.a.now.top c.args.a.now.rows i j wa e)
    (λ e. member_near limit c.args.b.now.top c.args.b.now.rows i j wb e)
    (or_cases (member c.args.a.now.top c.args.a.now.rows i j) (member c.args.b.now.top c.args.b.now.rows i j) (sym (returns-clause-samples c i j) ∙ m)))
