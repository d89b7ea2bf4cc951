use Rattle.std.proofs.Common.{rules, arith, sym, ◌∙◌, ◌≡◌, ◌<◌, ◌-◌, [], length, get_or, true, false}
use Rattle.ass_num.specs.Regions.{has_run}
use Rattle.ass_num.proofs.RowsLemmas.{canonical-last, canonical-rest}
use Rattle.ass_num.proofs.region.is_canonical.Goals as goal

pub returns-then-not-has_run-2 : goal.returns-then-not-has_run-2
returns-then-not-has_run-2 c =
    let some : 0 < length c.args.rows.now = omega (arith, c.len-count.ensures, c.if-count-eq0.false) in
    let last : has_run (get_or c.args.rows.now (length c.args.rows.now - 1) []) ≡ false = search rules in
    sym (canonical-last c.args.top c.args.rows.now some last)

pub returns : goal.returns
returns c =
    let some : 0 < length c.args.rows.now = omega (arith, c.len-count.ensures, c.if-count-eq0.false) in
    let first : has_run (get_or c.args.rows.now 0 []) ≡ true = search rules in
    let last : has_run (get_or c.args.rows.now (length c.args.rows.now - 1) []) ≡ true = search rules in
    c.all_ascend.ensures ∙ sym (canonical-rest c.args.top c.args.rows.now some first last)
