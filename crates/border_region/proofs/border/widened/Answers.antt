use Rattle.std.proofs.Common.{◌+◌, ◌∙◌, pos, ap, sym}
use Rattle.ass_num.specs.Regions.{RegionValue, member}
use Rattle.ass_num.proofs.LimitLemmas.{within_from}
use Rattle.region_rows.proofs.GrowthLemmas.{empty_members}
use Rattle.border_region.proofs.RowLemmas.{none_widened, widened_near}
use Rattle.border_region.proofs.border.widened.Goals as goal

pub returns-then-len-eq0-clause-samples : goal.returns-then-len-eq0-clause-samples
returns-then-len-eq0-clause-samples c = λ i j.
    ap (λ (r : RegionValue). member r.top r.rows i j) c.empty.ensures ∙ empty_members (pos 0) i j ∙ sym (none_widened c.args.region.now c.args.rx c.args.ry i j (let n = rw c.rows.ensures.rows at c.len.ensures in sym n ∙ c.if-len-eq0.true))

pub returns-clause-within : goal.returns-clause-within
returns-clause-within c = λ limit further a b w.
    within_from (limit + further) c.in_ok-wide.wide.top c.in_ok-wide.wide.rows c.in_ok-wide.ensures.canonical
    (λ i j m. widened_near c.args.region.now c.args.rx c.args.ry limit further i j a b w (sym (c.in_ok-wide.ensures.samples i j) ∙ m))
