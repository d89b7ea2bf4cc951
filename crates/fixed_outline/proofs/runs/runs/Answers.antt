use Rattle.std.proofs.Common.{ap, arith}
use Rattle.std.specs.List.{All}
use Rattle.std.proofs.lemmas.Int.{ints}
use Rattle.std.proofs.lemmas.List.Elements.{All-same, All-nil}
use Rattle.ass_num.specs.Limits.{IsOutlinePoint}
use Rattle.ass_num.specs.Winding.{winding}
use Rattle.fixed_outline.proofs.runs.runs.Goals as goal

pub returns-clause-winding : goal.returns-clause-winding
returns-clause-winding c i k =
    let none = ap (λ rings. winding rings i k) c.new-rings.ensures in
    let added = c.in_ok-add_rows.ensures.winding i k in
    omega (arith, ints, none, added)

pub returns-clause-within : goal.returns-clause-within
returns-clause-within c = c.in_ok-add_rows.ensures.within (All-same (All IsOutlinePoint) c.new-rings.result _ c.new-rings.ensures (All-nil (All IsOutlinePoint)))
