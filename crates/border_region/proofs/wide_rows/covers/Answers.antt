use Rattle.std.proofs.Common.{rules, arith, FitsSigned, w32, to_z-of_z, pos, get_or}
use Rattle.ass_num.specs.declared.region.Run.{Run}
use Rattle.ass_num.proofs.OrderLemmas.{le_is}
use Rattle.border_region.proofs.WideLemmas.{covered_by}
use Rattle.border_region.proofs.wide_rows.covers.Goals as goal

abbrev none : Run
none = record { from = pos 0; to = pos 0 }

pub returns-then-other-run : goal.returns-then-other-run
returns-then-other-run c = λ holds.
    let other = get_or c.args.runs.now c.partition_point-k.result none in
    let of : FitsSigned w32 other.from = search rules in
    let ot : FitsSigned w32 other.to = search rules in
    let rf : FitsSigned w32 c.args.run.from = search rules in
    let rt : FitsSigned w32 c.args.run.to = search rules in
    let a = le_is other.from c.args.run.from (rw (to_z-of_z of, to_z-of_z rf) at c.if-other-run.true) in
    let b = le_is c.args.run.to other.to (rw (to_z-of_z ot, to_z-of_z rt) at holds) in
    covered_by c.args.runs.now c.partition_point-k.result none c.args.run (omega (arith, c.partition_point-k.ensures.bound, c.if-k-runs.false)) a b
