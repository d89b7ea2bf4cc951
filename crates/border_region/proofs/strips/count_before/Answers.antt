use Rattle.std.proofs.Common.{rules, Bool, int_lt}
use Rattle.std.proofs.lemmas.List.Sorted.{IsPartitionPoint-from_clause}
use Rattle.ass_num.specs.declared.region.Run.{Run}
use Rattle.border_region.proofs.StripLemmas.{are_parted, are_before}
use Rattle.border_region.proofs.strips.count_before.Goals as goal

pub returns : goal.returns
returns c =
    let p : Run → Bool = λ run. int_lt run.to c.args.place in
    are_before c.args.runs.now c.args.place c.partition_point.result c.partition_point.ensures.bound
    (IsPartitionPoint-from_clause p c.args.runs.now c.partition_point.result c.partition_point.ensures.partitioned (are_parted c.args.runs.now c.args.place c.requires) (λ a r f q. search rules))
