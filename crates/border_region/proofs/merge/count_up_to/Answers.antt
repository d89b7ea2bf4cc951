use Rattle.std.proofs.Common.{rules, Bool, ℤ, int_le}
use Rattle.std.proofs.lemmas.List.Sorted.{IsPartitionPoint-from_clause}
use Rattle.border_region.proofs.SideLemmas.{parted, up_to}
use Rattle.border_region.proofs.merge.count_up_to.Goals as goal

pub returns : goal.returns
returns c =
    let p : ℤ → Bool = λ z. int_le z c.args.key in
    up_to c.args.key c.args.keys.now c.partition_point.result c.partition_point.ensures.bound
    (IsPartitionPoint-from_clause p c.args.keys.now c.partition_point.result c.partition_point.ensures.partitioned (parted c.args.key c.args.keys.now c.requires) (λ a r f q. search rules))
