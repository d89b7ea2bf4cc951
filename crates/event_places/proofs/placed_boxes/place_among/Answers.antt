use Rattle.std.proofs.Common.{◌≡◌, ℤ, ◌≤ℤ◌, get_or, arith, rules, subst, SFits, w64, to_z, of_z}
use Rattle.std.proofs.lemmas.Int.{to_z-of_z}
use Rattle.std.proofs.lemmas.List.Sorted.{IsPartitionPoint-from_clause}
use Rattle.event_places.proofs.ClearLemmas.{begins_no_higher, higher_than, lower_than, partitioned}
use Rattle.event_places.proofs.placed_boxes.place_among.Goals as goal

pub returns-clause-lower : goal.returns-clause-lower
returns-clause-lower c =
    let f : SFits w64 c.args.top = search rules in
    let top = to_z w64 (of_z w64 c.args.top) in
    let e : to_z w64 (of_z w64 c.args.top) ≡ c.args.top = to_z-of_z w64 c.args.top f in
    let point =
    IsPartitionPoint-from_clause (begins_no_higher top) c.args.boxes.now c.partition_point.result c.partition_point.ensures.partitioned (partitioned c.args.boxes.now top c.requires.sorted) (λ a r f' k. search rules)
    in
    λ k d lt. subst (λ (z : ℤ). z ≤ℤ (get_or c.args.boxes.now k d).place.top) e (lower_than top (get_or c.args.boxes.now k d) (point.0 k d (omega arith) lt))

pub returns-clause-higher : goal.returns-clause-higher
returns-clause-higher c =
    let f : SFits w64 c.args.top = search rules in
    let top = to_z w64 (of_z w64 c.args.top) in
    let e : to_z w64 (of_z w64 c.args.top) ≡ c.args.top = to_z-of_z w64 c.args.top f in
    let point =
    IsPartitionPoint-from_clause (begins_no_higher top) c.args.boxes.now c.partition_point.result c.partition_point.ensures.partitioned (partitioned c.args.boxes.now top c.requires.sorted) (λ a r f' k. search rules)
    in
    λ k d from lt. subst (λ (z : ℤ). (get_or c.args.boxes.now k d).place.top ≤ℤ z) e (higher_than top (get_or c.args.boxes.now k d) (point.1 k d from lt))
