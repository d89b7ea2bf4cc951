use Rattle.std.proofs.Common.{sym, pos, rules, arith, get_or}
use mir.Syntax.{w64}
use mir.Val.{SFits}
use Rattle.std.specs.Prelude.{int_lt}
use Rattle.std.proofs.lemmas.Int.{ints}
use Rattle.std.proofs.lemmas.List.Sorted.{IsPartitionPoint-from_clause}
use Rattle.bdf_font.proofs.PlaceLemmas.{is_parted, first_at-there, first_at-nowhere}
use Rattle.bdf_font.proofs.bitmap_font.found_place.Goals as goal
use Rattle.bdf_font.proofs.bitmap_font.found_place.Goals.{else-at-places-via-then-at-places+else-places-at, else-at-places-via-else-at-places}

pub returns-then-places-at : goal.returns-then-places-at
returns-then-places-at c =
    let parted = is_parted c.args.places.now c.args.code c.requires in
    let point = IsPartitionPoint-from_clause (λ entry. int_lt entry.0 c.args.code) _ _ c.partition_point-at.ensures.partitioned parted (λ a r q k. search rules) in
    let fits : SFits w64 (get_or c.args.places.now c.partition_point-at.result (pos 0, 0)).0 = search rules in
    let fits_code : SFits w64 c.args.code = c.ranges.code in
    sym (first_at-there c.args.places.now c.args.code c.partition_point-at.result (pos 0, 0) c.if-at-places.true point (omega (arith, ints, c.if-places-at.true)))

pub returns : goal.returns
returns c =
    let parted = is_parted c.args.places.now c.args.code c.requires in
    let point = IsPartitionPoint-from_clause (λ entry. int_lt entry.0 c.args.code) _ _ c.partition_point-at.ensures.partitioned parted (λ a r q k. search rules) in
    let fits_code : SFits w64 c.args.code = c.ranges.code in
    sym (first_at-nowhere c.args.places.now c.args.code c.partition_point-at.result (pos 0, 0) c.requires point
    (elim c.else-at-places.branch [ else-at-places-via-then-at-places+else-places-at w ↦ λ room. let fits : SFits w64 (get_or c.args.places.now c.partition_point-at.result (pos 0, 0)).0 = search rules in omega (arith, ints, w.if-places-at.false) | else-at-places-via-else-at-places w ↦ λ room. absurd (omega (arith, w.if-at-places.false, room)) ]))
