use Rattle.std.proofs.Common.{sym, rules, arith}
use Rattle.std.specs.Prelude.{nat_lt}
use Rattle.std.proofs.lemmas.List.Sorted.{IsPartitionPoint-from_clause}
use Rattle.sfnt_font.specs.Fonts.{no_segment}
use Rattle.sfnt_font.proofs.OrderLemmas.{is_parted, segment_of-there, segment_of-nowhere}
use Rattle.sfnt_font.proofs.segments.segment_of.Goals as goal
use Rattle.sfnt_font.proofs.segments.segment_of.Goals.{else-at-segments-via-then-at-segments+else-segments-at, else-at-segments-via-else-at-segments}

pub returns-then-segments-at-clause-value : goal.returns-then-segments-at-clause-value
returns-then-segments-at-clause-value c =
    let parted = is_parted c.args.segments.now c.args.code c.requires in
    let point = IsPartitionPoint-from_clause (λ segment. nat_lt segment.last c.args.code) _ _ c.partition_point-at.ensures.partitioned parted (λ a r q k. search rules) in
    sym (segment_of-there c.args.segments.now c.args.code c.partition_point-at.result no_segment point c.if-at-segments.true (omega (arith, c.if-segments-at.true)))

pub returns-clause-value : goal.returns-clause-value
returns-clause-value c =
    let parted = is_parted c.args.segments.now c.args.code c.requires in
    let point = IsPartitionPoint-from_clause (λ segment. nat_lt segment.last c.args.code) _ _ c.partition_point-at.ensures.partitioned parted (λ a r q k. search rules) in
    sym (segment_of-nowhere c.args.segments.now c.args.code c.partition_point-at.result no_segment c.requires point
    (elim c.else-at-segments.branch [ else-at-segments-via-then-at-segments+else-segments-at w ↦ λ room. omega (arith, w.if-segments-at.false) | else-at-segments-via-else-at-segments w ↦ λ room. absurd (omega (arith, w.if-at-segments.false, room)) ]))
