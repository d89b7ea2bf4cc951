use Rattle.std.proofs.Common.{◌+◌, ◌∙◌, ap, sym, pos, rules, arith, get_or, FitsSigned, to_z-of_z, w64}
use Rattle.std.specs.Prelude.{nat_le}
use Rattle.std.proofs.lemmas.Int.{ints}
use Rattle.std.proofs.lemmas.List.Sorted.{IsPartitionPoint-from_clause}
use Rattle.sfnt_font.specs.Maps.{codes_to}
use Rattle.sfnt_font.specs.Fonts.{no_segment}
use Rattle.sfnt_font.specs.Codes.{missing_code}
use Rattle.sfnt_font.proofs.CodeLemmas.{is_counted, code_at-there, code_at-nowhere}
use Rattle.sfnt_font.proofs.codes.code_in.Goals as goal

pub returns-then-k-segments-clause-value : goal.returns-then-k-segments-clause-value
returns-then-k-segments-clause-value c =
    let parted = is_counted c.args.segments.now c.args.at c.requires in
    let point = IsPartitionPoint-from_clause (λ segment. nat_le (codes_to segment) c.args.at) _ _ c.partition_point-k.ensures.partitioned parted (λ a r q k. search rules) in
    sym (code_at-nowhere c.args.segments.now c.args.at c.partition_point-k.result no_segment missing_code c.requires point c.if-k-segments.true)

pub overflow_add-segment : goal.overflow_add-segment
overflow_add-segment c =
    let parted = is_counted c.args.segments.now c.args.at c.requires in
    let point = IsPartitionPoint-from_clause (λ segment. nat_le (codes_to segment) c.args.at) _ _ c.partition_point-k.ensures.partitioned parted (λ a r q k. search rules) in
    let found = code_at-there c.args.segments.now c.args.at c.partition_point-k.result no_segment missing_code c.requires point (omega (arith, c.partition_point-k.ensures.bound, c.if-k-segments.false)) in
    omega (arith, found.1, c.saturating_sub.ensures)

pub returns-clause-value : goal.returns-clause-value
returns-clause-value c =
    let parted = is_counted c.args.segments.now c.args.at c.requires in
    let point = IsPartitionPoint-from_clause (λ segment. nat_le (codes_to segment) c.args.at) _ _ c.partition_point-k.ensures.partitioned parted (λ a r q k. search rules) in
    let found = code_at-there c.args.segments.now c.args.at c.partition_point-k.result no_segment missing_code c.requires point (omega (arith, c.partition_point-k.ensures.bound, c.if-k-segments.false)) in
    let fits : FitsSigned w64 c.from.result = search rules in
    let code = (get_or c.args.segments.now c.partition_point-k.result no_segment).first in
    to_z-of_z fits ∙ (c.from.ensures ∙ (ap (λ n. pos (code + n)) c.saturating_sub.ensures ∙ sym found.0))

pub returns-clause-most : goal.returns-clause-most
returns-clause-most c =
    let parted = is_counted c.args.segments.now c.args.at c.requires in
    let point = IsPartitionPoint-from_clause (λ segment. nat_le (codes_to segment) c.args.at) _ _ c.partition_point-k.ensures.partitioned parted (λ a r q k. search rules) in
    let found = code_at-there c.args.segments.now c.args.at c.partition_point-k.result no_segment missing_code c.requires point (omega (arith, c.partition_point-k.ensures.bound, c.if-k-segments.false)) in
    omega (arith, ints, found.1, c.saturating_sub.ensures, c.from.ensures)
