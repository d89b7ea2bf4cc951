use Rattle.std.proofs.Common.{◌≡◌, length, sym, ◌∙◌, rules, arith}
use Rattle.std.proofs.lemmas.Bool.Decides.{nat_tests}
use Rattle.ass_num.proofs.RegionLemmas.{row_ascends}
use Rattle.mask_cover.proofs.SpanLemmas.{span_skip, span_more, no_items}
use Rattle.mask_cover.proofs.columns.span_of.Goals as goal
use Rattle.mask_cover.proofs.columns.span_of.Goals.{then-not-is_empty, else-not-is_empty}

pub span_of_row-requires-clause-ascends : goal.span_of_row-requires-clause-ascends
span_of_row-requires-clause-ascends c = rw c.get-row.ensures (row_ascends c.args.rows.now c.loop-k.k c.requires.ascends)

pub loop-k-preserved : goal.loop-k-preserved
loop-k-preserved c = elim c.if-not-is_empty.branch [
  | then-not-is_empty w ↦ rw (w.span-is, w.joined-span.ensures) (span_more c.args.rows.now c.loop-k.k c.loop-k.span w.span_of_row.result c.loop-k.invariant (rw c.get-row.ensures at w.span_of_row.ensures))
  | else-not-is_empty w ↦ let zero : length c.get-row.result.now ≡ 0 = first_of (search rules, grind (arith, nat_tests, c.is_empty.ensures, w.if-not-is_empty.false)) in let empty = no_items c.get-row.result.now zero in rw w.span-is (span_skip c.args.rows.now c.loop-k.k c.loop-k.span c.loop-k.invariant (sym c.get-row.ensures ∙ empty))
]
