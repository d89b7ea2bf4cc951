use Rattle.std.proofs.Common.{rules, inl, inr, ◌≤ℤ◌, ◌<ℤ◌, FitsSigned, w32, to_z-of_z}
use Rattle.ass_num.proofs.OrderLemmas.{le_is, le_not, lt_is, lt_not}
use Rattle.border_region.proofs.StripRowLemmas.{adds_no_run, at_span, span_low, span_place}
use Rattle.border_region.proofs.strip_rows.add_row_run.Goals as goal

pub returns-then-j-span : goal.returns-then-j-span
returns-then-j-span c =
    let f : FitsSigned w32 c.args.span.first = search rules in
    adds_no_run c.args.wide.now.spans.items c.args.wide.now.runs c.args.j c.args.span c.args.found.now.items c.requires.spans (inl (lt_is _ _ (rw (to_z-of_z c.ranges.j, to_z-of_z f) at c.if-j-span.true)))

pub returns-then-span-j : goal.returns-then-span-j
returns-then-span-j c =
    let f : FitsSigned w32 c.args.span.end = search rules in
    adds_no_run c.args.wide.now.spans.items c.args.wide.now.runs c.args.j c.args.span c.args.found.now.items c.requires.spans (inr (le_is _ _ (rw (to_z-of_z f, to_z-of_z c.ranges.j) at c.if-span-j.true)))

pub rows_between-m-requires-clause-low : goal.rows_between-m-requires-clause-low
rows_between-m-requires-clause-low c =
    let f : FitsSigned w32 c.args.span.first = search rules in
    rw (to_z-of_z f) (span_low c.args.wide.now.spans.items c.args.wide.now.runs c.args.span c.requires.spans c.requires.span)

pub rows_between-m-requires-clause-ordered : goal.rows_between-m-requires-clause-ordered
rows_between-m-requires-clause-ordered c =
    let f : FitsSigned w32 c.args.span.first = search rules in
    rw (to_z-of_z f, to_z-of_z c.ranges.j) (lt_not _ _ (rw (to_z-of_z c.ranges.j, to_z-of_z f) at c.if-j-span.false))

pub get-requires : goal.get-requires
get-requires c = span_place c.args.wide.now.spans.items c.args.wide.now.runs c.args.span c.requires.spans c.requires.span

-- the read run is the one at j - first of the strip's runs
pub bounds-get-m : goal.bounds-get-m
bounds-get-m c =
    let f : FitsSigned w32 c.args.span.first = search rules in
    let g : FitsSigned w32 c.args.span.end = search rules in
    let first : c.args.span.first ≤ℤ c.args.j = lt_not c.args.j c.args.span.first (rw (to_z-of_z c.ranges.j, to_z-of_z f) at c.if-j-span.false) in
    let end : c.args.j <ℤ c.args.span.end = le_not c.args.span.end c.args.j (rw (to_z-of_z g, to_z-of_z c.ranges.j) at c.if-span-j.false) in
    let e = rw (to_z-of_z c.ranges.j, to_z-of_z f) at c.rows_between-m.ensures in
    rw c.get.ensures (at_span c.args.wide.now.spans.items c.args.wide.now.runs c.args.j c.args.span c.rows_between-m.result c.args.found.now.items c.requires.spans c.requires.span first end e).0

pub returns : goal.returns
returns c =
    let f : FitsSigned w32 c.args.span.first = search rules in
    let g : FitsSigned w32 c.args.span.end = search rules in
    let first : c.args.span.first ≤ℤ c.args.j = lt_not c.args.j c.args.span.first (rw (to_z-of_z c.ranges.j, to_z-of_z f) at c.if-j-span.false) in
    let end : c.args.j <ℤ c.args.span.end = le_not c.args.span.end c.args.j (rw (to_z-of_z g, to_z-of_z c.ranges.j) at c.if-span-j.false) in
    let e = rw (to_z-of_z c.ranges.j, to_z-of_z f) at c.rows_between-m.ensures in
    rw (c.in_ok-push.ensures.items, c.get.ensures) (at_span c.args.wide.now.spans.items c.args.wide.now.runs c.args.j c.args.span c.rows_between-m.result c.args.found.now.items c.requires.spans c.requires.span first end e).1
