use Rattle.std.proofs.Common.{Contains, to_z-of_z}
use Rattle.std.proofs.lemmas.List.Elements.{All-get_or}
use Rattle.border_region.specs.Held.{no_span}
use Rattle.border_region.proofs.StripRowLemmas.{row_runs_none, row_runs_more, row_runs_all}
use Rattle.border_region.proofs.strip_rows.find_runs.Goals as goal

pub loop-span-init : goal.loop-span-init
loop-span-init c = rw (c.clear.ensures.items, to_z-of_z c.ranges.j) (row_runs_none c.args.wide.now.spans.items c.args.wide.now.runs c.args.j c.args.live.now)

pub add_row_run-requires-clause-span : goal.add_row_run-requires-clause-span
add_row_run-requires-clause-span c = All-get_or (Contains c.args.wide.now.spans.items) c.args.live.now c.loop-span.span-index no_span c.loop-span-test.true c.requires.live

pub loop-span-preserved : goal.loop-span-preserved
loop-span-preserved c =
    let was = rw (to_z-of_z c.ranges.j) at c.loop-span.invariant in
    let step = rw (to_z-of_z c.ranges.j) at c.in_ok-add_row_run.ensures in
    rw (to_z-of_z c.ranges.j) (row_runs_more c.args.wide.now.spans.items c.args.wide.now.runs c.args.j c.args.live.now c.loop-span.span-index c.loop-span.found.items c.add_row_run.new.found.items c.loop-span-test.true step was)

pub returns : goal.returns
returns c =
    let was = rw (to_z-of_z c.ranges.j) at c.loop-span.invariant in
    row_runs_all c.args.wide.now.spans.items c.args.wide.now.runs c.args.j c.args.live.now c.loop-span.span-index c.loop-span.found.items c.loop-span-test.false was
