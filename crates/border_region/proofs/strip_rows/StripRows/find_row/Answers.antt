use Rattle.std.proofs.Common.{arith, pos, ◌+ℤ◌, to_z-of_z}
use Rattle.std.proofs.lemmas.Int.{ints}
use Rattle.std.proofs.lemmas.Result.{on_ok_weaker}
use Rattle.ass_num.specs.Regions.{in_runs}
use Rattle.region_rows.specs.Growths.{IsRowHolding}
use Rattle.border_region.specs.StripRows.{IsRowHeld}
use Rattle.border_region.proofs.StripRowLemmas.{live_kept, live_later, row_held, runs_full}
use Rattle.border_region.proofs.strip_rows.StripRows.find_row.Goals as goal

pub begin-requires-clause-ordered : goal.begin-requires-clause-ordered
begin-requires-clause-ordered c = rw c.as_slice.ensures.value c.requires.spans.ordered

pub begin-requires-clause-live : goal.begin-requires-clause-live
begin-requires-clause-live c =
    let ended = rw (to_z-of_z c.ranges.j) at c.drop_ended.ensures in
    rw (to_z-of_z c.ranges.j, c.as_slice.ensures.value) (live_kept c.args.j c.args.wide.now.spans.items c.args.self.now.begun c.args.self.now.live.items c.drop_ended.new.live.items ended c.requires.live)

pub find_runs-requires-clause-live : goal.find_runs-requires-clause-live
find_runs-requires-clause-live c =
    let live = rw (to_z-of_z c.ranges.j, c.as_slice.ensures.value) at c.in_ok-begin.ensures.live in
    rw c.as_slice-2.ensures.value live.are

pub unite-requires-clause-full : goal.unite-requires-clause-full
unite-requires-clause-full c =
    let row = rw (to_z-of_z c.ranges.j, c.as_slice-2.ensures.value) at c.in_ok-find_runs.ensures in
    rw c.as_slice-3.ensures.value (runs_full c.args.wide.now.spans.items c.args.wide.now.runs c.args.j c.begin.new.self.live.items c.find_runs.new.found.items c.sort.new.runs.items c.requires.spans row c.sort.ensures.permutation)

pub unite-requires-clause-rising : goal.unite-requires-clause-rising
unite-requires-clause-rising c = rw c.as_slice-3.ensures.value c.sort.ensures.ascending

pub returns-clause-live : goal.returns-clause-live
returns-clause-live c =
    let live = rw (to_z-of_z c.ranges.j, c.as_slice.ensures.value) at c.in_ok-begin.ensures.live in
    on_ok_weaker c.unite.result (λ _. live_later c.args.j (c.args.j +ℤ pos 1) c.args.wide.now.spans.items c.begin.new.self.begun c.begin.new.self.live.items (omega (arith, ints)) live) c.unite.ensures

pub returns-clause-row : goal.returns-clause-row
returns-clause-row c =
    let live = rw (to_z-of_z c.ranges.j, c.as_slice.ensures.value) at c.in_ok-begin.ensures.live in
    let rest = rw (to_z-of_z c.ranges.j, c.as_slice.ensures.value) at c.in_ok-begin.ensures.rest in
    let row = rw (to_z-of_z c.ranges.j, c.as_slice-2.ensures.value) at c.in_ok-find_runs.ensures in
    let held : IsRowHolding (in_runs c.sort.new.runs.items) c.unite.new.runs.items → IsRowHeld c.args.wide.now.spans.items c.args.wide.now.runs c.args.j c.unite.new.runs.items =
    λ u. row_held c.args.wide.now.spans.items c.args.wide.now.runs c.args.j c.begin.new.self.begun c.begin.new.self.live.items c.find_runs.new.found.items c.sort.new.runs.items c.unite.new.runs.items c.requires.spans live rest row c.sort.ensures.permutation u
    in
    on_ok_weaker c.unite.result held (rw c.as_slice-3.ensures.value at c.unite.ensures)
