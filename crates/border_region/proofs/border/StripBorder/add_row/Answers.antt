use Rattle.std.proofs.Common.{to_z-of_z}
use Rattle.border_region.proofs.RowLemmas.{bool_same}
use Rattle.ass_num.specs.Regions.{in_runs}
use Rattle.border_region.proofs.border.StripBorder.add_row.Goals as goal

pub returns : goal.returns
returns c =
    let w = c.requires.rows in
    let row = rw (to_z-of_z c.ranges.j) at c.in_ok-find_row.ensures.row in
    record {
      wanted = w.wanted;
      are_held = w.are_held;
      held = w.held;
      spans = w.spans;
      live = rw (to_z-of_z c.ranges.j) at c.in_ok-find_row.ensures.live;
      grown = c.in_ok-add.ensures w.wanted c.args.j w.grown (rw c.as_slice.ensures.value (record {
        covers = λ i. bool_same (in_runs c.find_row.new.self.runs.items i) (w.wanted i c.args.j) (λ m. w.held i c.args.j (row.are i m)) (λ m. row.held i (w.are_held i c.args.j m));
        ascends = row.ascends;
      }));
    }
