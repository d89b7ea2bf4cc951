use Rattle.std.proofs.Common.{refl, ◌∙◌, to_z-of_z}
use Rattle.region_rows.specs.Growths.{IsRowHolding}
use Rattle.sample_region.specs.Unions.{in_either}
use Rattle.sample_region.proofs.either.add_row.Goals as goal

pub returns : goal.returns
returns c =
    let ra = rw (to_z-of_z c.ranges.j) at c.row.ensures.runs in
    let rb = rw (to_z-of_z c.ranges.j) at c.row-2.ensures.runs in
    let h : IsRowHolding (λ i. in_either c.args.a.now c.args.b.now i c.args.j) c.as_slice.result.now = rw c.as_slice.ensures.value (record {
      covers = λ i. c.in_ok-join.ensures.covers i ∙ rw (ra, rb) refl;
      ascends = c.in_ok-join.ensures.ascends;
    }) in
    c.in_ok-add.ensures (in_either c.args.a.now c.args.b.now) c.args.j c.requires.rows h
