use Rattle.std.proofs.Common.{◌∙◌, ◌≤ℤ◌, ap₂, to_z-of_z, refl}
use Rattle.text_layout.specs.Anchors.{edge_within}
use Rattle.text_layout.proofs.AnchorLemmas.{corner_bits}
use Rattle.text_layout.proofs.anchors.block_corner.Goals as goal

pub returns : goal.returns
returns c =
    let width = to_z-of_z c.ranges.width in
    let height = to_z-of_z c.ranges.height in
    let across : c.edge_within.result ≤ℤ c.args.width = rw width at c.edge_within.ensures.most in
    let down : c.edge_within-2.result ≤ℤ c.args.height = rw height at c.edge_within-2.ensures.most in
    rw (
      corner_bits c.args.anchor.x c.edge_within.result c.args.width c.requires.anchor.x c.requires.width c.edge_within.ensures.least across,
      corner_bits c.args.anchor.y c.edge_within-2.result c.args.height c.requires.anchor.y c.requires.height c.edge_within-2.ensures.least down,
      c.edge_within.ensures.value ∙ ap₂ edge_within c.column_of.ensures width,
      c.edge_within-2.ensures.value ∙ ap₂ edge_within c.row_of.ensures height,
    )
    refl
