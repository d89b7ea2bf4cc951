use Rattle.std.proofs.Common.{◌≡◌, ◌∙◌, ℤ, ap, FitsSigned, w64, to_z-of_z, refl, rules, arith}
use Rattle.ass_num.specs.Limits.{IsWithin}
use Rattle.ass_num.proofs.LimitLemmas.{IsWithin-wider}
use Rattle.text_layout.specs.Anchors.{across, down, whole_pixels}
use Rattle.text_layout.specs.Limits.{max_ground_place, max_framed}
use Rattle.text_layout.proofs.AnchorLemmas.{edge_same, far_bits, far_within, long_bits, margin_inner, pixels_bits}
use Rattle.text_layout.proofs.BitLemmas.{bits_64, framed_bits}
use Rattle.text_layout.proofs.anchors.margin_anchor.Goals as goal

left_is : (c : goal.After-edge_at-2) → c.across-left.result ≡ across c.args.scales.now (whole_pixels c.args.margins.now.left)
left_is c =
    c.across-left.ensures.value
    ∙ ap (across c.args.scales.now)
    (pixels_bits c.args.margins.now.left _ (margin_inner _ c.requires.margins.left) (long_bits c.args.margins.now.left c.from.result c.requires.margins.left c.from.ensures))

right_is : (c : goal.After-edge_at-2) → c.across-right.result ≡ across c.args.scales.now (whole_pixels c.args.margins.now.right)
right_is c =
    c.across-right.ensures.value
    ∙ ap (across c.args.scales.now)
    (pixels_bits c.args.margins.now.right _ (margin_inner _ c.requires.margins.right) (long_bits c.args.margins.now.right c.from-2.result c.requires.margins.right c.from-2.ensures))

vertical_is : (c : goal.After-edge_at-2) → c.down-vertical.result ≡ down c.args.scales.now (whole_pixels c.args.margins.now.vertical)
vertical_is c =
    c.down-vertical.ensures.value
    ∙ ap (down c.args.scales.now)
    (pixels_bits c.args.margins.now.vertical _ (margin_inner _ c.requires.margins.vertical) (long_bits c.args.margins.now.vertical c.from-3.result c.requires.margins.vertical c.from-3.ensures))

pub returns-clause-value : goal.returns-clause-value
returns-clause-value c =
    let fx : FitsSigned w64 c.edge_at.result = search rules in
    let fy : FitsSigned w64 c.edge_at-2.result = search rules in
    let x =
    edge_same c.edge_at.result _ _ _ _ _ _ c.edge_at.ensures.value c.column_of.ensures
    (framed_bits c.across-left.result c.across-left.ensures.within)
    (far_bits c.args.scales.now.ground_rect.w c.from-width.result c.across-right.result c.requires.scales.wide c.from-width.ensures c.across-right.ensures.within) in
    let y =
    edge_same c.edge_at-2.result _ _ _ _ _ _ c.edge_at-2.ensures.value c.row_of.ensures
    (framed_bits c.down-vertical.result c.down-vertical.ensures.within)
    (far_bits c.args.scales.now.ground_rect.h c.from-height.result c.down-vertical.result c.requires.scales.high c.from-height.ensures c.down-vertical.ensures.within) in
    rw (to_z-of_z fx, to_z-of_z fy, x, y, left_is c, right_is c, vertical_is c) refl

near_within : (z : ℤ) → IsWithin max_framed z → IsWithin max_ground_place (bits_64 z)
near_within z h = rw (framed_bits z h) (IsWithin-wider max_framed max_ground_place z (omega arith) h)

pub returns-clause-within : goal.returns-clause-within
returns-clause-within c =
    let fx : FitsSigned w64 c.edge_at.result = search rules in
    let fy : FitsSigned w64 c.edge_at-2.result = search rules in
    let w = c.args.scales.now.ground_rect.w in
    let h = c.args.scales.now.ground_rect.h in
    record {
      x = rw (to_z-of_z fx) (c.edge_at.ensures.within max_ground_place (near_within c.across-left.result c.across-left.ensures.within)
          (rw (far_bits w c.from-width.result c.across-right.result c.requires.scales.wide c.from-width.ensures c.across-right.ensures.within)
          (far_within w c.across-right.result c.requires.scales.wide c.across-right.ensures.within)));
      y = rw (to_z-of_z fy) (c.edge_at-2.ensures.within max_ground_place (near_within c.down-vertical.result c.down-vertical.ensures.within)
          (rw (far_bits h c.from-height.result c.down-vertical.result c.requires.scales.high c.from-height.ensures c.down-vertical.ensures.within)
          (far_within h c.down-vertical.result c.requires.scales.high c.down-vertical.ensures.within)));
    }
