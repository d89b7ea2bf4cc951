-- The box of an event without a point of its own lies where boxes may be placed.
use Rattle.std.proofs.Common.{◌≡◌, ℕ, ◌+◌, ◌*◌, ◌≤◌, ℤ, pos, ◌-ℤ◌, ◌*ℤ◌, ◌≤ℤ◌, None, sym, subst, arith}
use Rattle.std.specs.Prelude.{Bool, true, false, cond, ◌%◌, ◌==◌, nat_le}
use Rattle.std.specs.Int.{int_min}
use Rattle.std.proofs.lemmas.Int.{int_min_is, ints}
use Rattle.ass_num.specs.Limits.{IsPointWithin, IsWithin, max_frame_side, max_whole}
use Rattle.ass_num.specs.declared.geometry.Point.{Point}
use Rattle.frame_view.specs.FrameScales.{IsScales}
use Rattle.frame_view.specs.FrameViews.{IsLayoutSide}
use Rattle.frame_view.specs.declared.scales.Scales.{Scales}
use Rattle.ass_num.proofs.LimitLemmas.{IsWithin-wider}
use Rattle.ass_events.specs.declared.event.Event.{Event}
use Rattle.ass_events.specs.Ranges.{IsEvent}
use Rattle.ass_script.specs.Ranges.{IsScript}
use Rattle.ass_script.specs.Scripts.{ScriptValue, style_for}
use Rattle.outline_points.proofs.Bounds.{within_product, within_quotient}
use Rattle.override_tags.specs.declared.view.EventView.{EventView}
use Rattle.event_places.specs.Placement.{IsPlaceableStand, max_height}
use Rattle.text_layout.specs.Anchors.{IsBlockSide, IsMargins, anchor, anchor_by, block_corner, edge_across, edge_at, edge_down, edge_within, margin_anchor, margins_of, on_ground, whole_pixels}
use Rattle.text_layout.specs.Limits.{max_block}
use Rattle.text_layout.specs.Scales.{framed, pixel, whole_milli}
use Rattle.text_layout.specs.declared.anchors.Margins.{Margins}
use Rattle.text_layout.specs.declared.laid.Laid.{Laid}
use Rattle.tag_state.proofs.RangeLemmas.{style_held}
use Rattle.text_layout.proofs.AnchorLemmas.{margin_within}
use Rattle.text_layout.proofs.BlockLemmas.{edge-inner}
use Rattle.text_layout.proofs.ScaleLemmas.{factor_within, middle_within}
use Rattle.event_places.specs.Stands.{stand_of}

pub margins_within : (script : ScriptValue) (event : Event) → IsScript script → IsEvent event → IsMargins (margins_of script event)
margins_within script event s e =
    let style = style_for event.style script in
    let held = style_held script s event.style in
    record {
      left = margin_within event.margin_l style.margin_l e.margin_l held.margin_l;
      right = margin_within event.margin_r style.margin_r e.margin_r held.margin_r;
      vertical = margin_within event.margin_v style.margin_v e.margin_v held.margin_v;
    }

-- ---- the anchor
-- the most units of a frame's side
abbrev max_units : ℕ
max_units = 262144

-- the farthest from 0 that a margin lies in the frame
abbrev max_margin : ℕ
max_margin = max_whole * max_units

abbrev max_edge : ℕ
max_edge = max_margin + max_units

framed_margin : (margin : ℤ) (side res : ℕ) → IsWithin max_whole margin → side ≤ max_frame_side → IsLayoutSide res → IsWithin max_margin (framed (whole_pixels margin) side res)
framed_margin margin side res h s r =
    let long : IsWithin (whole_milli * max_whole) (whole_pixels margin) = (omega (arith, ints, h.0), omega (arith, ints, h.1)) in
    within_quotient max_margin (whole_milli * res) (whole_pixels margin *ℤ pos (pixel * side)) (omega (arith, r.0))
    (IsWithin-wider ((whole_milli * max_whole) * max_units) (max_margin * (whole_milli * res)) (whole_pixels margin *ℤ pos (pixel * side)) (omega (arith, r.0))
    (within_product (whole_milli * max_whole) max_units (whole_pixels margin) (pos (pixel * side)) long (factor_within (pixel * side) max_units (omega (arith, s)))))

far_within : (side : ℕ) (margin : ℤ) → side ≤ max_frame_side → IsWithin max_margin margin → IsWithin max_edge (pos (pixel * side) -ℤ margin)
far_within side margin few h = (omega (arith, ints, few, h.1), omega (arith, ints, few, h.0))

-- what stands at a near edge, in the middle or at a far edge, by two tests
within_three : (limit : ℕ) (near far : ℤ) → IsWithin limit near → IsWithin limit far → (b c : Bool) → IsWithin limit (edge_at (cond b (edge_across 1) (cond c (edge_across 2) (edge_across 3))) near far)
within_three limit near far h k true c = h
within_three limit near far h k false true = middle_within limit near far h k
within_three limit near far h k false false = k

across_within : (align limit : ℕ) (near far : ℤ) → IsWithin limit near → IsWithin limit far → IsWithin limit (edge_at (edge_across align) near far)
across_within align limit near far h k = within_three limit near far h k (align % 3 == 1) (align % 3 == 2)

down_within : (align limit : ℕ) (near far : ℤ) → IsWithin limit near → IsWithin limit far → IsWithin limit (edge_at (edge_down align) near far)
down_within align limit near far h k = within_three limit near far h k (nat_le 7 align) (nat_le 4 align)

margin_anchor_within : (margins : Margins) (align : ℕ) (scales : Scales) → IsMargins margins → IsScales scales → IsPointWithin max_edge (margin_anchor margins align scales)
margin_anchor_within margins align scales m f =
    let x = f.canvas.x in
    let y = f.canvas.y in
    let left = framed_margin margins.left scales.canvas.x.pixels scales.canvas.x.units m.left x.pixels (x.some, x.units) in
    let right = framed_margin margins.right scales.canvas.x.pixels scales.canvas.x.units m.right x.pixels (x.some, x.units) in
    let vertical = framed_margin margins.vertical scales.canvas.y.pixels scales.canvas.y.units m.vertical y.pixels (y.some, y.units) in
    record {
      x = across_within align max_edge _ _ (IsWithin-wider max_margin max_edge _ (omega arith) left) (far_within scales.ground_rect.w _ f.wide right);
      y = down_within align max_edge _ _ (IsWithin-wider max_margin max_edge _ (omega arith) vertical) (far_within scales.ground_rect.h _ f.high vertical);
    }

-- the farthest from 0 that an anchor by margins lies in the frame
abbrev max_stood : ℕ
max_stood = max_edge + max_units

on_ground_within : (scales : Scales) (p : Point) → IsScales scales → IsPointWithin max_edge p → IsPointWithin max_stood (on_ground scales p)
on_ground_within scales p f h = record {
  x = (omega (arith, ints, f.left.0, h.x.0), omega (arith, ints, f.left.1, h.x.1));
  y = (omega (arith, ints, f.top.0, h.y.0), omega (arith, ints, f.top.1, h.y.1));
}

anchor_within : (script : ScriptValue) (event : Event) (view : EventView) (scales : Scales) → IsMargins (margins_of script event) → IsScales scales → view.pos ≡ None
    → IsPointWithin max_stood (anchor script event view scales)
anchor_within script event view scales m f pointless =
    on_ground_within scales (anchor_by (margins_of script event) view.align scales view.pos) f
    (subst (λ point. IsPointWithin max_edge (anchor_by (margins_of script event) view.align scales point)) (sym pointless)
    (margin_anchor_within (margins_of script event) view.align scales m f))

-- ---- the corner and the box
pub corner_within : (p : Point) (align : ℕ) (limit : ℕ) (w h : ℤ) → IsPointWithin limit p → IsBlockSide w → IsBlockSide h → IsPointWithin (limit + max_block) (block_corner p align w h)
corner_within p align limit w h at wide high =
    let across = edge-inner (edge_across align) w wide.from_zero in
    let down = edge-inner (edge_down align) h high.from_zero in
    record {
      x = (omega (arith, ints, at.x.0, across.1, wide.most), omega (arith, ints, at.x.1, across.0));
      y = (omega (arith, ints, at.y.0, down.1, high.most), omega (arith, ints, at.y.1, down.0));
    }

lower : (h most : ℤ) → (int_min h most ≤ℤ h) × (int_min h most ≤ℤ most)
lower h most =
    let is = int_min_is h most in
    (first_of (omega (arith, ints), omega (arith, ints, is), grind (arith, ints)), first_of (omega (arith, ints), omega (arith, ints, is), grind (arith, ints)))

lower_from_zero : (h : ℤ) → pos 0 ≤ℤ h → pos 0 ≤ℤ int_min h (pos max_height)
lower_from_zero h from = let is = int_min_is h (pos max_height) in first_of (omega (arith, ints, from), omega (arith, ints, is, from), grind (arith, ints))

pub placeable : (script : ScriptValue) (event : Event) (view : EventView) (laid : Laid) (scales : Scales) → IsMargins (margins_of script event) → IsScales scales → view.pos ≡ None → IsBlockSide laid.width → IsBlockSide laid.height
    → IsPlaceableStand (stand_of script event view laid scales)
placeable script event view laid scales m f pointless wide high =
    let at = anchor_within script event view scales m f pointless in
    let p = anchor script event view scales in
    let across = edge-inner (edge_across view.align) laid.width wide.from_zero in
    let down = edge-inner (edge_down view.align) laid.height high.from_zero in
    let low = lower laid.height (pos max_height) in
    let from = lower_from_zero laid.height high.from_zero in
    let ix = edge_within (edge_across view.align) laid.width in
    let iy = edge_within (edge_down view.align) laid.height in
    let bound = int_min laid.height (pos max_height) in
    record {
      within =
          record {
            left = (omega (arith, ints, at.x.0, across.1, wide.most), omega (arith, ints, at.x.1, across.0));
            top = (omega (arith, ints, at.y.0, down.1, high.most), omega (arith, ints, at.y.1, down.0));
            right = (omega (arith, ints, at.x.0, across.1, wide.from_zero), omega (arith, ints, at.x.1, across.0, wide.most));
            bottom = (omega (arith, ints, at.y.0, down.1, from, high.most), omega (arith, ints, at.y.1, down.0, low.1));
          };
      height = omega (arith, ints, low.1);
    }
