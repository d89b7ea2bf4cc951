-- How far from 0 the corner of a block lies that is moved.
use Rattle.std.proofs.Common.{◌≡◌, refl, ℕ, ◌+◌, ◌≤◌, ℤ, arith}
use Rattle.std.proofs.lemmas.Int.{ints}
use Rattle.ass_num.specs.Limits.{IsPointWithin, IsWithin}
use Rattle.ass_num.specs.declared.geometry.Point.{Point}
use Rattle.ass_num.proofs.LimitLemmas.{IsWithin-wider}
use Rattle.text_layout.specs.Anchors.{IsBlockSide, anchor, block_corner, edge_across, edge_down}
use Rattle.text_layout.specs.LineScales.{line_scales}
use Rattle.text_layout.specs.Limits.{max_anchor, max_block}
use Rattle.text_layout.proofs.BlockLemmas.{edge-inner}
use Rattle.event_draws.specs.Limits.{max_block_corner, max_down}
use Rattle.event_draws.specs.Stages.{moved_down, origin_by, stage_at}
use Rattle.event_draws.specs.declared.stage.Stage.{Stage}
use Rattle.ass_events.specs.declared.event.Event.{Event}
use Rattle.frame_view.specs.declared.scales.Scales.{Scales}
use Rattle.frame_view.specs.declared.view.FrameView.{FrameView}
use Rattle.ass_script.specs.Scripts.{ScriptValue}
use Rattle.override_tags.specs.declared.view.EventView.{EventView}
use Rattle.tag_state.specs.Views.{elapsed_at}
use Rattle.text_layout.specs.declared.laid.Laid.{Laid}

pub point-wider : (limit more : ℕ) (p : Point) → limit ≤ more → IsPointWithin limit p → IsPointWithin more p
point-wider limit more p l h = record { x = IsWithin-wider limit more p.x l h.x; y = IsWithin-wider limit more p.y l h.y }

pub corner_within : (p : Point) (align : ℕ) (w h : ℤ) → IsPointWithin max_anchor p → IsBlockSide w → IsBlockSide h → IsPointWithin (max_anchor + max_block) (block_corner p align w h)
corner_within p align w h at wide high =
    let across = edge-inner (edge_across align) w wide.from_zero in
    let down = edge-inner (edge_down align) h high.from_zero in
    record {
      x = (omega (arith, ints, at.x.0, across.1, wide.most), omega (arith, ints, at.x.1, across.0));
      y = (omega (arith, ints, at.y.0, down.1, high.most), omega (arith, ints, at.y.1, down.0));
    }

pub moved_within : (p : Point) (shift : ℤ) → IsPointWithin (max_anchor + max_block) p → IsWithin max_down shift → IsPointWithin max_block_corner (moved_down p shift)
moved_within p shift h s =
    record {
      x = IsWithin-wider (max_anchor + max_block) max_block_corner p.x (omega arith) h.x;
      y = (omega (arith, ints, h.y.0, s.0), omega (arith, ints, h.y.1, s.1));
    }

-- the parts of where an event stands
pub stage_is : (script : ScriptValue) (event : Event) (t : ℤ) (frame : FrameView) (view : EventView) (laid : Laid) (shift : ℤ) (scales : Scales) (at corner moved origin : Point) (elapsed : ℤ)
    → scales ≡ line_scales script.header frame view → at ≡ anchor script event view scales → corner ≡ moved_down (block_corner at view.align laid.width laid.height) shift
    → moved ≡ moved_down at shift → origin ≡ origin_by scales moved view.org → elapsed ≡ elapsed_at event t
    → (let stage : Stage = record { scales = scales; size = frame.size; corner = corner; origin = origin; elapsed = elapsed; fade = view.fade } in stage)
    ≡ stage_at script event t frame view laid shift
stage_is script event t frame view laid shift scales at corner moved origin elapsed a b d e f g = rw (g, f, d, e, b, a) refl
