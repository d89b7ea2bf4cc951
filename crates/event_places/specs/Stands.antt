-- Public: where an event stands before it is moved clear of others: its block at its own start.
-- (Advanced SubStation Alpha, "Layer", "Alignment".)
use Rattle.std.specs.Prelude.{◌≡◌, ℕ, nat_le, List, None, IsTrue, if◌then◌else◌, ℤ, pos, ◌+ℤ◌, neg_ℤ}
use Rattle.std.specs.Int.{int_min}
use Rattle.ass_num.specs.declared.geometry.Point.{Point}
use Rattle.frame_view.specs.declared.view.FrameView.{FrameView}
use Rattle.ass_events.specs.declared.event.Event.{Event}
use Rattle.ass_script.specs.Scripts.{ScriptValue}
use Rattle.bdf_font.specs.Fonts.{FontValue}
use Rattle.override_tags.specs.Readings.{IsTextReading}
use Rattle.override_tags.specs.declared.item.Item.{Item}
use Rattle.override_tags.specs.declared.view.EventView.{EventView}
use Rattle.event_places.specs.Placement.{max_height}
use Rattle.event_places.specs.declared.stands.Box2.{Box2}
use Rattle.event_places.specs.declared.stands.Stand.{Stand}
use Rattle.frame_view.specs.declared.scales.Scales.{Scales}
use Rattle.tag_state.specs.Choices.{has_point}
use Rattle.tag_state.specs.Views.{IsViewOf}
use Rattle.text_layout.specs.Anchors.{anchor, block_corner}
use Rattle.text_layout.specs.Layouts.{IsLaid}
use Rattle.text_layout.specs.LineScales.{line_scales}
use Rattle.text_layout.specs.declared.laid.Laid.{Laid}

-- the least alignment that gives way downwards: 7, 8 and 9 stand at the top
abbrev pub least_top_align : ℕ
least_top_align = 7

-- the box of a block whose upper left corner is here; a higher block counts as so high
abbrev pub box_at : Point → Laid → Box2
box_at corner laid = record {
  left = corner.x;
  top = corner.y;
  right = corner.x +ℤ laid.width;
  bottom = corner.y +ℤ int_min laid.height (pos max_height);
}

-- the upper left corner of the block of an event that is laid out so
abbrev pub corner_of : ScriptValue → Event → EventView → Laid → Scales → Point
corner_of script event view laid scales = block_corner (anchor script event view scales) view.align laid.width laid.height

abbrev pub stand_of : ScriptValue → Event → EventView → Laid → Scales → Stand
stand_of script event view laid scales = record {
  start = event.start;
  end = event.start +ℤ event.duration;
  place = box_at (corner_of script event view laid scales) laid;
  down = nat_le least_top_align view.align;
}

-- The event has no point of its own, and stands there.
pub record IsStandOf (script : ScriptValue) (fonts : List FontValue) (frame : FrameView) (event : Event) (stand : Stand) : Type 0 where
  pub view : EventView
  pub shows : IsViewOf script event event.start view
  pub pointless : view.pos ≡ None
  pub laid : Laid
  pub laid_out : IsLaid script fonts event view frame laid
  pub value : stand ≡ stand_of script event view laid (line_scales script.header frame view)

-- The event has a point of its own, by a `\pos` or a `\move` of its text.
pub record HasPoint (event : Event) : Type 0 where
  pub items : List Item
  pub reading : IsTextReading event.text items
  pub point : IsTrue (has_point items)

-- how far down a shift moves a stand
abbrev pub down_by : Stand → ℤ → ℤ
down_by stand shift = if stand.down then shift else neg_ℤ shift
