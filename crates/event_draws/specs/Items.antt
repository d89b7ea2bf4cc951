-- Public: the items of a line, what they show, and in which state.
use Rattle.std.specs.Prelude.{ℕ, ◌<◌, ◌&&◌, nat_le, nat_lt, Bool, false, List, [], filter, None, slice_index_or, pos}
use Rattle.override_tags.specs.declared.view.EventView.{EventView}
use Rattle.override_tags.specs.declared.view.Shown.{Shown}
use Rattle.override_tags.specs.declared.view.ShownKind.TheVariants.{Hard}
use Rattle.override_tags.specs.declared.view.State.{State}
use Rattle.text_layout.specs.Anchors.{IsBlockSide}
use Rattle.text_layout.specs.declared.laid.Laid.{Laid}
use Rattle.text_layout.specs.declared.laid.Line.{Line}
use Rattle.text_layout.specs.declared.laid.Placed.{Placed}

-- what stands for an item that isn't there
abbrev pub no_shown : Shown
no_shown = record { kind = Hard; state = 0 }

-- what stands for a state that isn't there
abbrev pub no_state : State
no_state = record {
  font = 0;
  size = pos 0;
  colours = [];
  bold = false;
  italic = false;
  underline = false;
  strikeout = false;
  scale_x = pos 0;
  scale_y = pos 0;
  spacing = pos 0;
  angle = pos 0;
  border_style = 0;
  border_x = pos 0;
  border_y = pos 0;
  shadow_x = pos 0;
  shadow_y = pos 0;
  edges = pos 0;
  blur = pos 0;
  draw = 0;
  offset = pos 0;
  sung = None;
}

-- what an item of a line shows
abbrev pub shown_of : EventView → Placed → Shown
shown_of view placed = slice_index_or view.items placed.item no_shown

-- its state
abbrev pub state_of : EventView → Placed → State
state_of view placed = slice_index_or view.states (shown_of view placed).state no_state

abbrev pub is_of_line : Line → Placed → Bool
is_of_line line placed = nat_le line.first placed.item && nat_lt placed.item line.last

-- the items of a line
abbrev pub items_of : Laid → Line → List Placed
items_of laid line = filter (is_of_line line) laid.placed

-- ---- ranges

-- one of so many items, within a block
pub record IsBlockItem (items : ℕ) (placed : Placed) : Type 0 where
  pub item : placed.item < items
  pub left : IsBlockSide placed.x
  pub wide : IsBlockSide placed.advance
