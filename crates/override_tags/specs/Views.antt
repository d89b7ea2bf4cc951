-- Public: the ranges of states and of what an event shows at an instant. They are conditions of calls.
use Rattle.std.specs.Prelude.{◌≡◌, ℕ, ◌<◌, ◌≤◌, ◌⊎◌, ℤ, pos, ◌≤ℤ◌, length, All, IfSome}
use Rattle.ass_num.specs.Limits.{max_text_bytes, IsHeldNumber, IsHeldLength}
use Rattle.ass_num.specs.Paths.{IsPath}
use Rattle.override_tags.specs.Limits.{max_tag_scale}
use Rattle.override_tags.specs.Ranges.{IsClip}
use Rattle.override_tags.specs.declared.view.EventView.{EventView}
use Rattle.override_tags.specs.declared.view.Shown.{Shown}
use Rattle.override_tags.specs.declared.view.ShownKind.{ShownKind}
use Rattle.override_tags.specs.declared.view.ShownKind.TheVariants as shown
use Rattle.override_tags.specs.declared.view.State.{State}
use Rattle.override_tags.specs.declared.view.Syllable.{Syllable}

-- a syllable that doesn't end before it begins
pub record IsSyllable (syllable : Syllable) : Type 0 where
  pub begins : pos 0 ≤ℤ syllable.begin
  pub ends : syllable.begin ≤ℤ syllable.end

-- A state of a view with so many names of fonts: what can't be below 0 isn't, and numbers are held.
pub record IsState (names : ℕ) (state : State) : Type 0 where
  pub font : state.font < names
  pub size : IsHeldLength state.size
  pub colours : length state.colours ≡ 4
  pub scale_x : IsHeldLength state.scale_x
  pub scale_y : IsHeldLength state.scale_y
  pub spacing : IsHeldNumber state.spacing
  pub angle : IsHeldNumber state.angle
  pub border_style : (state.border_style ≡ 1) ⊎ (state.border_style ≡ 3)
  pub border_x : IsHeldLength state.border_x
  pub border_y : IsHeldLength state.border_y
  pub shadow_x : IsHeldNumber state.shadow_x
  pub shadow_y : IsHeldNumber state.shadow_y
  pub edges : IsHeldLength state.edges
  pub blur : IsHeldLength state.blur
  pub draw : state.draw ≤ max_tag_scale
  pub offset : IsHeldNumber state.offset
  pub sung : IfSome state.sung IsSyllable

-- a drawing that is shown, or a character or break
abbrev pub IsShownKind : ShownKind → Type 0
IsShownKind (shown.Drawing path) = IsPath path.segs
IsShownKind _ = Unit {0}

-- what is shown in one of so many states
pub record IsShownItem (states : ℕ) (shown : Shown) : Type 0 where
  pub kind : IsShownKind shown.kind
  pub state : shown.state < states

-- a point in thousandths of script pixels
abbrev pub IsHeldPlace : ℤ × ℤ → Type 0
IsHeldPlace place = IsHeldNumber place.0 × IsHeldNumber place.1

-- What an event shows: it has a state at least, which is the one after the whole text.
pub record IsView (view : EventView) : Type 0 where
  pub states : All (IsState (length view.names)) view.states
  pub some_state : 0 < length view.states
  pub items : All (IsShownItem (length view.states)) view.items
  pub few_items : length view.items ≤ max_text_bytes
  pub least_align : 1 ≤ view.align
  pub greatest_align : view.align ≤ 9
  pub wrap : view.wrap ≤ 3
  pub position : IfSome view.pos IsHeldPlace
  pub origin : IfSome view.org IsHeldPlace
  pub clip : IfSome view.clip IsClip
