-- Public: a layout of lines below one another, each of items side by side. Lengths are in 1/64 pixel.
-- (Aegisub tag reference, "\an", "\q".)
use Rattle.std.specs.Prelude.{◌≡◌, ℕ, ◌+◌, ◌%◌, ◌≤◌, List, [], ◌∷◌, ◌++◌, All, ℤ, pos, ◌+ℤ◌, ◌-ℤ◌, ◌*ℤ◌, ◌≤ℤ◌, ◌<ℤ◌}
use Rattle.ass_events.specs.declared.event.Event.{Event}
use Rattle.ass_script.specs.Scripts.{ScriptValue}
use Rattle.bdf_font.specs.Fonts.{FontValue}
use Rattle.frame_view.specs.declared.view.FrameView.{FrameView}
use Rattle.override_tags.specs.declared.view.EventView.{EventView}
use Rattle.text_layout.specs.Layouts.{IsLaid}
use Rattle.text_layout.specs.declared.laid.Laid.{Laid}
use Rattle.text_layout.specs.declared.laid.Line.{Line}
use Rattle.text_layout.specs.declared.laid.Placed.{Placed}

-- Each line begins where the one above it ends, from a top to a bottom: none lies over another one, and no room is between them.
abbrev pub AreStacked : ℤ → ℤ → List Line → Type 0
AreStacked top bottom [] = top ≡ bottom
AreStacked top bottom (line ∷ lines) = (line.top ≡ top) × AreStacked (top +ℤ line.height) bottom lines

-- The items from number n up to `last` stand side by side from x to `end`: each begins where the one before it has come to.
abbrev pub AreSideBySide : ℕ → ℕ → ℤ → ℤ → List Placed → Type 0
AreSideBySide n last x end [] = (n ≡ last) × (x ≡ end)
AreSideBySide n last x end (item ∷ items) = (item.item ≡ n) × (item.x ≡ x) × AreSideBySide (n + 1) last (x +ℤ item.advance) end items

-- A line of this number has just its items, and is as long as they are together.
pub record IsLineOfItems (number : ℕ) (line : Line) (items : List Placed) : Type 0 where
  pub numbered : All (λ (item : Placed). item.line ≡ number) items
  pub side_by_side : AreSideBySide line.first line.last line.left (line.left +ℤ line.width) items

-- The items are those of the lines, one line after the other; the first line has this number.
abbrev pub AreLinesOfItems : ℕ → List Line → List Placed → Type 0
AreLinesOfItems number [] placed = placed ≡ []
AreLinesOfItems number (line ∷ lines) placed =
    (front rest : List Placed) × (placed ≡ front ++ rest) × IsLineOfItems number line front × AreLinesOfItems (number + 1) lines rest

-- A line stands at the left of its block, in the middle of it, or at its right. (What is left over of an odd room is at the right.)
pub record IsAligned (align : ℕ) (width : ℤ) (line : Line) : Type 0 where
  pub left : align % 3 ≡ 1 → line.left ≡ pos 0
  pub least : align % 3 ≡ 2 → (pos 2 *ℤ line.left) ≤ℤ (width -ℤ line.width)
  pub most : align % 3 ≡ 2 → (width -ℤ line.width) <ℤ ((pos 2 *ℤ line.left) +ℤ pos 2)
  pub right : align % 3 ≡ 0 → (line.left +ℤ line.width) ≡ width

-- The lines fill the block from its top to its bottom, and none is wider than it is.
pub record IsStackedBlock (align : ℕ) (laid : Laid) : Type 0 where
  pub stacked : AreStacked (pos 0) laid.height laid.lines
  pub filled : AreLinesOfItems 0 laid.lines laid.placed
  pub within : All (λ (line : Line). line.width ≤ℤ laid.width) laid.lines
  pub aligned : All (IsAligned align laid.width) laid.lines

-- ---- the law

-- So is each layout of an event.
abbrev pub LayoutsAreStacked : Type 0
LayoutsAreStacked =
    (script : ScriptValue) (fonts : List FontValue) (event : Event) (view : EventView) (frame : FrameView) (laid : Laid)
    → view.wrap ≤ 3 → IsLaid script fonts event view frame laid → IsStackedBlock view.align laid
