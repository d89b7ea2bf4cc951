-- What is left of an item is the outline and the pen of its mark.
use Rattle.std.proofs.Common.{◌≡◌, refl, ℕ, Option, Some, None, option_and_then, option_map, List, [], ◌∷◌}
use Rattle.ass_num.specs.declared.geometry.Path.{Path}
use Rattle.ass_num.specs.declared.geometry.Point.{Point}
use Rattle.ass_num.specs.declared.geometry.Seg.{Seg}
use Rattle.bdf_font.specs.Fonts.{FontValue}
use Rattle.event_draws.specs.Items.{shown_of, state_of}
use Rattle.event_draws.specs.Marks.{char_mark, char_outline, drawing_mark, mark_by, mark_of, pen_on}
use Rattle.event_draws.specs.declared.stage.Stage.{Stage}
use Rattle.mask_keys.specs.declared.outline_key.OutlineKey.{OutlineKey}
use Rattle.override_tags.specs.declared.view.EventView.{EventView}
use Rattle.override_tags.specs.declared.view.ShownKind.{ShownKind}
use Rattle.override_tags.specs.declared.view.ShownKind.TheVariants as shown
use Rattle.override_tags.specs.declared.view.State.{State}
use Rattle.text_layout.specs.Kinds.{char_of}
use Rattle.text_layout.specs.declared.laid.Line.{Line}
use Rattle.draw_laws.specs.Layers.{drawing_left, item_left, kind_left}
use Rattle.draw_laws.proofs.DrawnParts.{LeaveMarks, bare_mark}

by_segs : (stage : Stage) (state : State) (pen : Point) (path : Path) (segs : List Seg)
    → drawing_left stage state pen path segs ≡ option_map bare_mark (drawing_mark stage state pen path segs)
by_segs stage state pen path [] = refl
by_segs stage state pen path (s ∷ segs) = refl

by_outline : (pen : Point) (o : Option OutlineKey) → option_map (λ (key : OutlineKey). (key, pen)) o ≡ option_map bare_mark (option_map (λ (key : OutlineKey). record { outline = key; pen = pen }) o)
by_outline pen None = refl
by_outline pen (Some key) = refl

by_char : (stage : Stage) (fonts : List FontValue) (names : List (List ℕ)) (state : State) (pen : Point) (o : Option ℕ)
    → option_and_then (λ (c : ℕ). option_map (λ (key : OutlineKey). (key, pen)) (char_outline stage fonts names state c)) o
    ≡ option_map bare_mark (option_and_then (char_mark stage fonts names state pen) o)
by_char stage fonts names state pen None = refl
by_char stage fonts names state pen (Some c) = by_outline pen (char_outline stage fonts names state c)

by_kind : (stage : Stage) (fonts : List FontValue) (view : EventView) (state : State) (pen : Point) (kind : ShownKind)
    → kind_left stage fonts view state pen kind ≡ option_map bare_mark (mark_by stage fonts view state pen kind)
by_kind stage fonts view state pen (shown.Drawing path) = by_segs stage state pen path path.segs
by_kind stage fonts view state pen (shown.Char c) = by_char stage fonts view.names state pen (char_of view.wrap (shown.Char c))
by_kind stage fonts view state pen shown.Hard = by_char stage fonts view.names state pen (char_of view.wrap shown.Hard)
by_kind stage fonts view state pen shown.Soft = by_char stage fonts view.names state pen (char_of view.wrap shown.Soft)

pub same_left : (stage : Stage) (fonts : List FontValue) (view : EventView) (line : Line) → LeaveMarks (item_left stage fonts view line) (mark_of stage fonts view line)
same_left stage fonts view line item = by_kind stage fonts view (state_of view item) (pen_on stage line item) (shown_of view item).kind
