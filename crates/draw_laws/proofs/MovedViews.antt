-- The places of an event count for where it stands alone: its runs and marks are the same at others.
use Rattle.std.proofs.Common.{◌≡◌, refl, ap, ◌∙◌, Option, Some, List, [], ◌∷◌, ℤ, subst}
use Rattle.std.specs.List.{All, filter_map}
use Rattle.std.specs.Option.{IfSome}
use Rattle.std.specs.Prelude.{slice_index_or}
use Rattle.std.proofs.lemmas.List.Elements.{All-weaker}
use Rattle.ass_num.specs.declared.geometry.Point.{Point}
use Rattle.bdf_font.specs.Fonts.{FontValue}
use Rattle.event_draws.specs.Clips.{clip_by}
use Rattle.event_draws.specs.EventDraws.{draws_of_rows, event_draws, paint_of, row_by, row_on, run_of}
use Rattle.event_draws.specs.Items.{items_of, shown_of, state_of}
use Rattle.event_draws.specs.Marks.{mark_by, mark_of, pen_on}
use Rattle.event_draws.specs.Runs.{runs_of, with_item}
use Rattle.event_draws.specs.declared.stage.Stage.{Stage}
use Rattle.override_tags.specs.declared.view.EventView.{EventView}
use Rattle.override_tags.specs.declared.view.ShownKind.{ShownKind}
use Rattle.override_tags.specs.declared.view.ShownKind.TheVariants as shown
use Rattle.override_tags.specs.declared.view.State.{State}
use Rattle.text_layout.specs.declared.laid.Laid.{Laid}
use Rattle.text_layout.specs.declared.laid.Line.{Line}
use Rattle.text_layout.specs.declared.laid.Placed.{Placed}
use Rattle.draw_laws.specs.Moves.{AreMasksNear, IsLineNear, IsNearFrame, IsRunNear, view_at}
use Rattle.draw_laws.proofs.ListPairs.{given_same}
use Rattle.draw_laws.proofs.Types.{Mark, Row, Run}

-- ---- runs

same_begun : (view : EventView) (place : ℤ × ℤ) (origin : Option (ℤ × ℤ)) (item : Placed) (runs : List (List Placed))
    → with_item (view_at view place origin) item runs ≡ with_item view item runs
same_begun view place origin item [] = refl
same_begun view place origin item ([] ∷ runs) = refl
same_begun view place origin item ((next ∷ run) ∷ runs) = refl

same_runs : (view : EventView) (place : ℤ × ℤ) (origin : Option (ℤ × ℤ)) (items : List Placed) → runs_of (view_at view place origin) items ≡ runs_of view items
same_runs view place origin [] = refl
same_runs view place origin (item ∷ items) =
    ap (with_item (view_at view place origin) item) (same_runs view place origin items) ∙ same_begun view place origin item (runs_of view items)

-- ---- marks

same_kind : (stage : Stage) (fonts : List FontValue) (view : EventView) (place : ℤ × ℤ) (origin : Option (ℤ × ℤ)) (state : State) (pen : Point) (kind : ShownKind)
    → mark_by stage fonts (view_at view place origin) state pen kind ≡ mark_by stage fonts view state pen kind
same_kind stage fonts view place origin state pen (shown.Drawing path) = refl
same_kind stage fonts view place origin state pen (shown.Char c) = refl
same_kind stage fonts view place origin state pen shown.Hard = refl
same_kind stage fonts view place origin state pen shown.Soft = refl

same_mark : (stage : Stage) (fonts : List FontValue) (view : EventView) (place : ℤ × ℤ) (origin : Option (ℤ × ℤ)) (line : Line) (item : Placed)
    → mark_of stage fonts (view_at view place origin) line item ≡ mark_of stage fonts view line item
same_mark stage fonts view place origin line item = same_kind stage fonts view place origin (state_of view item) (pen_on stage line item) (shown_of view item).kind

same_run : (stage : Stage) (fonts : List FontValue) (view : EventView) (place : ℤ × ℤ) (origin : Option (ℤ × ℤ)) (line : Line) (items run : List Placed)
    → run_of stage fonts (view_at view place origin) line items run ≡ run_of stage fonts view line items run
same_run stage fonts view place origin line items [] = refl
same_run stage fonts view place origin line items (item ∷ run) =
    ap (λ (marks : List Mark). let made : Run = record { state = state_of view item; paint = paint_of stage view items (state_of view item); marks = marks } in Some made)
    (given_same (mark_of stage fonts (view_at view place origin) line) (mark_of stage fonts view line) (item ∷ run) (same_mark stage fonts view place origin line))

same_row : (stage : Stage) (fonts : List FontValue) (view : EventView) (place : ℤ × ℤ) (origin : Option (ℤ × ℤ)) (line : Line) (items : List Placed)
    → row_by stage fonts (view_at view place origin) line items ≡ row_by stage fonts view line items
same_row stage fonts view place origin line [] = refl
same_row stage fonts view place origin line (item ∷ items) =
    let runs = given_same (run_of stage fonts (view_at view place origin) line (item ∷ items)) (run_of stage fonts view line (item ∷ items)) (runs_of (view_at view place origin) (item ∷ items))
    (same_run stage fonts view place origin line (item ∷ items)) in
    ap (λ (rs : List Run). let made : Row = record { line = line; state = state_of view item; runs = rs } in Some made)
    (runs ∙ ap (filter_map (run_of stage fonts view line (item ∷ items))) (same_runs view place origin (item ∷ items)))

-- ---- draws

pub same_draws : (stage : Stage) (fonts : List FontValue) (view : EventView) (place : ℤ × ℤ) (origin : Option (ℤ × ℤ)) (laid : Laid)
    → event_draws stage fonts (view_at view place origin) laid ≡ event_draws stage fonts view laid
same_draws stage fonts view place origin laid =
    ap (draws_of_rows stage (clip_by stage.scales view.clip))
    (given_same (row_on stage fonts (view_at view place origin) laid) (row_on stage fonts view laid) laid.lines (λ line. same_row stage fonts view place origin line (items_of laid line)))

-- ---- what stands near the frame

run_near : (stage : Stage) (fonts : List FontValue) (view : EventView) (place : ℤ × ℤ) (origin : Option (ℤ × ℤ)) (line : Line) (run : List Placed)
    → IsRunNear stage fonts (view_at view place origin) line run → IsRunNear stage fonts view line run
run_near stage fonts view place origin line [] h = tt
run_near stage fonts view place origin line (item ∷ run) h =
    let near = λ (mark : Mark). AreMasksNear stage (state_of view item) mark.pen in
    All-weaker (λ (x : Placed). IfSome (mark_of stage fonts (view_at view place origin) line x) near) (λ (x : Placed). IfSome (mark_of stage fonts view line x) near)
    (λ x k. subst (λ (o : Option Mark). IfSome o near) (same_mark stage fonts view place origin line x) k) (item ∷ run) h

line_near : (stage : Stage) (fonts : List FontValue) (view : EventView) (place : ℤ × ℤ) (origin : Option (ℤ × ℤ)) (line : Line) (items : List Placed)
    → IsLineNear stage fonts (view_at view place origin) line items → IsLineNear stage fonts view line items
line_near stage fonts view place origin line items h = record {
  runs =
      All-weaker (IsRunNear stage fonts (view_at view place origin) line) (IsRunNear stage fonts view line) (run_near stage fonts view place origin line) (runs_of view items)
      (subst (λ (rs : List (List Placed)). All (IsRunNear stage fonts (view_at view place origin) line) rs) (same_runs view place origin items) h.runs);
  box = h.box;
}

pub same_near : (stage : Stage) (fonts : List FontValue) (view : EventView) (place : ℤ × ℤ) (origin : Option (ℤ × ℤ)) (laid : Laid)
    → IsNearFrame stage fonts (view_at view place origin) laid → IsNearFrame stage fonts view laid
same_near stage fonts view place origin laid h = λ k d within.
    line_near stage fonts view place origin (slice_index_or laid.lines k d) (items_of laid (slice_index_or laid.lines k d)) (h k d within)
