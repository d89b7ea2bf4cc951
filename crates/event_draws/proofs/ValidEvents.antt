-- The draws of an event have valid keys.
use Rattle.std.proofs.Common.{ℕ, ◌<◌, Bool, true, false, cond, List, [], ◌∷◌, ◌++◌, flat_map, length}
use Rattle.std.specs.List.{All}
use Rattle.std.specs.Option.{IfSome}
use Rattle.std.proofs.lemmas.List.Elements.{All-append, All-cons, All-filter, All-head, All-nil, All-tail, All-weaker}
use Rattle.ass_num.specs.Limits.{IsFrameSize}
use Rattle.bdf_font.specs.Fonts.{FontValue}
use Rattle.mask_keys.specs.Keys.{IsValidDraw, IsValidPlan}
use Rattle.mask_keys.specs.declared.plans.Clip.{Clip}
use Rattle.mask_keys.specs.declared.plans.Draw.{Draw}
use Rattle.mask_keys.specs.Outlines.{glyph_counts}
use Rattle.override_tags.specs.Views.{IsView}
use Rattle.override_tags.specs.declared.view.EventView.{EventView}
use Rattle.text_layout.specs.Fonts.{IsLayoutFontSet}
use Rattle.text_layout.specs.declared.laid.Laid.{Laid}
use Rattle.text_layout.specs.declared.laid.Line.{Line}
use Rattle.text_layout.specs.declared.laid.Placed.{Placed}
use Rattle.event_draws.specs.Clips.{clip_by}
use Rattle.event_draws.specs.Draws.{IsBlockLine, run_border, run_fill, run_shadow}
use Rattle.event_draws.specs.EventDraws.{IsDrawnLayout, draws_of_rows, event_draws, is_boxed, line_runs, row_borders, row_by, row_fills, row_on, row_shadows, draw_rows, run_of}
use Rattle.event_draws.specs.Items.{IsBlockItem, is_of_line, items_of}
use Rattle.event_draws.specs.Runs.{are_joined, runs_of, with_item}
use Rattle.event_draws.specs.declared.runs.Row.{Row}
use Rattle.event_draws.specs.declared.runs.Run.{Run}
use Rattle.event_draws.specs.declared.stage.Stage.{Stage}
use Rattle.event_draws.proofs.ListAlls.{all-filter_map, all-flat_map}
use Rattle.event_draws.proofs.ValidDraws.{IsValidGround, border_valid, box_border_valid, box_shadow_valid, clip_valid, fill_valid, shadow_valid}
use Rattle.event_draws.proofs.ValidMarks.{IsValidMark, marks_valid}

-- ---- runs

joined_all : (P : Placed → Type 0) (b : Bool) (item next : Placed) (run : List Placed) (runs : List (List Placed)) → P item → All P (next ∷ run) → All (All P) runs
    → All (All P) (cond b ((item ∷ next ∷ run) ∷ runs) ((item ∷ []) ∷ (next ∷ run) ∷ runs))
joined_all P true item next run runs h k all = All-cons (All P) (item ∷ next ∷ run) runs (All-cons P item (next ∷ run) h k) all
joined_all P false item next run runs h k all =
    All-cons (All P) (item ∷ []) ((next ∷ run) ∷ runs) (All-cons P item [] h (All-nil P)) (All-cons (All P) (next ∷ run) runs k all)

with_all : (P : Placed → Type 0) (view : EventView) (item : Placed) (runs : List (List Placed)) → P item → All (All P) runs → All (All P) (with_item view item runs)
with_all P view item [] h all = All-cons (All P) (item ∷ []) [] (All-cons P item [] h (All-nil P)) (All-nil (All P))
with_all P view item ([] ∷ runs) h all = All-cons (All P) (item ∷ []) runs (All-cons P item [] h (All-nil P)) (All-tail (All P) [] runs all)
with_all P view item ((next ∷ run) ∷ runs) h all =
    joined_all P (are_joined view item next) item next run runs h (All-head (All P) (next ∷ run) runs all) (All-tail (All P) (next ∷ run) runs all)

-- What holds of all items holds of those of each run.
runs_all : (P : Placed → Type 0) (view : EventView) (items : List Placed) → All P items → All (All P) (runs_of view items)
runs_all P view [] all = All-nil (All P)
runs_all P view (item ∷ items) all = with_all P view item (runs_of view items) (All-head P item items all) (runs_all P view items (All-tail P item items all))

abbrev HasValidMarks : List FontValue → Run → Type 0
HasValidMarks fonts run = All (IsValidMark fonts) run.marks

run_valid : (stage : Stage) (fonts : List FontValue) (view : EventView) (line : Line) (items run : List Placed) → 0 < length fonts → IsView view
    → All (IsBlockItem (length view.items)) run → IfSome (run_of stage fonts view line items run) (HasValidMarks fonts)
run_valid stage fonts view line items [] some h within = tt
run_valid stage fonts view line items (item ∷ run) some h within = marks_valid stage fonts view line (item ∷ run) some h within

runs_valid : (stage : Stage) (fonts : List FontValue) (view : EventView) (line : Line) (items : List Placed) → 0 < length fonts → IsView view
    → All (IsBlockItem (length view.items)) items → All (HasValidMarks fonts) (line_runs stage fonts view line items)
runs_valid stage fonts view line items some h within =
    all-filter_map (run_of stage fonts view line items) (HasValidMarks fonts) (runs_of view items)
    (All-weaker (All (IsBlockItem (length view.items))) (λ run. IfSome (run_of stage fonts view line items run) (HasValidMarks fonts))
    (λ run k. run_valid stage fonts view line items run some h k) (runs_of view items) (runs_all (IsBlockItem (length view.items)) view items within))

-- ---- lines

-- a line within a block whose marks are valid
record IsValidRow (fonts : List FontValue) (row : Row) : Type 0 where
  line : IsBlockLine row.line
  runs : All (HasValidMarks fonts) row.runs

row_valid : (stage : Stage) (fonts : List FontValue) (view : EventView) (line : Line) (items : List Placed) → 0 < length fonts → IsView view → IsBlockLine line
    → All (IsBlockItem (length view.items)) items → IfSome (row_by stage fonts view line items) (IsValidRow fonts)
row_valid stage fonts view line [] some h lined within = tt
row_valid stage fonts view line (item ∷ items) some h lined within =
    record { line = lined; runs = runs_valid stage fonts view line (item ∷ items) some h within }

rows_valid : (stage : Stage) (fonts : List FontValue) (view : EventView) (laid : Laid) → 0 < length fonts → IsView view → IsDrawnLayout (length view.items) laid
    → All (IsValidRow fonts) (draw_rows stage fonts view laid)
rows_valid stage fonts view laid some h within =
    all-filter_map (row_on stage fonts view laid) (IsValidRow fonts) laid.lines
    (All-weaker IsBlockLine (λ line. IfSome (row_on stage fonts view laid line) (IsValidRow fonts))
    (λ line k.
    row_valid stage fonts view line (items_of laid line) some h k
    (All-filter (is_of_line line) (IsBlockItem (length view.items)) laid.placed within.placed))
    laid.lines within.lines)

-- ---- their draws

by_box : (glyphs : List ℕ) (b : Bool) (box others : List Draw) → IsValidPlan glyphs box → IsValidPlan glyphs others → IsValidPlan glyphs (cond b box others)
by_box glyphs true box others h k = h
by_box glyphs false box others h k = k

runs_drawn : (fonts : List FontValue) (f : Run → List Draw) (runs : List Run) → ((run : Run) → HasValidMarks fonts run → IsValidPlan (glyph_counts fonts) (f run))
    → All (HasValidMarks fonts) runs → IsValidPlan (glyph_counts fonts) (flat_map f runs)
runs_drawn fonts f runs each all =
    all-flat_map f (IsValidDraw (glyph_counts fonts)) runs (All-weaker (HasValidMarks fonts) (λ run. IsValidPlan (glyph_counts fonts) (f run)) each runs all)

rows_drawn : (fonts : List FontValue) (f : Row → List Draw) (rows : List Row) → ((row : Row) → IsValidRow fonts row → IsValidPlan (glyph_counts fonts) (f row))
    → All (IsValidRow fonts) rows → IsValidPlan (glyph_counts fonts) (flat_map f rows)
rows_drawn fonts f rows each all =
    all-flat_map f (IsValidDraw (glyph_counts fonts)) rows (All-weaker (IsValidRow fonts) (λ row. IsValidPlan (glyph_counts fonts) (f row)) each rows all)

shadows_valid : (stage : Stage) (fonts : List FontValue) (clip : Clip) (row : Row) → IsValidGround stage fonts clip → IsValidRow fonts row
    → IsValidPlan (glyph_counts fonts) (row_shadows stage clip row)
shadows_valid stage fonts clip row ground h =
    by_box (glyph_counts fonts) (is_boxed row) _ _ (box_shadow_valid stage fonts clip row.line row.state ground h.line)
    (runs_drawn fonts (run_shadow stage clip false) row.runs (λ run k. shadow_valid stage fonts clip false run ground k) h.runs)

borders_valid : (stage : Stage) (fonts : List FontValue) (clip : Clip) (row : Row) → IsValidGround stage fonts clip → IsValidRow fonts row
    → IsValidPlan (glyph_counts fonts) (row_borders stage clip row)
borders_valid stage fonts clip row ground h =
    by_box (glyph_counts fonts) (is_boxed row) _ _ (box_border_valid stage fonts clip row.line row.state ground h.line)
    (runs_drawn fonts (run_border stage clip false) row.runs (λ run k. border_valid stage fonts clip false run ground k) h.runs)

fills_valid : (stage : Stage) (fonts : List FontValue) (clip : Clip) (row : Row) → IsValidGround stage fonts clip → IsValidRow fonts row
    → IsValidPlan (glyph_counts fonts) (row_fills stage clip row)
fills_valid stage fonts clip row ground h =
    runs_drawn fonts (run_fill stage clip (is_boxed row)) row.runs (λ run k. fill_valid stage fonts clip (is_boxed row) run ground k) h.runs

rows_plan : (stage : Stage) (fonts : List FontValue) (clip : Clip) (rows : List Row) → IsValidGround stage fonts clip → All (IsValidRow fonts) rows
    → IsValidPlan (glyph_counts fonts) (draws_of_rows stage clip rows)
rows_plan stage fonts clip rows ground h =
    let valid = IsValidDraw (glyph_counts fonts) in
    All-append valid (flat_map (row_shadows stage clip) rows ++ flat_map (row_borders stage clip) rows) (flat_map (row_fills stage clip) rows)
    (All-append valid (flat_map (row_shadows stage clip) rows) (flat_map (row_borders stage clip) rows)
    (rows_drawn fonts (row_shadows stage clip) rows (λ row k. shadows_valid stage fonts clip row ground k) h)
    (rows_drawn fonts (row_borders stage clip) rows (λ row k. borders_valid stage fonts clip row ground k) h))
    (rows_drawn fonts (row_fills stage clip) rows (λ row k. fills_valid stage fonts clip row ground k) h)

-- All keys of the draws of an event are valid.
pub event_valid : (stage : Stage) (fonts : List FontValue) (view : EventView) (laid : Laid) → IsFrameSize stage.size → IsLayoutFontSet fonts → IsView view
    → IsDrawnLayout (length view.items) laid → IsValidPlan (glyph_counts fonts) (event_draws stage fonts view laid)
event_valid stage fonts view laid framed set h within =
    let clip = clip_by stage.scales view.clip in
    rows_plan stage fonts clip (draw_rows stage fonts view laid)
    (record { framed = framed; clipped = clip_valid stage.scales fonts view.clip h.clip })
    (rows_valid stage fonts view laid set.some h within)
