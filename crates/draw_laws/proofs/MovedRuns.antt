-- The draws of runs and boxes on a stage that is moved by whole pixels.
use Rattle.std.proofs.Common.{◌≡◌, refl, sym, ap, Bool, true, false, Option, Some, List, [], ◌∷◌, ◌==◌, map, ℤ, subst}
use Rattle.std.specs.List.{All, AllZip}
use Rattle.std.specs.Option.{IfSome, option_map_or}
use Rattle.std.specs.Prelude.{slice_index_or}
use Rattle.std.proofs.lemmas.List.Elements.{All-cons, All-head, All-nil, All-weaker}
use Rattle.ass_num.specs.Limits.{IsFrameSize}
use Rattle.bdf_font.specs.Fonts.{FontValue}
use Rattle.draw_numbers.specs.Colours.{back_colour, outline_colour}
use Rattle.draw_numbers.specs.Pens.{is_near_frame, spot_at}
use Rattle.draw_numbers.specs.Widths.{are_no_offsets, are_no_radii, no_offsets, offsets_of}
use Rattle.draw_numbers.specs.declared.colours.Paint.{Paint}
use Rattle.draw_numbers.specs.declared.widths.Offsets.{Offsets}
use Rattle.event_draws.proofs.ListAlls.{all-filter_map}
use Rattle.event_draws.specs.Draws.{border_making, border_radii, box_border, box_making, box_mark, box_shadow, draw_of_marks, fill_making, offsets_in, run_border, run_fill, run_shadow}
use Rattle.event_draws.specs.EventDraws.{boxed_style, paint_of, row_borders, row_by, row_fills, row_shadows, run_of}
use Rattle.event_draws.specs.Items.{state_of}
use Rattle.event_draws.specs.Marks.{mark_of, marks_of}
use Rattle.event_draws.specs.Runs.{runs_of}
use Rattle.event_draws.specs.declared.stage.Stage.{Stage}
use Rattle.mask_keys.specs.declared.plans.Clip.{Clip}
use Rattle.override_tags.specs.declared.view.EventView.{EventView}
use Rattle.override_tags.specs.declared.view.State.{State}
use Rattle.text_layout.specs.declared.laid.Line.{Line}
use Rattle.text_layout.specs.declared.laid.Placed.{Placed}
use Rattle.draw_laws.specs.Moves.{AreMasksNear, IsLineNear, IsMovedDraw, IsRunNear}
use Rattle.draw_laws.proofs.ListPairs.{zip_flat, zip_if}
use Rattle.draw_laws.proofs.MovedMarks.{IsMarkNear, IsMovedPaint, box_moved, marks_draw_moved, marks_moved, moved_mark, moved_stage}
use Rattle.draw_laws.proofs.MovedNumbers.{whole_step}
use Rattle.draw_laws.proofs.MovedPaints.{IsSungWithSome, paint_moved, plain_same, runs_sung}
use Rattle.draw_laws.proofs.Types.{Making, Mark, Row, Run}

-- a stage, so many columns and rows farther
abbrev pub later : Stage → ℤ → ℤ → Stage
later stage columns rows = moved_stage (whole_step columns rows) stage

-- The mark of a state, and its shadow, are near the frame.
abbrev IsMarkNearIn : Stage → State → Mark → Type 0
IsMarkNearIn stage state mark = AreMasksNear stage state mark.pen

-- The marks of a state, on both stages; all are near the frame.
record AreMarksMoved (stage : Stage) (columns rows : ℤ) (state : State) (marks moved : List Mark) : Type 0 where
  images : moved ≡ map (moved_mark (whole_step columns rows)) marks
  before : All (IsMarkNearIn stage state) marks
  after : All (IsMarkNearIn (later stage columns rows) state) moved

-- ---- draws of a state

own_near : (at : Stage) (making : Making) (state : State) (mark : Mark) → making.angle ≡ state.angle → making.offsets ≡ no_offsets → AreMasksNear at state mark.pen
    → IsMarkNear at making mark
own_near at making state mark turned still h =
    subst (λ (z : ℤ). is_near_frame at.size (spot_at at.origin z mark.pen making.offsets) ≡ true) (sym turned)
    (subst (λ (o : Offsets). is_near_frame at.size (spot_at at.origin state.angle mark.pen o) ≡ true) (sym still) h.own)

cast_near : (at : Stage) (making : Making) (state : State) (mark : Mark) → making.angle ≡ state.angle → making.offsets ≡ offsets_of at.scales state → AreMasksNear at state mark.pen
    → IsMarkNear at making mark
cast_near at making state mark turned cast h =
    subst (λ (z : ℤ). is_near_frame at.size (spot_at at.origin z mark.pen making.offsets) ≡ true) (sym turned)
    (subst (λ (o : Offsets). is_near_frame at.size (spot_at at.origin state.angle mark.pen o) ≡ true) (sym cast) h.shadow)

-- without offsets
plain_moved : (stage : Stage) (making : Making) (columns rows : ℤ) (p q : Paint) (clip : Clip) (state : State) (marks moved : List Mark) → IsFrameSize stage.size
    → making.angle ≡ state.angle → making.offsets ≡ no_offsets → IsMovedPaint stage.size columns p q → AreMarksMoved stage columns rows state marks moved
    → AllZip (IsMovedDraw stage.size columns rows) (draw_of_marks stage making p clip marks) (draw_of_marks (later stage columns rows) making q clip moved)
plain_moved stage making columns rows p q clip state marks moved framed turned still paints h =
    let near = λ (at : Stage) (mark : Mark) (k : AreMasksNear at state mark.pen). own_near at making state mark turned still k in
    marks_draw_moved stage making columns rows p q clip marks moved framed paints h.images
    (All-weaker (IsMarkNearIn stage state) (IsMarkNear stage making) (near stage) marks h.before)
    (All-weaker (IsMarkNearIn (later stage columns rows) state) (IsMarkNear (later stage columns rows) making) (near (later stage columns rows)) moved h.after)

-- with those of the shadow
shadow_moved : (stage : Stage) (making : Making) (columns rows : ℤ) (p q : Paint) (clip : Clip) (state : State) (marks moved : List Mark) → IsFrameSize stage.size
    → making.angle ≡ state.angle → making.offsets ≡ offsets_of stage.scales state → IsMovedPaint stage.size columns p q → AreMarksMoved stage columns rows state marks moved
    → AllZip (IsMovedDraw stage.size columns rows) (draw_of_marks stage making p clip marks) (draw_of_marks (later stage columns rows) making q clip moved)
shadow_moved stage making columns rows p q clip state marks moved framed turned cast paints h =
    marks_draw_moved stage making columns rows p q clip marks moved framed paints h.images
    (All-weaker (IsMarkNearIn stage state) (IsMarkNear stage making) (λ mark k. cast_near stage making state mark turned cast k) marks h.before)
    (All-weaker (IsMarkNearIn (later stage columns rows) state) (IsMarkNear (later stage columns rows) making)
    (λ mark k. cast_near (later stage columns rows) making state mark turned cast k) moved h.after)

-- ---- runs

-- The three kinds of draws of a run.
record AreRunDrawsMoved (stage : Stage) (columns rows : ℤ) (clip : Clip) (run moved : Option Run) : Type 0 where
  shadows : (boxed : Bool) → AllZip (IsMovedDraw stage.size columns rows) (option_map_or (run_shadow stage clip boxed) run [])
      (option_map_or (run_shadow (later stage columns rows) clip boxed) moved [])
  borders : (boxed : Bool) → AllZip (IsMovedDraw stage.size columns rows) (option_map_or (run_border stage clip boxed) run [])
      (option_map_or (run_border (later stage columns rows) clip boxed) moved [])
  fills : (boxed : Bool) → AllZip (IsMovedDraw stage.size columns rows) (option_map_or (run_fill stage clip boxed) run [])
      (option_map_or (run_fill (later stage columns rows) clip boxed) moved [])

state_draws_moved : (stage : Stage) (columns rows : ℤ) (clip : Clip) (state : State) (p q : Paint) (marks moved : List Mark) → IsFrameSize stage.size
    → IsMovedPaint stage.size columns p q → AreMarksMoved stage columns rows state marks moved
    → AreRunDrawsMoved stage columns rows clip (Some (record { state = state; paint = p; marks = marks })) (Some (record { state = state; paint = q; marks = moved }))
state_draws_moved stage columns rows clip state p q marks moved framed paints h =
    let R = IsMovedDraw stage.size columns rows in
    record {
      shadows = λ boxed.
          zip_if R (are_no_offsets (offsets_in stage state)) [] _ [] _ tt
          (shadow_moved stage (border_making stage boxed state (offsets_in stage state)) columns rows _ _ clip state marks moved framed refl refl
          (plain_same stage.size columns (back_colour stage.fade state)) h);
      borders = λ boxed.
          zip_if R (are_no_radii (border_radii stage boxed state)) [] _ [] _ tt
          (plain_moved stage (border_making stage boxed state no_offsets) columns rows _ _ clip state marks moved framed refl refl
          (plain_same stage.size columns (outline_colour stage.fade state)) h);
      fills = λ boxed. plain_moved stage (fill_making stage boxed state) columns rows p q clip state marks moved framed refl refl paints h;
    }

-- The marks of items are near.
near_marks : (stage : Stage) (fonts : List FontValue) (view : EventView) (line : Line) (state : State) (items : List Placed)
    → All (λ (item : Placed). IfSome (mark_of stage fonts view line item) (IsMarkNearIn stage state)) items → All (IsMarkNearIn stage state) (marks_of stage fonts view line items)
near_marks stage fonts view line state items h = all-filter_map (mark_of stage fonts view line) (IsMarkNearIn stage state) items h

run_moved : (stage : Stage) (fonts : List FontValue) (view : EventView) (line : Line) (items run : List Placed) (columns rows : ℤ) (clip : Clip) → IsFrameSize stage.size
    → IsRunNear stage fonts view line run → IsRunNear (later stage columns rows) fonts view line run → All (IsSungWithSome view items) run
    → AreRunDrawsMoved stage columns rows clip (run_of stage fonts view line items run) (run_of (later stage columns rows) fonts view line items run)
run_moved stage fonts view line items [] columns rows clip framed near far sung = record { shadows = λ boxed. tt; borders = λ boxed. tt; fills = λ boxed. tt }
run_moved stage fonts view line items (item ∷ run) columns rows clip framed near far sung =
    state_draws_moved stage columns rows clip (state_of view item) (paint_of stage view items (state_of view item)) (paint_of (later stage columns rows) view items (state_of view item))
    (marks_of stage fonts view line (item ∷ run)) (marks_of (later stage columns rows) fonts view line (item ∷ run)) framed
    (paint_moved stage columns rows view items item framed (All-head (IsSungWithSome view items) item run sung))
    (record {
      images = marks_moved (whole_step columns rows) stage fonts view line (item ∷ run);
      before = near_marks stage fonts view line (state_of view item) (item ∷ run) near;
      after = near_marks (later stage columns rows) fonts view line (state_of view item) (item ∷ run) far;
    })

-- ---- boxes

one_mark : (stage : Stage) (state : State) (mark : Mark) → IsMarkNearIn stage state mark → All (IsMarkNearIn stage state) (mark ∷ [])
one_mark stage state mark h = All-cons (IsMarkNearIn stage state) mark [] h (All-nil (IsMarkNearIn stage state))

box_marks : (stage : Stage) (line : Line) (state : State) (columns rows : ℤ) → IsMarkNearIn stage state (box_mark stage line state)
    → IsMarkNearIn (later stage columns rows) state (box_mark (later stage columns rows) line state)
    → AreMarksMoved stage columns rows state (box_mark stage line state ∷ []) (box_mark (later stage columns rows) line state ∷ [])
box_marks stage line state columns rows near far = record {
  images = ap (λ (mark : Mark). mark ∷ []) (box_moved (whole_step columns rows) stage line state);
  before = one_mark stage state (box_mark stage line state) near;
  after = one_mark (later stage columns rows) state (box_mark (later stage columns rows) line state) far;
}

-- The draws of a box.
record AreBoxDrawsMoved (stage : Stage) (columns rows : ℤ) (clip : Clip) (line : Line) (state : State) : Type 0 where
  shadow : AllZip (IsMovedDraw stage.size columns rows) (box_shadow stage clip line state) (box_shadow (later stage columns rows) clip line state)
  border : AllZip (IsMovedDraw stage.size columns rows) (box_border stage clip line state) (box_border (later stage columns rows) clip line state)

box_draws_moved : (stage : Stage) (line : Line) (state : State) (columns rows : ℤ) (clip : Clip) → IsFrameSize stage.size
    → AreMarksMoved stage columns rows state (box_mark stage line state ∷ []) (box_mark (later stage columns rows) line state ∷ [])
    → AreBoxDrawsMoved stage columns rows clip line state
box_draws_moved stage line state columns rows clip framed h = record {
  shadow =
      zip_if (IsMovedDraw stage.size columns rows) (are_no_offsets (offsets_in stage state)) [] _ [] _ tt
      (shadow_moved stage (box_making stage state (offsets_in stage state)) columns rows _ _ clip state _ _ framed refl refl
      (plain_same stage.size columns (back_colour stage.fade state)) h);
  border =
      plain_moved stage (box_making stage state no_offsets) columns rows _ _ clip state _ _ framed refl refl
      (plain_same stage.size columns (outline_colour stage.fade state)) h;
}

-- ---- lines

pub record AreRowDrawsMoved (stage : Stage) (columns rows : ℤ) (clip : Clip) (row moved : Option Row) : Type 0 where
  pub shadows : AllZip (IsMovedDraw stage.size columns rows) (option_map_or (row_shadows stage clip) row []) (option_map_or (row_shadows (later stage columns rows) clip) moved [])
  pub borders : AllZip (IsMovedDraw stage.size columns rows) (option_map_or (row_borders stage clip) row []) (option_map_or (row_borders (later stage columns rows) clip) moved [])
  pub fills : AllZip (IsMovedDraw stage.size columns rows) (option_map_or (row_fills stage clip) row []) (option_map_or (row_fills (later stage columns rows) clip) moved [])

each_run : (stage : Stage) (fonts : List FontValue) (view : EventView) (line : Line) (items : List Placed) (columns rows : ℤ) (clip : Clip) → IsFrameSize stage.size
    → All (IsRunNear stage fonts view line) (runs_of view items) → All (IsRunNear (later stage columns rows) fonts view line) (runs_of view items)
    → All (λ run. AreRunDrawsMoved stage columns rows clip (run_of stage fonts view line items run) (run_of (later stage columns rows) fonts view line items run)) (runs_of view items)
each_run stage fonts view line items columns rows clip framed near far = λ k d within.
    run_moved stage fonts view line items (slice_index_or (runs_of view items) k d) columns rows clip framed (near k d within) (far k d within) (runs_sung view items k d within)

pub row_moved : (stage : Stage) (fonts : List FontValue) (view : EventView) (line : Line) (items : List Placed) (columns rows : ℤ) (clip : Clip) → IsFrameSize stage.size
    → IsLineNear stage fonts view line items → IsLineNear (later stage columns rows) fonts view line items
    → AreRowDrawsMoved stage columns rows clip (row_by stage fonts view line items) (row_by (later stage columns rows) fonts view line items)
row_moved stage fonts view line [] columns rows clip framed near far = record { shadows = tt; borders = tt; fills = tt }
row_moved stage fonts view line (item ∷ items) columns rows clip framed near far =
    let R = IsMovedDraw stage.size columns rows in
    let state = state_of view item in
    let boxed = state.border_style == boxed_style in
    let all = item ∷ items in
    let here = run_of stage fonts view line all in
    let moved = run_of (later stage columns rows) fonts view line all in
    let runs = runs_of view all in
    let each = each_run stage fonts view line all columns rows clip framed near.runs far.runs in
    let box = box_draws_moved stage line state columns rows clip framed (box_marks stage line state columns rows near.box far.box) in
    record {
      shadows = zip_if R boxed _ _ _ _ box.shadow (zip_flat R (run_shadow stage clip false) (run_shadow (later stage columns rows) clip false) here moved runs (λ k d within. (each k d within).shadows false));
      borders = zip_if R boxed _ _ _ _ box.border (zip_flat R (run_border stage clip false) (run_border (later stage columns rows) clip false) here moved runs (λ k d within. (each k d within).borders false));
      fills = zip_flat R (run_fill stage clip boxed) (run_fill (later stage columns rows) clip boxed) here moved runs (λ k d within. (each k d within).fills boxed);
    }
