-- A fade of 255 leaves nothing of a colour.
use Rattle.std.proofs.Common.{◌≡◌, ℕ, ◌*◌, ◌+◌, ◌-◌, ◌/◌, Bool, true, false, cond, Option, Some, None, List, [], ◌∷◌, ◌++◌, flat_map, ℤ, subst, sym, arith}
use Rattle.std.specs.List.{All}
use Rattle.std.specs.Option.{IfSome}
use Rattle.std.specs.Prelude.{slice_index_or}
use Rattle.std.proofs.lemmas.List.Elements.{All-append, All-cons, All-nil, All-weaker}
use Rattle.ass_events.specs.declared.event.Event.{Event}
use Rattle.ass_num.specs.declared.colour.Rgba.{Rgba}
use Rattle.ass_script.specs.Scripts.{ScriptValue}
use Rattle.bdf_font.specs.Fonts.{FontValue}
use Rattle.draw_numbers.specs.Colours.{back_colour, faded_colour, fill_paint, is_awaited, is_swept, outline_colour, plain_paint, primary, secondary, sung_paint, swept_paint}
use Rattle.draw_numbers.specs.Widths.{are_no_offsets, are_no_radii, no_offsets}
use Rattle.draw_numbers.specs.declared.colours.Paint.{Paint}
use Rattle.event_draws.proofs.ListAlls.{all-filter_map, all-flat_map, all_none_if}
use Rattle.event_draws.specs.Clips.{clip_by}
use Rattle.event_draws.specs.Draws.{border_making, border_radii, box_border, box_making, box_shadow, draw_of, fill_making, offsets_in, run_border, run_fill, run_shadow}
use Rattle.event_draws.specs.EventDraws.{draw_rows, event_draws, is_boxed, left_end, right_end, row_borders, row_by, row_fills, row_on, row_shadows, run_of, sung_with}
use Rattle.event_draws.specs.Items.{items_of, state_of}
use Rattle.event_draws.specs.MovedDraws.{AreMovedDraws}
use Rattle.event_draws.specs.Runs.{runs_of}
use Rattle.event_draws.specs.Stages.{stage_at}
use Rattle.event_draws.specs.declared.stage.Stage.{Stage}
use Rattle.frame_view.specs.declared.view.FrameView.{FrameView}
use Rattle.mask_keys.specs.declared.plans.Clip.{Clip}
use Rattle.mask_keys.specs.declared.plans.Draw.{Draw}
use Rattle.override_tags.specs.declared.view.EventView.{EventView}
use Rattle.override_tags.specs.declared.view.State.{State}
use Rattle.override_tags.specs.declared.view.Syllable.{Syllable}
use Rattle.text_layout.specs.declared.laid.Laid.{Laid}
use Rattle.text_layout.specs.declared.laid.Line.{Line}
use Rattle.text_layout.specs.declared.laid.Placed.{Placed}
use Rattle.draw_laws.specs.Fades.{IsTransparent}
use Rattle.draw_laws.specs.Shades.{primary_of, secondary_of}
use Rattle.draw_laws.proofs.Types.{Making, Row, Run, Stamp}

-- ---- paints

record IsClear (paint : Paint) : Type 0 where
  left : paint.left.a ≡ 255
  right : paint.right.a ≡ 255

clear_number : (n : ℕ) → 255 - (n * (255 - 255) + 127) / 255 ≡ 255
clear_number n = omega arith

clear_colour : (fade : ℕ) (colour : Rgba) → fade ≡ 255 → (faded_colour fade colour).a ≡ 255
clear_colour fade colour e = subst (λ (n : ℕ). (faded_colour n colour).a ≡ 255) (sym e) (clear_number (255 - colour.a))

clear_if : (b : Bool) (p q : Paint) → IsClear p → IsClear q → IsClear (cond b p q)
clear_if true p q h k = h
clear_if false p q h k = k

clear_plain : (fade : ℕ) (colour : Rgba) → fade ≡ 255 → IsClear (plain_paint (faded_colour fade colour))
clear_plain fade colour e = record { left = clear_colour fade colour e; right = clear_colour fade colour e }

clear_sung : (fade : ℕ) (elapsed : ℤ) (state : State) (left right : ℤ) (sung : Option Syllable) → fade ≡ 255 → IsClear (sung_paint fade elapsed state left right sung)
clear_sung fade elapsed state left right None e = clear_plain fade _ e
clear_sung fade elapsed state left right (Some s) e =
    clear_if (is_swept elapsed s) (swept_paint fade elapsed state left right s) (plain_paint (primary fade state))
    (record { left = clear_colour fade (primary_of state) e; right = clear_colour fade (secondary_of state) e }) (clear_plain fade _ e)

clear_fill : (fade : ℕ) (elapsed : ℤ) (state : State) (left right : ℤ) → fade ≡ 255 → IsClear (fill_paint fade elapsed state left right)
clear_fill fade elapsed state left right e =
    clear_if (is_awaited elapsed state.sung) (plain_paint (secondary fade state)) (sung_paint fade elapsed state left right state.sung)
    (clear_plain fade _ e) (clear_sung fade elapsed state left right state.sung e)

-- ---- draws

clear_draw : (making : Making) (paint : Paint) (clip : Clip) (stamps : List Stamp) → IsClear paint → All IsTransparent (draw_of making paint clip stamps)
clear_draw making paint clip [] h = All-nil IsTransparent
clear_draw making paint clip (first ∷ rest) h = All-cons IsTransparent _ [] (record { left = h.left; right = h.right }) (All-nil IsTransparent)

clear_shadow : (stage : Stage) (clip : Clip) (boxed : Bool) (run : Run) → stage.fade ≡ 255 → All IsTransparent (run_shadow stage clip boxed run)
clear_shadow stage clip boxed run e =
    all_none_if IsTransparent (are_no_offsets (offsets_in stage run.state)) _
    (clear_draw (border_making stage boxed run.state (offsets_in stage run.state)) (plain_paint (back_colour stage.fade run.state)) clip _ (clear_plain stage.fade _ e))

clear_border : (stage : Stage) (clip : Clip) (boxed : Bool) (run : Run) → stage.fade ≡ 255 → All IsTransparent (run_border stage clip boxed run)
clear_border stage clip boxed run e =
    all_none_if IsTransparent (are_no_radii (border_radii stage boxed run.state)) _
    (clear_draw (border_making stage boxed run.state no_offsets) (plain_paint (outline_colour stage.fade run.state)) clip _ (clear_plain stage.fade _ e))

clear_box_shadow : (stage : Stage) (clip : Clip) (line : Line) (state : State) → stage.fade ≡ 255 → All IsTransparent (box_shadow stage clip line state)
clear_box_shadow stage clip line state e =
    all_none_if IsTransparent (are_no_offsets (offsets_in stage state)) _
    (clear_draw (box_making stage state (offsets_in stage state)) (plain_paint (back_colour stage.fade state)) clip _ (clear_plain stage.fade _ e))

clear_box : (stage : Stage) (clip : Clip) (line : Line) (state : State) → stage.fade ≡ 255 → All IsTransparent (box_border stage clip line state)
clear_box stage clip line state e =
    clear_draw (box_making stage state no_offsets) (plain_paint (outline_colour stage.fade state)) clip _ (clear_plain stage.fade _ e)

-- ---- rows

abbrev IsClearRun : Run → Type 0
IsClearRun run = IsClear run.paint

abbrev IsClearRow : Row → Type 0
IsClearRow row = All IsClearRun row.runs

clear_run : (stage : Stage) (fonts : List FontValue) (view : EventView) (line : Line) (items run : List Placed) → stage.fade ≡ 255
    → IfSome (run_of stage fonts view line items run) IsClearRun
clear_run stage fonts view line items [] e = tt
clear_run stage fonts view line items (item ∷ run) e =
    clear_fill stage.fade stage.elapsed (state_of view item) (left_end stage (sung_with view (state_of view item) items))
    (right_end stage (sung_with view (state_of view item) items)) e

clear_row : (stage : Stage) (fonts : List FontValue) (view : EventView) (line : Line) (items : List Placed) → stage.fade ≡ 255
    → IfSome (row_by stage fonts view line items) IsClearRow
clear_row stage fonts view line [] e = tt
clear_row stage fonts view line (item ∷ items) e =
    all-filter_map (run_of stage fonts view line (item ∷ items)) IsClearRun (runs_of view (item ∷ items))
    (λ k d within. clear_run stage fonts view line (item ∷ items) _ e)

by_box : (b : Bool) (box others : List Draw) → All IsTransparent box → All IsTransparent others → All IsTransparent (cond b box others)
by_box true box others h k = h
by_box false box others h k = k

each_run : (f : Run → List Draw) (runs : List Run) → ((run : Run) → IsClearRun run → All IsTransparent (f run)) → All IsClearRun runs → All IsTransparent (flat_map f runs)
each_run f runs each all = all-flat_map f IsTransparent runs (All-weaker IsClearRun (λ run. All IsTransparent (f run)) each runs all)

each_row : (f : Row → List Draw) (rows : List Row) → ((row : Row) → IsClearRow row → All IsTransparent (f row)) → All IsClearRow rows → All IsTransparent (flat_map f rows)
each_row f rows each all = all-flat_map f IsTransparent rows (All-weaker IsClearRow (λ row. All IsTransparent (f row)) each rows all)

clear_shadows : (stage : Stage) (clip : Clip) (row : Row) → stage.fade ≡ 255 → IsClearRow row → All IsTransparent (row_shadows stage clip row)
clear_shadows stage clip row e h =
    by_box (is_boxed row) _ _ (clear_box_shadow stage clip row.line row.state e)
    (each_run (run_shadow stage clip false) row.runs (λ run k. clear_shadow stage clip false run e) h)

clear_borders : (stage : Stage) (clip : Clip) (row : Row) → stage.fade ≡ 255 → IsClearRow row → All IsTransparent (row_borders stage clip row)
clear_borders stage clip row e h =
    by_box (is_boxed row) _ _ (clear_box stage clip row.line row.state e)
    (each_run (run_border stage clip false) row.runs (λ run k. clear_border stage clip false run e) h)

clear_fills : (stage : Stage) (clip : Clip) (row : Row) → IsClearRow row → All IsTransparent (row_fills stage clip row)
clear_fills stage clip row h =
    each_run (run_fill stage clip (is_boxed row)) row.runs
    (λ run k. clear_draw (fill_making stage (is_boxed row) run.state) run.paint clip _ k) h

clear_event : (stage : Stage) (fonts : List FontValue) (view : EventView) (laid : Laid) → stage.fade ≡ 255 → All IsTransparent (event_draws stage fonts view laid)
clear_event stage fonts view laid e =
    let clip = clip_by stage.scales view.clip in
    let rows = draw_rows stage fonts view laid in
    let clear : All IsClearRow rows = all-filter_map (row_on stage fonts view laid) IsClearRow laid.lines (λ k d within. clear_row stage fonts view (slice_index_or laid.lines k d) (items_of laid (slice_index_or laid.lines k d)) e) in
    All-append IsTransparent (flat_map (row_shadows stage clip) rows ++ flat_map (row_borders stage clip) rows) (flat_map (row_fills stage clip) rows)
    (All-append IsTransparent (flat_map (row_shadows stage clip) rows) (flat_map (row_borders stage clip) rows)
    (each_row (row_shadows stage clip) rows (λ row k. clear_shadows stage clip row e k) clear)
    (each_row (row_borders stage clip) rows (λ row k. clear_borders stage clip row e k) clear))
    (each_row (row_fills stage clip) rows (λ row k. clear_fills stage clip row k) clear)

pub faded_transparent : (script : ScriptValue) (fonts : List FontValue) (event : Event) (t : ℤ) (frame : FrameView) (shift : ℤ) (draws : List Draw)
    (drawn : AreMovedDraws script fonts event t frame shift draws) → drawn.view.fade ≡ 255 → All IsTransparent draws
faded_transparent script fonts event t frame shift draws drawn e =
    subst (λ (ds : List Draw). All IsTransparent ds) (sym drawn.value) (clear_event (stage_at script event t frame drawn.view drawn.laid shift) fonts drawn.view drawn.laid e)
