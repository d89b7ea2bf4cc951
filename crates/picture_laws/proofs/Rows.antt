-- Two views of an event that are laid out alike have the same draws.
use Rattle.std.proofs.Common.{◌≡◌, ◌∙◌, refl, ap, ap₂, Bool, false, cond, List, [], ◌∷◌, ◌++◌, length, get_or, filter, flat_map, Option, true}
use Rattle.std.specs.List.{All, filter_map}
use Rattle.std.specs.Option.{option_map_or}
use Rattle.std.specs.Prelude.{◌==◌, ℕ}
use Rattle.std.proofs.lemmas.List.Elements.{All-cons, All-head, All-nil, All-tail, All-weaker}
use Rattle.ass_script.specs.Scripts.{ScriptValue}
use Rattle.bdf_font.specs.Fonts.{FontValue}
use Rattle.draw_numbers.specs.Colours.{back_colour, outline_colour, plain_paint}
use Rattle.draw_numbers.specs.Widths.{are_no_offsets, are_no_radii, no_offsets}
use Rattle.draw_numbers.specs.declared.colours.Paint.{Paint}
use Rattle.mask_keys.specs.declared.plans.Clip.{Clip}
use Rattle.mask_keys.specs.declared.plans.Draw.{Draw}
use Rattle.override_tags.specs.declared.tag.ClipTag.{ClipTag}
use Rattle.override_tags.specs.declared.view.EventView.{EventView}
use Rattle.override_tags.specs.declared.view.State.{State}
use Rattle.text_layout.specs.declared.laid.Laid.{Laid}
use Rattle.text_layout.specs.declared.laid.Line.{Line}
use Rattle.text_layout.specs.declared.laid.Placed.{Placed}
use Rattle.event_draws.specs.Clips.{clip_by}
use Rattle.event_draws.specs.Draws.{border_making, border_radii, box_border, box_shadow, draw_of_marks, fill_making, offsets_in, run_border, run_fill, run_shadow}
use Rattle.event_draws.specs.EventDraws.{boxed_style, draw_rows, draws_of_rows, event_draws, line_runs, paint_of, row_borders, row_by, row_fills, row_on, row_shadows, rows_made, run_of}
use Rattle.event_draws.specs.Items.{is_of_line, items_of, state_of}
use Rattle.event_draws.specs.Marks.{marks_of}
use Rattle.event_draws.specs.Runs.{runs_of}
use Rattle.event_draws.specs.declared.stage.Stage.{Stage}
use Rattle.picture_laws.proofs.Items.{ShowAlike, same_item}
use Rattle.picture_laws.proofs.Runs.{IsItem, items_of_runs, same_flat, same_marks, same_paint, same_runs}
use Rattle.picture_laws.proofs.States.{AreAlike}

-- ---- the draws of runs, by what runs have

-- what is in the lists that a function gives: marks, runs and rows have no names outside their crate
abbrev ElementOf : {A B C D E X : Type 0} → (A → B → C → D → E → List X) → Type 0
ElementOf {X = X} f = X

abbrev Mark : Type 0
Mark = ElementOf marks_of

abbrev Run : Type 0
Run = ElementOf line_runs

abbrev Row : Type 0
Row = ElementOf rows_made

module _ (stage : Stage) (clip : Clip) where
  abbrev shadow_of : State → List Mark → List Draw
  shadow_of state marks =
      cond (are_no_offsets (offsets_in stage state)) [] (draw_of_marks stage (border_making stage false state (offsets_in stage state)) (plain_paint (back_colour stage.fade state)) clip marks)

  abbrev border_of : State → List Mark → List Draw
  border_of state marks =
      cond (are_no_radii (border_radii stage false state)) [] (draw_of_marks stage (border_making stage false state no_offsets) (plain_paint (outline_colour stage.fade state)) clip marks)

  abbrev fill_of : Bool → State → Paint → List Mark → List Draw
  fill_of boxed state paint marks = draw_of_marks stage (fill_making stage boxed state) paint clip marks

-- ---- items of a line

kept_all : {X : Type 0} (P : X → Type 0) (x : X) (xs : List X) (b : Bool) → P x → All P xs → All P (cond b (x ∷ xs) xs)
kept_all P x xs b here later = elim b as (λ b. All P (cond b (x ∷ xs) xs)) [ true ↦ All-cons P x xs here later | false ↦ later ]

all_filter : {X : Type 0} (P : X → Type 0) (p : X → Bool) (xs : List X) → All P xs → All P (filter p xs)
all_filter P p [] h = All-nil P
all_filter P p (x ∷ xs) h = kept_all P x (filter p xs) (p x) (All-head P x xs h) (all_filter P p xs (All-tail P x xs h))

module _ (script : ScriptValue) (own : List ℕ) (v w : EventView) (alike : ShowAlike script own v w) (stage : Stage) (fonts : List FontValue) where
  abbrev IsItemOfView : Placed → Type 0
  IsItemOfView = IsItem (length v.items)

  module _ (line : Line) (items : List Placed) (all : All IsItemOfView items) where
    -- The draws of a run are the same in both views.
    abbrev IsSameRun : (Run → List Draw) → List Placed → Type 0
    IsSameRun F run = option_map_or F (run_of stage fonts v line items run) [] ≡ option_map_or F (run_of stage fonts w line items run) []

    first_alike : (item : Placed) (run : List Placed) → All IsItemOfView (item ∷ run) → AreAlike (state_of v item) (state_of w item)
    first_alike item run here = (same_item script own v w alike item (All-head IsItemOfView item run here)).alike

    module _ (clip : Clip) where
      same_shadow : (run : List Placed) → All IsItemOfView run → IsSameRun (run_shadow stage clip false) run
      same_shadow [] here = refl
      same_shadow (item ∷ run) here =
          ap (λ (z : List Mark). shadow_of stage clip (state_of v item) z) (same_marks script own v w alike stage fonts line (item ∷ run) here)
          ∙ ap (λ (s : State). shadow_of stage clip s (marks_of stage fonts w line (item ∷ run))) (first_alike item run here)

      same_border : (run : List Placed) → All IsItemOfView run → IsSameRun (run_border stage clip false) run
      same_border [] here = refl
      same_border (item ∷ run) here =
          ap (λ (z : List Mark). border_of stage clip (state_of v item) z) (same_marks script own v w alike stage fonts line (item ∷ run) here)
          ∙ ap (λ (s : State). border_of stage clip s (marks_of stage fonts w line (item ∷ run))) (first_alike item run here)

      same_fill : (boxed : Bool) (run : List Placed) → All IsItemOfView run → IsSameRun (run_fill stage clip boxed) run
      same_fill boxed [] here = refl
      same_fill boxed (item ∷ run) here =
          let a = state_of v item in
          let b = state_of w item in
          let states = first_alike item run here in
          ap₂ (λ (p : Paint) (m : List Mark). fill_of stage clip boxed a p m) (same_paint script own v w alike stage items a b states all) (same_marks script own v w alike stage fonts line (item ∷ run) here)
          ∙ ap (λ (s : State). fill_of stage clip boxed s (paint_of stage w items b) (marks_of stage fonts w line (item ∷ run))) states

    same_line : (F : Run → List Draw) → ((run : List Placed) → All IsItemOfView run → IsSameRun F run)
        → flat_map F (line_runs stage fonts v line items) ≡ flat_map F (line_runs stage fonts w line items)
    same_line F same =
        same_flat F F (run_of stage fonts v line items) (run_of stage fonts w line items) (runs_of v items)
        (All-weaker (All IsItemOfView) (IsSameRun F) (λ run here. same run here) (runs_of v items) (items_of_runs v (length v.items) items all))
        ∙ ap (λ (z : List (List Placed)). flat_map F (filter_map (run_of stage fonts w line items) z)) (same_runs script own v w alike items all)

  -- ---- rows
  abbrev IsSameRow : Line → (Row → List Draw) → List Placed → Type 0
  IsSameRow line F items = option_map_or F (row_by stage fonts v line items) [] ≡ option_map_or F (row_by stage fonts w line items) []

  module _ (clip : Clip) (line : Line) where
    same_shadows : (items : List Placed) → All IsItemOfView items → IsSameRow line (row_shadows stage clip) items
    same_shadows [] all = refl
    same_shadows (item ∷ items) all =
        let line_is = same_line line (item ∷ items) all (run_shadow stage clip false) (λ run here. same_shadow line (item ∷ items) all clip run here) in
        ap (λ (z : List Draw). cond ((state_of v item).border_style == boxed_style) (box_shadow stage clip line (state_of v item)) z) line_is
        ∙ ap (λ (s : State). cond (s.border_style == boxed_style) (box_shadow stage clip line s) (flat_map (run_shadow stage clip false) (line_runs stage fonts w line (item ∷ items))))
        (first_alike line (item ∷ items) all item items all)

    same_borders : (items : List Placed) → All IsItemOfView items → IsSameRow line (row_borders stage clip) items
    same_borders [] all = refl
    same_borders (item ∷ items) all =
        let line_is = same_line line (item ∷ items) all (run_border stage clip false) (λ run here. same_border line (item ∷ items) all clip run here) in
        ap (λ (z : List Draw). cond ((state_of v item).border_style == boxed_style) (box_border stage clip line (state_of v item)) z) line_is
        ∙ ap (λ (s : State). cond (s.border_style == boxed_style) (box_border stage clip line s) (flat_map (run_border stage clip false) (line_runs stage fonts w line (item ∷ items))))
        (first_alike line (item ∷ items) all item items all)

    same_fills : (items : List Placed) → All IsItemOfView items → IsSameRow line (row_fills stage clip) items
    same_fills [] all = refl
    same_fills (item ∷ items) all =
        let boxed = (state_of v item).border_style == boxed_style in
        same_line line (item ∷ items) all (run_fill stage clip boxed) (λ run here. same_fill line (item ∷ items) all clip boxed run here)
        ∙ ap (λ (s : State). flat_map (run_fill stage clip (s.border_style == boxed_style)) (line_runs stage fonts w line (item ∷ items))) (first_alike line (item ∷ items) all item items all)

  -- ---- draws
  module _ (laid : Laid) (all : All IsItemOfView laid.placed) (clip : Clip) where
    same_lines : (F : Row → List Draw) → ((line : Line) (items : List Placed) → All IsItemOfView items → IsSameRow line F items)
        → flat_map F (draw_rows stage fonts v laid) ≡ flat_map F (draw_rows stage fonts w laid)
    same_lines F same =
        same_flat F F (row_on stage fonts v laid) (row_on stage fonts w laid) laid.lines
        (λ k d within. let line = get_or laid.lines k d in same line (items_of laid line) (all_filter IsItemOfView (is_of_line line) laid.placed all))

    same_rows : draws_of_rows stage clip (draw_rows stage fonts v laid) ≡ draws_of_rows stage clip (draw_rows stage fonts w laid)
    same_rows =
        ap₂ (λ (x y : List Draw). x ++ y)
        (ap₂ (λ (x y : List Draw). x ++ y) (same_lines (row_shadows stage clip) (λ line items here. same_shadows clip line items here))
        (same_lines (row_borders stage clip) (λ line items here. same_borders clip line items here)))
        (same_lines (row_fills stage clip) (λ line items here. same_fills clip line items here))

  pub same_draws : (laid : Laid) → All IsItemOfView laid.placed → v.clip ≡ w.clip → event_draws stage fonts v laid ≡ event_draws stage fonts w laid
  same_draws laid all clip =
      ap (λ (z : Option ClipTag). draws_of_rows stage (clip_by stage.scales z) (draw_rows stage fonts v laid)) clip
      ∙ same_rows laid all (clip_by stage.scales w.clip)
