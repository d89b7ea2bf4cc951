-- The draws of lines, in layers.
use Rattle.std.proofs.Common.{◌≡◌, refl, sym, ap, ap₂, ◌∙◌, ◌==◌, Bool, true, false, cond, Option, Some, None, List, [], ◌∷◌, ◌++◌, map, flat_map, append-nil, ℤ, subst}
use Rattle.std.specs.List.{All, AllZip, cons_option, filter_map, slice_get}
use Rattle.std.specs.Option.{IfSome, option_map_or}
use Rattle.std.specs.Prelude.{slice_index_or}
use Rattle.std.proofs.lemmas.Bool.{eq-eqb, eqb-true, false≢true}
use Rattle.std.proofs.lemmas.List.Elements.{All-map}
use Rattle.ass_events.specs.declared.event.Event.{Event}
use Rattle.ass_script.specs.Scripts.{ScriptValue}
use Rattle.bdf_font.specs.Fonts.{FontValue}
use Rattle.event_draws.proofs.MaximalRuns.{runs_maximal}
use Rattle.event_draws.specs.Clips.{clip_by}
use Rattle.event_draws.specs.Draws.{box_border, box_shadow, run_border, run_fill, run_shadow}
use Rattle.event_draws.specs.EventDraws.{event_draws, left_end, right_end, row_borders, row_by, row_fills, row_on, row_shadows, run_of, sung_with}
use Rattle.event_draws.specs.Items.{items_of, state_of}
use Rattle.event_draws.specs.Marks.{mark_of}
use Rattle.event_draws.specs.MovedDraws.{AreMovedDraws}
use Rattle.event_draws.specs.Runs.{AreRunsOf, runs_of}
use Rattle.event_draws.specs.Stages.{stage_at}
use Rattle.event_draws.specs.declared.stage.Stage.{Stage}
use Rattle.frame_view.specs.declared.view.FrameView.{FrameView}
use Rattle.mask_keys.specs.declared.plans.Clip.{Clip}
use Rattle.mask_keys.specs.declared.plans.Draw.{Draw}
use Rattle.override_tags.specs.declared.view.EventView.{EventView}
use Rattle.override_tags.specs.declared.view.State.{State}
use Rattle.text_layout.specs.declared.laid.Laid.{Laid}
use Rattle.text_layout.specs.declared.laid.Line.{Line}
use Rattle.text_layout.specs.declared.laid.Placed.{Placed}
use Rattle.draw_laws.specs.Layers.{AreLayeredDraws, IsLineDrawn, IsLineOf, IsRunDrawn, LineDraws, RunDraws, in_layers, item_left, line_borders, line_fills, line_shadows, state_in}
use Rattle.draw_laws.proofs.DrawnParts.{no_cons}
use Rattle.draw_laws.proofs.RunLayers.{box_of, run_of_state, run_parts}
use Rattle.draw_laws.proofs.LeftItems.{same_left}
use Rattle.draw_laws.proofs.Types.{Run}

-- ---- lists

given_flat : {Y Z : Type 0} (F : Y → List Z) (o : Option Y) (ys : List Y) → flat_map F (cons_option o ys) ≡ option_map_or F o [] ++ flat_map F ys
given_flat F None ys = refl
given_flat F (Some y) ys = refl

-- What is made of what a rule gives is made of the images by another one.
flat_images : {X Y W Z : Type 0} (F : Y → List Z) (G : W → List Z) (f : X → Option Y) (g : X → W) (xs : List X) → ((x : X) → option_map_or F (f x) [] ≡ G (g x))
    → flat_map F (filter_map f xs) ≡ flat_map G (map g xs)
flat_images F G f g [] h = refl
flat_images {Z = Z} F G f g (x ∷ xs) h = given_flat F (f x) (filter_map f xs) ∙ ap₂ (λ (a b : List Z). a ++ b) (h x) (flat_images F G f g xs h)

flat_nothing : {X W Z : Type 0} (G : W → List Z) (g : X → W) (xs : List X) → ((x : X) → G (g x) ≡ []) → flat_map G (map g xs) ≡ []
flat_nothing G g [] h = refl
flat_nothing {Z = Z} G g (x ∷ xs) h = ap₂ (λ (a b : List Z). a ++ b) (h x) (flat_nothing G g xs h)

same_images : {X W : Type 0} (part : W → X) (g : X → W) (xs : List X) → ((x : X) → part (g x) ≡ x) → map part (map g xs) ≡ xs
same_images part g [] h = refl
same_images {X = X} part g (x ∷ xs) h = ap₂ (λ (a : X) (rest : List X). a ∷ rest) (h x) (same_images part g xs h)

zip_made : {X W : Type 0} (R : X → W → Type 0) (g : X → W) (xs : List X) → ((x : X) → R x (g x)) → AllZip R xs (map g xs)
zip_made R g [] h = tt
zip_made R g (x ∷ xs) h = (h x, zip_made R g xs h)

-- ---- one line

abbrev run_in : Stage → List FontValue → EventView → Line → Clip → Bool → List Placed → List Placed → RunDraws
run_in stage fonts view line clip boxed items run = run_parts stage clip boxed run (run_of stage fonts view line items run)

abbrev runs_in : Stage → List FontValue → EventView → Line → Clip → Bool → List Placed → List RunDraws
runs_in stage fonts view line clip boxed items = map (run_in stage fonts view line clip boxed items) (runs_of view items)

abbrev line_by : Stage → List FontValue → EventView → Line → Clip → Bool → State → List Placed → LineDraws
line_by stage fonts view line clip boxed state items = record {
  shadow = cond boxed (box_shadow stage clip line state) [];
  box = cond boxed (box_border stage clip line state) [];
  runs = runs_in stage fonts view line clip boxed items;
}

abbrev line_in : Stage → List FontValue → EventView → Line → Clip → List Placed → LineDraws
line_in stage fonts view line clip [] = record { shadow = []; box = []; runs = [] }
line_in stage fonts view line clip (item ∷ items) =
    line_by stage fonts view line clip ((state_of view item).border_style == 3) (state_of view item) (item ∷ items)

run_drawn : (stage : Stage) (fonts : List FontValue) (view : EventView) (line : Line) (clip : Clip) (boxed : Bool) (items run : List Placed)
    → IfSome (slice_get run 0) (λ (item : Placed). IsRunDrawn stage (item_left stage fonts view line) boxed clip (state_in view item) (run_in stage fonts view line clip boxed items run))
run_drawn stage fonts view line clip boxed items [] = tt
run_drawn stage fonts view line clip boxed items (item ∷ run) =
    run_of_state stage (item_left stage fonts view line) (mark_of stage fonts view line) (same_left stage fonts view line) boxed clip (state_of view item) (left_end stage (sung_with view (state_of view item) items))
    (right_end stage (sung_with view (state_of view item) items)) (item ∷ run)

abbrev AreRunsDrawn : Stage → List FontValue → EventView → Line → Clip → Bool → List RunDraws → Type 0
AreRunsDrawn stage fonts view line clip boxed runs =
    All (λ (run : RunDraws). IfSome (slice_get run.items 0) (λ (item : Placed). IsRunDrawn stage (item_left stage fonts view line) boxed clip (state_in view item) run)) runs

runs_drawn : (stage : Stage) (fonts : List FontValue) (view : EventView) (line : Line) (clip : Clip) (boxed : Bool) (items : List Placed)
    → AreRunsDrawn stage fonts view line clip boxed (runs_in stage fonts view line clip boxed items)
runs_drawn stage fonts view line clip boxed items =
    All-map (λ (run : RunDraws). IfSome (slice_get run.items 0) (λ (item : Placed). IsRunDrawn stage (item_left stage fonts view line) boxed clip (state_in view item) run))
    (run_in stage fonts view line clip boxed items) (runs_of view items) (λ k d within. run_drawn stage fonts view line clip boxed items (slice_index_or (runs_of view items) k d))

line_of : (stage : Stage) (fonts : List FontValue) (view : EventView) (line : Line) (clip : Clip) (first : Placed) (items : List Placed) (boxed : Bool)
    → ((state_of view first).border_style == 3) ≡ boxed
    → IsLineOf stage fonts view line clip first (state_of view first) (line_by stage fonts view line clip boxed (state_of view first) items)
line_of stage fonts view line clip first items true e = record {
  boxed = λ style. box_of stage line clip first (state_of view first) (runs_in stage fonts view line clip true items);
  shadows = λ no. absurd (no (eqb-true (state_of view first).border_style 3 e));
  boxes = λ no. absurd (no (eqb-true (state_of view first).border_style 3 e));
  runs = subst (λ (b : Bool). AreRunsDrawn stage fonts view line clip b (runs_in stage fonts view line clip true items)) (sym e) (runs_drawn stage fonts view line clip true items);
}
line_of stage fonts view line clip first items false e = record {
  boxed = λ style. absurd (false≢true (sym e ∙ eq-eqb (state_of view first).border_style 3 style));
  shadows = λ no. refl;
  boxes = λ no. refl;
  runs = subst (λ (b : Bool). AreRunsDrawn stage fonts view line clip b (runs_in stage fonts view line clip false items)) (sym e) (runs_drawn stage fonts view line clip false items);
}

line_drawn : (stage : Stage) (fonts : List FontValue) (view : EventView) (line : Line) (items : List Placed)
    → IsLineDrawn stage fonts view line items (line_in stage fonts view line (clip_by stage.scales view.clip) items)
line_drawn stage fonts view line [] = record { runs = record { whole = refl; joined = tt; maximal = tt }; shadow = λ e. refl; box = λ e. refl; draws = tt }
line_drawn stage fonts view line (item ∷ items) =
    let clip = clip_by stage.scales view.clip in
    let boxed = (state_of view item).border_style == 3 in
    record {
      runs =
          subst (λ (runs : List (List Placed)). AreRunsOf view (item ∷ items) runs)
          (sym (same_images (λ (run : RunDraws). run.items) (run_in stage fonts view line clip boxed (item ∷ items)) (runs_of view (item ∷ items)) (λ run. refl)))
          (runs_maximal view (item ∷ items));
      shadow = λ e. absurd (no_cons item items (sym e));
      box = λ e. absurd (no_cons item items (sym e));
      draws = line_of stage fonts view line clip item (item ∷ items) boxed refl;
    }

-- ---- layers

-- Of a line with a box the box's draws alone, and of one without the runs'.
boxed_or_runs : (F : Run → List Draw) (part : RunDraws → List Draw) (f : List Placed → Option Run) (g : Bool → List Placed → RunDraws) (box : List Draw) (boxed : Bool) (runs : List (List Placed))
    → ((run : List Placed) → part (g true run) ≡ []) → ((run : List Placed) → option_map_or F (f run) [] ≡ part (g false run))
    → cond boxed box (flat_map F (filter_map f runs)) ≡ cond boxed box [] ++ flat_map part (map (g boxed) runs)
boxed_or_runs F part f g box true runs none some = sym (ap (λ (ds : List Draw). box ++ ds) (flat_nothing part (g true) runs none) ∙ append-nil box)
boxed_or_runs F part f g box false runs none some = flat_images F part f (g false) runs some

same_shadows : (stage : Stage) (fonts : List FontValue) (view : EventView) (line : Line) (clip : Clip) (items : List Placed)
    → option_map_or (row_shadows stage clip) (row_by stage fonts view line items) [] ≡ line_shadows (line_in stage fonts view line clip items)
same_shadows stage fonts view line clip [] = refl
same_shadows stage fonts view line clip (item ∷ items) =
    boxed_or_runs (run_shadow stage clip false) (λ (run : RunDraws). run.shadow) (run_of stage fonts view line (item ∷ items))
    (λ (b : Bool). run_in stage fonts view line clip b (item ∷ items)) (box_shadow stage clip line (state_of view item)) ((state_of view item).border_style == 3) (runs_of view (item ∷ items))
    (λ run. refl) (λ run. refl)

same_borders : (stage : Stage) (fonts : List FontValue) (view : EventView) (line : Line) (clip : Clip) (items : List Placed)
    → option_map_or (row_borders stage clip) (row_by stage fonts view line items) [] ≡ line_borders (line_in stage fonts view line clip items)
same_borders stage fonts view line clip [] = refl
same_borders stage fonts view line clip (item ∷ items) =
    boxed_or_runs (run_border stage clip false) (λ (run : RunDraws). run.border) (run_of stage fonts view line (item ∷ items))
    (λ (b : Bool). run_in stage fonts view line clip b (item ∷ items)) (box_border stage clip line (state_of view item)) ((state_of view item).border_style == 3) (runs_of view (item ∷ items))
    (λ run. refl) (λ run. refl)

same_fills : (stage : Stage) (fonts : List FontValue) (view : EventView) (line : Line) (clip : Clip) (items : List Placed)
    → option_map_or (row_fills stage clip) (row_by stage fonts view line items) [] ≡ line_fills (line_in stage fonts view line clip items)
same_fills stage fonts view line clip [] = refl
same_fills stage fonts view line clip (item ∷ items) =
    let boxed = (state_of view item).border_style == 3 in
    flat_images (run_fill stage clip boxed) (λ (run : RunDraws). run.fill) (run_of stage fonts view line (item ∷ items)) (run_in stage fonts view line clip boxed (item ∷ items))
    (runs_of view (item ∷ items)) (λ run. refl)

same_layers : (stage : Stage) (fonts : List FontValue) (view : EventView) (laid : Laid)
    → event_draws stage fonts view laid ≡ in_layers (map (λ (line : Line). line_in stage fonts view line (clip_by stage.scales view.clip) (items_of laid line)) laid.lines)
same_layers stage fonts view laid =
    let clip = clip_by stage.scales view.clip in
    let made = λ (line : Line). line_in stage fonts view line clip (items_of laid line) in
    let given = row_on stage fonts view laid in
    let shadows = flat_images (row_shadows stage clip) line_shadows given made laid.lines (λ line. same_shadows stage fonts view line clip (items_of laid line)) in
    let borders = flat_images (row_borders stage clip) line_borders given made laid.lines (λ line. same_borders stage fonts view line clip (items_of laid line)) in
    let fills = flat_images (row_fills stage clip) line_fills given made laid.lines (λ line. same_fills stage fonts view line clip (items_of laid line)) in
    ap₂ (λ (a b : List Draw). a ++ b) (ap₂ (λ (a b : List Draw). a ++ b) shadows borders) fills

event_in_layers : (stage : Stage) (fonts : List FontValue) (view : EventView) (laid : Laid) (draws : List Draw) → draws ≡ event_draws stage fonts view laid
    → AreLayeredDraws stage fonts view laid draws
event_in_layers stage fonts view laid draws e =
    let made = λ (line : Line). line_in stage fonts view line (clip_by stage.scales view.clip) (items_of laid line) in
    record {
      lines = map made laid.lines;
      each =
          zip_made (λ (line : Line) (lined : LineDraws). IsLineDrawn stage fonts view line (items_of laid line) lined) made laid.lines
          (λ line. line_drawn stage fonts view line (items_of laid line));
      whole = e ∙ same_layers stage fonts view laid;
    }

pub drawn_in_layers : (script : ScriptValue) (fonts : List FontValue) (event : Event) (t : ℤ) (frame : FrameView) (shift : ℤ) (draws : List Draw)
    (drawn : AreMovedDraws script fonts event t frame shift draws)
    → AreLayeredDraws (stage_at script event t frame drawn.view drawn.laid shift) fonts drawn.view drawn.laid draws
drawn_in_layers script fonts event t frame shift draws drawn =
    event_in_layers (stage_at script event t frame drawn.view drawn.laid shift) fonts drawn.view drawn.laid draws drawn.value
