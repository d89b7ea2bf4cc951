-- Public: the draws of an event, told by the runs of its lines.
-- (Advanced SubStation Alpha, "BorderStyle"; Aegisub tag reference, "\bord", "\shad", "\be", "\blur", "\ko".)
use Rattle.std.specs.Prelude.{◌≡◌, ℕ, ◌==◌, ◌<ℤ◌, Bool, true, false, List, [], ◌∷◌, ◌++◌, map, flat_map, All, IfSome, Option, Some, None, option_and_then, slice_get, slice_index_or, ℤ, ◌+ℤ◌, ◌-ℤ◌}
use Rattle.std.specs.List.{AllZip}
use Rattle.std.specs.Option.{option_map}
use Rattle.ass_events.specs.declared.event.Event.{Event}
use Rattle.ass_num.specs.declared.colour.Rgba.{Rgba}
use Rattle.ass_num.specs.declared.geometry.Path.{Path}
use Rattle.ass_num.specs.declared.geometry.Point.{Point}
use Rattle.ass_num.specs.declared.geometry.Seg.{Seg}
use Rattle.ass_script.specs.Scripts.{ScriptValue}
use Rattle.bdf_font.specs.Fonts.{FontValue}
use Rattle.draw_numbers.specs.Pens.{pen_of, turned_about}
use Rattle.draw_numbers.specs.Widths.{no_offsets, no_radii, no_softness, offsets_of, radii_of, softness_of}
use Rattle.draw_numbers.specs.declared.widths.Offsets.{Offsets}
use Rattle.draw_numbers.specs.declared.widths.Radii.{Radii}
use Rattle.event_draws.specs.Clips.{clip_by}
use Rattle.event_draws.specs.Draws.{box_mark}
use Rattle.event_draws.specs.Items.{items_of, no_shown, no_state}
use Rattle.event_draws.specs.Marks.{char_outline, drawing_shift}
use Rattle.event_draws.specs.MovedDraws.{AreMovedDraws}
use Rattle.event_draws.specs.Runs.{AreRunsOf}
use Rattle.event_draws.specs.Stages.{stage_at}
use Rattle.event_draws.specs.declared.stage.Stage.{Stage}
use Rattle.frame_view.specs.declared.view.FrameView.{FrameView}
use Rattle.mask_keys.specs.declared.outline_key.OutlineKey.{OutlineKey}
use Rattle.mask_keys.specs.declared.outline_key.OutlineKey.TheVariants.{Drawing}
use Rattle.mask_keys.specs.declared.plans.Clip.{Clip}
use Rattle.mask_keys.specs.declared.plans.Draw.{Draw}
use Rattle.override_tags.specs.declared.view.EventView.{EventView}
use Rattle.override_tags.specs.declared.view.ShownKind.{ShownKind}
use Rattle.override_tags.specs.declared.view.ShownKind.TheVariants as shown
use Rattle.override_tags.specs.declared.view.State.{State}
use Rattle.override_tags.specs.declared.view.Syllable.{Syllable}
use Rattle.tag_arguments.specs.declared.kinds.Sung.TheVariants.{Outline}
use Rattle.text_layout.specs.Extents.{drawn_extent}
use Rattle.text_layout.specs.Kinds.{char_of}
use Rattle.text_layout.specs.Scales.{drawing_matrix}
use Rattle.text_layout.specs.declared.laid.Laid.{Laid}
use Rattle.text_layout.specs.declared.laid.Line.{Line}
use Rattle.text_layout.specs.declared.laid.Placed.{Placed}
use Rattle.draw_laws.specs.Parts.{AreDrawn, AreMadeBy, LieTogether}
use Rattle.draw_laws.specs.Shades.{HasOneColour, HasFillColours, back_of, outline_of}

-- ---- lines and runs

-- A run of a line, and the draws that it has of each kind.
pub record RunDraws : Type 0 where
  pub items : List Placed
  pub shadow : List Draw
  pub border : List Draw
  pub fill : List Draw

-- A line: the shadow of its box and the box, where it has one, and its runs.
pub record LineDraws : Type 0 where
  pub shadow : List Draw
  pub box : List Draw
  pub runs : List RunDraws

abbrev pub line_shadows : LineDraws → List Draw
line_shadows line = line.shadow ++ flat_map (λ (run : RunDraws). run.shadow) line.runs

abbrev pub line_borders : LineDraws → List Draw
line_borders line = line.box ++ flat_map (λ (run : RunDraws). run.border) line.runs

abbrev pub line_fills : LineDraws → List Draw
line_fills line = flat_map (λ (run : RunDraws). run.fill) line.runs

-- Lowest lie all shadows, in the order of the text, above them all borders and boxes, and above these all fills.
abbrev pub in_layers : List LineDraws → List Draw
in_layers lines = flat_map line_shadows lines ++ flat_map line_borders lines ++ flat_map line_fills lines

-- the state of an item
abbrev pub state_in : EventView → Placed → State
state_in view item = slice_index_or view.states (slice_index_or view.items item.item no_shown).state no_state

-- ---- which kinds of draws there are

-- The border of a state comes with its syllable, which hasn't begun.
abbrev pub AwaitsBorder : ℤ → State → Type 0
AwaitsBorder elapsed state = (s : Syllable) × (state.sung ≡ Some s) × (s.kind ≡ Outline) × (elapsed <ℤ s.begin)

-- These are the radii of a run's border: those of its state; but none in a line that has a box, and none before a syllable begins that
-- the border comes with.
pub record AreBorderRadii (stage : Stage) (in_box : Bool) (state : State) (radii : Radii) : Type 0 where
  pub boxed : in_box ≡ true → radii ≡ no_radii
  pub awaited : AwaitsBorder stage.elapsed state → radii ≡ no_radii
  pub own : in_box ≡ false → (AwaitsBorder stage.elapsed state → ⊥) → radii ≡ radii_of stage.scales state

-- ---- one run

-- the outline of a drawing, and the pen at which it stands: above one that stands on the baseline. A path without segments leaves none.
abbrev pub drawing_left : Stage → State → Point → Path → List Seg → Option (OutlineKey × Point)
drawing_left stage state pen path [] = None
drawing_left stage state pen path segs =
    let m = drawing_matrix stage.scales state in
    Some (Drawing path m (drawing_shift state m.uy), record { x = pen.x; y = pen.y -ℤ (drawn_extent m segs).ascent })

-- what is left of a drawing or of a character whose pen stands there
abbrev pub kind_left : Stage → List FontValue → EventView → State → Point → ShownKind → Option (OutlineKey × Point)
kind_left stage fonts view state pen (shown.Drawing path) = drawing_left stage state pen path path.segs
kind_left stage fonts view state pen kind =
    option_and_then (λ (c : ℕ). option_map (λ (key : OutlineKey). (key, pen)) (char_outline stage fonts view.names state c)) (char_of view.wrap kind)

-- what is left of an item, whose pen stands on the baseline of its line
abbrev pub item_left : Stage → List FontValue → EventView → Line → Placed → Option (OutlineKey × Point)
item_left stage fonts view line item =
    kind_left stage fonts view (state_in view item) (record { x = stage.corner.x +ℤ item.x; y = stage.corner.y +ℤ line.baseline })
    (slice_index_or view.items item.item no_shown).kind

-- the box of a line, and its pen
abbrev pub box_left : Stage → Line → State → Option (OutlineKey × Point)
box_left stage line state = Some ((box_mark stage line state).outline, (box_mark stage line state).pen)

-- where a pen stands, in samples of the frame: it is turned as the state is, and then moved by offsets
abbrev pub pen_in : Stage → State → Offsets → Point → Point
pen_in stage state offsets pen = pen_of (turned_about stage.origin state.angle pen) offsets

-- A draw is widened by these radii and softened as its state says; it has one colour, and the clip of its event.
pub record IsPlainDraw (stage : Stage) (radii : Radii) (state : State) (own : Rgba) (bounds : Clip) (draw : Draw) : Type 0 where
  pub made : AreMadeBy radii (softness_of stage.scales state) draw
  pub colour : HasOneColour stage.fade own draw
  pub clip : draw.clip ≡ bounds

-- A fill isn't widened.
pub record IsFillDraw (stage : Stage) (state : State) (bounds : Clip) (draw : Draw) : Type 0 where
  pub colours : HasFillColours stage.fade stage.elapsed state draw
  pub clip : draw.clip ≡ bounds

-- The masks of what is left of some items in a state, moved by offsets, are drawn, and each draw passes.
pub record AreMasksOf (stage : Stage) (leaves : Placed → Option (OutlineKey × Point)) (state : State) (offsets : Offsets) (items : List Placed) (Passes : Draw → Type 0) (draws : List Draw) : Type 0 where
  pub masks : AreDrawn leaves (pen_in stage state offsets) stage.size items draws
  pub each : All Passes draws

-- A shadow is none where it would lie under what throws it.
pub record IsCast (stage : Stage) (leaves : Placed → Option (OutlineKey × Point)) (radii : Radii) (state : State) (clip : Clip) (items : List Placed) (draws : List Draw) : Type 0 where
  pub hidden : offsets_of stage.scales state ≡ no_offsets → draws ≡ []
  pub seen : (offsets_of stage.scales state ≡ no_offsets → ⊥)
      → AreMasksOf stage leaves state (offsets_of stage.scales state) items (IsPlainDraw stage radii state (back_of state) clip) draws

-- A fill is softened, as its state says, just where there is no border at its place.
pub record IsSoftenedBare (stage : Stage) (state : State) (border fill : List Draw) : Type 0 where
  pub bare : border ≡ [] → All (AreMadeBy no_radii (softness_of stage.scales state)) fill
  pub bordered : (under : Draw) → border ≡ under ∷ [] → (over : Draw) × (fill ≡ over ∷ []) × LieTogether under over × AreMadeBy no_radii no_softness over

-- The draws of a run in its state, in a line that has a box or has none.
pub record IsRunDrawn (stage : Stage) (leaves : Placed → Option (OutlineKey × Point)) (boxed : Bool) (clip : Clip) (state : State) (run : RunDraws) : Type 0 where
  pub radii : Radii
  pub widened : AreBorderRadii stage boxed state radii
  pub in_box : boxed ≡ true → run.shadow ≡ []
  pub shadow : boxed ≡ false → IsCast stage leaves radii state clip run.items run.shadow
  pub no_border : radii ≡ no_radii → run.border ≡ []
  pub border : (radii ≡ no_radii → ⊥) → AreMasksOf stage leaves state no_offsets run.items (IsPlainDraw stage radii state (outline_of state) clip) run.border
  pub fill : AreMasksOf stage leaves state no_offsets run.items (IsFillDraw stage state clip) run.fill
  pub softened : IsSoftenedBare stage state run.border run.fill

-- ---- one line

-- The box of a line whose first item has this state: it is widened by its own outline, so its mask isn't.
pub record IsBoxDrawn (stage : Stage) (line : Line) (clip : Clip) (first : Placed) (state : State) (lined : LineDraws) : Type 0 where
  pub shadow : IsCast stage (λ (item : Placed). box_left stage line state) no_radii state clip (first ∷ []) lined.shadow
  pub box : AreMasksOf stage (λ (item : Placed). box_left stage line state) state no_offsets (first ∷ []) (IsPlainDraw stage no_radii state (outline_of state) clip) lined.box

-- A line whose first item has this state has a box where the border style of that is 3.
pub record IsLineOf (stage : Stage) (fonts : List FontValue) (view : EventView) (line : Line) (clip : Clip) (first : Placed) (state : State) (lined : LineDraws) : Type 0 where
  pub boxed : state.border_style ≡ 3 → IsBoxDrawn stage line clip first state lined
  pub shadows : (state.border_style ≡ 3 → ⊥) → lined.shadow ≡ []
  pub boxes : (state.border_style ≡ 3 → ⊥) → lined.box ≡ []
  pub runs : All (λ (run : RunDraws). IfSome (slice_get run.items 0) (λ (item : Placed).
      IsRunDrawn stage (item_left stage fonts view line) (state.border_style == 3) clip (state_in view item) run)) lined.runs

-- The runs of a line of these items are the items, one run after the other, and none could go on. A line without items leaves nothing.
pub record IsLineDrawn (stage : Stage) (fonts : List FontValue) (view : EventView) (line : Line) (items : List Placed) (lined : LineDraws) : Type 0 where
  pub runs : AreRunsOf view items (map (λ (run : RunDraws). run.items) lined.runs)
  pub shadow : items ≡ [] → lined.shadow ≡ []
  pub box : items ≡ [] → lined.box ≡ []
  pub draws : IfSome (slice_get items 0) (λ (first : Placed). IsLineOf stage fonts view line (clip_by stage.scales view.clip) first (state_in view first) lined)

-- ---- the law

-- The draws of an event that stands there are those of its lines, in layers.
pub record AreLayeredDraws (stage : Stage) (fonts : List FontValue) (view : EventView) (laid : Laid) (draws : List Draw) : Type 0 where
  pub lines : List LineDraws
  pub each : AllZip (λ (line : Line) (lined : LineDraws). IsLineDrawn stage fonts view line (items_of laid line) lined) laid.lines lines
  pub whole : draws ≡ in_layers lines

abbrev pub EventsAreDrawnInLayers : Type 0
EventsAreDrawnInLayers =
    (script : ScriptValue) (fonts : List FontValue) (event : Event) (t : ℤ) (frame : FrameView) (shift : ℤ) (draws : List Draw)
    (drawn : AreMovedDraws script fonts event t frame shift draws)
    → AreLayeredDraws (stage_at script event t frame drawn.view drawn.laid shift) fonts drawn.view drawn.laid draws
