-- The draws of a run: its shadow, its border and its fill.
use Rattle.std.proofs.Common.{◌≡◌, refl, sym, ap, ◌∙◌, ℕ, ◌==◌, Bool, true, false, ◌&&◌, ◌||◌, cond, Option, Some, None, List, [], ◌∷◌, ℤ, pos, ◌<ℤ◌, int_lt, subst}
use Rattle.std.specs.List.{All, filter_map}
use Rattle.std.specs.Option.{option_map_or}
use Rattle.std.specs.Ordering.{int_eq}
use Rattle.std.proofs.lemmas.Bool.{and_parts, eqb-true, false≢true}
use Rattle.std.proofs.lemmas.List.Elements.{All-nil}
use Rattle.ass_num.proofs.OrderLemmas.{lt_is, lt_true}
use Rattle.ass_num.proofs.RegionLemmas.{zero_test}
use Rattle.ass_num.specs.declared.colour.Rgba.{Rgba}
use Rattle.ass_num.specs.declared.geometry.Point.{Point}
use Rattle.draw_numbers.specs.Colours.{faded_colour, fill_paint, is_outlined, lacks_border, plain_paint}
use Rattle.draw_numbers.specs.Widths.{are_no_offsets, are_no_radii, no_offsets, no_radii, no_softness, offsets_of, radii_of, softness_of}
use Rattle.draw_numbers.specs.declared.colours.Paint.{Paint}
use Rattle.draw_numbers.specs.declared.widths.Offsets.{Offsets}
use Rattle.draw_numbers.specs.declared.widths.Radii.{Radii}
use Rattle.event_draws.specs.Draws.{border_making, border_radii, box_border, box_mark, box_shadow, draw_of, draw_of_marks, fill_making, run_border, run_fill, run_shadow, softness_in, stamps_of}
use Rattle.event_draws.specs.declared.stage.Stage.{Stage}
use Rattle.mask_keys.specs.declared.outline_key.OutlineKey.{OutlineKey}
use Rattle.mask_keys.specs.declared.plans.Clip.{Clip}
use Rattle.mask_keys.specs.declared.plans.Draw.{Draw}
use Rattle.override_tags.specs.declared.view.State.{State}
use Rattle.override_tags.specs.declared.view.Syllable.{Syllable}
use Rattle.tag_arguments.specs.declared.kinds.Sung.{Sung}
use Rattle.tag_arguments.specs.declared.kinds.Sung.TheVariants.{Jump, Outline, Sweep}
use Rattle.text_layout.specs.declared.laid.Line.{Line}
use Rattle.text_layout.specs.declared.laid.Placed.{Placed}
use Rattle.draw_laws.specs.Layers.{AreBorderRadii, AreMasksOf, AwaitsBorder, IsBoxDrawn, IsCast, IsFillDraw, IsPlainDraw, IsRunDrawn, IsSoftenedBare, RunDraws, box_left}
use Rattle.draw_laws.specs.Parts.{AreDrawn, AreMadeBy}
use Rattle.draw_laws.specs.Shades.{back_of, outline_of}
use Rattle.draw_laws.proofs.DrawnParts.{LeaveMarks, draw_made, drawn_together, each_made, making_pen, masks_drawn, no_cons, parts_made}
use Rattle.draw_laws.proofs.LeftColours.{filled_left, one_colour_left}
use Rattle.draw_laws.proofs.Types.{Making, Mark, Run, Stamp}

-- ---- no radii and no offsets

radii_by : (x y : ℕ) → ((x == 0) && (y == 0)) ≡ true → (let r : Radii = record { x = x; y = y } in r) ≡ no_radii
radii_by x y h =
    let p = and_parts (x == 0) (y == 0) h in
    ap (λ (n : ℕ). let r : Radii = record { x = n; y = y } in r) (eqb-true x 0 p.0) ∙ ap (λ (n : ℕ). let r : Radii = record { x = 0; y = n } in r) (eqb-true y 0 p.1)

offsets_by : (x y : ℤ) → (int_eq x (pos 0) && int_eq y (pos 0)) ≡ true → (let o : Offsets = record { x = x; y = y } in o) ≡ no_offsets
offsets_by x y h =
    let p = and_parts (int_eq x (pos 0)) (int_eq y (pos 0)) h in
    ap (λ (z : ℤ). let o : Offsets = record { x = z; y = y } in o) (zero_test x p.0) ∙ ap (λ (z : ℤ). let o : Offsets = record { x = pos 0; y = z } in o) (zero_test y p.1)

-- A list by a test that says whether there is nothing.
record IsByTest (Nothing : Type 0) (draws made : List Draw) : Type 0 where
  none : Nothing → draws ≡ []
  some : (Nothing → ⊥) → draws ≡ made

by_test : (Nothing : Type 0) (b : Bool) (made : List Draw) → (b ≡ true → Nothing) → (Nothing → b ≡ true) → IsByTest Nothing (cond b [] made) made
by_test Nothing true made says met = record { none = λ n. refl; some = λ no. absurd (no (says refl)) }
by_test Nothing false made says met = record { none = λ n. absurd (false≢true (met n)); some = λ no. refl }

no_radii_test : (radii : Radii) (made : List Draw) → IsByTest (radii ≡ no_radii) (cond (are_no_radii radii) [] made) made
no_radii_test radii made = by_test (radii ≡ no_radii) (are_no_radii radii) made (radii_by radii.x radii.y) (λ e. ap are_no_radii e)

no_offsets_test : (offsets : Offsets) (made : List Draw) → IsByTest (offsets ≡ no_offsets) (cond (are_no_offsets offsets) [] made) made
no_offsets_test offsets made = by_test (offsets ≡ no_offsets) (are_no_offsets offsets) made (offsets_by offsets.x offsets.y) (λ e. ap are_no_offsets e)

-- ---- radii

lacking : (elapsed : ℤ) (sung : Option Syllable) (s : Syllable) → sung ≡ Some s → s.kind ≡ Outline → elapsed <ℤ s.begin → lacks_border elapsed sung ≡ true
lacking elapsed sung s e kind early =
    ap (lacks_border elapsed) e ∙ (ap (λ (k : Sung). is_outlined k && int_lt elapsed s.begin) kind ∙ lt_true elapsed s.begin early)

outlined : (kind : Sung) → is_outlined kind ≡ true → kind ≡ Outline
outlined Jump h = absurd (false≢true h)
outlined Sweep h = absurd (false≢true h)
outlined Outline h = refl

awaiting : (elapsed : ℤ) (sung : Option Syllable) → lacks_border elapsed sung ≡ true → (s : Syllable) × (sung ≡ Some s) × (s.kind ≡ Outline) × (elapsed <ℤ s.begin)
awaiting elapsed None h = absurd (false≢true h)
awaiting elapsed (Some s) h =
    let p = and_parts (is_outlined s.kind) (int_lt elapsed s.begin) h in
    (s, refl, outlined s.kind p.0, lt_is elapsed s.begin p.1)

radii_if : (stage : Stage) (state : State) (boxed lacks : Bool) → (lacks ≡ true → AwaitsBorder stage.elapsed state) → (AwaitsBorder stage.elapsed state → lacks ≡ true)
    → AreBorderRadii stage boxed state (cond (boxed || lacks) no_radii (radii_of stage.scales state))
radii_if stage state true lacks says met = record { boxed = λ e. refl; awaited = λ w. refl; own = λ e no. absurd (false≢true (sym e)) }
radii_if stage state false true says met = record { boxed = λ e. refl; awaited = λ w. refl; own = λ e no. absurd (no (says refl)) }
radii_if stage state false false says met = record { boxed = λ e. absurd (false≢true e); awaited = λ w. absurd (false≢true (met w)); own = λ e no. refl }

radii_are : (stage : Stage) (boxed : Bool) (state : State) → AreBorderRadii stage boxed state (border_radii stage boxed state)
radii_are stage boxed state =
    radii_if stage state boxed (lacks_border stage.elapsed state.sung) (awaiting stage.elapsed state.sung) (λ w. lacking stage.elapsed state.sung w.0 w.1 w.2 w.3)

-- ---- masks

-- Masks are made with an angle and offsets.
record AreMasksBy (stage : Stage) (leaves : Placed → Option (OutlineKey × Point)) (making : Making) (items : List Placed) (P : Draw → Type 0) (draws : List Draw) : Type 0 where
  masks : AreDrawn leaves (making_pen stage making) stage.size items draws
  each : All P draws

-- The draws of what is left of items, made in one way.
masks_of : (stage : Stage) (leaves : Placed → Option (OutlineKey × Point)) (gives : Placed → Option Mark) (state : State) (making : Making) (paint : Paint) (clip : Clip) (items : List Placed)
    (P : Draw → Type 0) → LeaveMarks leaves gives → ((first : Stamp) (rest : List Stamp) → P (draw_made making paint clip first rest))
    → AreMasksBy stage leaves making items P (draw_of_marks stage making paint clip (filter_map gives items))
masks_of stage leaves gives state making paint clip items P same each = record {
  masks = masks_drawn stage making paint clip leaves gives items same;
  each = each_made P making paint clip (stamps_of stage making (filter_map gives items)) each;
}

plain_masks : (stage : Stage) (leaves : Placed → Option (OutlineKey × Point)) (gives : Placed → Option Mark) (state : State) (radii : Radii) (offsets : Offsets) (colour : Rgba) (clip : Clip) (items : List Placed) → LeaveMarks leaves gives
    → AreMasksOf stage leaves state offsets items (IsPlainDraw stage radii state colour clip)
    (draw_of_marks stage (record { angle = state.angle; radii = radii; softness = softness_in stage state; offsets = offsets }) (plain_paint (faded_colour stage.fade colour)) clip
    (filter_map gives items))
plain_masks stage leaves gives state radii offsets colour clip items same =
    let making : Making = record { angle = state.angle; radii = radii; softness = softness_in stage state; offsets = offsets } in
    let paint = plain_paint (faded_colour stage.fade colour) in
    let made = masks_of stage leaves gives state making paint clip items (IsPlainDraw stage radii state colour clip) same
    (λ first rest. record {
      made = parts_made making paint clip first rest;
      colour = one_colour_left stage.fade colour (draw_made making paint clip first rest) (record { left = refl; right = refl });
      clip = refl;
    }) in
    record { masks = made.masks; each = made.each }

-- What is cast, by the test of its offsets.
cast_is : (stage : Stage) (leaves : Placed → Option (OutlineKey × Point)) (gives : Placed → Option Mark) (state : State) (radii : Radii) (clip : Clip) (items : List Placed) → LeaveMarks leaves gives
    → IsCast stage leaves radii state clip items
    (cond (are_no_offsets (offsets_of stage.scales state)) []
    (draw_of_marks stage (record { angle = state.angle; radii = radii; softness = softness_in stage state; offsets = offsets_of stage.scales state })
    (plain_paint (faded_colour stage.fade (back_of state))) clip (filter_map gives items)))
cast_is stage leaves gives state radii clip items same =
    let offsets = offsets_of stage.scales state in
    let made = plain_masks stage leaves gives state radii offsets (back_of state) clip items same in
    let test = no_offsets_test offsets (draw_of_marks stage (record { angle = state.angle; radii = radii; softness = softness_in stage state; offsets = offsets })
    (plain_paint (faded_colour stage.fade (back_of state))) clip (filter_map gives items)) in
    record {
      hidden = test.none;
      seen = λ no. subst (λ (ds : List Draw). AreMasksOf stage leaves state offsets items (IsPlainDraw stage radii state (back_of state) clip) ds) (sym (test.some no)) made;
    }

-- ---- a run

-- a run's items with its draws, in a line that has a box or has none
abbrev pub run_parts : Stage → Clip → Bool → List Placed → Option Run → RunDraws
run_parts stage clip boxed items run = record {
  items = items;
  shadow = cond boxed [] (option_map_or (run_shadow stage clip false) run []);
  border = cond boxed [] (option_map_or (run_border stage clip false) run []);
  fill = option_map_or (run_fill stage clip boxed) run [];
}

fill_masks : (stage : Stage) (leaves : Placed → Option (OutlineKey × Point)) (gives : Placed → Option Mark) (boxed : Bool) (clip : Clip) (state : State) (l r : ℤ) (items : List Placed) → LeaveMarks leaves gives
    → AreMasksOf stage leaves state no_offsets items (IsFillDraw stage state clip)
    (draw_of_marks stage (fill_making stage boxed state) (fill_paint stage.fade stage.elapsed state l r) clip (filter_map gives items))
fill_masks stage leaves gives boxed clip state l r items same =
    let making = fill_making stage boxed state in
    let paint = fill_paint stage.fade stage.elapsed state l r in
    let made = masks_of stage leaves gives state making paint clip items (IsFillDraw stage state clip) same
    (λ first rest. record {
      colours = filled_left stage.fade stage.elapsed state l r (draw_made making paint clip first rest) (record { left = refl; right = refl });
      clip = refl;
    }) in
    record { masks = made.masks; each = made.each }

nothing_over : (under over : Making) (p q : Paint) (clip : Clip) (P : Draw → Type 0) (stamps : List Stamp) → draw_of under p clip stamps ≡ [] → All P (draw_of over q clip stamps)
nothing_over under over p q clip P [] e = All-nil P
nothing_over under over p q clip P (first ∷ rest) e = absurd (no_cons (draw_made under p clip first rest) [] (sym e))

-- A fill without a border, and over one.
by_border : (stage : Stage) (state : State) (radii : Radii) (p q : Paint) (clip : Clip) (marks : List Mark) (none : Bool)
    → IsSoftenedBare stage state
    (cond none [] (draw_of_marks stage (record { angle = state.angle; radii = radii; softness = softness_in stage state; offsets = no_offsets }) p clip marks))
    (draw_of_marks stage (record { angle = state.angle; radii = no_radii; softness = cond none (softness_in stage state) no_softness; offsets = no_offsets }) q clip marks)
by_border stage state radii p q clip marks true =
    let making : Making = record { angle = state.angle; radii = no_radii; softness = softness_in stage state; offsets = no_offsets } in
    record {
      bare = λ e. each_made (AreMadeBy no_radii (softness_of stage.scales state)) making q clip (stamps_of stage making marks) (parts_made making q clip);
      bordered = λ under e. absurd (no_cons under [] e);
    }
by_border stage state radii p q clip marks false =
    let under : Making = record { angle = state.angle; radii = radii; softness = softness_in stage state; offsets = no_offsets } in
    let over : Making = record { angle = state.angle; radii = no_radii; softness = no_softness; offsets = no_offsets } in
    record {
      bare = λ e. nothing_over under over p q clip (AreMadeBy no_radii (softness_of stage.scales state)) (stamps_of stage under marks) e;
      bordered = drawn_together under over p q clip (stamps_of stage under marks);
    }

softened_if : (stage : Stage) (state : State) (radii : Radii) (p q : Paint) (clip : Clip) (marks : List Mark)
    → IsSoftenedBare stage state
    (cond (are_no_radii radii) [] (draw_of_marks stage (record { angle = state.angle; radii = radii; softness = softness_in stage state; offsets = no_offsets }) p clip marks))
    (draw_of_marks stage (record { angle = state.angle; radii = no_radii; softness = cond (are_no_radii radii) (softness_in stage state) no_softness; offsets = no_offsets }) q clip marks)
softened_if stage state radii p q clip marks = by_border stage state radii p q clip marks (are_no_radii radii)

pub run_of_state : (stage : Stage) (leaves : Placed → Option (OutlineKey × Point)) (gives : Placed → Option Mark) → LeaveMarks leaves gives → (boxed : Bool) (clip : Clip) (state : State) (l r : ℤ) (items : List Placed)
    → IsRunDrawn stage leaves boxed clip state
    (run_parts stage clip boxed items (Some (record { state = state; paint = fill_paint stage.fade stage.elapsed state l r; marks = filter_map gives items })))
run_of_state stage leaves gives same true clip state l r items =
    let paint = fill_paint stage.fade stage.elapsed state l r in
    record {
      radii = border_radii stage true state;
      widened = radii_are stage true state;
      in_box = λ e. refl;
      shadow = λ e. absurd (false≢true (sym e));
      no_border = λ e. refl;
      border = λ some. absurd (some refl);
      fill = fill_masks stage leaves gives true clip state l r items same;
      softened =
          record {
            bare = λ e. each_made (AreMadeBy no_radii (softness_of stage.scales state)) (fill_making stage true state) paint clip (stamps_of stage (fill_making stage true state) (filter_map gives items))
                (parts_made (fill_making stage true state) paint clip);
            bordered = λ under e. absurd (no_cons under [] e);
          };
    }
run_of_state stage leaves gives same false clip state l r items =
    let paint = fill_paint stage.fade stage.elapsed state l r in
    let radii = border_radii stage false state in
    let test = no_radii_test radii (draw_of_marks stage (border_making stage false state no_offsets) (plain_paint (faded_colour stage.fade (outline_of state))) clip (filter_map gives items)) in
    record {
      radii = radii;
      widened = radii_are stage false state;
      in_box = λ e. absurd (false≢true e);
      shadow = λ e. cast_is stage leaves gives state radii clip items same;
      no_border = test.none;
      border = λ some.
          subst (λ (ds : List Draw). AreMasksOf stage leaves state no_offsets items (IsPlainDraw stage radii state (outline_of state) clip) ds) (sym (test.some some))
          (plain_masks stage leaves gives state radii no_offsets (outline_of state) clip items same);
      fill = fill_masks stage leaves gives false clip state l r items same;
      softened = softened_if stage state radii (plain_paint (faded_colour stage.fade (outline_of state))) paint clip (filter_map gives items);
    }

-- ---- a box

pub box_of : (stage : Stage) (line : Line) (clip : Clip) (first : Placed) (state : State) (runs : List RunDraws)
    → IsBoxDrawn stage line clip first state (record { shadow = box_shadow stage clip line state; box = box_border stage clip line state; runs = runs })
box_of stage line clip first state runs = record {
  shadow = cast_is stage (λ (item : Placed). box_left stage line state) (λ (item : Placed). Some (box_mark stage line state)) state no_radii clip (first ∷ []) (λ item. refl);
  box = plain_masks stage (λ (item : Placed). box_left stage line state) (λ (item : Placed). Some (box_mark stage line state)) state no_radii no_offsets (outline_of state) clip (first ∷ []) (λ item. refl);
}
