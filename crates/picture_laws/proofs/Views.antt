-- What an event shows depends on how long it has been shown, and on the header and the styles of its script.
use Rattle.std.proofs.Common.{◌≡◌, ℕ, ◌-◌, List, [], ◌∷◌, length, Some, ℤ, ◌+ℤ◌, nat_le, refl, sym, ap, ◌∙◌, subst, arith}
use Rattle.std.proofs.lemmas.Int.{ints}
use Rattle.frame_view.specs.declared.view.FrameView.{FrameView}
use Rattle.text_layout.specs.LineScales.{line_scales}
use Rattle.ass_script.specs.Scripts.{ScriptValue}
use Rattle.ass_script.specs.declared.script.EventField.{EventField}
use Rattle.ass_script.specs.declared.style.Style.{Style}
use Rattle.ass_events.specs.declared.event.Event.{Event}
use Rattle.bdf_font.specs.Fonts.{FontValue}
use Rattle.mask_keys.specs.declared.plans.Draw.{Draw}
use Rattle.override_tags.specs.declared.tag.Tag.TheVariants as tag
use Rattle.override_tags.specs.declared.item.Item.{Item}
use Rattle.override_tags.specs.declared.view.EventView.{EventView}
use Rattle.override_tags.specs.declared.view.Shown.{Shown}
use Rattle.override_tags.specs.declared.view.State.{State}
use Rattle.event_places.specs.declared.stands.Stand.{Stand}
use Rattle.tag_state.specs.Looks.{Look}
use Rattle.tag_state.specs.Properties as property
use Rattle.tag_state.specs.Setters.{Effect, Plain, Gradual, Property, by_setters, property_at, restyled, setters_in, style_in_force}
use Rattle.tag_state.specs.States.{IsStateAt}
use Rattle.tag_state.specs.Views.{AreSeen, HasState, IsViewBy, IsViewOf, elapsed_at}
use Rattle.event_draws.specs.EventDraws.{event_draws}
use Rattle.event_draws.specs.MovedDraws.{AreMovedDraws}
use Rattle.event_draws.specs.Stages.{stage_at}
use Rattle.event_draws.specs.declared.stage.Stage.{Stage}
use Rattle.event_places.specs.Stands.{HasPoint, IsStandOf, box_at, corner_of, least_top_align}

-- the script with other lines
abbrev pub with_lines : ScriptValue → List EventField → List (List ℕ) → ScriptValue
with_lines script format lines = record { header = script.header; styles = script.styles; format = format; lines = lines }

-- the event so much later, with another ReadOrder
abbrev pub renumbered : ℤ → ℕ → Event → Event
renumbered by order event = record event { start = event.start +ℤ by; order = order }

abbrev pub later_stand : ℤ → Stand → Stand
later_stand by stand = record stand { start = stand.start +ℤ by; end = stand.end +ℤ by }

-- the stage of another moment
abbrev at_moment : Stage → ℤ → Stage
at_moment stage elapsed = record stage { elapsed = elapsed }

module _ (script : ScriptValue) (format : List EventField) (lines : List (List ℕ)) where
  restyled_same : (own : List ℕ) (effect : Effect) (style : Style) → restyled (with_lines script format lines) own effect style ≡ restyled script own effect style
  restyled_same own (Plain (tag.Number num value)) style = refl
  restyled_same own (Plain (tag.Colour which value)) style = refl
  restyled_same own (Plain (tag.Alpha which value)) style = refl
  restyled_same own (Plain (tag.FontName name)) style = refl
  restyled_same own (Plain (tag.Reset name)) style = refl
  restyled_same own (Plain (tag.Align align)) style = refl
  restyled_same own (Plain (tag.Pos x y)) style = refl
  restyled_same own (Plain (tag.Move points from to)) style = refl
  restyled_same own (Plain (tag.Org x y)) style = refl
  restyled_same own (Plain (tag.Fad in_time out_time)) style = refl
  restyled_same own (Plain (tag.Fade numbers)) style = refl
  restyled_same own (Plain (tag.Clip clip)) style = refl
  restyled_same own (Plain (tag.Karaoke kind len)) style = refl
  restyled_same own (Plain (tag.Transform times quarters tags)) style = refl
  restyled_same own (Gradual weight gradual) style = refl

  in_force : (own : List ℕ) (effects : List Effect) → style_in_force (with_lines script format lines) own effects ≡ style_in_force script own effects
  in_force own [] = refl
  in_force own (effect ∷ earlier) = restyled_same own effect (style_in_force (with_lines script format lines) own earlier) ∙ ap (restyled script own effect) (in_force own earlier)

  property_same : {V : Type 0} (p : Property V) (own : List ℕ) (before : List Effect) → property_at p script own before ≡ property_at p (with_lines script format lines) own before
  property_same p own before = sym (ap (λ (style : Style). by_setters p.moved (p.styled style) (setters_in p before)) (in_force own before))

  state_same : (own : List ℕ) (names : List (List ℕ)) (before : List Effect) (state : State) → IsStateAt script own names before state → IsStateAt (with_lines script format lines) own names before state
  state_same own names before state is = record {
    font = is.font ∙ ap (λ name. Some name) (property_same property.font own before);
    numbers = λ m. is.numbers m ∙ property_same (property.number m) own before;
    switches = λ s. is.switches s ∙ property_same (property.switch s) own before;
    colours = λ c place few. is.colours c place few ∙ property_same (property.byte c place) own before;
    border_style = is.border_style ∙ sym (ap (λ (style : Style). style.border_style) (in_force own before));
    draw = is.draw ∙ property_same property.level own before;
    sung = is.sung;
  }

  has_state : (own : List ℕ) (names : List (List ℕ)) (states : List State) (before : List Effect) (place : ℕ) → HasState script own names states before place → HasState (with_lines script format lines) own names states before place
  has_state own names states before place has = (has.0, has.1, state_same own names before has.0 has.2)

  seen_same : (own : List ℕ) (names : List (List ℕ)) (states : List State) (items : List Shown) (looks : List Look) → AreSeen script own names states items looks → AreSeen (with_lines script format lines) own names states items looks
  seen_same own names states [] [] seen = tt
  seen_same own names states [] (look ∷ looks) seen = absurd seen
  seen_same own names states (shown ∷ items) [] seen = absurd seen
  seen_same own names states (shown ∷ items) (look ∷ looks) seen =
      (record { kind = seen.0.kind; state = has_state own names states look.before shown.state seen.0.state }, seen_same own names states items looks seen.1)

  module _ (by : ℤ) (order : ℕ) (event : Event) where
    view_by : (elapsed : ℤ) (items : List Item) (view : EventView) → IsViewBy script event elapsed items view → IsViewBy (with_lines script format lines) (renumbered by order event) elapsed items view
    view_by elapsed items view is = record {
      looks = is.looks;
      shows = is.shows;
      seen = seen_same event.style view.names view.states view.items is.looks is.seen;
      last = has_state event.style view.names view.states _ (length view.states - 1) is.last;
      align = is.align;
      wrap = is.wrap;
      position = is.position;
      origin = is.origin;
      fade = is.fade;
      clip = is.clip;
    }

    same_elapsed : (t : ℤ) → elapsed_at event t ≡ elapsed_at (renumbered by order event) (t +ℤ by)
    same_elapsed t = omega (arith, ints)

    view_of : (t : ℤ) (view : EventView) → IsViewOf script event t view → IsViewOf (with_lines script format lines) (renumbered by order event) (t +ℤ by) view
    view_of t view is = record {
      items = is.items;
      reading = is.reading;
      shown = subst (λ elapsed. IsViewBy (with_lines script format lines) (renumbered by order event) elapsed is.items view) (same_elapsed t) (view_by (elapsed_at event t) is.items view is.shown);
      once = is.once;
    }

    pub drawn_later : (fonts : List FontValue) (t : ℤ) (frame : FrameView) (shift : ℤ) (draws : List Draw) →
        AreMovedDraws script fonts event t frame shift draws → AreMovedDraws (with_lines script format lines) fonts (renumbered by order event) (t +ℤ by) frame shift draws
    drawn_later fonts t frame shift draws are = record {
      view = are.view;
      shows = view_of t are.view are.shows;
      colours = are.colours;
      laid = are.laid;
      laid_out = are.laid_out;
      value = are.value ∙ ap (λ elapsed. event_draws (at_moment (stage_at script event t frame are.view are.laid shift) elapsed) fonts are.view are.laid) (same_elapsed t);
    }

    pub stand_later : (fonts : List FontValue) (frame : FrameView) (stand : Stand) → IsStandOf script fonts frame event stand → IsStandOf (with_lines script format lines) fonts frame (renumbered by order event) (later_stand by stand)
    stand_later fonts frame stand is =
        let ends : (event.start +ℤ event.duration) +ℤ by ≡ (event.start +ℤ by) +ℤ event.duration = omega (arith, ints) in
        let place = box_at (corner_of script event is.view is.laid (line_scales script.header frame is.view)) is.laid in
        record {
          view = is.view;
          shows = view_of event.start is.view is.shows;
          pointless = is.pointless;
          laid = is.laid;
          laid_out = is.laid_out;
          value = ap (later_stand by) is.value
              ∙ ap (λ (end : ℤ). record { start = event.start +ℤ by; end = end; place = place; down = nat_le least_top_align is.view.align }) ends;
        }

pub point_later : (by : ℤ) (order : ℕ) (event : Event) → HasPoint event → HasPoint (renumbered by order event)
point_later by order event has = record { items = has.items; reading = has.reading; point = has.point }
