-- A text that is read has a view at each instant: a state for each effect list, and a number for each name of a font.
use Rattle.std.proofs.Common.{◌≡◌, ℕ, zero, suc, ◌+◌, ◌-◌, ◌<◌, ◌≤◌, ◌≤ℤ◌, ℤ, pos, ◌-ℤ◌, int_lt, Bool, true, false, cond, Option, None, Some, List, [], ◌∷◌, ◌++◌, length, map, Contains, ◌⊎◌, inl, inr, ⊎_elim, refl, sym, ap, subst, ◌∙◌, arith, length-append}
use Rattle.std.specs.Prelude.{slice_get, unwrap_or}
use Rattle.std.specs.Int.RustNames.{unsigned_abs}
use Rattle.std.specs.List.{cons_option, filter_map}
use Rattle.std.specs.Str.{bytes_eq}
use Rattle.std.proofs.lemmas.Bool.{cases_Bool, false≢true}
use Rattle.std.proofs.lemmas.Int.{clamps, ints}
use Rattle.std.proofs.lemmas.List.Elements.{All-cons, All-nil, Contains-append_left}
use Rattle.std.proofs.lemmas.Slice.Eq.{bytes_eq-Decides}
use Rattle.ass_num.proofs.Floor.{held_within}
use Rattle.ass_script.specs.Scripts.{ScriptValue, style_for}
use Rattle.ass_events.specs.declared.event.Event.{Event}
use Rattle.event_draws.specs.MovedDraws.{HaveFourColours}
use Rattle.event_instants.specs.Instants.{at_time, fade_by, held_alpha, nth}
use Rattle.event_instants.proofs.OnTheWay.{between_within}
use Rattle.near_events.proofs.Lists.{get_from_there, in_map, same_some, there_from_get}
use Rattle.near_events.proofs.Pairs.{Contains-cons_cases, Contains-head, Contains-nil, Contains-tail}
use Rattle.override_tags.specs.Readings.{IsTextReading}
use Rattle.override_tags.specs.declared.item.Item.{Item}
use Rattle.override_tags.specs.declared.item.ItemKind.{ItemKind}
use Rattle.override_tags.specs.declared.item.ItemKind.TheVariants as item
use Rattle.override_tags.specs.declared.tag.Tag.{Tag}
use Rattle.override_tags.specs.declared.tag.Tag.TheVariants.{Fad, Fade}
use Rattle.override_tags.specs.declared.view.EventView.{EventView}
use Rattle.override_tags.specs.declared.view.Shown.{Shown}
use Rattle.override_tags.specs.declared.view.State.{State}
use Rattle.tag_state.specs.Choices.{align_said, clip_at, fade_said, first_in, first_of, origin_said, point_said, wrap_at}
use Rattle.tag_state.specs.Looks.{Look}
use Rattle.tag_state.specs.Properties.{Angle, Blue, Blur, Bold, BorderX, BorderY, Channel, Edges, Green, Italic, Measure, Offset, Opacity, Red, ScaleX, ScaleY, ShadowX, ShadowY, Size, Spacing, Strikeout, Switch, Underline, byte, byte_in, colour_at, font, level, measure_of, number, switch, switch_of}
use Rattle.tag_state.specs.Setters.{Effect, past_all, property_at, style_in_force}
use Rattle.tag_state.specs.States.{IsStateAt}
use Rattle.tag_state.specs.Syllables.{sung_at}
use Rattle.tag_state.specs.Views.{AreOnce, AreSeen, HasState, IsViewOf, elapsed_at}
use Rattle.tag_state.proofs.FontLemmas.{get_end}
use Rattle.picture_exists.proofs.LookExistence.{looks_exist}
use Rattle.ass_num.specs.declared.colour.Rgba.{Rgba}

-- ---- names, each once

name_or : (names : List (List ℕ)) (name : List ℕ) → Contains names name ⊎ (Contains names name → ⊥)
name_or [] name = inr (Contains-nil name)
name_or (n ∷ names) name = elim (cases_Bool (bytes_eq n name)) [
  | inl same ↦ inl (subst (Contains (n ∷ names)) ((bytes_eq-Decides n name).0 same) (Contains-head n names))
  | inr other ↦ elim (name_or names name) [
    | inl there ↦ inl (Contains-tail n names name there)
    | inr absent ↦ inr (λ c. ⊎_elim (λ is. false≢true (sym other ∙ (bytes_eq-Decides n name).1 is)) absent (Contains-cons_cases n names name c))
  ]
]

one_more_once : (name : List ℕ) (names : List (List ℕ)) → AreOnce names → (Contains names name → ⊥) → AreOnce (name ∷ names)
one_more_once name names once new zero zero x e f = refl
one_more_once name names once new zero (suc j) x e f = absurd (new (subst (Contains names) (sym (same_some name x e)) (there_from_get names j x f)))
one_more_once name names once new (suc i) zero x e f = absurd (new (subst (Contains names) (sym (same_some name x f)) (there_from_get names i x e)))
one_more_once name names once new (suc i) (suc j) x e f = ap suc (once i j x e f)

none_once : AreOnce []
none_once i j x e f = absurd (Contains-nil x (there_from_get [] i x e))

-- Names can be listed without saying one twice.
record OnceListed (all : List (List ℕ)) : Type 0 where
  names : List (List ℕ)
  once : AreOnce names
  has : (name : List ℕ) → Contains all name → Contains names name

once_listed : (all : List (List ℕ)) → OnceListed all
once_listed [] = record { names = []; once = none_once; has = λ name c. c }
once_listed (x ∷ xs) =
    let found = once_listed xs in
    elim (name_or found.names x) [
      | inl there ↦ record {
        names = found.names;
        once = found.once;
        has = λ name c. ⊎_elim (λ is. subst (Contains found.names) is there) (found.has name) (Contains-cons_cases x xs name c);
      }
      | inr new ↦ record {
        names = x ∷ found.names;
        once = one_more_once x found.names found.once new;
        has =
            λ name c.
            ⊎_elim (λ is. subst (Contains (x ∷ found.names)) is (Contains-head x found.names)) (λ later. Contains-tail x found.names name (found.has name later))
            (Contains-cons_cases x xs name c);
      }
    ]

-- ---- the state behind effects

module _ (script : ScriptValue) (own : List ℕ) (before : List Effect) where
  abbrev colour_behind : ℕ → Rgba
  colour_behind place = record {
    r = property_at (byte Red place) script own before;
    g = property_at (byte Green place) script own before;
    b = property_at (byte Blue place) script own before;
    a = property_at (byte Opacity place) script own before;
  }

  -- whose font has this number
  abbrev state_behind : ℕ → State
  state_behind n = record {
    font = n;
    size = property_at (number Size) script own before;
    colours = colour_behind 0 ∷ colour_behind 1 ∷ colour_behind 2 ∷ colour_behind 3 ∷ [];
    bold = property_at (switch Bold) script own before;
    italic = property_at (switch Italic) script own before;
    underline = property_at (switch Underline) script own before;
    strikeout = property_at (switch Strikeout) script own before;
    scale_x = property_at (number ScaleX) script own before;
    scale_y = property_at (number ScaleY) script own before;
    spacing = property_at (number Spacing) script own before;
    angle = property_at (number Angle) script own before;
    border_style = (style_in_force script own before).border_style;
    border_x = property_at (number BorderX) script own before;
    border_y = property_at (number BorderY) script own before;
    shadow_x = property_at (number ShadowX) script own before;
    shadow_y = property_at (number ShadowY) script own before;
    edges = property_at (number Edges) script own before;
    blur = property_at (number Blur) script own before;
    draw = property_at level script own before;
    offset = property_at (number Offset) script own before;
    sung = sung_at before;
  }

  numbers_behind : (n : ℕ) (m : Measure) → measure_of m (state_behind n) ≡ property_at (number m) script own before
  numbers_behind n Size = refl
  numbers_behind n ScaleX = refl
  numbers_behind n ScaleY = refl
  numbers_behind n Spacing = refl
  numbers_behind n Angle = refl
  numbers_behind n BorderX = refl
  numbers_behind n BorderY = refl
  numbers_behind n ShadowX = refl
  numbers_behind n ShadowY = refl
  numbers_behind n Edges = refl
  numbers_behind n Blur = refl
  numbers_behind n Offset = refl

  switches_behind : (n : ℕ) (s : Switch) → switch_of s (state_behind n) ≡ property_at (switch s) script own before
  switches_behind n Bold = refl
  switches_behind n Italic = refl
  switches_behind n Underline = refl
  switches_behind n Strikeout = refl

  byte_behind : (place : ℕ) (c : Channel) → byte_in c (colour_behind place) ≡ property_at (byte c place) script own before
  byte_behind place Red = refl
  byte_behind place Green = refl
  byte_behind place Blue = refl
  byte_behind place Opacity = refl

  colours_behind : (n : ℕ) (c : Channel) (place : ℕ) → place < 4 → byte_in c (colour_at (state_behind n).colours place) ≡ property_at (byte c place) script own before
  colours_behind n c zero few = byte_behind 0 c
  colours_behind n c (suc zero) few = byte_behind 1 c
  colours_behind n c (suc (suc zero)) few = byte_behind 2 c
  colours_behind n c (suc (suc (suc zero))) few = byte_behind 3 c
  colours_behind n c (suc (suc (suc (suc place)))) few = absurd (omega (arith, few))

  state_behind_is : (names : List (List ℕ)) (n : ℕ) → slice_get names n ≡ Some (property_at font script own before) → IsStateAt script own names before (state_behind n)
  state_behind_is names n named = record {
    font = named;
    numbers = numbers_behind n;
    switches = switches_behind n;
    colours = colours_behind n;
    border_style = refl;
    draw = refl;
    sung = refl;
  }

-- ---- states, one for each list of effects

module _ (script : ScriptValue) (own : List ℕ) (names : List (List ℕ)) where
  record StatesOf (all : List (List Effect)) : Type 0 where
    states : List State
    as_many : length states ≡ length all
    colours : HaveFourColours states
    each : (k : ℕ) (before : List Effect) → slice_get all k ≡ Some before → HasState script own names states before k

  first_has : (all : List (List Effect)) (before : List Effect) (state : State) (states : List State) → IsStateAt script own names before state
      → ((k : ℕ) (b : List Effect) → slice_get all k ≡ Some b → HasState script own names states b k)
      → (k : ℕ) (b : List Effect) → slice_get (before ∷ all) k ≡ Some b → HasState script own names (state ∷ states) b k
  first_has all before state states is later zero b at = (state, refl, subst (λ (z : List Effect). IsStateAt script own names z state) (same_some before b at) is)
  first_has all before state states is later (suc k) b at = let found = later k b at in (found.0, found.1, found.2)

  states_exist : (all : List (List Effect)) → ((before : List Effect) → Contains all before → Contains names (property_at font script own before)) → StatesOf all
  states_exist [] named = record {
    states = [];
    as_many = refl;
    colours = All-nil (λ (s : State). length s.colours ≡ 4);
    each = λ k before at. absurd (Contains-nil before (there_from_get [] k before at));
  }
  states_exist (before ∷ all) named =
      let n = get_from_there names (property_at font script own before) (named before (Contains-head before all)) in
      let state = state_behind script own before n.0 in
      let rest = states_exist all (λ b c. named b (Contains-tail before all b c)) in
      let many = rest.as_many in
      record {
        states = state ∷ rest.states;
        as_many = omega (arith, many);
        colours = All-cons (λ (s : State). length s.colours ≡ 4) state rest.states refl rest.colours;
        each = first_has all before state rest.states (state_behind_is script own before names n.0 n.1) rest.each;
      }

  -- what is shown, in its states
  record ShownOf (states : List State) (found : List Look) : Type 0 where
    items : List Shown
    seen : AreSeen script own names states items found
    as_many : length items ≡ length found

  shown_exist : (states : List State) (found : List Look) → ((look : Look) → Contains found look → (k : ℕ) × HasState script own names states look.before k) → ShownOf states found
  shown_exist states [] has = record { items = []; seen = tt; as_many = refl }
  shown_exist states (look ∷ found) has =
      let state = has look (Contains-head look found) in
      let rest = shown_exist states found (λ l c. has l (Contains-tail look found l c)) in
      let many = rest.as_many in
      record {
        items = record { kind = look.kind; state = state.0 } ∷ rest.items;
        seen = (record { kind = refl; state = state.1 }, rest.seen);
        as_many = omega (arith, many);
      }

-- ---- the fade is no number below 0

alpha_from_zero : (a : ℤ) → pos 0 ≤ℤ held_alpha a
alpha_from_zero a = (held_within (pos 0) (pos 255) a (omega (arith, ints))).0

way_from_zero : (a b begin end elapsed : ℤ) → pos 0 ≤ℤ a → pos 0 ≤ℤ b → int_lt elapsed begin ≡ false → int_lt elapsed end ≡ true → pos 0 ≤ℤ at_time a b begin end elapsed
way_from_zero a b begin end elapsed first last begun going =
    let inside = between_within a b (elapsed -ℤ begin) (end -ℤ begin) (grind (arith, ints)) (grind (arith, ints)) (grind (arith, ints)) in
    omega (arith, ints, clamps, inside.0, first, last)

by_from_zero : (a1 a2 a3 t1 t2 t3 t4 elapsed : ℤ) → pos 0 ≤ℤ a1 → pos 0 ≤ℤ a2 → pos 0 ≤ℤ a3 → pos 0 ≤ℤ fade_by a1 a2 a3 t1 t2 t3 t4 elapsed
by_from_zero a1 a2 a3 t1 t2 t3 t4 elapsed p q r = by (int_lt elapsed t1) (int_lt elapsed t2) (int_lt elapsed t3) (int_lt elapsed t4) refl refl refl refl
  where
    by : (b1 b2 b3 b4 : Bool) → int_lt elapsed t1 ≡ b1 → int_lt elapsed t2 ≡ b2 → int_lt elapsed t3 ≡ b3 → int_lt elapsed t4 ≡ b4
        → pos 0 ≤ℤ cond b1 a1 (cond b2 (at_time a1 a2 t1 t2 elapsed) (cond b3 a2 (cond b4 (at_time a2 a3 t3 t4 elapsed) a3)))
    by true b2 b3 b4 e1 e2 e3 e4 = p
    by false true b3 b4 e1 e2 e3 e4 = way_from_zero a1 a2 t1 t2 elapsed p q e1 e2
    by false false true b4 e1 e2 e3 e4 = q
    by false false false true e1 e2 e3 e4 = way_from_zero a2 a3 t3 t4 elapsed q r e3 e4
    by false false false false e1 e2 e3 e4 = r

module _ (duration elapsed : ℤ) where
  abbrev IsFadeFromZero : Option ℤ → Type 0
  IsFadeFromZero None = Unit {0}
  IsFadeFromZero (Some fade) = pos 0 ≤ℤ fade

  said_from_zero : (tag : Tag) → IsFadeFromZero (fade_said duration elapsed tag)
  said_from_zero (Fad fade_in fade_out) = by_from_zero (pos 255) (pos 0) (pos 255) (pos 0) fade_in (duration -ℤ fade_out) duration elapsed (omega (arith, ints)) (omega (arith, ints)) (omega (arith, ints))
  said_from_zero (Fade f) =
      by_from_zero (held_alpha (nth f 0)) (held_alpha (nth f 1)) (held_alpha (nth f 2)) (nth f 3) (nth f 4) (nth f 5) (nth f 6) elapsed
      (alpha_from_zero (nth f 0)) (alpha_from_zero (nth f 1)) (alpha_from_zero (nth f 2))
  said_from_zero _ = tt

  kind_from_zero : (kind : ItemKind) → IsFadeFromZero (first_in (fade_said duration elapsed) kind)
  kind_from_zero (item.Tag tag) = said_from_zero tag
  kind_from_zero _ = tt

  first_from_zero : (o : Option ℤ) (said : List ℤ) → IsFadeFromZero o → pos 0 ≤ℤ unwrap_or (slice_get said 0) (pos 0) → pos 0 ≤ℤ unwrap_or (slice_get (cons_option o said) 0) (pos 0)
  first_from_zero None said first later = later
  first_from_zero (Some fade) said first later = first

  fade_from_zero : (items : List Item) → pos 0 ≤ℤ unwrap_or (first_of (fade_said duration elapsed) items) (pos 0)
  fade_from_zero [] = omega (arith, ints)
  fade_from_zero (i ∷ items) =
      first_from_zero (first_in (fade_said duration elapsed) i.kind) (filter_map (λ (j : Item). first_in (fade_said duration elapsed) j.kind) items)
      (kind_from_zero i.kind) (fade_from_zero items)

-- ---- the view

-- A text that is read shows no more than it has items, each state of which has its four colours.
pub record HasView (script : ScriptValue) (event : Event) (t : ℤ) (items : List Item) : Type 0 where
  pub view : EventView
  pub shows : IsViewOf script event t view
  pub colours : HaveFourColours view.states
  pub few : length view.items ≤ length items

pub view_exists : (script : ScriptValue) (event : Event) (t : ℤ) (items : List Item) → IsTextReading event.text items → HasView script event t items
view_exists script event t items reading =
    let elapsed = elapsed_at event t in
    let own = event.style in
    let found = looks_exist event.text event.duration elapsed (length items) [] items (omega arith) in
    let behind = past_all event.duration elapsed [] items in
    let front = map (λ (look : Look). look.before) found.0 in
    let all = front ++ behind ∷ [] in
    let listed = once_listed (map (property_at font script own) all) in
    let made = states_exist script own listed.names all (λ before c. listed.has (property_at font script own before) (in_map (property_at font script own) all before c)) in
    let shown = shown_exist script own listed.names made.states found.0
    (λ look c.
    let place = get_from_there all look.before (Contains-append_left front (behind ∷ []) look.before (in_map (λ (l : Look). l.before) found.0 look c)) in
    (place.0, made.each place.0 look.before place.1)) in
    let fade = unwrap_or (first_of (fade_said event.duration elapsed) items) (pos 0) in
    let from_zero = fade_from_zero event.duration elapsed items in
    let longer = length-append front (behind ∷ []) in
    let states = made.as_many in
    let place : length made.states - 1 ≡ length front = omega (arith, states, longer) in
    let many = shown.as_many in
    let count = found.2 in
    record {
      view = record {
        names = listed.names;
        states = made.states;
        items = shown.items;
        align = unwrap_or (first_of align_said items) (style_for event.style script).alignment;
        wrap = wrap_at script.header.wrap behind;
        pos = first_of (point_said event.duration elapsed) items;
        org = first_of origin_said items;
        fade = unsigned_abs fade;
        clip = clip_at script.header behind;
      };
      shows = record {
        items = items;
        reading = reading;
        shown = record {
          looks = found.0;
          shows = found.1;
          seen = shown.seen;
          last = subst (HasState script own listed.names made.states behind) (sym place) (made.each (length front) behind (get_end front behind));
          align = refl;
          wrap = refl;
          position = refl;
          origin = refl;
          fade = omega (arith, ints, from_zero);
          clip = refl;
        };
        once = listed.once;
      };
      colours = made.colours;
      few = omega (arith, many, count);
    }
