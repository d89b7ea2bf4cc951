-- Pictures of written scripts and of shifted events.
use Rattle.std.proofs.Common.{◌≡◌, inl, inr, ℕ, zero, suc, ◌+◌, ◌<◌, ◌≤◌, List, [], ◌∷◌, ◌++◌, length, map, get_or, All, Contains, Option, Some, None, Result, Ok, Err, ℤ, pos, ◌+ℤ◌, ◌-ℤ◌, sym, ap, ◌∙◌, subst, arith}
use Rattle.std.specs.Option.{option_map_or}
use Rattle.std.proofs.lemmas.Bool.{cases_lt}
use Rattle.std.proofs.lemmas.Int.{ints}
use Rattle.std.proofs.lemmas.List.{get_or_default, length-map}
use Rattle.std.proofs.lemmas.List.Elements.{All-contains, Contains-append_left, Contains-append_right, Contains-get_or}
use Rattle.std.proofs.lemmas.Option.{slice_get-get_or}
use Rattle.frame_view.specs.declared.view.FrameView.{FrameView}
use Rattle.ass_script.specs.Fields.{usual_event_fields}
use Rattle.ass_script.specs.Scripts.{ScriptValue}
use Rattle.ass_script.specs.declared.lines.Version.TheVariants.{V4Plus}
use Rattle.ass_script.specs.declared.script.EventField.TheVariants as field
use Rattle.ass_events.specs.Events.{event_of_line}
use Rattle.ass_events.specs.Ranges.{IsEvent}
use Rattle.ass_events.specs.declared.event.Event.{Event}
use Rattle.bdf_font.specs.Fonts.{FontValue}
use Rattle.blend.specs.Canvases.{CanvasValue}
use Rattle.picture_plan.specs.Pictures.{IsPictureAt}
use Rattle.picture_plan.proofs.ShownLemmas.{at_pairwise}
use Rattle.ass_events.specs.ScriptEvents.{first_events, line_events}
use Rattle.ass_events.proofs.GivenEvents.{accepted, all_events}
use Rattle.track_write.specs.Laws.{EventsAreReadBack, ScriptsAreReadBack, script_read}
use Rattle.track_write.specs.Rows.{spoken}
use Rattle.track_write.specs.Shifts.{first_outside, later_event}
use Rattle.track_write.specs.Texts.{written}
use Rattle.track_write.specs.declared.refusal.WriteRefusal.TheVariants.{Unwritable}
use Rattle.picture_laws.specs.Laws.{HaveAscendingOrders, PicturesAreReadBack, PicturesAreShifted}
use Rattle.picture_laws.proofs.Moves.{Corresponds, picture_forth}
use Rattle.picture_laws.proofs.Views.{renumbered}
use Rattle.track_write.proofs.NearLemmas.{among_back, among_map}

-- ---- shifted events

earlier_event : ℤ → Event → Event
earlier_event by event = record event { start = event.start -ℤ by }

unmoved : (by : ℤ) (event : Event) → earlier_event by (later_event by event) ≡ event
unfolding earlier_event
unmoved by event =
    let same : (event.start +ℤ by) -ℤ by ≡ event.start = omega (arith, ints) in
    ap (λ (start : ℤ). record event { start = start }) same

shift_corresponds : (by : ℤ) (events : List Event) → Corresponds by events (map (later_event by) events) (earlier_event by)
unfolding earlier_event
shift_corresponds by events = record {
  listed = λ g c.
      let x = among_back (later_event by) events g c in
      subst (Contains events) (sym (unmoved by x.0) ∙ ap (earlier_event by) x.2) x.1;
  onto = λ e c. (later_event by e, among_map (later_event by) events e c, unmoved by e);
  alike = λ g c.
      let same : g.start ≡ (g.start -ℤ by) +ℤ by = omega (arith, ints) in
      ap (λ (start : ℤ). record g { start = start }) same;
  forth = λ f g cf cg less. less;
  back = λ f g cf cg less. less;
}

pub ok_inside : {Value Cause : Type 0} (refusal : ℕ → Cause) (o : Option ℕ) (value other : Value) → option_map_or (λ order. Err (refusal order)) o (Ok value) ≡ Ok other → value ≡ other
ok_inside refusal None value other is = cc
ok_inside refusal (Some order) value other is = absurd cc

ok_same : {Value Cause : Type 0} (a b : Value) → (let x : Result Value Cause = Ok a in x) ≡ Ok b → a ≡ b
ok_same a b is = cc

pub pictures_are_shifted : PicturesAreShifted
pictures_are_shifted script fonts later earlier events moved t frame canvas is picture =
    let by = later -ℤ earlier in
    let all : map (later_event by) events ≡ moved =
    ok_inside (λ order. Unwritable order field.Start) (first_outside by events) (map (later_event by) events) moved is in
    subst (λ list. IsPictureAt script fonts list (t +ℤ by) frame canvas) all
    (picture_forth by events (map (later_event by) events) (earlier_event by) (shift_corresponds by events) script script.format script.lines fonts t frame canvas picture)

-- ---- events that are read back

numbered : ℕ → Event → Event
numbered order event = record event { order = order }

module _ (script : ScriptValue) (events : List Event) (each : All IsEvent events) (ascend : HaveAscendingOrders events) (bytes : List ℕ)
    (is_written : written script events ≡ Ok bytes) (law : EventsAreReadBack) where
  line_is : (i : ℕ) (d : Event) → i < length events → event_of_line (script_read script events) i ≡ Ok (numbered i (get_or events i d))
  unfolding numbered
  line_is i d inside = law script events bytes i (get_or events i d) each is_written (slice_get-get_or events i d inside)

  -- the event of b at its line's place
  event_at : Event → Event
  event_at g = get_or events g.order g

  IsNumbered : Event → Type 0
  IsNumbered g = (g.order < length events) × (g ≡ renumbered (pos 0) g.order (event_at g))

  numbered_one : (i : ℕ) (d : Event) → i < length events → IsNumbered (numbered i (get_or events i d))
  unfolding numbered event_at IsNumbered
  numbered_one i d inside =
      let g = numbered i (get_or events i d) in
      let same : get_or events i d ≡ get_or events i g = get_or_default events i d g inside in
      let start : (get_or events i g).start ≡ (get_or events i g).start +ℤ pos 0 = omega (arith, ints) in
      (inside, ap (numbered i) same ∙ ap (λ (s : ℤ). record (get_or events i g) { start = s; order = i }) start)

  each_numbered : All IsNumbered (line_events (script_read script events))
  each_numbered = all_events (script_read script events) (length (map spoken events)) IsNumbered
      (λ i g within line.
      let inside : i < length events = omega (arith, within, length-map events spoken) in
      let same : numbered i (get_or events i g) ≡ g = ok_same (numbered i (get_or events i g)) g (sym (line_is i g inside) ∙ line) in
      subst IsNumbered same (numbered_one i g inside))

  is_numbered : (g : Event) → Contains (line_events (script_read script events)) g → IsNumbered g
  is_numbered g c = All-contains IsNumbered (line_events (script_read script events)) g each_numbered c

  has_front : (k i : ℕ) (d : Event) → k ≤ length events → i < k → Contains (first_events (script_read script events) k) (numbered i (get_or events i d))
  has_front zero i d few under = absurd (omega (arith, under))
  has_front (suc k) i d few under =
      let read = script_read script events in
      let last = numbered k (get_or events k d) in
      let more : first_events read (k + 1) ≡ first_events read k ++ last ∷ [] = accepted read k last (line_is k d (omega (arith, few))) in
      let next : k + 1 ≡ suc k = omega arith in
      subst (λ n. Contains (first_events read n) (numbered i (get_or events i d))) next
      (subst (λ xs. Contains xs (numbered i (get_or events i d))) (sym more) (elim (cases_lt i k) [
        | inl less ↦ Contains-append_left (first_events read k) (last ∷ []) _ (has_front k i d (omega (arith, few)) less)
        | inr rest ↦
            let same : k ≡ i = omega (arith, under, rest) in
            Contains-append_right (first_events read k) (last ∷ []) _ (zero, omega arith, ap (λ n. numbered n (get_or events n d)) same)
      ]))

  under : (i j : ℕ) (d e : Event) → i < j → j < length events → (get_or events i d).order < (get_or events j e).order
  under i j d e less inside =
      subst (λ x. (get_or events i d).order < x.order) (get_or_default events j d e inside) (at_pairwise (λ e f. e.order < f.order) events i j d ascend less inside)

  read_corresponds : Corresponds (pos 0) events (line_events (script_read script events)) event_at
  unfolding event_at IsNumbered numbered
  read_corresponds = record {
    listed = λ g c. Contains-get_or events g.order g (is_numbered g c).0;
    onto = λ e c.
        let k = c.0 in
        let g = numbered k (get_or events k e) in
        let lines : length events ≡ length (map spoken events) = sym (length-map events spoken) in
        (g, subst (λ n. Contains (first_events (script_read script events) n) g) lines (has_front (length events) k e (omega arith) c.1), get_or_default events k g e c.1 ∙ c.2);
    alike = λ g c. (is_numbered g c).1;
    forth = λ f g cf cg less. elim (cases_lt f.order g.order) [
      | inl small ↦ small
      | inr rest ↦ elim (cases_lt g.order f.order) [
        | inl small ↦ let other = under g.order f.order g f small (is_numbered f cf).0 in absurd (omega (arith, less, other))
        | inr same ↦
            let orders : f.order ≡ g.order = omega (arith, rest, same) in
            let one : (get_or events f.order f).order ≡ (get_or events g.order g).order =
            ap (λ n. (get_or events n f).order) orders ∙ ap (λ (x : Event). x.order) (get_or_default events g.order f g (is_numbered g cg).0) in
            absurd (omega (arith, less, one))
      ]
    ];
    back = λ f g cf cg less. under f.order g.order f g less (is_numbered g cg).0;
  }

pub read_shows : EventsAreReadBack → (script : ScriptValue) (fonts : List FontValue) (events : List Event) (bytes : List ℕ) (t : ℤ) (frame : FrameView) (canvas : CanvasValue)
    → All IsEvent events → HaveAscendingOrders events → written script events ≡ Ok bytes → IsPictureAt script fonts events t frame canvas
    → IsPictureAt (script_read script events) fonts (line_events (script_read script events)) t frame canvas
read_shows law script fonts events bytes t frame canvas each ascend is picture =
    let read = script_read script events in
    let now : t +ℤ pos 0 ≡ t = omega (arith, ints) in
    subst (λ instant. IsPictureAt read fonts (line_events read) instant frame canvas) now
    (picture_forth (pos 0) events (line_events read) (event_at script events each ascend bytes is law) (read_corresponds script events each ascend bytes is law)
    script (usual_event_fields V4Plus) (map spoken events) fonts t frame canvas picture)

pub pictures_are_read_back : ScriptsAreReadBack → EventsAreReadBack → PicturesAreReadBack
pictures_are_read_back scripts law script fonts events bytes t frame canvas spelled each ascend few is picture =
    (script_read script events, scripts script events bytes spelled each few is, read_shows law script fonts events bytes t frame canvas each ascend is picture)
