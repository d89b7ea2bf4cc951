-- The events gone through are those that matter, each moved clear of its rivals.
use Rattle.std.proofs.Common.{◌≡◌, ◌≢◌, ℤ, pos, List, [], ◌∷◌, ◌++◌, map, get_or, refl, sym, ap, subst, ◌∙◌, arith, ⊎_elim, inl, inr, Option, Some, None}
use Rattle.std.specs.Prelude.{IfSome, slice_get, neg_ℤ, cond}
use Rattle.std.specs.List.{All, Contains}
use Rattle.std.proofs.lemmas.Bool.{cases_Bool}
use Rattle.std.proofs.lemmas.Int.{ints}
use Rattle.std.proofs.lemmas.List.{append_assoc, append-nil, map_push}
use Rattle.std.proofs.lemmas.List.Elements.{All-contains, All-nil, All-push, Contains-append_left, Contains-append_right, Contains-push, Contains-push_cases, Contains-get_or}
use Rattle.ass_num.specs.Limits.{IsWithin}
use Rattle.frame_view.specs.declared.view.FrameView.{FrameView}
use Rattle.ass_events.specs.declared.event.Event.{Event}
use Rattle.ass_events.specs.Histories.{HaveOwnOrders, Pairwise}
use Rattle.ass_script.specs.Scripts.{ScriptValue}
use Rattle.bdf_font.specs.Fonts.{FontValue}
use Rattle.event_places.specs.declared.stands.Stand.{Stand}
use Rattle.event_places.specs.Limits.{max_shift}
use Rattle.override_tags.specs.declared.item.Item.{Item}
use Rattle.tag_state.specs.Views.{AreReadItems}
use Rattle.event_places.specs.PlacedEvents.{ArePlacedEvents, IsPlacedEvent, placed_places}
use Rattle.event_places.specs.Shifts.{HasShift, IsMovedBy, Shifted as moved_by_shift, Pointed as moved_by_point, Alone as moved_alone}
use Rattle.near_events.specs.Spans.{AreNearSpans, IsSpanOf, StandsBefore, event_span}
use Rattle.event_places.specs.Stands.{HasPoint, down_by}
use Rattle.event_places.specs.Steps.{AreSteps, First, Next, IsGoneThrough, IsPlacing, IsPlacingStep, Pointed, Shifted, Alone, Moved, placed_by, unmoved}
use Rattle.event_places.specs.declared.placed.PlacedEvent.{PlacedEvent}
use Rattle.near_events.specs.declared.spans.EventSpan.{EventSpan}
use Rattle.event_places.specs.declared.placed_boxes.PlacedBox.{PlacedBox}
use Rattle.near_events.proofs.Lists.{same_some, in_map, from_map}
use Rattle.near_events.proofs.Orders.{not_before_itself}
use Rattle.near_events.proofs.Pairs.{Contains-nil, Contains-head, Contains-tail, Pairwise-push}
use Rattle.event_places.proofs.StepLemmas.{AreDone, AreCleared, DifferCleared, IsDone, IsKept, ClearedEvent, done_more, has_shift, kept_more, new_differs, no_rival, still_kept}

module _ (script : ScriptValue) (fonts : List FontValue) (frame : FrameView) (events : List Event) (t : ℤ) (near : List EventSpan) (orders : HaveOwnOrders events) (are : AreNearSpans events t near) where
  -- an event that isn't moved
  still : (s : EventSpan) (e : Event) (read : Option (List Item)) → IfSome read (AreReadItems e.text) → slice_get events s.place ≡ Some e → IsMovedBy script fonts frame events e (pos 0)
      → IsPlacedEvent script fonts frame events (unmoved s.place read)
  still s e read are_read at moved = record { event = e; stands = at; moved = moved; near = (omega (arith, ints), omega (arith, ints)); own = tt; read = are_read }

  places_more : (spans : List EventSpan) (placed : List PlacedEvent) (s : EventSpan) (one : PlacedEvent) → one.place ≡ s.place → placed_places placed ≡ map (λ (s : EventSpan). s.place) spans
      → placed_places (placed ++ one ∷ []) ≡ map (λ (s : EventSpan). s.place) (spans ++ s ∷ [])
  places_more spans placed s one same h =
      map_push (λ (p : PlacedEvent). p.place) placed one ∙ (ap (λ z. z ++ one.place ∷ []) h ∙ (ap (λ z. map (λ (s : EventSpan). s.place) spans ++ z ∷ []) same ∙ sym (map_push (λ (s : EventSpan). s.place) spans s)))

  -- where nothing was cleared
  cleared_same : (spans : List EventSpan) (s : EventSpan) (cleared : List ClearedEvent) → AreCleared script fonts frame events near spans cleared → IsDone events near cleared s
      → AreCleared script fonts frame events near (spans ++ s ∷ []) cleared
  cleared_same spans s cleared so d = record {
    spanned = λ x c. Contains-append_left spans (s ∷ []) x.span (so.spanned x c);
    shifted = so.shifted;
    done = λ r c. ⊎_elim (λ old. so.done r old) (λ is. subst (IsDone events near cleared) is d) (Contains-push_cases spans s r c);
    differ = so.differ;
  }

  -- where one more was
  cleared_more : (spans : List EventSpan) (s : EventSpan) (rest : List EventSpan) (cleared : List ClearedEvent) (kept : List PlacedBox) (e : Event) (stand : Stand) (shift : ℤ) → near ≡ spans ++ s ∷ rest
      → AreCleared script fonts frame events near spans cleared → IsKept (s ∷ rest) cleared kept → slice_get events s.place ≡ Some e → HasShift script fonts frame events e stand shift
      → AreCleared script fonts frame events near (spans ++ s ∷ []) (cleared ++ record { span = s; stand = stand; shift = shift } ∷ [])
  cleared_more spans s rest cleared kept e stand shift split so keep at has =
      let new : ClearedEvent = record { span = s; stand = stand; shift = shift } in
      record {
        spanned = λ x c. ⊎_elim (λ old. Contains-append_left spans (s ∷ []) x.span (so.spanned x old)) (λ is. subst (λ (y : ClearedEvent). Contains (spans ++ s ∷ []) y.span) is (Contains-push spans s)) (Contains-push_cases cleared new x c);
        shifted = λ x f c there.
            ⊎_elim (λ old. so.shifted x f old there)
            (λ is.
            let own : slice_get events x.span.place ≡ Some e = subst (λ (y : ClearedEvent). slice_get events y.span.place ≡ Some e) is at in
            let same : e ≡ f = same_some e f (sym own ∙ there) in
            subst (λ (y : ClearedEvent). HasShift script fonts frame events f y.stand y.shift) is (subst (λ (g : Event). HasShift script fonts frame events g stand shift) same has))
            (Contains-push_cases cleared new x c);
        done = λ r c.
            ⊎_elim (λ old. done_more events near cleared new r (so.done r old))
            (λ is. inr (inr (new, Contains-push cleared new, is))) (Contains-push_cases spans s r c);
        differ = Pairwise-push DifferCleared cleared new so.differ
            (λ k d lt. new_differs events t near orders are spans s rest split script fonts frame cleared kept so keep e at (get_or cleared k d) (Contains-get_or cleared k d lt));
      }

  -- a shift lies within the limit also upwards
  down_within : (stand : Stand) (shift : ℤ) → IsWithin max_shift shift → IsWithin max_shift (down_by stand shift)
  down_within stand shift h =
      ⊎_elim (λ yes. subst (IsWithin max_shift) (sym (ap (λ b. cond b shift (neg_ℤ shift)) yes)) h)
      (λ no. subst (IsWithin max_shift) (sym (ap (λ b. cond b shift (neg_ℤ shift)) no)) (omega (arith, ints, h.1), omega (arith, ints, h.0)))
      (cases_Bool stand.down)

  step_done : (spans : List EventSpan) (s : EventSpan) (rest : List EventSpan) (placed : List PlacedEvent) (kept : List PlacedBox) (e : Event) (one : PlacedEvent) (new : List PlacedBox)
      → near ≡ spans ++ s ∷ rest → slice_get events s.place ≡ Some e → AreDone script fonts frame events near spans (s ∷ rest) placed kept → IsPlacing script fonts frame e s kept one new
      → AreDone script fonts frame events near (spans ++ s ∷ []) rest (placed ++ one ∷ []) new
  step_done spans s rest placed kept e _ _ split at d (Pointed read are_read point) = record {
    cleared = d.cleared;
    clearing = cleared_same spans s d.cleared d.clearing
        (inr (inl (λ f there. subst HasPoint (same_some e f (sym at ∙ there)) point)));
    is_kept = still_kept events t near orders are spans s rest split script fonts frame d.cleared kept d.clearing d.is_kept;
    each = All-push (IsPlacedEvent script fonts frame events) placed (unmoved s.place (Some read)) d.each (still s e (Some read) are_read at (moved_by_point e point));
    places = places_more spans placed s (unmoved s.place (Some read)) refl d.places;
  }
  step_done spans s rest placed kept e _ _ split at d (Shifted stand shift own new read are_read stands laid clearing) =
      let has = has_shift events t near orders are spans s rest split script fonts frame d.cleared kept d.clearing d.is_kept e at stand shift stands clearing.least in
      record {
        cleared = d.cleared ++ record { span = s; stand = stand; shift = shift } ∷ [];
        clearing = cleared_more spans s rest d.cleared kept e stand shift split d.clearing d.is_kept at has;
        is_kept = kept_more events t near orders are spans s rest split script fonts frame d.cleared kept d.clearing d.is_kept stand shift new clearing.members;
        each = All-push (IsPlacedEvent script fonts frame events) placed (placed_by s.place stand shift own read) d.each
            record { event = e; stands = at; moved = moved_by_shift e stand shift has; near = down_within stand shift clearing.within; own = laid; read = are_read };
        places = places_more spans placed s (placed_by s.place stand shift own read) refl d.places;
      }

  step_more : (spans : List EventSpan) (s : EventSpan) (rest : List EventSpan) (placed : List PlacedEvent) (kept : List PlacedBox) (one : PlacedEvent) (new : List PlacedBox)
      → near ≡ spans ++ s ∷ rest → AreDone script fonts frame events near spans (s ∷ rest) placed kept → IsPlacingStep script fonts frame events near s kept one new
      → AreDone script fonts frame events near (spans ++ s ∷ []) rest (placed ++ one ∷ []) new
  step_more spans s rest placed kept _ _ split d (Alone alone) =
      let here : Contains near s = subst (λ z. Contains z s) (sym split) (Contains-append_right spans (s ∷ rest) s (Contains-head s rest)) in
      let own = are.own s here in
      record {
        cleared = d.cleared;
        clearing = cleared_same spans s d.cleared d.clearing (inl alone);
        is_kept = still_kept events t near orders are spans s rest split script fonts frame d.cleared kept d.clearing d.is_kept;
        each = All-push (IsPlacedEvent script fonts frame events) placed (unmoved s.place None) d.each
            (still s own.event None tt own.stands (moved_alone own.event (λ f rival. no_rival events t near orders are spans s rest split own.event f own.stands alone rival)));
        places = places_more spans placed s (unmoved s.place None) refl d.places;
      }
  step_more spans s rest placed kept _ _ split d (Moved e one new at placing) = step_done spans s rest placed kept e one new split at d placing

  steps_done : (rest spans : List EventSpan) (placed : List PlacedEvent) (kept : List PlacedBox) → near ≡ spans ++ rest → AreSteps script fonts frame events near spans placed kept
      → AreDone script fonts frame events near spans rest placed kept
  steps_done rest _ _ _ split First = record {
    cleared = [];
    clearing =
        record {
          spanned = λ x c. absurd (Contains-nil x c);
          shifted = λ x e c at. absurd (Contains-nil x c);
          done = λ s c. absurd (Contains-nil s c);
          differ = tt;
        };
    is_kept = record { own = λ k c. absurd (Contains-nil k c); all = λ x c. absurd (Contains-nil x c) };
    each = All-nil (IsPlacedEvent script fonts frame events);
    places = refl;
  }
  steps_done rest _ _ _ split (Next spans placed kept s one more steps step) =
      let split_here : near ≡ spans ++ s ∷ rest = split ∙ append_assoc spans (s ∷ []) rest in
      step_more spans s rest placed kept one more split_here (steps_done (s ∷ rest) spans placed kept split_here steps) step

  -- two spans in order have different places
  other_places : (xs : List EventSpan) → ((s : EventSpan) → Contains xs s → IsSpanOf events s) → Pairwise StandsBefore xs → Pairwise (λ a b. a ≢ b) (map (λ (s : EventSpan). s.place) xs)
  other_places [] own h = tt
  other_places (x ∷ xs) own h = (
    all_other,
    other_places xs (λ s c. own s (Contains-tail x xs s c)) h.1,
  )
    where
      all_other : All (λ b. x.place ≢ b) (map (λ (s : EventSpan). s.place) xs)
      all_other = λ k d lt same.
          let c = from_map (λ (s : EventSpan). s.place) xs (get_or (map (λ (s : EventSpan). s.place) xs) k d) (Contains-get_or (map (λ (s : EventSpan). s.place) xs) k d lt) in
          let y = c.0 in
          let mine = own x (Contains-head x xs) in
          let other = own y (Contains-tail x xs y c.1) in
          let place : x.place ≡ y.place = same ∙ sym c.2 in
          let event : mine.event ≡ other.event = same_some mine.event other.event (sym mine.stands ∙ (ap (slice_get events) place ∙ other.stands)) in
          let is : x ≡ y = mine.span ∙ (ap (λ (z : Event). event_span z x.place) event ∙ (ap (event_span other.event) place ∙ sym other.span)) in
          not_before_itself y (subst (λ z. StandsBefore z y) is (All-contains (StandsBefore x) xs y h.0 c.1))

  pub placed_are : (placed : List PlacedEvent) → IsGoneThrough script fonts frame events near placed → ArePlacedEvents script fonts frame events t placed
  placed_are placed gone =
      let whole : near ≡ near ++ [] = sym (append-nil near) in
      let d = steps_done [] near placed gone.0 whole gone.1 in
      let places = λ (s : EventSpan). s.place in
      record {
        each = d.each;
        members = λ place. (
          (λ c. let m = from_map places near place (subst (λ z. Contains z place) d.places c) in
              let own = are.own m.0 m.1 in
              record { event = own.event; stands = ap (slice_get events) (sym m.2) ∙ own.stands; matters = are.matters m.0 own.event m.1 own.stands }),
          (λ n. subst (λ z. Contains z place) (sym d.places) (in_map places near (event_span n.event place) (are.all place n.event n.stands n.matters))),
        );
        once = subst (Pairwise (λ a b. a ≢ b)) (sym d.places) (other_places near are.own are.sorted);
      }
