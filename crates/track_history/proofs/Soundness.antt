-- What is kept stays sound.
use Rattle.std.proofs.Common.{Less, Equal, Greater, ◌≡◌, ◌≢◌, ℕ, ◌+◌, ◌*◌, ◌<◌, ◌≤◌, Bool, true, false, cond, List, [], ◌∷◌, ◌++◌, length, refl, sym, ap, subst, ◌∙◌, arith, ⊎_elim, Some, None}
use Rattle.std.specs.Prelude.{nat_lt, ◌==◌}
use Rattle.std.specs.Ordering.{nat_cmp, is_eq}
use Rattle.std.specs.BTreeMap.{BTreeMap, get, is_at, Updates, UpdatesBy, IsEmpty}
use Rattle.std.specs.Map.{lookup}
use Rattle.std.proofs.lemmas.Bool.{cases_Bool, false≢true}
use Rattle.std.proofs.lemmas.Bool.Decides.{nat_tests}
use Rattle.std.proofs.lemmas.List.{length_push}
use Rattle.ass_events.specs.declared.event.Event.{Event}
use Rattle.ass_events.specs.Histories.{max_live, max_flushes}
use Rattle.near_events.specs.declared.spans.EventSpan.{EventSpan}
use Rattle.track_history.specs.declared.live_events.LiveEvents.{LiveEvents}
use Rattle.track_history.specs.declared.near_index.NearIndex.{NearIndex}
use Rattle.near_events.specs.Spans.{event_span}
use Rattle.track_history.specs.Blocks.{IsNearIndex, IsInserted, spans_of}
use Rattle.track_history.specs.Answers.{position_of}
use Rattle.track_history.specs.Tellings.{IsSound, events_of}
use Rattle.track_history.proofs.Indexes.{no_index}
use Rattle.near_events.proofs.NearSpans.{HaveSpans}
use Rattle.track_history.proofs.Places.{position_of_new, position_of_other, spans_pushed, no_spans}

-- ---- the map of places
abbrev pub ArePlaces : BTreeMap ℕ ℕ → List Event → Type 0
ArePlaces places events = (order : ℕ) → get nat_cmp places order ≡ position_of order events

at_tests : (a b : Bool) → is_eq (cond a Less (cond b Equal Greater)) ≡ true → b ≡ true
at_tests true b h = absurd (false≢true h)
at_tests false true h = refl
at_tests false false h = absurd (false≢true h)

at_same : (k q : ℕ) → is_at (nat_cmp k) q ≡ true → k ≡ q
at_same k q h = let test = at_tests (nat_lt k q) (k == q) h in grind (arith, nat_tests)

at_itself : (k q : ℕ) → k ≡ q → is_at (nat_cmp k) q ≡ true
at_itself k q e =
    let a : nat_lt k q ≡ false = grind (arith, nat_tests) in let b : (k == q) ≡ true = grind (arith, nat_tests) in
    ap (λ t. is_eq (cond t Less (cond (k == q) Equal Greater))) a ∙ ap (λ t. is_eq (cond t Equal Greater)) b

pub places_pushed : (old new : BTreeMap ℕ ℕ) (events : List Event) (e : Event) (place : ℕ) → ArePlaces old events → Updates nat_cmp old new e.order (Some place) → place ≡ length events
    → position_of e.order events ≡ None → ArePlaces new (events ++ e ∷ [])
places_pushed old new events e place are put is absent order =
    ⊎_elim
    (λ pass. let same = at_same e.order order pass in
    put.0 order ∙ (ap (λ t. cond t (Some place) (get nat_cmp old order)) pass ∙ (ap Some is ∙ subst (λ o. Some (length events) ≡ position_of o (events ++ e ∷ [])) same (sym (position_of_new events e absent)))))
    (λ fail. let other : e.order ≢ order = λ same. false≢true (sym fail ∙ at_itself e.order order same) in
    put.0 order ∙ (ap (λ t. cond t (Some place) (get nat_cmp old order)) fail ∙ (are order ∙ sym (position_of_other order events e other))))
    (cases_Bool (is_at (nat_cmp e.order) order))

pub places_undone : (old new back : BTreeMap ℕ ℕ) (events : List Event) (k k' place : ℕ) → ArePlaces old events → Updates nat_cmp old new k (Some place) → UpdatesBy nat_cmp (nat_cmp k') new back None
    → k' ≡ k → position_of k events ≡ None → ArePlaces back events
places_undone old new back events k k' place are put taken_at equal absent order =
    let taken : UpdatesBy nat_cmp (nat_cmp k) new back None = subst (λ n. UpdatesBy nat_cmp (nat_cmp n) new back None) equal taken_at in
    ⊎_elim
    (λ pass. let same = at_same k order pass in
    taken.0 order ∙ (ap (λ t. cond t None (get nat_cmp new order)) pass ∙ subst (λ o. None ≡ position_of o events) same (sym absent)))
    (λ fail. taken.0 order ∙ (ap (λ t. cond t None (get nat_cmp new order)) fail ∙ (put.0 order ∙ (ap (λ t. cond t (Some place) (get nat_cmp old order)) fail ∙ are order))))
    (cases_Bool (is_at (nat_cmp k) order))

pub places_unchanged : (old new : BTreeMap ℕ ℕ) (events : List Event) → new.entries ≡ old.entries → ArePlaces old events → ArePlaces new events
places_unchanged old new events same are order = ap (λ (es : List (ℕ × ℕ)). lookup (is_at (nat_cmp order)) es) same ∙ are order

pub no_places : (places : BTreeMap ℕ ℕ) → IsEmpty places → ArePlaces places []
no_places places empty order = ap (λ (es : List (ℕ × ℕ)). lookup (is_at (nat_cmp order)) es) empty

-- ---- the whole
pub sound_kept : (old new : LiveEvents) → IsSound old → events_of new ≡ events_of old → IsNearIndex new.index.blocks.items → spans_of new.index.blocks.items ≡ spans_of old.index.blocks.items
    → ArePlaces new.places (events_of old) → new.entries ≡ old.entries → new.flushes ≡ old.flushes → IsSound new
sound_kept old new sound events index spans places entries flushes =
    let same : length (events_of new) ≡ length (events_of old) = ap length events in
    let few = sound.few in let few_flushes = sound.few_flushes in let counted = sound.counted in let bounded = sound.bounded in
    record {
      index = index;
      spans = subst (λ es. HaveSpans es (spans_of new.index.blocks.items)) (sym events) (subst (HaveSpans (events_of old)) (sym spans) sound.spans);
      places = subst (ArePlaces new.places) (sym events) places;
      few = omega (arith, same, few);
      few_flushes = omega (arith, flushes, few_flushes);
      counted = omega (arith, same, entries, counted);
      bounded = subst (λ f. new.entries ≤ f * (max_live + 1) + length (events_of new)) (sym flushes) (omega (arith, same, entries, bounded));
    }

pub sound_accepted : (old new : LiveEvents) (e : Event) (x : EventSpan) → IsSound old → length (events_of old) < max_live → events_of new ≡ events_of old ++ e ∷ [] → IsNearIndex new.index.blocks.items
    → IsInserted (spans_of old.index.blocks.items) x (spans_of new.index.blocks.items) → x ≡ event_span e (length (events_of old)) → ArePlaces new.places (events_of old ++ e ∷ [])
    → new.entries ≡ old.entries + 1 → new.flushes ≡ old.flushes → IsSound new
sound_accepted old new e x sound room events index put is places entries flushes =
    let more : length (events_of new) ≡ length (events_of old) + 1 = ap length events ∙ length_push (events_of old) e in
    let few_flushes = sound.few_flushes in let counted = sound.counted in let bounded = sound.bounded in
    record {
      index = index;
      spans = subst (λ es. HaveSpans es (spans_of new.index.blocks.items)) (sym events) (spans_pushed (events_of old) e (spans_of old.index.blocks.items) (spans_of new.index.blocks.items) x sound.spans put is);
      places = subst (ArePlaces new.places) (sym events) places;
      few = omega (arith, more, room);
      few_flushes = omega (arith, flushes, few_flushes);
      counted = omega (arith, more, entries, counted);
      bounded = subst (λ f. new.entries ≤ f * (max_live + 1) + length (events_of new)) (sym flushes) (omega (arith, more, entries, bounded));
    }

sound_bare : (kept : LiveEvents) → events_of kept ≡ [] → IsNearIndex kept.index.blocks.items → HaveSpans [] (spans_of kept.index.blocks.items) → ArePlaces kept.places []
    → kept.flushes ≤ max_flushes → kept.entries ≤ kept.flushes * (max_live + 1) → IsSound kept
sound_bare kept events index spans places few bounded =
    let none : length (events_of kept) ≡ 0 = ap length events in
    record {
      index = index;
      spans = subst (λ es. HaveSpans es (spans_of kept.index.blocks.items)) (sym events) spans;
      places = subst (ArePlaces kept.places) (sym events) places;
      few = omega (arith, none);
      few_flushes = few;
      counted = omega (arith, none);
      bounded = omega (arith, none, bounded);
    }

sound_empty : (kept : LiveEvents) → events_of kept ≡ [] → kept.index.blocks.items ≡ [] → IsEmpty kept.places → kept.flushes ≤ max_flushes → kept.entries ≤ kept.flushes * (max_live + 1) → IsSound kept
sound_empty kept events blocks places few bounded =
    sound_bare kept events (no_index kept.index.blocks.items blocks) (no_spans (spans_of kept.index.blocks.items) (ap spans_of blocks)) (no_places kept.places places) few bounded

pub sound_new : (kept : LiveEvents) → events_of kept ≡ [] → kept.index.blocks.items ≡ [] → IsEmpty kept.places → kept.entries ≡ 0 → kept.flushes ≡ 0 → IsSound kept
sound_new kept events blocks places entries flushes = sound_empty kept events blocks places (omega (arith, flushes)) (omega (arith, entries))

few_flushed : (old new : LiveEvents) → IsSound old → old.flushes < max_flushes → new.entries ≡ old.entries + 1 → new.flushes ≡ old.flushes + 1
    → (new.flushes ≤ max_flushes) × (new.entries ≤ new.flushes * (max_live + 1))
few_flushed old new sound room entries flushes =
    let few = sound.few in let bounded = sound.bounded in
    (omega (arith, flushes, room), subst (λ f. new.entries ≤ f * (max_live + 1)) (sym flushes) (omega (arith, entries, few, bounded)))

pub sound_flushed : (old new : LiveEvents) → IsSound old → old.flushes < max_flushes → events_of new ≡ [] → new.index.blocks.items ≡ [] → IsEmpty new.places
    → new.entries ≡ old.entries + 1 → new.flushes ≡ old.flushes + 1 → IsSound new
sound_flushed old new sound room events blocks places entries flushes =
    let few = few_flushed old new sound room entries flushes in sound_empty new events blocks places few.0 few.1

-- what has no live events stands in place of what was live
pub sound_swapped : (old bare new : LiveEvents) → IsSound old → old.flushes < max_flushes → IsSound bare → events_of bare ≡ [] → new.events ≡ bare.events → new.places ≡ bare.places → new.index ≡ bare.index
    → new.entries ≡ old.entries + 1 → new.flushes ≡ old.flushes + 1 → IsSound new
sound_swapped old bare new sound room kept none events places index entries flushes =
    let few = few_flushed old new sound room entries flushes in
    let live : events_of new ≡ [] = cc in
    sound_bare new live
    (subst (λ (i : NearIndex). IsNearIndex i.blocks.items) (sym index) kept.index)
    (subst (λ (i : NearIndex). HaveSpans [] (spans_of i.blocks.items)) (sym index) (subst (λ es. HaveSpans es (spans_of bare.index.blocks.items)) none kept.spans))
    (subst (λ (m : BTreeMap ℕ ℕ). ArePlaces m []) (sym places) (subst (ArePlaces bare.places) none kept.places))
    few.0 few.1
