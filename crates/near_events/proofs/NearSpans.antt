-- The spans that a walk finds are those of the events that matter.
use Rattle.std.proofs.Common.{◌≡◌, ◌≢◌, ℕ, zero, suc, ◌+◌, ◌<◌, ◌≤◌, ℤ, pos, ◌<ℤ◌, ◌≤ℤ◌, Bool, true, false, cond, List, [], ◌∷◌, ◌++◌, length, get_or, map, take, refl, sym, ap, subst, ◌∙◌, arith, ⊎_elim, Some, IsPermutation}
use Rattle.std.specs.Prelude.{slice_get, ◌↔◌, reverse}
use Rattle.std.specs.List.{All, Contains, filter}
use Rattle.std.proofs.lemmas.Int.{ints}
use Rattle.std.proofs.lemmas.List.{length_push, length-reverse, map_push, reverse-append, take_more}
use Rattle.std.proofs.lemmas.List.Elements.{All-nil, All-cons, All-filter, All-head, All-tail, All-contains, All-push, All-weaker, Contains-get_or}
use Rattle.std.proofs.lemmas.List.Sorted.{Contains-permutation, IsPermutation-sym, IsPermutation-reverse, length_permutation}
use Rattle.ass_events.specs.declared.event.Event.{Event}
use Rattle.ass_events.specs.Histories.{HaveOwnOrders, Pairwise}
use Rattle.ass_events.specs.Ranges.{IsEvent}
use Rattle.ass_events.specs.NearEvents.{ComesBefore, IsShownAt, IsNear, Shown, Chained, Span, span_of}
use Rattle.near_events.specs.declared.spans.EventSpan.{EventSpan}
use Rattle.near_events.specs.Bounds.{IsBound, is_behind}
use Rattle.near_events.specs.Spans.{AreSpansInOrder, AreNearSpans, IsSpanOf, StandsBefore, event_span, span_at, spans_from}
use Rattle.near_events.specs.Walks.{all_walked}
use Rattle.near_events.proofs.Lists.{from_filter, in_filter, there_from_get, get_from_there, same_some}
use Rattle.near_events.proofs.Nears.{found_near, found_there, near_found, step_cases}
use Rattle.near_events.proofs.Orders.{earlier_start}
use Rattle.near_events.proofs.Pairs.{Contains-nil, Contains-head, Contains-tail, Contains-cons_cases}
use Rattle.near_events.proofs.Sorts.{Differ, differ_moved, strictly}

-- what stands for a span that isn't there
abbrev pub no_span : EventSpan
no_span = record { layer = pos 0; start = pos 0; end = pos 0; order = 0; place = 0 }

-- ---- the spans of events
abbrev IsFrom : ℕ → List Event → EventSpan → Type 0
IsFrom place events s = (k : ℕ) × (e : Event) × (slice_get events k ≡ Some e) × (s ≡ event_span e (place + k))

span_from : (place : ℕ) (events : List Event) (s : EventSpan) → Contains (spans_from place events) s → IsFrom place events s
span_from place [] s c = absurd (Contains-nil s c)
span_from place (e ∷ es) s c =
    ⊎_elim (λ is. let same : place ≡ place + 0 = omega arith in (0, e, refl, sym is ∙ ap (event_span e) same))
    (λ later. let r = span_from (place + 1) es s later in
    let same : (place + 1) + r.0 ≡ place + suc r.0 = omega arith in
    (suc r.0, r.1, r.2, r.3 ∙ ap (event_span r.1) same))
    (Contains-cons_cases (event_span e place) (spans_from (place + 1) es) s c)

span_there : (place : ℕ) (events : List Event) (k : ℕ) (e : Event) → slice_get events k ≡ Some e → Contains (spans_from place events) (event_span e (place + k))
span_there place [] k e is = absurd (Contains-nil e (there_from_get [] k e is))
span_there place (x ∷ xs) zero e is =
    let same : place ≡ place + 0 = omega arith in
    subst (Contains (spans_from place (x ∷ xs))) (ap (λ (z : Event). event_span z place) (same_some x e is) ∙ ap (event_span e) same) (Contains-head (event_span x place) (spans_from (place + 1) xs))
span_there place (x ∷ xs) (suc k) e is =
    let same : (place + 1) + k ≡ place + suc k = omega arith in
    Contains-tail (event_span x place) (spans_from (place + 1) xs) (event_span e (place + suc k))
    (subst (λ n. Contains (spans_from (place + 1) xs) (event_span e n)) same (span_there (place + 1) xs k e is))

all_differ : (order place : ℕ) (events : List Event) → All (λ (e : Event). order ≢ e.order) events → All (λ (s : EventSpan). order ≢ s.order) (spans_from place events)
all_differ order place [] h = All-nil (λ (s : EventSpan). order ≢ s.order)
all_differ order place (e ∷ es) h =
    All-cons (λ (s : EventSpan). order ≢ s.order) (event_span e place) (spans_from (place + 1) es) (All-head (λ (e : Event). order ≢ e.order) e es h)
    (all_differ order (place + 1) es (All-tail (λ (e : Event). order ≢ e.order) e es h))

pub spans_differ : (place : ℕ) (events : List Event) → HaveOwnOrders events → Pairwise Differ (spans_from place events)
spans_differ place [] h = tt
spans_differ place (e ∷ es) h = (all_differ e.order (place + 1) es h.0, spans_differ (place + 1) es h.1)

pub spans_many : (place : ℕ) (events : List Event) → length (spans_from place events) ≡ length events
spans_many place [] = refl
spans_many place (e ∷ es) = let rest = spans_many (place + 1) es in omega (arith, rest)

-- one more event
pub spans_more : (place : ℕ) (events : List Event) (e : Event) → spans_from place (events ++ e ∷ []) ≡ spans_from place events ++ event_span e (place + length events) ∷ []
spans_more place [] e = let same : place ≡ place + 0 = omega arith in ap (λ n. event_span e n ∷ []) same
spans_more place (x ∷ xs) e =
    let same : (place + 1) + length xs ≡ place + length (x ∷ xs) = omega arith in
    ap (λ z. event_span x place ∷ z) (spans_more (place + 1) xs e ∙ ap (λ n. spans_from (place + 1) xs ++ event_span e n ∷ []) same)

-- one more of what is seen as an event
pub spans_step : {A : Type 0} (v : A → Event) (xs : List A) (k n : ℕ) (a : A) (old new : List EventSpan) (s : EventSpan) (e : Event) → k < length xs → a ≡ get_or xs k a → e ≡ v a
    → old ≡ spans_from 0 (map v (take k xs)) → n ≡ length old → s ≡ event_span e n → new ≡ old ++ s ∷ [] → new ≡ spans_from 0 (map v (take (k + 1) xs))
spans_step v xs k n a old new s e lt is seen was count span pushed =
    let front = map v (take k xs) in
    let more : map v (take (k + 1) xs) ≡ front ++ v a ∷ [] = ap (map v) (take_more xs k a lt ∙ ap (λ z. take k xs ++ z ∷ []) (sym is)) ∙ map_push v (take k xs) a in
    let all : spans_from 0 (map v (take (k + 1) xs)) ≡ spans_from 0 front ++ event_span (v a) (0 + length front) ∷ [] = ap (spans_from 0) more ∙ spans_more 0 front (v a) in
    let many = spans_many 0 front in
    let long : length old ≡ length (spans_from 0 front) = ap length was in
    let place : n ≡ 0 + length front = omega (arith, count, long, many) in
    let last : s ≡ event_span (v a) (0 + length front) = span ∙ (ap (λ (z : Event). event_span z n) seen ∙ ap (event_span (v a)) place) in
    pushed ∙ (ap (λ z. z ++ s ∷ []) was ∙ (ap (λ z. spans_from 0 front ++ z ∷ []) last ∙ sym all))

-- ---- what a walk finds, from the front
walked_less : (t : ℤ) (xs : List EventSpan) → length (all_walked t xs).found ≤ length xs
walked_less t [] = omega arith
walked_less t (x ∷ xs) =
    let w = all_walked t xs in
    let rest = walked_less t xs in
    step_cases (λ v. length v.found ≤ length (x ∷ xs)) t w x (λ e. let more = length_push w.found x in omega (arith, more, rest)) (λ e. omega (arith, rest))

in_reverse : (xs : List EventSpan) (s : EventSpan) → Contains xs s → Contains (reverse xs) s
in_reverse xs s c = Contains-permutation xs (reverse xs) s (IsPermutation-reverse xs) c

from_reverse : (xs : List EventSpan) (s : EventSpan) → Contains (reverse xs) s → Contains xs s
from_reverse xs s c = Contains-permutation (reverse xs) xs s (IsPermutation-sym xs (reverse xs) (IsPermutation-reverse xs)) c

walked_sorted : (t : ℤ) (xs : List EventSpan) → Pairwise StandsBefore xs → Pairwise StandsBefore (reverse (all_walked t xs).found)
walked_sorted t [] h = tt
walked_sorted t (x ∷ xs) h =
    let w = all_walked t xs in
    let rest = walked_sorted t xs h.1 in
    step_cases (λ v. Pairwise StandsBefore (reverse v.found)) t w x
    (λ e. subst (Pairwise StandsBefore) (sym (reverse-append w.found (x ∷ []))) (
      λ k d lt. All-contains (StandsBefore x) xs (get_or (reverse w.found) k d) h.0
          (found_there t xs (get_or (reverse w.found) k d) (from_reverse w.found (get_or (reverse w.found) k d) (Contains-get_or (reverse w.found) k d lt))).0,
      rest,
    ))
    (λ e. rest)

-- ---- what matters among the spans, and among the events
abbrev pub HaveSpans : List Event → List EventSpan → Type 0
HaveSpans events spans = (s : EventSpan) → Contains spans s ↔ IsSpanOf events s

pub have_spans : (events : List Event) → HaveSpans events (spans_from 0 events)
have_spans events s =
    let all = spans_from 0 events in (
      (λ c. let r = span_from 0 events s c in
          let same : 0 + r.0 ≡ r.0 = omega arith in
          let is : s ≡ event_span r.1 r.0 = r.3 ∙ ap (event_span r.1) same in
          let place : r.0 ≡ s.place = sym (ap (λ (z : EventSpan). z.place) is) in
          record { event = r.1; stands = subst (λ n. slice_get events n ≡ Some r.1) place r.2; span = subst (λ n. s ≡ event_span r.1 n) place is }),
      (λ own. let same : 0 + s.place ≡ s.place = omega arith in
          subst (Contains all) (ap (event_span own.event) same ∙ sym own.span) (span_there 0 events s.place own.event own.stands)),
    )

pub near_there : {E : Type 0} (span : E → Span) (all : List E) (t : ℤ) (e : E) → IsNear span all t e → Contains all e
near_there span all t e (Shown there shown) = there
near_there span all t e (Chained near there before over) = there

module _ (events : List Event) (spans : List EventSpan) (have : HaveSpans events spans) (t : ℤ) where
  pub event_near : (s : EventSpan) → IsNear span_at spans t s → (own : IsSpanOf events s) → IsNear span_of events t own.event
  event_near s (Shown there shown) own = Shown (there_from_get events s.place own.event own.stands) (subst (λ z. IsShownAt z t) (ap span_at own.span) shown)
  event_near s (Chained {e = e} near there before over) own =
      let other = (have e).0 (near_there span_at spans t e near) in
      Chained (event_near e near other) (there_from_get events s.place own.event own.stands)
      (subst (λ z. ComesBefore z (span_of other.event)) (ap span_at own.span) (subst (ComesBefore (span_at s)) (ap span_at other.span) before))
      (subst (λ (z : Span). (span_of other.event).start <ℤ z.end) (ap span_at own.span) (subst (λ (z : Span). z.start <ℤ s.end) (ap span_at other.span) over))

  spanned : (k : ℕ) (e : Event) → slice_get events k ≡ Some e → Contains spans (event_span e k)
  spanned k e at = (have (event_span e k)).1 record { event = e; stands = at; span = refl }

  span_near : (e : Event) → IsNear span_of events t e → (k : ℕ) → slice_get events k ≡ Some e → IsNear span_at spans t (event_span e k)
  span_near e (Shown there shown) k at = Shown (spanned k e at) shown
  span_near e (Chained {e = f} near there before over) k at =
      let place = get_from_there events f (near_there span_of events t f near) in
      Chained (span_near f near place.0 place.1) (spanned k e at) before over

-- ---- spans that are behind a bound
behind_lower : (t low from : ℤ) (s : EventSpan) → low ≤ℤ from → is_behind t from s ≡ true → is_behind t low s ≡ true
behind_lower t low from s le h = grind (arith, ints)

-- one more span
pub lowered_more : (t from low next : ℤ) (spans : List EventSpan) (k : ℕ) (s : EventSpan) → k < length spans → s ≡ get_or spans k s → low ≤ℤ from → next ≤ℤ low → (is_behind t low s ≡ true → next ≤ℤ s.start)
    → All (λ (s : EventSpan). is_behind t from s ≡ true → low ≤ℤ s.start) (take k spans) → All (λ (s : EventSpan). is_behind t from s ≡ true → next ≤ℤ s.start) (take (k + 1) spans)
lowered_more t from low next spans k s lt is by down start old =
    let P : ℤ → EventSpan → Type 0 = λ z s. is_behind t from s ≡ true → z ≤ℤ s.start in
    let wider : All (P next) (take k spans) = All-weaker (P low) (P next) (λ x h b. let l = h b in omega (arith, ints, l, down)) (take k spans) old in
    let mine : P next s = λ b. start (behind_lower t low from s by b) in
    let more : take (k + 1) spans ≡ take k spans ++ s ∷ [] = take_more spans k s lt ∙ ap (λ z. take k spans ++ z ∷ []) (sym is) in
    subst (All (P next)) (sym more) (All-push (P next) (take k spans) s wider mine)

pub bound_is : (t low next : ℤ) (spans : List EventSpan) → low ≤ℤ t → next ≡ low → All (λ (s : EventSpan). is_behind t low s ≡ true → next ≤ℤ s.start) spans → IsBound t low spans
bound_is t low next spans by same all = record {
  by = by;
  all = subst (λ z. All (λ (s : EventSpan). is_behind t low s ≡ true → z ≤ℤ s.start) spans) same all;
}

pub lowest_is : (t low : ℤ) (spans : List EventSpan) → low ≤ℤ t → low ≤ℤ pos 0 → All (λ (s : EventSpan). pos 0 ≤ℤ s.start) spans → IsBound t low spans
lowest_is t low spans by zero_up all = record { by = by; all = λ k d lt b. let l = all k d lt in omega (arith, ints, l, zero_up) }

behind_parts : (t bound : ℤ) (s : EventSpan) → s.start ≤ℤ t → bound <ℤ s.end → is_behind t bound s ≡ true
behind_parts t bound s a b = grind (arith, ints)

earlier_by : (f e : EventSpan) (t : ℤ) → ComesBefore (span_at f) (span_at e) → e.start ≤ℤ t → f.start ≤ℤ t
earlier_by f e t before by = let start = earlier_start (span_at f) (span_at e) before.1 in omega (arith, ints, start, by)

-- what matters among all is behind the bound, and matters among what is
abbrev IsKept : ℤ → ℤ → List EventSpan → EventSpan → Type 0
IsKept t bound some s = IsNear span_at some t s × (bound ≤ℤ s.start) × (s.start ≤ℤ t)

near_kept : (t bound : ℤ) (all : List EventSpan) → IsBound t bound all → (s : EventSpan) → IsNear span_at all t s → IsKept t bound (filter (is_behind t bound) all) s
near_kept t bound all is _ (Shown {e} there shown) =
    let by = is.by in
    let over : bound <ℤ e.end = let last = shown.1 in omega (arith, ints, by, last) in
    let low = All-contains (λ (s : EventSpan). is_behind t bound s ≡ true → bound ≤ℤ s.start) all e is.all there (behind_parts t bound e shown.0 over) in
    (Shown (in_filter (is_behind t bound) all e there (behind_parts t bound e shown.0 over)) shown, low, shown.0)
near_kept t bound all is _ (Chained {e} {f} near there before over) =
    let kept = near_kept t bound all is e near in
    let floor = kept.1 in
    let start = earlier_by f e t before kept.2 in
    let last : bound <ℤ f.end = omega (arith, ints, floor, over) in
    let low = All-contains (λ (s : EventSpan). is_behind t bound s ≡ true → bound ≤ℤ s.start) all f is.all there (behind_parts t bound f start last) in
    (Chained kept.0 (in_filter (is_behind t bound) all f there (behind_parts t bound f start last)) before over, low, start)

near_wider : (t : ℤ) (some all : List EventSpan) → ((s : EventSpan) → Contains some s → Contains all s) → (s : EventSpan) → IsNear span_at some t s → IsNear span_at all t s
near_wider t some all over s (Shown there shown) = Shown (over s there) shown
near_wider t some all over s (Chained {e = e} near there before lasts) = Chained (near_wider t some all over e near) (over s there) before lasts

filter_differ : (p : EventSpan → Bool) (xs : List EventSpan) → Pairwise Differ xs → Pairwise Differ (filter p xs)
filter_differ p [] h = tt
filter_differ p (x ∷ xs) h =
    elim (p x) as (λ b. Pairwise Differ (cond b (x ∷ filter p xs) (filter p xs))) [ true ↦ (All-filter p (Differ x) xs h.0, filter_differ p xs h.1) | false ↦ filter_differ p xs h.1 ]

filter_less : (p : EventSpan → Bool) (xs : List EventSpan) → length (filter p xs) ≤ length xs
filter_less p [] = omega arith
filter_less p (x ∷ xs) =
    let rest = filter_less p xs in
    elim (p x) as (λ b. length (cond b (x ∷ filter p xs) (filter p xs)) ≤ length (x ∷ xs)) [ true ↦ omega (arith, rest) | false ↦ omega (arith, rest) ]

pub starts_from : (place : ℕ) (events : List Event) → All IsEvent events → All (λ (s : EventSpan). pos 0 ≤ℤ s.start) (spans_from place events)
starts_from place [] h = All-nil (λ (s : EventSpan). pos 0 ≤ℤ s.start)
starts_from place (e ∷ es) h =
    let first : pos 0 ≤ℤ e.start = let held = (All-head IsEvent e es h).start in grind (arith, ints) in
    All-cons (λ (s : EventSpan). pos 0 ≤ℤ s.start) (event_span e place) (spans_from (place + 1) es) first (starts_from (place + 1) es (All-tail IsEvent e es h))

pub near_spans_are : (events : List Event) (t bound : ℤ) (spans few sorted found : List EventSpan) → HaveOwnOrders events → spans ≡ spans_from 0 events → IsBound t bound spans
    → few ≡ filter (is_behind t bound) spans → IsPermutation few sorted → AreSpansInOrder sorted → found ≡ reverse (all_walked t sorted).found → AreNearSpans events t found
near_spans_are events t bound spans few sorted found orders is bounded few_is moved ordered found_is =
    let p = is_behind t bound in
    let all = spans_from 0 events in
    let bounds : IsBound t bound all = subst (IsBound t bound) is bounded in
    let kept : few ≡ filter p all = few_is ∙ ap (filter p) is in
    let moves : IsPermutation (filter p all) sorted = subst (λ z. IsPermutation z sorted) kept moved in
    let have = have_spans events in
    let up : Pairwise StandsBefore sorted = strictly sorted ordered (differ_moved (filter p all) sorted moves (filter_differ p all (spans_differ 0 events orders))) in
    let in_all : (s : EventSpan) → Contains sorted s → Contains all s =
    λ s c. (from_filter p all s (Contains-permutation sorted (filter p all) s (IsPermutation-sym (filter p all) sorted moves) c)).0 in
    let to_sorted : (s : EventSpan) → Contains (filter p all) s → Contains sorted s = λ s c. Contains-permutation (filter p all) sorted s moves c in
    let was : (s : EventSpan) → Contains found s → Contains (all_walked t sorted).found s =
    λ s c. from_reverse (all_walked t sorted).found s (subst (λ z. Contains z s) found_is c) in
    let near : (s : EventSpan) → Contains found s → IsNear span_at all t s =
    λ s c. near_wider t sorted all in_all s (near_found t sorted sorted up (λ y h. h) s (was s c)) in
    record {
      own = λ s c. (have s).0 (near_there span_at all t s (near s c));
      matters = λ s e c at.
          let own = (have s).0 (near_there span_at all t s (near s c)) in
          subst (IsNear span_of events t) (same_some own.event e (sym own.stands ∙ at)) (event_near events all have t s (near s c) own);
      all = λ k e at n.
          let s = event_span e k in
          let some = near_wider t (filter p all) sorted to_sorted s (near_kept t bound all bounds s (span_near events all have t e n k at)).0 in
          subst (λ z. Contains z s) (sym found_is) (in_reverse (all_walked t sorted).found s (found_near t sorted up s some));
      sorted = subst (Pairwise StandsBefore) (sym found_is) (walked_sorted t sorted up);
      few =
          let a : length found ≡ length (reverse (all_walked t sorted).found) = ap length found_is in
          let b = length-reverse (all_walked t sorted).found in
          let c = walked_less t sorted in
          let d : length sorted ≡ length (filter p all) = length_permutation (filter p all) sorted moves in
          let less = filter_less p all in
          let e = spans_many 0 events in
          omega (arith, a, b, c, d, less, e);
    }

-- What matters among all events matters among the events that do.
pub near_itself : {E : Type 0} (span : E → Span) (events near : List E) (t : ℤ) → ((e : E) → IsNear span events t e → Contains near e) → (e : E) → IsNear span events t e → IsNear span near t e
near_itself span events near t in_near _ (Shown {e} there shown) = Shown (in_near e (Shown there shown)) shown
near_itself span events near t in_near _ (Chained {e} {f} n there before over) = Chained (near_itself span events near t in_near e n) (in_near f (Chained n there before over)) before over

-- Where each of the events matters, these are all their spans.
pub all_spans_near : (events : List Event) (t : ℤ) (spans sorted : List EventSpan) → HaveOwnOrders events → ((e : Event) → Contains events e → IsNear span_of events t e)
    → spans ≡ spans_from 0 events → IsPermutation spans sorted → AreSpansInOrder sorted → AreNearSpans events t sorted
all_spans_near events t spans sorted orders near is moved ordered =
    let all = spans_from 0 events in
    let have = have_spans events in
    let moves : IsPermutation all sorted = subst (λ z. IsPermutation z sorted) is moved in
    let own : (s : EventSpan) → Contains sorted s → IsSpanOf events s = λ s c. (have s).0 (Contains-permutation sorted all s (IsPermutation-sym all sorted moves) c) in
    record {
      own = own;
      matters = λ s e c at. near e (there_from_get events s.place e at);
      all = λ k e at n. Contains-permutation all sorted (event_span e k) moves ((have (event_span e k)).1 record { event = e; stands = at; span = refl });
      sorted = strictly sorted ordered (differ_moved all sorted moves (spans_differ 0 events orders));
      few = let d : length sorted ≡ length all = length_permutation all sorted moves in let e = spans_many 0 events in omega (arith, d, e);
    }
