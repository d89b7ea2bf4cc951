-- Live events, their places and their spans.
use Rattle.std.proofs.Common.{◌≡◌, ◌≢◌, ℕ, ◌+◌, ◌<◌, ◌≤◌, ℤ, Bool, true, false, cond, List, [], ◌∷◌, ◌++◌, length, map, get_or, take, refl, sym, ap, subst, ◌∙◌, arith, ◌⊎◌, ⊎_elim, Option, Some, None, IsPermutation}
use Rattle.std.specs.Prelude.{◌==◌, slice_get}
use Rattle.std.specs.List.{All, Contains, position_from}
use Rattle.std.proofs.lemmas.Bool.{cases_Bool}
use Rattle.std.proofs.lemmas.Bool.Decides.{nat_tests}
use Rattle.std.proofs.lemmas.List.{length_push, get_or_append_left, get_or_push, map_push, take_all, take_more}
use Rattle.std.proofs.lemmas.List.Elements.{All-nil, All-cons, All-head, All-tail, All-map, All-contains, Contains-get_or, Contains-append_left, Contains-append_right, Contains-append_cases}
use Rattle.std.proofs.lemmas.Option.{slice_get_within, slice_get-get_or, get_or_from_slice_get}
use Rattle.ass_events.specs.declared.event.Event.{Event}
use Rattle.ass_events.specs.Histories.{HaveOwnOrders, Pairwise}
use Rattle.ass_events.specs.NearEvents.{IsEarlier, IsNear, Shown, Chained, AreNear, Span, span_of}
use Rattle.near_events.specs.declared.spans.EventSpan.{EventSpan}
use Rattle.near_events.specs.Spans.{AreNearSpans, AreSpansInOrder, IsSpanOf, event_span, span_at, spans_from}
use Rattle.near_events.proofs.Lists.{get_from_there, same_some}
use Rattle.near_events.proofs.NearSpans.{HaveSpans, all_spans_near, event_near, near_itself, near_there, spans_more}
use Rattle.near_events.proofs.Pairs.{Contains-head, Contains-tail, Contains-cons_cases}
use Rattle.near_events.proofs.Sorts.{Differ}
use Rattle.track_history.specs.Blocks.{IsInserted}
use Rattle.track_history.specs.Answers.{position_of}

some_none : (k : ℕ) → Some k ≡ None → ⊥
some_none k e = cc

-- ---- places by ReadOrder
module _ {X : Type 0} (t : X → Bool) where
  position_kept : (i : ℕ) (xs : List X) (x : X) → t x ≡ false → position_from t i (xs ++ x ∷ []) ≡ position_from t i xs
  position_kept i [] x fail = ap (λ b. cond b (Some i) None) fail
  position_kept i (y ∷ ys) x fail = ap (λ o. cond (t y) (Some i) o) (position_kept (i + 1) ys x fail)

  position_new : (i : ℕ) (xs : List X) (x : X) → t x ≡ true → position_from t i xs ≡ None → position_from t i (xs ++ x ∷ []) ≡ Some (i + length xs)
  position_new i [] x pass none = let same : i ≡ i + 0 = omega arith in ap (λ b. cond b (Some i) None) pass ∙ ap Some same
  position_new i (y ∷ ys) x pass none =
      ⊎_elim (λ e. let some : position_from t i (y ∷ ys) ≡ Some i = ap (λ b. cond b (Some i) (position_from t (i + 1) ys)) e in absurd (let fail : Some i ≡ None = sym some ∙ none in some_none i fail))
      (λ e. let rest : position_from t (i + 1) ys ≡ None = sym (ap (λ b. cond b (Some i) (position_from t (i + 1) ys)) e) ∙ none in
      let same : (i + 1) + length ys ≡ i + length (y ∷ ys) = omega arith in
      ap (λ b. cond b (Some i) (position_from t (i + 1) (ys ++ x ∷ []))) e ∙ (position_new (i + 1) ys x pass rest ∙ ap Some same))
      (cases_Bool (t y))

  position_none : (i : ℕ) (xs : List X) → position_from t i xs ≡ None → All (λ x. t x ≡ false) xs
  position_none i [] none = All-nil (λ x. t x ≡ false)
  position_none i (y ∷ ys) none =
      ⊎_elim (λ e. absurd (let fail : Some i ≡ None = sym (ap (λ b. cond b (Some i) (position_from t (i + 1) ys)) e) ∙ none in some_none i fail))
      (λ e. All-cons (λ x. t x ≡ false) y ys e (position_none (i + 1) ys (sym (ap (λ b. cond b (Some i) (position_from t (i + 1) ys)) e) ∙ none)))
      (cases_Bool (t y))

  position_within : (i : ℕ) (xs : List X) (k : ℕ) → position_from t i xs ≡ Some k → k < i + length xs
  position_within i [] k e = absurd (some_none k (sym e))
  position_within i (y ∷ ys) k e =
      ⊎_elim (λ pass. let is : Some i ≡ Some k = sym (ap (λ b. cond b (Some i) (position_from t (i + 1) ys)) pass) ∙ e in let same : i ≡ k = cc in omega (arith, same))
      (λ fail. let rest = position_within (i + 1) ys k (sym (ap (λ b. cond b (Some i) (position_from t (i + 1) ys)) fail) ∙ e) in omega (arith, rest))
      (cases_Bool (t y))

pub position_absent : (order : ℕ) (events : List Event) → position_of order events ≡ None → All (λ e. e.order ≢ order) events
position_absent order events none =
    let all = position_none (λ (e : Event). e.order == order) 0 events none in
    λ k d lt same. let test = all k d lt in grind (arith, nat_tests)

pub position_of_within : (order : ℕ) (events : List Event) (k : ℕ) → position_of order events ≡ Some k → k < length events
position_of_within order events k e = let h = position_within (λ (e : Event). e.order == order) 0 events k e in omega (arith, h)

pub position_of_other : (order : ℕ) (events : List Event) (e : Event) → e.order ≢ order → position_of order (events ++ e ∷ []) ≡ position_of order events
position_of_other order events e other = position_kept (λ (e : Event). e.order == order) 0 events e (grind (arith, nat_tests))

pub position_of_new : (events : List Event) (e : Event) → position_of e.order events ≡ None → position_of e.order (events ++ e ∷ []) ≡ Some (length events)
position_of_new events e none =
    let same : 0 + length events ≡ length events = omega arith in
    position_new (λ (a : Event). a.order == e.order) 0 events e (grind (arith, nat_tests)) none ∙ ap Some same

-- ---- the spans of live events
slice_get-left : {X : Type 0} (xs : List X) (y : X) (k : ℕ) → k < length xs → slice_get (xs ++ y ∷ []) k ≡ slice_get xs k
slice_get-left xs y k lt =
    let more = length_push xs y in
    slice_get-get_or (xs ++ y ∷ []) k y (omega (arith, lt, more)) ∙ (ap Some (get_or_append_left xs (y ∷ []) y k lt) ∙ sym (slice_get-get_or xs k y lt))

slice_get-last : {X : Type 0} (xs : List X) (y : X) → slice_get (xs ++ y ∷ []) (length xs) ≡ Some y
slice_get-last xs y = let more = length_push xs y in slice_get-get_or (xs ++ y ∷ []) (length xs) y (omega (arith, more)) ∙ ap Some (get_or_push xs y y (length xs) refl)

below_or_at : (k n : ℕ) → k < n + 1 → (k < n) ⊎ (k ≡ n)
below_or_at k n h = grind arith

pub spans_pushed : (events : List Event) (e : Event) (old new : List EventSpan) (x : EventSpan) → HaveSpans events old → IsInserted old x new → x ≡ event_span e (length events) → HaveSpans (events ++ e ∷ []) new
spans_pushed events e old new x have put is s = (there, back)
  where
    known : Contains old s → IsSpanOf (events ++ e ∷ []) s
    known c = let own = (have s).0 c in record { event = own.event; stands = slice_get-left events e s.place (slice_get_within events s.place own.event own.stands) ∙ own.stands; span = own.span }

    in_old : Contains (put.front ++ put.back) s → Contains old s
    in_old c = subst (λ z. Contains z s) (sym put.was) c

    there : Contains new s → IsSpanOf (events ++ e ∷ []) s
    there c =
        ⊎_elim (λ a. known (in_old (Contains-append_left put.front put.back s a)))
        (λ b. ⊎_elim
        (λ same. subst (IsSpanOf (events ++ e ∷ [])) (sym is ∙ same) record { event = e; stands = slice_get-last events e; span = refl })
        (λ later. known (in_old (Contains-append_right put.front put.back s later))) (Contains-cons_cases x put.back s b))
        (Contains-append_cases put.front (x ∷ put.back) s (subst (λ z. Contains z s) put.is c))

    kept : Contains old s → Contains new s
    kept c = subst (λ z. Contains z s) (sym put.is)
        (⊎_elim (λ a. Contains-append_left put.front (x ∷ put.back) s a) (λ b. Contains-append_right put.front (x ∷ put.back) s (Contains-tail x put.back s b))
        (Contains-append_cases put.front put.back s (subst (λ z. Contains z s) put.was c)))

    itself : Contains new x
    itself = subst (λ z. Contains z x) (sym put.is) (Contains-append_right put.front (x ∷ put.back) x (Contains-head x put.back))

    back : IsSpanOf (events ++ e ∷ []) s → Contains new s
    back own =
        let within = slice_get_within (events ++ e ∷ []) s.place own.event own.stands in let more = length_push events e in
        ⊎_elim (λ lt. kept ((have s).1 record { event = own.event; stands = sym (slice_get-left events e s.place lt) ∙ own.stands; span = own.span }))
        (λ at. let event : own.event ≡ e = same_some own.event e (sym own.stands ∙ (ap (slice_get (events ++ e ∷ [])) at ∙ slice_get-last events e)) in
        let same : s ≡ x = own.span ∙ (ap (λ (z : Event). event_span z s.place) event ∙ (ap (event_span e) at ∙ sym is)) in
        subst (Contains new) (sym same) itself)
        (below_or_at s.place (length events) (omega (arith, within, more)))

pub no_spans : (spans : List EventSpan) → spans ≡ [] → HaveSpans [] spans
no_spans spans is s = (
  (λ c. absurd (let none = subst (λ z. Contains z s) is c in omega (arith, none.1))),
  (λ own. absurd (let within = slice_get_within [] s.place own.event own.stands in omega (arith, within))),
)

-- a new event's ReadOrder is fail span's
pub new_order : (events : List Event) (spans : List EventSpan) (order : ℕ) → HaveSpans events spans → position_of order events ≡ None → All (λ s. s.order ≢ order) spans
new_order events spans order have none = λ k d lt same.
    let s = get_or spans k d in
    let own = (have s).0 (Contains-get_or spans k d lt) in
    let event = own.event in
    let held : Contains events event = (s.place, slice_get_within events s.place event own.stands, get_or_from_slice_get events s.place event event own.stands) in
    let order_is : s.order ≡ event.order = ap (λ (z : EventSpan). z.order) own.span in
    All-contains (λ a. a.order ≢ order) events event (position_absent order events none) held (sym order_is ∙ same)

-- ---- what matters among the spans, and among the events
nil_cons : {Y : Type 0} (y : Y) (ys : List Y) → [] ≡ y ∷ ys → ⊥
nil_cons y ys e = cc

all_back : {X Y : Type 0} (f : X → Y) (P : Y → Type 0) (xs : List X) → All P (map f xs) → All (λ x. P (f x)) xs
all_back f P [] h = All-nil (λ x. P (f x))
all_back f P (x ∷ xs) h = All-cons (λ x. P (f x)) x xs (All-head P (f x) (map f xs) h) (all_back f P xs (All-tail P (f x) (map f xs) h))

pairwise_map : {X Y : Type 0} (f : X → Y) (R : Y → Y → Type 0) (xs : List X) → Pairwise (λ a b. R (f a) (f b)) xs → Pairwise R (map f xs)
pairwise_map f R [] h = tt
pairwise_map f R (x ∷ xs) h = (All-map (R (f x)) f xs h.0, pairwise_map f R xs h.1)

pairwise_back : {X Y : Type 0} (f : X → Y) (R : Y → Y → Type 0) (xs : List X) → Pairwise R (map f xs) → Pairwise (λ a b. R (f a) (f b)) xs
pairwise_back f R [] h = tt
pairwise_back f R (x ∷ xs) h = (all_back f (R (f x)) xs h.0, pairwise_back f R xs h.1)

-- the events at the places of these spans
abbrev pub AreEventsAt : List Event → List EventSpan → List Event → Type 0
AreEventsAt events found near = map (λ (s : EventSpan). slice_get events s.place) found ≡ map Some near

module _ (events : List Event) (spans : List EventSpan) (have : HaveSpans events spans) (t : ℤ) where
  span_near : (e : Event) → IsNear span_of events t e → (k : ℕ) × (slice_get events k ≡ Some e) × IsNear span_at spans t (event_span e k)
  span_near e (Shown there shown) =
      let at = get_from_there events e there in
      (at.0, at.1, Shown ((have (event_span e at.0)).1 record { event = e; stands = at.1; span = refl }) shown)
  span_near e (Chained {e = f} near there before over) =
      let at = get_from_there events e there in let other = span_near f near in
      (at.0, at.1, Chained other.2 ((have (event_span e at.0)).1 record { event = e; stands = at.1; span = refl }) before over)

  spans_same : (found : List EventSpan) (near : List Event) → AreEventsAt events found near → ((s : EventSpan) → Contains found s → IsSpanOf events s) → map span_at found ≡ map span_of near
  spans_same [] [] at own = refl
  spans_same [] (e ∷ es) at own = absurd (nil_cons (Some e) (map Some es) at)
  spans_same (s ∷ ss) [] at own = absurd (nil_cons (slice_get events s.place) (map (λ (s : EventSpan). slice_get events s.place) ss) (sym at))
  spans_same (s ∷ ss) (e ∷ es) at own =
      let head : slice_get events s.place ≡ Some e = cc in
      let tail : map (λ (s : EventSpan). slice_get events s.place) ss ≡ map Some es = cc in
      let mine = own s (Contains-head s ss) in
      let event : mine.event ≡ e = same_some mine.event e (sym mine.stands ∙ head) in
      let first : span_at s ≡ span_of e = ap span_at mine.span ∙ ap span_of event in
      let rest = spans_same ss es tail (λ z c. own z (Contains-tail s ss z c)) in
      ap (λ z. z ∷ map span_at ss) first ∙ ap (λ z. span_of e ∷ z) rest

  event_at : (found : List EventSpan) (near : List Event) → AreEventsAt events found near → (e : Event) → Contains near e → (s : EventSpan) × Contains found s × (slice_get events s.place ≡ Some e)
  event_at [] [] at e c = absurd (omega (arith, c.1))
  event_at [] (f ∷ fs) at e c = absurd (nil_cons (Some f) (map Some fs) at)
  event_at (s ∷ ss) [] at e c = absurd (omega (arith, c.1))
  event_at (s ∷ ss) (f ∷ fs) at e c =
      let head : slice_get events s.place ≡ Some f = cc in
      let tail : map (λ (s : EventSpan). slice_get events s.place) ss ≡ map Some fs = cc in
      ⊎_elim (λ is. (s, Contains-head s ss, head ∙ ap Some is)) (λ later. let r = event_at ss fs tail e later in (r.0, Contains-tail s ss r.0 r.1, r.2)) (Contains-cons_cases f fs e c)

  at_event : (found : List EventSpan) (near : List Event) → AreEventsAt events found near → (s : EventSpan) (e : Event) → Contains found s → slice_get events s.place ≡ Some e → Contains near e
  at_event [] near at s e c is = absurd (omega (arith, c.1))
  at_event (x ∷ xs) [] at s e c is = absurd (nil_cons (slice_get events x.place) (map (λ (s : EventSpan). slice_get events s.place) xs) (sym at))
  at_event (x ∷ xs) (f ∷ fs) at s e c is =
      let head : slice_get events x.place ≡ Some f = cc in
      let tail : map (λ (s : EventSpan). slice_get events s.place) xs ≡ map Some fs = cc in
      ⊎_elim (λ same. subst (Contains (f ∷ fs)) (same_some f e (sym head ∙ (ap (λ (z : EventSpan). slice_get events z.place) same ∙ is))) (Contains-head f fs))
      (λ later. Contains-tail f fs e (at_event xs fs tail s e later is)) (Contains-cons_cases x xs s c)

  -- a relation of the spans of events holds of what was found as of the events
  moved_to_events : (R : Span → Span → Type 0) (found : List EventSpan) (near : List Event) → AreNear span_at spans t found → AreEventsAt events found near
      → Pairwise (λ a b. R (span_at a) (span_at b)) found → Pairwise (λ e f. R (span_of e) (span_of f)) near
  moved_to_events R found near are at h =
      pairwise_back span_of R near
      (subst (Pairwise R) (spans_same found near at (λ s c. (have s).0 (near_there span_at spans t s ((are.members s).0 c)))) (pairwise_map span_at R found h))

  pub near_orders_differ : (found : List EventSpan) (near : List Event) → AreNear span_at spans t found → AreEventsAt events found near → Pairwise Differ found → HaveOwnOrders near
  near_orders_differ found near are at differ = moved_to_events (λ (a b : Span). a.order ≢ b.order) found near are at differ

  pub are_near_events : (found : List EventSpan) (near : List Event) → AreNear span_at spans t found → AreEventsAt events found near → AreNear span_of events t near
  are_near_events found near are at =
      let own : (s : EventSpan) → Contains found s → IsSpanOf events s = λ s c. (have s).0 (near_there span_at spans t s ((are.members s).0 c)) in
      record {
        members = λ e. (
          (λ c. let r = event_at found near at e c in
              let mine = own r.0 r.1 in
              subst (IsNear span_of events t) (same_some mine.event e (sym mine.stands ∙ r.2)) (event_near events spans have t r.0 ((are.members r.0).0 r.1) mine)),
          (λ n. let r = span_near e n in at_event found near at (event_span e r.0) e ((are.members (event_span e r.0)).1 r.2) r.1),
        );
        sorted = moved_to_events IsEarlier found near are at are.sorted;
      }

-- ---- a loop over what was found
pub events_more : (events : List Event) (found : List EventSpan) (near : List Event) (i : ℕ) (s : EventSpan) (e : Event) → i < length found → s ≡ get_or found i s → AreEventsAt events (take i found) near
    → slice_get events s.place ≡ Some e → AreEventsAt events (take (i + 1) found) (near ++ e ∷ [])
events_more events found near i s e lt is h at =
    let f : EventSpan → Option Event = λ (z : EventSpan). slice_get events z.place in
    let more : take (i + 1) found ≡ take i found ++ s ∷ [] = take_more found i s lt ∙ ap (λ z. take i found ++ z ∷ []) (sym is) in
    ap (map f) more ∙ (map_push f (take i found) s ∙ (ap (λ z. z ++ f s ∷ []) h ∙ (ap (λ z. map Some near ++ z ∷ []) at ∙ sym (map_push Some near e))))

pub place_within : (events : List Event) (spans : List EventSpan) (t : ℤ) (found read : List EventSpan) (k : ℕ) (s : EventSpan) → HaveSpans events spans → AreNear span_at spans t found → read ≡ found
    → k < length read → s ≡ get_or read k s → s.place < length events
place_within events spans t found read k s have are same lt is =
    let own = (have s).0 (near_there span_at spans t s ((are.members s).0 (subst (λ z. Contains z s) same (k, lt, sym is)))) in slice_get_within events s.place own.event own.stands

-- one more of the spans that were found, with its new place
pub found_more : (events : List Event) (spans : List EventSpan) (t : ℤ) (found read : List EventSpan) (k : ℕ) (s : EventSpan) → HaveSpans events spans → AreNear span_at spans t found → read ≡ found
    → k < length read → s ≡ get_or read k s → (e : Event) → slice_get events s.place ≡ Some e → (near : List Event) (n : ℕ) → n ≡ length near
    → spans_from 0 (near ++ e ∷ []) ≡ spans_from 0 near ++ (record s { place = n }) ∷ []
found_more events spans t found read k s have are same lt is e at near n count =
    let own = (have s).0 (near_there span_at spans t s ((are.members s).0 (subst (λ z. Contains z s) same (k, lt, sym is)))) in
    let event : own.event ≡ e = same_some own.event e (sym own.stands ∙ at) in
    let span : s ≡ event_span e s.place = own.span ∙ ap (λ (z : Event). event_span z s.place) event in
    let place : 0 + length near ≡ n = omega (arith, count) in
    spans_more 0 near e ∙ ap (λ z. spans_from 0 near ++ z ∷ []) (ap (event_span e) place ∙ sym (ap (λ (z : EventSpan). record z { place = n }) span))

module _ (events : List Event) (spans : List EventSpan) (t : ℤ) (found read : List EventSpan) (near : List Event) (i : ℕ) (have : HaveSpans events spans) (are : AreNear span_at spans t found) (same : read ≡ found)
    (all : length read ≤ i) (at : AreEventsAt events (take i read) near) where
  at_all : AreEventsAt events found near
  at_all = subst (λ z. AreEventsAt events z near) (take_all i read all ∙ same) at

  pub near_at_end : AreNear span_of events t near
  near_at_end = are_near_events events spans have t found near are at_all

  pub spans_at_end : Pairwise Differ found → (old sorted : List EventSpan) → old ≡ spans_from 0 near → IsPermutation old sorted → AreSpansInOrder sorted → AreNearSpans near t sorted
  spans_at_end differ old sorted is moved ordered =
      let members = near_at_end.members in
      all_spans_near near t old sorted (near_orders_differ events spans have t found near are at_all differ)
      (λ e c. near_itself span_of events near t (λ e n. (members e).1 n) e ((members e).0 c)) is moved ordered
