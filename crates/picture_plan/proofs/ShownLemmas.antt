-- The events that are shown, one more place at a time, and by layer, then ReadOrder.
use Rattle.std.proofs.Common.{Ordering, Less, Equal, Greater, ◌≡◌, ◌≢◌, ◌⊎◌, inl, inr, refl, sym, ap, subst, ◌∙◌, ℕ, zero, suc, ◌+◌, ◌<◌, ◌≤◌, Bool, true, false, cond, List, [], ◌∷◌, ◌++◌, length, map, get_or, ℤ, pos, ◌+ℤ◌, ◌<ℤ◌, int_le, int_lt, nat_lt, Contains, IsPermutation, IsSortedByKey, ⊎_elim, arith}
use Rattle.std.specs.Prelude.{◌==◌}
use Rattle.std.specs.Cmp.{IsTotalOrder}
use Rattle.std.specs.Fn.{ComputesKey, Called}
use Rattle.std.specs.List.{IsDistinct}
use Rattle.std.specs.Ordering.{int_cmp, nat_cmp, is_lt, ordering_then}
use Rattle.std.proofs.lemmas.Bool.{and_parts, cases_lt, false≢true}
use Rattle.std.proofs.lemmas.Bool.Decides.{nat_tests}
use Rattle.std.proofs.lemmas.Cmp.{int_cmp_total, nat_cmp_total, on_total, then_total}
use Rattle.std.proofs.lemmas.Int.{ints}
use Rattle.std.proofs.lemmas.List.{append-nil, get_or-map, get_or_default, length-map, map-append}
use Rattle.std.proofs.lemmas.List.Elements.{All-from_recursion, All-map, All-nil, All-push, All-weaker, Contains-append_left, Contains-get_or, Contains-push, recursion_from_All}
use Rattle.std.proofs.lemmas.List.Sorted.{All-permutation, Contains-permutation, IsPermutation-map, answers_always, ranks_by, sorted_far}
use Rattle.std.proofs.lemmas.Map.Keys.{IsDistinct-IsPermutation}
use denote.Param.Members.{Mut}
use denote.Ref.{Bor}
use Rattle.ass_num.proofs.OrderLemmas.{le_is, le_true, lt_is, lt_true}
use Rattle.ass_events.specs.Histories.{HaveOwnOrders, Pairwise}
use Rattle.ass_events.specs.NearEvents.{IsNear, IsShownAt, Shown, span_of}
use Rattle.ass_events.specs.declared.event.Event.{Event}
use Rattle.near_events.proofs.Pairs.{Pairwise-push}
use Rattle.event_places.specs.declared.placed.PlacedEvent.{PlacedEvent}
use Rattle.picture_plan.specs.Pictures.{AreShown, IsDrawnBefore}
use Rattle.picture_plan.specs.ShownEvents.{ArePlaces, AreByLayer, AreShownPlaces, IsDrawnUnder, IsShownPlace, event_placed_at, event_shown, is_shown_at, no_event, no_placed, shown_if}
use Rattle.picture_plan.specs.declared.shown.ShownEvent.{ShownEvent}
use Rattle.near_events.proofs.Sorts.{first_less, pairwise_at}

-- ---- pairs

pub at_pairwise : {X : Type 0} (R : X → X → Type 0) (xs : List X) (i j : ℕ) (d : X) → Pairwise R xs → i < j → j < length xs → R (get_or xs i d) (get_or xs j d)
at_pairwise R [] i j d h order within = absurd (omega arith)
at_pairwise R (x ∷ xs) i zero d h order within = absurd (omega arith)
at_pairwise R (x ∷ xs) zero (suc j) d h order within = h.0 j d (omega arith)
at_pairwise R (x ∷ xs) (suc i) (suc j) d h order within = at_pairwise R xs i j d h.1 (omega arith) (omega arith)

-- ---- shown events, place by place

-- what a place is called
abbrev place_in : ShownEvent → ℕ
place_in s = s.place

abbrev Differ : ShownEvent → ShownEvent → Type 0
Differ a b = a.place ≢ b.place

pub none_shown : (events : List Event) (placed : List PlacedEvent) (t : ℤ) → AreShownPlaces events placed t 0 []
none_shown events placed t = record { each = All-nil _; all = λ k within shows. absurd (omega arith); once = tt }

more_within : (events : List Event) (placed : List PlacedEvent) (t : ℤ) (n : ℕ) (s : ShownEvent) → IsShownPlace events placed t n s → IsShownPlace events placed t (n + 1) s
more_within events placed t n s h = record { within = omega (arith, h.within); layer = h.layer; order = h.order; shows = h.shows }

one_more : (events : List Event) (placed : List PlacedEvent) (t : ℤ) (n : ℕ) (b : Bool) (shown : List ShownEvent) → AreShownPlaces events placed t n shown
    → is_shown_at t (event_placed_at events placed n) ≡ b
    → AreShownPlaces events placed t (n + 1)
    (shown ++ cond b ((let one : ShownEvent = record { layer = (event_placed_at events placed n).layer; order = (event_placed_at events placed n).order; place = n } in one) ∷ []) [])
one_more events placed t n false shown h is =
    subst (AreShownPlaces events placed t (n + 1)) (sym (append-nil shown))
    (record {
      each = All-weaker (IsShownPlace events placed t n) (IsShownPlace events placed t (n + 1)) (λ s k. more_within events placed t n s k) shown h.each;
      all =
          λ k within shows.
          ⊎_elim (λ l. h.all k l shows)
          (λ l. let e : k ≡ n = omega arith in absurd (false≢true (sym is ∙ subst (λ (m : ℕ). is_shown_at t (event_placed_at events placed m) ≡ true) e shows)))
          (cases_lt k n);
      once = h.once;
    })
one_more events placed t n true shown h is =
    let one : ShownEvent = record { layer = (event_placed_at events placed n).layer; order = (event_placed_at events placed n).order; place = n } in
    let places : map place_in (shown ++ one ∷ []) ≡ map place_in shown ++ n ∷ [] = map-append place_in shown (one ∷ []) in
    record {
      each =
          All-push (IsShownPlace events placed t (n + 1)) shown one
          (All-weaker (IsShownPlace events placed t n) (IsShownPlace events placed t (n + 1)) (λ s k. more_within events placed t n s k) shown h.each)
          (record { within = omega arith; layer = refl; order = refl; shows = is });
      all =
          λ k within shows.
          subst (λ (ns : List ℕ). Contains ns k) (sym places)
          (⊎_elim (λ l. Contains-append_left (map place_in shown) (n ∷ []) k (h.all k l shows))
          (λ l. let e : n ≡ k = omega arith in subst (Contains (map place_in shown ++ n ∷ [])) e (Contains-push (map place_in shown) n))
          (cases_lt k n));
      once =
          Pairwise-push Differ shown one h.once
          (λ k d lt same. let w = (h.each k d lt).within in absurd (omega (arith, w, same)));
    }

-- One more place.
pub shown_more : (events : List Event) (placed : List PlacedEvent) (t : ℤ) (n : ℕ) (event : Event) (before after : List ShownEvent) → AreShownPlaces events placed t n before
    → event ≡ event_placed_at events placed n → after ≡ before ++ shown_if t event n → AreShownPlaces events placed t (n + 1) after
shown_more events placed t n event before after h is push =
    subst (AreShownPlaces events placed t (n + 1)) (sym (push ∙ ap (λ (e : Event). before ++ shown_if t e n) is))
    (one_more events placed t n (is_shown_at t (event_placed_at events placed n)) before h refl)

-- ---- in order

abbrev pub Key : Type 0
Key = ℤ × ℕ

abbrev pub key_of : ShownEvent → Key
key_of s = (s.layer, s.order)

abbrev pub key_cmp : Key → Key → Ordering
key_cmp a b = ordering_then (int_cmp a.0 b.0) (nat_cmp a.1 b.1)

key_total : IsTotalOrder key_cmp
key_total = then_total (on_total (λ (k : Key). k.0) int_cmp_total) (on_total (λ (k : Key). k.1) nat_cmp_total)

below_by_order : (a b c d : Bool) → a ≡ false → b ≡ false → c ≡ true → is_lt (ordering_then (cond a Less (cond b Greater Equal)) (cond c Less (cond d Equal Greater))) ≡ true
below_by_order a b c d p q r =
    ap (λ t. is_lt (ordering_then (cond t Less (cond b Greater Equal)) (cond c Less (cond d Equal Greater)))) p
    ∙ (ap (λ t. is_lt (ordering_then (cond t Greater Equal) (cond c Less (cond d Equal Greater)))) q ∙ ap (λ t. is_lt (cond t Less (cond d Equal Greater))) r)

below_is_lt : (a b : ShownEvent) → IsDrawnUnder a b → is_lt (key_cmp (key_of a) (key_of b)) ≡ true
below_is_lt a b p =
    ⊎_elim (λ x. first_less (int_lt a.layer b.layer) (int_lt b.layer a.layer) (nat_cmp a.order b.order) (grind (arith, ints)))
    (λ x. below_by_order (int_lt a.layer b.layer) (int_lt b.layer a.layer) (nat_lt a.order b.order) (a.order == b.order)
    (let e = x.0 in grind (arith, ints)) (let e = x.0 in grind (arith, ints)) (let l = x.1 in grind (arith, nat_tests))) p

pub by_layer_from_sort : {F : Type 0} {g : Mut F (Bor ShownEvent × Unit {0}) Key} {f : F} (xs : List ShownEvent)
    → ((k : ShownEvent → Key) → ComputesKey g k f → IsSortedByKey k key_cmp xs)
    → ((f : F) (a : Bor ShownEvent × Unit {0}) (r : Key) (f' : F) → Called g f a r f' → r ≡ key_of a.0.now) → AreByLayer xs
by_layer_from_sort {g = g} {f = f} xs up h =
    let sorted = up key_of (answers_always g (λ a r. r ≡ key_of a.0.now) f h) in
    let lt = λ (x : ShownEvent) (y : ShownEvent). is_lt (key_cmp (key_of x) (key_of y)) in
    pairwise_at (λ a b. IsDrawnUnder b a → ⊥) xs
    (λ i j d order last below. false≢true (sym (sorted_far lt (ranks_by key_total key_of) xs sorted i j d (omega arith) last) ∙ below_is_lt (get_or xs j d) (get_or xs i d) below))

-- ---- the same events in another order

abbrev same_place : ShownEvent → ShownEvent → Bool
same_place a b = a.place == b.place

distinct_from : (xs : List ShownEvent) → Pairwise Differ xs → IsDistinct same_place xs
unfolding IsDistinct
distinct_from [] h = tt
distinct_from (x ∷ xs) h =
    (recursion_from_All (λ y. same_place x y ≡ false) xs (λ k d lt. let other = h.0 k d lt in grind (arith, nat_tests)), distinct_from xs h.1)

differ_from : (xs : List ShownEvent) → IsDistinct same_place xs → Pairwise Differ xs
unfolding IsDistinct
differ_from [] h = tt
differ_from (x ∷ xs) h =
    let all = All-from_recursion (λ y. same_place x y ≡ false) xs h.0 in
    (λ k d lt same. let test = all k d lt in grind (arith, nat_tests), differ_from xs h.1)

flips : (x y : ShownEvent) → same_place x y ≡ same_place y x
flips x y = grind (arith, nat_tests)

pub shown_reordered : (events : List Event) (placed : List PlacedEvent) (t : ℤ) (n : ℕ) (before after : List ShownEvent) → AreShownPlaces events placed t n before
    → IsPermutation before after → AreShownPlaces events placed t n after
shown_reordered events placed t n before after h moved = record {
  each = All-permutation (IsShownPlace events placed t n) before after moved h.each;
  all = λ k within shows. Contains-permutation (map place_in before) (map place_in after) k (IsPermutation-map place_in before after moved) (h.all k within shows);
  once = differ_from after (IsDistinct-IsPermutation same_place flips before after moved (distinct_from before h.once));
}

-- ---- the events that are shown

shown_at : (t : ℤ) (e : Event) → is_shown_at t e ≡ true → IsShownAt (span_of e) t
shown_at t e h =
    let p = and_parts (int_le e.start t) (int_lt t (e.start +ℤ e.duration)) h in
    (le_is e.start t p.0, lt_is t (e.start +ℤ e.duration) p.1)

at_shown : (t : ℤ) (e : Event) → IsShownAt (span_of e) t → is_shown_at t e ≡ true
at_shown t e h = rw (le_true e.start t h.0, lt_true t (e.start +ℤ e.duration) h.1) refl

-- events of different places have different ReadOrders
own_orders : (events : List Event) (i j : ℕ) → HaveOwnOrders events → i < length events → j < length events → i ≢ j
    → (get_or events i no_event).order ≢ (get_or events j no_event).order
own_orders events i j own first second differ =
    ⊎_elim (λ l. at_pairwise (λ (e f : Event). e.order ≢ f.order) events i j no_event own l second)
    (λ l same. at_pairwise (λ (e f : Event). e.order ≢ f.order) events j i no_event own (omega (arith, l, differ)) first (sym same))
    (cases_lt i j)

-- different places are places of different events
other_places : (events : List Event) (placed : List PlacedEvent) (i j : ℕ) → ArePlaces events placed → i < length placed → j < length placed → i ≢ j
    → (get_or placed i no_placed).place ≢ (get_or placed j no_placed).place
other_places events placed i j h first second differ =
    ⊎_elim (λ l. h.once i j no_placed l second) (λ l same. h.once j i no_placed (omega (arith, l, differ)) first (sym same)) (cases_lt i j)

other_orders : (events : List Event) (placed : List PlacedEvent) (a b : ShownEvent) → ArePlaces events placed → HaveOwnOrders events
    → a.place < length placed → b.place < length placed → a.place ≢ b.place
    → (event_shown events placed a).order ≢ (event_shown events placed b).order
other_orders events placed a b h own first second differ =
    own_orders events (get_or placed a.place no_placed).place (get_or placed b.place no_placed).place own
    (h.within a.place no_placed first) (h.within b.place no_placed second) (other_places events placed a.place b.place h first second differ)

-- by layer and ReadOrder, one of two events is drawn before the other
drawn_cases : (e f : Event) → e.order ≢ f.order → IsDrawnBefore e f ⊎ ((f.layer <ℤ e.layer) ⊎ ((f.layer ≡ e.layer) × (f.order < e.order)))
drawn_cases e f differ = by (int_lt e.layer f.layer) (int_lt f.layer e.layer) refl refl
  where
    by : (b c : Bool) → int_lt e.layer f.layer ≡ b → int_lt f.layer e.layer ≡ c → IsDrawnBefore e f ⊎ ((f.layer <ℤ e.layer) ⊎ ((f.layer ≡ e.layer) × (f.order < e.order)))
    by true c p q = inl (inl (lt_is e.layer f.layer p))
    by false true p q = inr (inl (lt_is f.layer e.layer q))
    by false false p q =
        let level : e.layer ≡ f.layer = grind (arith, ints) in
        ⊎_elim (λ l. inl (inr (level, l))) (λ l. inr (inr (sym level, omega (arith, l, differ)))) (cases_lt e.order f.order)

below_events : (events : List Event) (placed : List PlacedEvent) (t : ℤ) (n : ℕ) (a b : ShownEvent) → IsShownPlace events placed t n a → IsShownPlace events placed t n b
    → (IsDrawnUnder b a → ⊥) → (event_shown events placed a).order ≢ (event_shown events placed b).order
    → IsDrawnBefore (event_shown events placed a) (event_shown events placed b)
below_events events placed t n a b ha hb not_below differ =
    ⊎_elim (λ x. x)
    (λ x. absurd (not_below (⊎_elim (λ l. inl (rw (hb.layer, ha.layer) l)) (λ p. inr (hb.layer ∙ p.0 ∙ sym ha.layer, rw (hb.order, ha.order) p.1)) x)))
    (drawn_cases (event_shown events placed a) (event_shown events placed b) differ)

pairwise_map : {X Y : Type 0} (R : Y → Y → Type 0) (f : X → Y) (xs : List X) → Pairwise (λ a b. R (f a) (f b)) xs → Pairwise R (map f xs)
pairwise_map R f [] h = tt
pairwise_map R f (x ∷ xs) h = (All-map (R (f x)) f xs h.0, pairwise_map R f xs h.1)

shown_sorted : (events : List Event) (placed : List PlacedEvent) (t : ℤ) (n : ℕ) (shown : List ShownEvent) → ArePlaces events placed → HaveOwnOrders events → n ≤ length placed
    → AreShownPlaces events placed t n shown → AreByLayer shown → Pairwise IsDrawnBefore (map (event_shown events placed) shown)
shown_sorted events placed t n shown places own most h sorted =
    let f = event_shown events placed in
    pairwise_map IsDrawnBefore f shown
    (pairwise_at (λ a b. IsDrawnBefore (f a) (f b)) shown
    (λ i j d order last.
    let a = get_or shown i d in
    let b = get_or shown j d in
    let ha = h.each i d (omega arith) in
    let hb = h.each j d last in
    below_events events placed t n a b ha hb (at_pairwise (λ x y. IsDrawnUnder y x → ⊥) shown i j d sorted order last)
    (other_orders events placed a b places own (omega (arith, ha.within, most)) (omega (arith, hb.within, most)) (at_pairwise Differ shown i j d h.once order last))))

-- what stands for a shown event that isn't there
abbrev pub no_shown : ShownEvent
no_shown = record { layer = pos 0; order = 0; place = 0 }

member_shown : (events : List Event) (placed : List PlacedEvent) (t : ℤ) (shown : List ShownEvent) (e : Event) → ArePlaces events placed
    → AreShownPlaces events placed t (length placed) shown → Contains (map (event_shown events placed) shown) e → Contains events e × IsShownAt (span_of e) t
member_shown events placed t shown e places h c =
    let f = event_shown events placed in
    let w : c.0 < length shown = omega (arith, c.1, length-map shown f) in
    let s = get_or shown c.0 no_shown in
    let is : f s ≡ e = sym (get_or-map f shown c.0 no_shown e w) ∙ c.2 in
    let k = h.each c.0 no_shown w in
    subst (λ (x : Event). Contains events x × IsShownAt (span_of x) t) is
    (Contains-get_or events (get_or placed s.place no_placed).place no_event (places.within s.place no_placed k.within), shown_at t (f s) k.shows)

shown_member : (events : List Event) (placed : List PlacedEvent) (t : ℤ) (shown : List ShownEvent) (e : Event)
    → ((k : ℕ) → k < length events → IsNear span_of events t (get_or events k no_event) → (j : ℕ) × (j < length placed) × ((get_or placed j no_placed).place ≡ k))
    → AreShownPlaces events placed t (length placed) shown → Contains events e → IsShownAt (span_of e) t → Contains (map (event_shown events placed) shown) e
shown_member events placed t shown e near h c shows =
    let f = event_shown events placed in
    let here : get_or events c.0 no_event ≡ e = get_or_default events c.0 no_event e c.1 ∙ c.2 in
    let j = near c.0 c.1 (subst (IsNear span_of events t) (sym here) (Shown c shows)) in
    let at : event_placed_at events placed j.0 ≡ e = ap (λ (m : ℕ). get_or events m no_event) j.2 ∙ here in
    let m = h.all j.0 j.1 (subst (λ (x : Event). is_shown_at t x ≡ true) (sym at) (at_shown t e shows)) in
    let w : m.0 < length shown = omega (arith, m.1, length-map shown place_in) in
    let s = get_or shown m.0 no_shown in
    let place : s.place ≡ j.0 = sym (get_or-map place_in shown m.0 no_shown j.0 w) ∙ m.2 in
    let reached : f s ≡ e = ap (event_placed_at events placed) place ∙ at in
    let is : get_or (map f shown) m.0 e ≡ e = get_or-map f shown m.0 no_shown e w ∙ reached in
    subst (Contains (map f shown)) is (Contains-get_or (map f shown) m.0 e (omega (arith, w, length-map shown f)))

-- They are the events that are shown, the lowest first.
pub are_shown : (events : List Event) (placed : List PlacedEvent) (t : ℤ) (shown : List ShownEvent) → ArePlaces events placed → HaveOwnOrders events
    → ((k : ℕ) → k < length events → IsNear span_of events t (get_or events k no_event) → (j : ℕ) × (j < length placed) × ((get_or placed j no_placed).place ≡ k))
    → AreShownPlaces events placed t (length placed) shown → AreByLayer shown → AreShown events t (map (event_shown events placed) shown)
are_shown events placed t shown places own near h sorted = record {
  members = λ e. (member_shown events placed t shown e places h, λ p. shown_member events placed t shown e near h p.0 p.1);
  sorted = shown_sorted events placed t (length placed) shown places own (omega arith) h sorted;
}
