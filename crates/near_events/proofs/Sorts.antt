-- Spans in order.
use Rattle.std.proofs.Common.{Ordering, Less, Equal, Greater, ◌≡◌, ◌≢◌, ℕ, zero, suc, ◌<◌, ℤ, Bool, true, false, cond, List, [], ◌∷◌, length, get_or, sym, ap, ◌∙◌, arith, ⊎_elim, IsPermutation, IsSortedByKey}
use Rattle.std.specs.Prelude.{int_lt, nat_lt, ◌==◌}
use Rattle.std.specs.List.{IsDistinct}
use Rattle.std.specs.Cmp.{IsTotalOrder}
use Rattle.std.specs.Ordering.{int_cmp, nat_cmp, is_lt, ordering_then}
use Rattle.std.specs.Fn.{ComputesKey, Called}
use Rattle.std.proofs.lemmas.Bool.{false≢true}
use Rattle.std.proofs.lemmas.Bool.Decides.{nat_tests}
use Rattle.std.proofs.lemmas.Cmp.{int_cmp_total, nat_cmp_total, on_total, then_total}
use Rattle.std.proofs.lemmas.Int.{ints}
use Rattle.std.proofs.lemmas.List.Elements.{All-from_recursion, recursion_from_All}
use Rattle.std.proofs.lemmas.List.Sorted.{sorted_far, ranks_by, answers_always}
use Rattle.std.proofs.lemmas.Map.Keys.{IsDistinct-IsPermutation}
use denote.Param.Members.{Mut}
use denote.Ref.{Bor}
use Rattle.ass_events.specs.Histories.{Pairwise}
use Rattle.ass_events.specs.NearEvents.{IsEarlier}
use Rattle.near_events.specs.declared.spans.EventSpan.{EventSpan}
use Rattle.near_events.specs.Spans.{AreInTime, AreSpansInOrder, StandsBefore, span_at}
use Rattle.near_events.proofs.Orders.{before_other}

-- ---- sorts by start and ReadOrder, and by layer before these
abbrev pub Time : Type 0
Time = ℤ × ℕ

abbrev pub Key : Type 0
Key = ℤ × Time

abbrev pub time_at : EventSpan → Time
time_at s = (s.start, s.order)

abbrev pub key_at : EventSpan → Key
key_at s = (s.layer, (s.start, s.order))

abbrev pub time_cmp : Time → Time → Ordering
time_cmp a b = ordering_then (int_cmp a.0 b.0) (nat_cmp a.1 b.1)

abbrev pub key_cmp : Key → Key → Ordering
key_cmp a b = ordering_then (int_cmp a.0 b.0) (time_cmp a.1 b.1)

time_total : IsTotalOrder time_cmp
time_total = then_total (on_total (λ (t : Time). t.0) int_cmp_total) (on_total (λ (t : Time). t.1) nat_cmp_total)

key_total : IsTotalOrder key_cmp
key_total = then_total (on_total (λ (k : Key). k.0) int_cmp_total) (on_total (λ (k : Key). k.1) time_total)

pub first_less : (a b : Bool) (c : Ordering) → a ≡ true → is_lt (ordering_then (cond a Less (cond b Greater Equal)) c) ≡ true
first_less a b c e = ap (λ t. is_lt (ordering_then (cond t Less (cond b Greater Equal)) c)) e

first_same : (a b : Bool) (c : Ordering) → a ≡ false → b ≡ false → is_lt (ordering_then (cond a Less (cond b Greater Equal)) c) ≡ is_lt c
first_same a b c p q =
    ap (λ t. is_lt (ordering_then (cond t Less (cond b Greater Equal)) c)) p ∙ ap (λ t. is_lt (ordering_then (cond t Greater Equal) c)) q

last_less : (a b : Bool) → a ≡ true → is_lt (cond a Less (cond b Equal Greater)) ≡ true
last_less a b e = ap (λ t. is_lt (cond t Less (cond b Equal Greater))) e

same_not_lt : (x y : ℤ) → x ≡ y → int_lt x y ≡ false
same_not_lt x y e = grind (arith, ints)

earlier_is_lt : (a b : EventSpan) → IsEarlier (span_at a) (span_at b) → is_lt (time_cmp (time_at a) (time_at b)) ≡ true
earlier_is_lt a b p =
    let order = nat_cmp a.order b.order in
    ⊎_elim (λ y. first_less (int_lt a.start b.start) (int_lt b.start a.start) order (grind (arith, ints)))
    (λ y. first_same (int_lt a.start b.start) (int_lt b.start a.start) order (same_not_lt a.start b.start y.0) (same_not_lt b.start a.start (sym y.0))
    ∙ last_less (nat_lt a.order b.order) (a.order == b.order) (let l = y.1 in grind (arith, nat_tests))) p

before_is_lt : (a b : EventSpan) → StandsBefore a b → is_lt (key_cmp (key_at a) (key_at b)) ≡ true
before_is_lt a b p =
    let time = time_cmp (time_at a) (time_at b) in
    ⊎_elim (λ x. first_less (int_lt a.layer b.layer) (int_lt b.layer a.layer) time (grind (arith, ints)))
    (λ x. first_same (int_lt a.layer b.layer) (int_lt b.layer a.layer) time (same_not_lt a.layer b.layer x.0) (same_not_lt b.layer a.layer (sym x.0))
    ∙ earlier_is_lt a b x.1) p

pub pairwise_at : {X : Type 0} (R : X → X → Type 0) (xs : List X) → ((i j : ℕ) (d : X) → i < j → j < length xs → R (get_or xs i d) (get_or xs j d)) → Pairwise R xs
pairwise_at R [] h = tt
pairwise_at R (x ∷ xs) h = (λ k d lt. h zero (suc k) d (omega arith) (omega arith), pairwise_at R xs (λ i j d order lt. h (suc i) (suc j) d (omega arith) (omega arith)))

pub in_order_from_sort : {F : Type 0} {g : Mut F (Bor EventSpan × Unit {0}) Key} {f : F} (xs : List EventSpan)
    → ((k : EventSpan → Key) → ComputesKey g k f → IsSortedByKey k key_cmp xs)
    → ((f : F) (a : Bor EventSpan × Unit {0}) (r : Key) (f' : F) → Called g f a r f' → r ≡ key_at a.0.now) → AreSpansInOrder xs
in_order_from_sort {g = g} {f = f} xs up h =
    let sorted = up key_at (answers_always g (λ a r. r ≡ key_at a.0.now) f h) in
    let lt = λ (x : EventSpan) (y : EventSpan). is_lt (key_cmp (key_at x) (key_at y)) in
    pairwise_at (λ a b. StandsBefore b a → ⊥) xs
    (λ i j d order last before. false≢true (sym (sorted_far lt (ranks_by key_total key_at) xs sorted i j d (omega arith) last) ∙ before_is_lt (get_or xs j d) (get_or xs i d) before))

pub in_time_from_sort : {F : Type 0} {g : Mut F (Bor EventSpan × Unit {0}) Time} {f : F} (xs : List EventSpan)
    → ((k : EventSpan → Time) → ComputesKey g k f → IsSortedByKey k time_cmp xs)
    → ((f : F) (a : Bor EventSpan × Unit {0}) (r : Time) (f' : F) → Called g f a r f' → r ≡ time_at a.0.now) → AreInTime xs
in_time_from_sort {g = g} {f = f} xs up h =
    let sorted = up time_at (answers_always g (λ a r. r ≡ time_at a.0.now) f h) in
    let lt = λ (x : EventSpan) (y : EventSpan). is_lt (time_cmp (time_at x) (time_at y)) in
    pairwise_at (λ a b. IsEarlier (span_at b) (span_at a) → ⊥) xs
    (λ i j d order last earlier. false≢true (sym (sorted_far lt (ranks_by time_total time_at) xs sorted i j d (omega arith) last) ∙ earlier_is_lt (get_or xs j d) (get_or xs i d) earlier))

-- ---- different ReadOrders
abbrev pub Differ : EventSpan → EventSpan → Type 0
Differ a b = a.order ≢ b.order

abbrev same_order : EventSpan → EventSpan → Bool
same_order a b = a.order == b.order

distinct_from : (xs : List EventSpan) → Pairwise Differ xs → IsDistinct same_order xs
unfolding IsDistinct
distinct_from [] h = tt
distinct_from (x ∷ xs) h =
    (recursion_from_All (λ y. same_order x y ≡ false) xs (λ k d lt. let other = h.0 k d lt in grind (arith, nat_tests)), distinct_from xs h.1)

differ_from : (xs : List EventSpan) → IsDistinct same_order xs → Pairwise Differ xs
unfolding IsDistinct
differ_from [] h = tt
differ_from (x ∷ xs) h =
    let all = All-from_recursion (λ y. same_order x y ≡ false) xs h.0 in
    (λ k d lt same. let test = all k d lt in grind (arith, nat_tests), differ_from xs h.1)

flips : (x y : EventSpan) → same_order x y ≡ same_order y x
flips x y = grind (arith, nat_tests)

pub differ_moved : (xs ys : List EventSpan) → IsPermutation xs ys → Pairwise Differ xs → Pairwise Differ ys
differ_moved xs ys moved h = differ_from ys (IsDistinct-IsPermutation same_order flips xs ys moved (distinct_from xs h))

-- in order and different: strictly in order
pub strictly : (xs : List EventSpan) → AreSpansInOrder xs → Pairwise Differ xs → Pairwise StandsBefore xs
strictly [] ordered differ = tt
strictly (x ∷ xs) ordered differ =
    (λ k d lt. before_other (get_or xs k d) x (λ same. differ.0 k d lt (sym same)) (ordered.0 k d lt), strictly xs ordered.1 differ.1)
