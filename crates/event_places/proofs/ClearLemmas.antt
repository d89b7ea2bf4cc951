-- A box that is moved clear of others lies no further out than they push it; what was dropped isn't missed.
use Rattle.std.proofs.Common.{◌≡◌, ℕ, ◌+◌, ◌-◌, ◌<◌, ◌≤◌, ℤ, ◌<ℤ◌, ◌≤ℤ◌, Bool, true, false, List, ◌∷◌, length, get_or, sym, ap, subst, ◌∙◌, arith, ◌⊎◌, ⊎_elim, inl, inr}
use Rattle.std.specs.Prelude.{insert, int_le}
use Rattle.std.specs.List.{All, filter}
use Rattle.std.specs.List.Sorted.{IsPartitionedBy, IsPermutation}
use Rattle.std.proofs.lemmas.Bool.{cases_lt}
use Rattle.std.proofs.lemmas.Int.{ints}
use Rattle.std.proofs.lemmas.List.Edits.{get_or-insert_above, get_or-insert_at, get_or-insert_below, length-insert}
use Rattle.std.proofs.lemmas.List.Elements.{All-cons, All-filter, All-map, All-weaker}
use Rattle.std.proofs.lemmas.List.Kept.{AllPairs-filter}
use Rattle.std.proofs.lemmas.List.Sorted.{All-permutation}
use Rattle.event_places.specs.Placement.{IsBoxWithin, IsLeastShift, IsPlaceableStand, IsShift, max_height, max_place}
use Rattle.event_places.specs.declared.stands.Stand.{Stand}
use Rattle.event_places.proofs.ShiftLemmas.{IsBoxWithin-wider, least-IsWithin}
use Rattle.event_places.specs.Limits.{max_shift, reach}
use Rattle.event_places.specs.Steps.{AreFromLowest, AreBoxesWithin, IsClearing, boxes_in_way, is_in_way, placed_box}
use Rattle.near_events.specs.declared.spans.EventSpan.{EventSpan}
use Rattle.event_places.specs.declared.placed_boxes.PlacedBox.{PlacedBox}

abbrev Within : ℕ → PlacedBox → Type 0
Within count x = IsBoxWithin (reach count) x.place

-- ---- what is in the way of an event
pub way_layer : (s : EventSpan) (x : PlacedBox) → is_in_way s x ≡ true → x.layer ≡ s.layer
way_layer s x e = grind (arith, ints)

pub way_end : (s : EventSpan) (x : PlacedBox) → is_in_way s x ≡ true → s.start <ℤ x.end
way_end s x e = grind (arith, ints)

pub in_way : (s : EventSpan) (x : PlacedBox) → x.layer ≡ s.layer → s.start <ℤ x.end → is_in_way s x ≡ true
in_way s x a b = grind (arith, ints)

-- ---- the events that stay
pub stay_within : (count : ℕ) (span : EventSpan) (boxes : List PlacedBox) → AreBoxesWithin count boxes → AreBoxesWithin count (filter (is_in_way span) boxes)
stay_within count span boxes h = All-filter (is_in_way span) (Within count) boxes h

pub stay_sorted : (span : EventSpan) (boxes : List PlacedBox) → AreFromLowest boxes → AreFromLowest (filter (is_in_way span) boxes)
stay_sorted span boxes h = AllPairs-filter (λ (a b : PlacedBox). b.place.top ≤ℤ a.place.top) (is_in_way span) boxes h

pub boxes_wider : (few many : ℕ) (boxes : List PlacedBox) → few ≤ many → AreBoxesWithin few boxes → AreBoxesWithin many boxes
boxes_wider few many boxes le h = All-weaker (Within few) (Within many) (λ x k. IsBoxWithin-wider (reach few) (reach many) x.place (omega (arith, le)) k) boxes h

-- ---- one more
module _ (span : EventSpan) (stand : Stand) (boxes : List PlacedBox) (placeable : IsPlaceableStand stand) (shift : ℤ) (range : IsShift max_shift shift)
    (least : IsLeastShift stand.place (boxes_in_way span boxes) stand.down shift) (new : List PlacedBox) (members : IsPermutation (placed_box span stand shift ∷ filter (is_in_way span) boxes) new) where
  pub clearing_is : IsClearing span stand boxes shift new
  clearing_is =
      let from = range.from_zero in
      let bounded = range.bounded in
      record { least = least; within = (omega (arith, ints, from), bounded); members = members }

  pub boxes_within : (count : ℕ) → AreBoxesWithin count boxes → AreBoxesWithin (count + 1) new
  boxes_within count within =
      let stay = stay_within count span boxes within in
      let in_reach : All (IsBoxWithin (reach count)) (boxes_in_way span boxes) = All-map (IsBoxWithin (reach count)) (λ (x : PlacedBox). x.place) (filter (is_in_way span) boxes) stay in
      let out = least-IsWithin stand.place (boxes_in_way span boxes) stand.down (reach count) max_height shift
      (IsBoxWithin-wider max_place (reach count) stand.place (omega arith) placeable.within) in_reach placeable.height least in
      let one = placed_box span stand shift in
      let mine : Within (count + 1) one = IsBoxWithin-wider (reach count + max_height) (reach (count + 1)) one.place (omega arith) out in
      All-permutation (Within (count + 1)) (one ∷ filter (is_in_way span) boxes) new members
      (All-cons (Within (count + 1)) one (filter (is_in_way span) boxes) mine (boxes_wider count (count + 1) (filter (is_in_way span) boxes) (omega arith) stay))

-- ---- one more among boxes from the lowest to the highest
-- what stands at a place once one more came in
place_cases : (xs : List PlacedBox) (i : ℕ) (y : PlacedBox) (k : ℕ) (d : PlacedBox) → i ≤ length xs
    → ((k < i) × (get_or (insert xs i y) k d ≡ get_or xs k d)) ⊎ (((k ≡ i) × (get_or (insert xs i y) k d ≡ y)) ⊎ ((j : ℕ) × (i ≤ j) × (k ≡ j + 1) × (get_or (insert xs i y) k d ≡ get_or xs j d)))
place_cases xs i y k d le =
    ⊎_elim (λ below. inl (below, get_or-insert_below xs i y d k below le))
    (λ above. ⊎_elim
    (λ past. inr (inr (k - 1, omega (arith, past), omega (arith, past), ap (λ n. get_or (insert xs i y) n d) (omega (arith, past)) ∙ get_or-insert_above xs i y d (k - 1) (omega (arith, past)) le)))
    (λ same. let is : k ≡ i = omega (arith, above, same) in inr (inl (is, ap (λ n. get_or (insert xs i y) n d) is ∙ get_or-insert_at xs i y d le)))
    (cases_lt i k))
    (cases_lt k i)

pub sorted_insert : (boxes : List PlacedBox) (i : ℕ) (one : PlacedBox) → AreFromLowest boxes → i ≤ length boxes
    → ((k : ℕ) (d : PlacedBox) → k < i → one.place.top ≤ℤ (get_or boxes k d).place.top)
    → ((k : ℕ) (d : PlacedBox) → i ≤ k → k < length boxes → (get_or boxes k d).place.top ≤ℤ one.place.top)
    → AreFromLowest (insert boxes i one)
sorted_insert boxes i one sorted le lower higher a b d before within =
    let R : PlacedBox → PlacedBox → Type 0 = λ x y. y.place.top ≤ℤ x.place.top in
    let long : length (insert boxes i one) ≡ length boxes + 1 = length-insert boxes i one le in
    let both : (x y : PlacedBox) → get_or (insert boxes i one) a d ≡ x → get_or (insert boxes i one) b d ≡ y → R x y → R (get_or (insert boxes i one) a d) (get_or (insert boxes i one) b d) =
    λ x y p q h. subst (λ z. R z (get_or (insert boxes i one) b d)) (sym p) (subst (R x) (sym q) h)
    in
    ⊎_elim
    (λ p. ⊎_elim
    (λ q. both (get_or boxes a d) (get_or boxes b d) p.1 q.1 (sorted a b d before (omega (arith, q.0, le))))
    (λ r. ⊎_elim
    (λ q. both (get_or boxes a d) one p.1 q.1 (lower a d p.0))
    (λ q. both (get_or boxes a d) (get_or boxes q.0 d) p.1 q.3 (sorted a q.0 d (omega (arith, p.0, q.1)) (omega (arith, q.2, within, long)))) r)
    (place_cases boxes i one b d le))
    (λ s. ⊎_elim
    (λ p. ⊎_elim
    (λ q. absurd (omega (arith, p.0, q.0, before)))
    (λ r. ⊎_elim
    (λ q. absurd (omega (arith, p.0, q.0, before)))
    (λ q. both one (get_or boxes q.0 d) p.1 q.3 (higher q.0 d q.1 (omega (arith, q.2, within, long)))) r)
    (place_cases boxes i one b d le))
    (λ p. ⊎_elim
    (λ q. absurd (omega (arith, p.1, p.2, q.0, before)))
    (λ r. ⊎_elim
    (λ q. absurd (omega (arith, p.1, p.2, q.0, before)))
    (λ q. both (get_or boxes p.0 d) (get_or boxes q.0 d) p.3 q.3 (sorted p.0 q.0 d (omega (arith, p.2, q.2, before)) (omega (arith, q.2, within, long)))) r)
    (place_cases boxes i one b d le)) s)
    (place_cases boxes i one a d le)

-- ---- the place of one more
abbrev pub begins_no_higher : ℤ → PlacedBox → Bool
begins_no_higher top x = int_le top x.place.top

higher_too : (top : ℤ) (a b : PlacedBox) → b.place.top ≤ℤ a.place.top → begins_no_higher top b ≡ true → begins_no_higher top a ≡ true
higher_too top a b le passes = grind (arith, ints)

pub partitioned : (boxes : List PlacedBox) (top : ℤ) → AreFromLowest boxes → IsPartitionedBy (begins_no_higher top) boxes
partitioned boxes top sorted i j d le lt passes =
    ⊎_elim (λ before. higher_too top (get_or boxes i d) (get_or boxes j d) (sorted i j d before lt) passes)
    (λ back. let same : j ≡ i = omega (arith, le, back) in subst (λ k. begins_no_higher top (get_or boxes k d) ≡ true) same passes)
    (cases_lt i j)

pub lower_than : (top : ℤ) (x : PlacedBox) → begins_no_higher top x ≡ true → top ≤ℤ x.place.top
lower_than top x passes = grind (arith, ints)

pub higher_than : (top : ℤ) (x : PlacedBox) → begins_no_higher top x ≡ false → x.place.top ≤ℤ top
higher_than top x fails = grind (arith, ints)
