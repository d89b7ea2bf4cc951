-- What is known of the boxes that are kept stays so as they come and go. A stand that covers one that was tried needn't try less.
use Rattle.std.proofs.Common.{◌≡◌, ℕ, ◌+◌, ◌<◌, ℤ, pos, ◌+ℤ◌, ◌≤ℤ◌, ◌<ℤ◌, Bool, true, false, cond, List, [], ◌∷◌, ◌++◌, length, get_or, take, refl, sym, ap, subst, ◌∙◌, arith}
use Rattle.std.specs.List.{All, Contains, filter}
use Rattle.std.specs.List.Sorted.{IsPermutation}
use Rattle.std.proofs.lemmas.Int.{ints}
use Rattle.std.proofs.lemmas.List.{take_more}
use Rattle.std.proofs.lemmas.List.Elements.{All-cons, All-contains, All-filter, All-head, All-map, All-push, All-tail, All-weaker, Contains-get_or, filter_passes}
use Rattle.std.proofs.lemmas.List.Sorted.{All-permutation, Contains-permutation}
use Rattle.event_places.specs.Placement.{IsClear, IsPlaceableStand, IsShift, Meet, max_height, moved_box}
use Rattle.event_places.specs.declared.stands.Box2.{Box2}
use Rattle.event_places.specs.declared.stands.Stand.{Stand}
use Rattle.event_places.specs.Limits.{max_shift}
use Rattle.event_places.specs.Steps.{AreFromLowest, AreKeptBoxes, AreNoTaller, CoversBox, CoversStand, IsClearFrom, all_stay, is_in_way, placed_box, box_places}
use Rattle.event_places.specs.declared.kept.MovedBoxes.{MovedBoxes}
use Rattle.event_places.specs.declared.placed_boxes.PlacedBox.{PlacedBox}
use Rattle.near_events.specs.declared.spans.EventSpan.{EventSpan}
use Rattle.near_events.proofs.Lists.{in_map}
use Rattle.near_events.proofs.Pairs.{Contains-tail}
use Rattle.event_places.proofs.ClearLemmas.{in_way, stay_sorted, way_layer}

-- ---- the boxes that stay
filter_all : {X : Type 0} (p : X → Bool) (xs : List X) → All (λ x. p x ≡ true) xs → filter p xs ≡ xs
filter_all p [] h = refl
filter_all p (x ∷ xs) h =
    ap (λ b. cond b (x ∷ filter p xs) (filter p xs)) (All-head (λ x. p x ≡ true) x xs h) ∙ ap (λ z. x ∷ z) (filter_all p xs (All-tail (λ x. p x ≡ true) x xs h))

stays_layer : (span : EventSpan) (kept : MovedBoxes) → all_stay span kept ≡ true → kept.layer ≡ span.layer
stays_layer span kept stays = grind (arith, ints)

stays_end : (span : EventSpan) (kept : MovedBoxes) → all_stay span kept ≡ true → span.start <ℤ kept.first_end
stays_end span kept stays = grind (arith, ints)

pub all_stayed : (kept : MovedBoxes) (span : EventSpan) → AreKeptBoxes kept → all_stay span kept ≡ true → (kept.boxes.items ≡ filter (is_in_way span) kept.boxes.items) × (kept.layer ≡ span.layer)
all_stayed kept span are stays =
    let layer = stays_layer span kept stays in
    let start = stays_end span kept stays in (
      sym
          (filter_all (is_in_way span) kept.boxes.items
          (λ k d lt. let last = are.last k d lt in in_way span (get_or kept.boxes.items k d) (are.layer k d lt ∙ layer) (omega (arith, ints, last, start)))),
      layer,
    )

-- the earliest end, with one more
pub ends_more : (first next : ℤ) (boxes : List PlacedBox) (k : ℕ) (x : PlacedBox) → k < length boxes → x ≡ get_or boxes k x → next ≤ℤ first → next ≤ℤ x.end
    → All (λ (x : PlacedBox). first ≤ℤ x.end) (take k boxes) → All (λ (x : PlacedBox). next ≤ℤ x.end) (take (k + 1) boxes)
ends_more first next boxes k x lt is before mine old =
    let Last : ℤ → PlacedBox → Type 0 = λ z x. z ≤ℤ x.end in
    let wider : All (Last next) (take k boxes) = All-weaker (Last first) (Last next) (λ x h. omega (arith, ints, h, before)) (take k boxes) old in
    let more : take (k + 1) boxes ≡ take k boxes ++ x ∷ [] = take_more boxes k x lt ∙ ap (λ z. take k boxes ++ z ∷ []) (sym is) in
    subst (All (Last next)) (sym more) (All-push (Last next) (take k boxes) x wider mine)

from_zero : IsShift max_shift (pos 0)
from_zero = record { from_zero = omega (arith, ints); bounded = omega (arith, ints) }

pub dropped : (old new : MovedBoxes) (span : EventSpan) → AreKeptBoxes old → new.boxes.items ≡ filter (is_in_way span) old.boxes.items → new.layer ≡ span.layer
    → All (λ (x : PlacedBox). new.first_end ≤ℤ x.end) new.boxes.items → new.tallest ≡ old.tallest → new.tried ≡ old.tried → new.shift ≡ pos 0 → AreKeptBoxes new
dropped old new span are boxes layer last tallest tried shift =
    let all : (P : PlacedBox → Type 0) → All P (filter (is_in_way span) old.boxes.items) → All P new.boxes.items = λ P h. subst (All P) (sym boxes) h in
    let InLayer : PlacedBox → Type 0 = λ x. x.layer ≡ new.layer in
    let Low : PlacedBox → Type 0 = λ x. x.place.bottom ≤ℤ (x.place.top +ℤ new.tallest) in
    let low : All Low old.boxes.items = subst (λ h. AreNoTaller h old.boxes.items) (sym tallest) are.high in
    record {
      sorted = subst AreFromLowest (sym boxes) (stay_sorted span old.boxes.items are.sorted);
      layer = all InLayer (All-weaker (λ (x : PlacedBox). is_in_way span x ≡ true) InLayer (λ x way. way_layer span x way ∙ sym layer) (filter (is_in_way span) old.boxes.items) (filter_passes (is_in_way span) old.boxes.items));
      last = last;
      high = all Low (All-filter (is_in_way span) Low old.boxes.items low);
      tallest = subst (IsShift max_height) (sym tallest) are.tallest;
      tried = subst IsPlaceableStand (sym tried) are.tried;
      shift = subst (IsShift max_shift) (sym shift) from_zero;
      bound = λ t from clear. subst (λ z. z ≤ℤ t) (sym shift) from;
    }

-- ---- another stand is tried, or more is known of it
pub tried_again : (old new : MovedBoxes) → AreKeptBoxes old → new.boxes.items ≡ old.boxes.items → new.layer ≡ old.layer → new.first_end ≡ old.first_end → new.tallest ≡ old.tallest
    → IsPlaceableStand new.tried → IsShift max_shift new.shift → IsClearFrom new.shift new.tried (box_places new.boxes.items) → AreKeptBoxes new
tried_again old new are boxes layer last tallest tried shift bound = record {
  sorted = subst AreFromLowest (sym boxes) are.sorted;
  layer = subst (λ z. All (λ (x : PlacedBox). x.layer ≡ z) new.boxes.items) (sym layer) (subst (All (λ (x : PlacedBox). x.layer ≡ old.layer)) (sym boxes) are.layer);
  last = subst (λ z. All (λ (x : PlacedBox). z ≤ℤ x.end) new.boxes.items) (sym last) (subst (All (λ (x : PlacedBox). old.first_end ≤ℤ x.end)) (sym boxes) are.last);
  high = subst (λ z. AreNoTaller z new.boxes.items) (sym tallest) (subst (AreNoTaller old.tallest) (sym boxes) are.high);
  tallest = subst (IsShift max_height) (sym tallest) are.tallest;
  tried = tried;
  shift = shift;
  bound = bound;
}

-- ---- a stand that covers another one
meet_wider : (down : Bool) (a b o : Box2) (t : ℤ) → CoversBox a b → Meet (moved_box down t b) o → Meet (moved_box down t a) o
meet_wider true a b o t c m =
    let left = c.0.0 in
    let right = c.0.1 in
    let top = c.1.0 in
    let bottom = c.1.1 in
    let across = m.0.0 in
    let from_left = m.0.2 in
    let to_right = m.0.3 in
    let inside = m.1.0 in
    let from_top = m.1.2 in
    let to_bottom = m.1.3 in
    ((omega (arith, ints, left, right, across), m.0.1, omega (arith, ints, left, from_left), omega (arith, ints, right, to_right)), (omega (arith, ints, top, bottom, inside), m.1.1, omega (arith, ints, top, from_top), omega (arith, ints, bottom, to_bottom)))
meet_wider false a b o t c m =
    let left = c.0.0 in
    let right = c.0.1 in
    let top = c.1.0 in
    let bottom = c.1.1 in
    let across = m.0.0 in
    let from_left = m.0.2 in
    let to_right = m.0.3 in
    let inside = m.1.0 in
    let from_top = m.1.2 in
    let to_bottom = m.1.3 in
    ((omega (arith, ints, left, right, across), m.0.1, omega (arith, ints, left, from_left), omega (arith, ints, right, to_right)), (omega (arith, ints, top, bottom, inside), m.1.1, omega (arith, ints, top, from_top), omega (arith, ints, bottom, to_bottom)))

pub covered_bound : (a b : Stand) (boxes : List Box2) (shift : ℤ) → CoversStand a b → IsClearFrom shift b boxes → IsClearFrom shift a boxes
covered_bound a b boxes shift covers bound t from clear =
    let Apart : Stand → Box2 → Type 0 = λ s o. Meet (moved_box s.down t s.place) o → ⊥ in
    bound t from
    (All-weaker (Apart a) (Apart b)
    (λ o apart met. apart (subst (λ down. Meet (moved_box down t a.place) o) (sym covers.0) (meet_wider b.down a.place b.place o t covers.1 met))) boxes clear)

-- ---- one more box
-- what is clear of all boxes is clear of some
clear_fewer : (b : Box2) (down : Bool) (t : ℤ) (few many : List PlacedBox) → ((x : PlacedBox) → Contains few x → Contains many x) → IsClear b (box_places many) down t → IsClear b (box_places few) down t
clear_fewer b down t few many inside clear =
    let Apart : Box2 → Type 0 = λ o. Meet (moved_box down t b) o → ⊥ in
    All-map Apart (λ (x : PlacedBox). x.place) few
    (λ k d lt. let x = get_or few k d in
    All-contains Apart (box_places many) x.place clear (in_map (λ (x : PlacedBox). x.place) many x (inside x (Contains-get_or few k d lt))))

moved_low : (down : Bool) (b : Box2) (shift tallest : ℤ) → b.bottom ≤ℤ (b.top +ℤ tallest) → (moved_box down shift b).bottom ≤ℤ ((moved_box down shift b).top +ℤ tallest)
moved_low true b shift tallest low = omega (arith, ints, low)
moved_low false b shift tallest low = omega (arith, ints, low)

pub one_more : (old new : MovedBoxes) (span : EventSpan) (stand : Stand) (shift : ℤ) → AreKeptBoxes old → old.layer ≡ span.layer
    → IsPermutation (placed_box span stand shift ∷ old.boxes.items) new.boxes.items → AreFromLowest new.boxes.items → new.layer ≡ old.layer
    → new.first_end ≤ℤ old.first_end → new.first_end ≤ℤ span.end → old.tallest ≤ℤ new.tallest → stand.place.bottom ≤ℤ (stand.place.top +ℤ new.tallest) → IsShift max_height new.tallest
    → new.tried ≡ old.tried → new.shift ≡ old.shift → AreKeptBoxes new
one_more old new span stand shift are layer members sorted same_layer old_last last old_high low tallest tried shift_same =
    let one = placed_box span stand shift in
    let olds = old.boxes.items in
    let news = new.boxes.items in
    let all : (P : PlacedBox → Type 0) → P one → All P olds → All P news = λ P h hs. All-permutation P (one ∷ olds) news members (All-cons P one olds h hs) in
    let InLayer : PlacedBox → Type 0 = λ x. x.layer ≡ new.layer in
    let Last : PlacedBox → Type 0 = λ x. new.first_end ≤ℤ x.end in
    let Low : PlacedBox → Type 0 = λ x. x.place.bottom ≤ℤ (x.place.top +ℤ new.tallest) in
    let bound : IsClearFrom old.shift old.tried (box_places news) =
    λ t from clear. are.bound t from (clear_fewer old.tried.place old.tried.down t olds news (λ x c. Contains-permutation (one ∷ olds) news x members (Contains-tail one olds x c)) clear)
    in
    record {
      sorted = sorted;
      layer = all InLayer (sym layer ∙ sym same_layer) (All-weaker (λ (x : PlacedBox). x.layer ≡ old.layer) InLayer (λ x h. h ∙ sym same_layer) olds are.layer);
      last = all Last last (All-weaker (λ (x : PlacedBox). old.first_end ≤ℤ x.end) Last (λ x h. omega (arith, ints, h, old_last)) olds are.last);
      high = all Low (moved_low stand.down stand.place shift new.tallest low)
          (All-weaker (λ (x : PlacedBox). x.place.bottom ≤ℤ (x.place.top +ℤ old.tallest)) Low (λ x h. omega (arith, ints, h, old_high)) olds are.high);
      tallest = tallest;
      tried = subst IsPlaceableStand (sym tried) are.tried;
      shift = subst (IsShift max_shift) (sym shift_same) are.shift;
      bound = subst (λ (s : Stand). IsClearFrom new.shift s (box_places news)) (sym tried) (subst (λ z. IsClearFrom z old.tried (box_places news)) (sym shift_same) bound);
    }
