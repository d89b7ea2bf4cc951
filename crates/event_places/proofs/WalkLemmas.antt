-- A walk over boxes that lie from the lowest to the highest: one that was passed isn't met again.
use Rattle.std.proofs.Common.{◌≡◌, ℕ, ◌+◌, ◌-◌, ◌<◌, ℤ, pos, ◌+ℤ◌, ◌-ℤ◌, ◌≤ℤ◌, ◌<ℤ◌, ◌≤◌, Bool, true, false, cond, List, length, get_or, refl, sym, ap, subst, ◌∙◌, arith, ◌⊎◌, ⊎_elim, inl, inr}
use Rattle.std.specs.List.{All, Contains}
use Rattle.std.proofs.lemmas.Bool.{cases_lt}
use Rattle.std.proofs.lemmas.Int.{ints}
use Rattle.std.proofs.lemmas.List.{get_or_default}
use Rattle.std.proofs.lemmas.List.Elements.{All-contains, All-map, Contains-get_or}
use Rattle.event_places.specs.Placement.{IsBoxWithin, IsClear, IsLeastShift, IsPlaceableStand, IsShift, Meet, Overlap, max_moved, max_place, moved_box, passing}
use Rattle.event_places.specs.declared.stands.Box2.{Box2}
use Rattle.event_places.specs.declared.stands.Stand.{Stand}
use Rattle.event_places.proofs.ShiftLemmas.{IsBoxWithin-wider, passing-later, passing-least}
use Rattle.event_places.specs.Limits.{max_shift, reach}
use Rattle.event_places.specs.Steps.{AreFromLowest, AreNoTaller, AreBoxesWithin, IsClearFrom, box_places, most_before}
use Rattle.event_places.specs.declared.placed_boxes.PlacedBox.{PlacedBox}
use Rattle.near_events.proofs.Lists.{in_map}
use Rattle.near_events.proofs.Orders.{int_three}

-- which of so many boxes comes at a step of a way down, or up
abbrev pub way : ℕ → Bool → ℕ → ℕ
way count down step = cond down (count - 1 - step) step

-- past a box
past_is_clear : (down : Bool) (b other : Box2) → Meet (moved_box down (passing down b other) b) other → ⊥
past_is_clear true b other m = let h = m.1.2 in omega (arith, ints, h)
past_is_clear false b other m = let h = m.1.3 in omega (arith, ints, h)

-- in the order of a way
abbrev InOrder : Bool → Box2 → Box2 → Type 0
InOrder true o other = o.top ≤ℤ other.top
InOrder false o other = other.top ≤ℤ o.top

-- what was clear of an earlier box is so past a later one
stays_clear : (down : Bool) (b o other : Box2) (s : ℤ) → InOrder down o other → (Meet (moved_box down s b) o → ⊥) → Meet (moved_box down s b) other
    → Meet (moved_box down (passing down b other) b) o → ⊥
stays_clear true b o other s le clear met again =
    let later = passing-later true b other s met in
    let a = again.1.0 in
    let e = again.1.2 in
    let h = met.1.3 in
    clear (again.0, (omega (arith, ints, a), again.1.1, omega (arith, ints, later, e), omega (arith, ints, le, h)))
stays_clear false b o other s le clear met again = let h = again.1.3 in omega (arith, ints, le, h)

in_order : (boxes : List PlacedBox) (down : Bool) (j step : ℕ) (d : PlacedBox) → AreFromLowest boxes → j < step → step < length boxes
    → InOrder down (get_or boxes (way (length boxes) down j) d).place (get_or boxes (way (length boxes) down step) d).place
in_order boxes true j step d sorted before within = sorted (length boxes - 1 - step) (length boxes - 1 - j) d (omega arith) (omega arith)
in_order boxes false j step d sorted before within = sorted j step d before within

pub way_within : (count : ℕ) (down : Bool) (step : ℕ) → step < count → way count down step < count
way_within count true step within = omega arith
way_within count false step within = within

-- each place comes at a step
way_back : (count : ℕ) (down : Bool) (k : ℕ) → k < count → (step : ℕ) × (step < count) × (way count down step ≡ k)
way_back count true k within = (count - 1 - k, omega arith, omega arith)
way_back count false k within = (k, within, refl)

passing_range : (stand : Stand) (other : Box2) (s : ℤ) → IsPlaceableStand stand → IsBoxWithin max_moved other → IsShift max_shift s
    → Meet (moved_box stand.down s stand.place) other → IsShift max_shift (passing stand.down stand.place other)
passing_range stand other s placeable within range met = passing_within stand.down stand.place other s placeable.within within range met
  where
    passing_within : (down : Bool) (b other : Box2) (s : ℤ) → IsBoxWithin max_place b → IsBoxWithin max_moved other → IsShift max_shift s
        → Meet (moved_box down s b) other → IsShift max_shift (passing down b other)
    passing_within true b other s p q range met =
        let later = passing-later true b other s met in
        let z = range.from_zero in
        let u = q.bottom.1 in
        let v = p.top.0 in
        record { from_zero = omega (arith, ints, z, later); bounded = omega (arith, ints, u, v) }
    passing_within false b other s p q range met =
        let later = passing-later false b other s met in
        let z = range.from_zero in
        let u = p.bottom.1 in
        let v = q.top.0 in
        record { from_zero = omega (arith, ints, z, later); bounded = omega (arith, ints, u, v) }

-- After so many steps no shift that is clear of all is less, and the boxes passed are clear.
pub record Walked (stand : Stand) (boxes : List PlacedBox) (shift : ℤ) (step : ℕ) : Type 0 where
  pub range : IsShift max_shift shift
  pub least : (t : ℤ) → pos 0 ≤ℤ t → IsClear stand.place (box_places boxes) stand.down t → shift ≤ℤ t
  pub clear : (j : ℕ) (d : PlacedBox) → j < step → Meet (moved_box stand.down shift stand.place) (get_or boxes (way (length boxes) stand.down j) d).place → ⊥

pub walked_from : (stand : Stand) (boxes : List PlacedBox) (shift : ℤ) (step : ℕ) → IsShift max_shift shift → IsClearFrom shift stand (box_places boxes)
    → ((j : ℕ) (d : PlacedBox) → j < step → Meet (moved_box stand.down shift stand.place) (get_or boxes (way (length boxes) stand.down j) d).place → ⊥)
    → Walked stand boxes shift step
walked_from stand boxes shift step range bound apart = record { range = range; least = bound; clear = apart }

-- ---- where a walk begins
up_passed : (b : Box2) (boxes : List PlacedBox) (shift top : ℤ) (place : ℕ) → top ≡ (b.bottom -ℤ shift) → ((k : ℕ) (d : PlacedBox) → k < place → top ≤ℤ (get_or boxes k d).place.top)
    → (j : ℕ) (d : PlacedBox) → j < place → Meet (moved_box false shift b) (get_or boxes j d).place → ⊥
up_passed b boxes shift top place is lower j d lt met =
    let low = lower j d lt in
    let h = met.1.3 in
    omega (arith, ints, is, low, h)

down_passed : (b : Box2) (boxes : List PlacedBox) (tallest shift top : ℤ) (place : ℕ) → top ≡ ((b.top +ℤ shift) -ℤ tallest) → AreNoTaller tallest boxes
    → ((k : ℕ) (d : PlacedBox) → place ≤ k → k < length boxes → (get_or boxes k d).place.top ≤ℤ top)
    → (j : ℕ) (d : PlacedBox) → j < length boxes - place → Meet (moved_box true shift b) (get_or boxes (length boxes - 1 - j) d).place → ⊥
down_passed b boxes tallest shift top place is high upper j d lt met =
    let k = length boxes - 1 - j in
    let up = upper k d (omega (arith, lt)) (omega (arith, lt)) in
    let low = high k d (omega (arith, lt)) in
    let h = met.1.2 in
    omega (arith, ints, is, up, low, h)

pub passed_up : (stand : Stand) (boxes : List PlacedBox) (shift top : ℤ) (place : ℕ) → stand.down ≡ false → top ≡ (stand.place.bottom -ℤ shift)
    → ((k : ℕ) (d : PlacedBox) → k < place → top ≤ℤ (get_or boxes k d).place.top)
    → (j : ℕ) (d : PlacedBox) → j < place → Meet (moved_box stand.down shift stand.place) (get_or boxes (way (length boxes) stand.down j) d).place → ⊥
passed_up stand boxes shift top place way_up is lower =
    subst (λ down. (j : ℕ) (d : PlacedBox) → j < place → Meet (moved_box down shift stand.place) (get_or boxes (way (length boxes) down j) d).place → ⊥) (sym way_up)
    (up_passed stand.place boxes shift top place is lower)

pub passed_down : (stand : Stand) (boxes : List PlacedBox) (tallest shift top : ℤ) (place : ℕ) → stand.down ≡ true → top ≡ ((stand.place.top +ℤ shift) -ℤ tallest) → AreNoTaller tallest boxes
    → ((k : ℕ) (d : PlacedBox) → place ≤ k → k < length boxes → (get_or boxes k d).place.top ≤ℤ top)
    → (j : ℕ) (d : PlacedBox) → j < length boxes - place → Meet (moved_box stand.down shift stand.place) (get_or boxes (way (length boxes) stand.down j) d).place → ⊥
passed_down stand boxes tallest shift top place way_down is high upper =
    subst (λ down. (j : ℕ) (d : PlacedBox) → j < length boxes - place → Meet (moved_box down shift stand.place) (get_or boxes (way (length boxes) down j) d).place → ⊥) (sym way_down)
    (down_passed stand.place boxes tallest shift top place is high upper)

pub other_within : (boxes : List PlacedBox) (place : ℕ) (d : PlacedBox) → AreBoxesWithin most_before boxes → place < length boxes → IsBoxWithin max_moved (get_or boxes place d).place
other_within boxes place d within lt = IsBoxWithin-wider (reach most_before) max_moved (get_or boxes place d).place (omega arith) (within place d lt)

below_or_here : (j step : ℕ) → j < step + 1 → (j < step) ⊎ (j ≡ step)
below_or_here j step lt = ⊎_elim (λ l. inl l) (λ le. inr (omega (arith, lt, le))) (cases_lt j step)

module _ (stand : Stand) (boxes : List PlacedBox) (shift : ℤ) (step : ℕ) (other : PlacedBox) (placeable : IsPlaceableStand stand) (within : AreBoxesWithin most_before boxes) (sorted : AreFromLowest boxes)
    (lt : step < length boxes) (is : (d : PlacedBox) → get_or boxes (way (length boxes) stand.down step) d ≡ other) (walked : Walked stand boxes shift step) where
  here : way (length boxes) stand.down step < length boxes
  here = way_within (length boxes) stand.down step lt

  other_near : IsBoxWithin max_moved other.place
  other_near = subst (λ (x : PlacedBox). IsBoxWithin max_moved x.place) (is other) (other_within boxes (way (length boxes) stand.down step) other within here)

  no_less : (t : ℤ) → pos 0 ≤ℤ t → IsClear stand.place (box_places boxes) stand.down t → Meet (moved_box stand.down t stand.place) other.place → ⊥
  no_less t from clear =
      let there = subst (Contains boxes) (is other) (Contains-get_or boxes (way (length boxes) stand.down step) other here) in
      All-contains (λ o. Meet (moved_box stand.down t stand.place) o → ⊥) (box_places boxes) other.place clear (in_map (λ (x : PlacedBox). x.place) boxes other there)

  pub walked_met : Meet (moved_box stand.down shift stand.place) other.place → Walked stand boxes (passing stand.down stand.place other.place) (step + 1)
  walked_met met = record {
    range = passing_range stand other.place shift placeable other_near walked.range met;
    least = λ t from clear. passing-least stand.down stand.place other.place shift t met (walked.least t from clear) (no_less t from clear);
    clear = λ j d below again.
        ⊎_elim
        (λ before. stays_clear stand.down stand.place (get_or boxes (way (length boxes) stand.down j) d).place other.place shift
        (subst (λ (x : PlacedBox). InOrder stand.down (get_or boxes (way (length boxes) stand.down j) d).place x.place) (is d) (in_order boxes stand.down j step d sorted before lt))
        (walked.clear j d before) met again)
        (λ same. past_is_clear stand.down stand.place other.place
        (subst (λ (x : PlacedBox). Meet (moved_box stand.down (passing stand.down stand.place other.place) stand.place) x.place) (is d)
        (subst (λ i. Meet (moved_box stand.down (passing stand.down stand.place other.place) stand.place) (get_or boxes (way (length boxes) stand.down i) d).place) same again)))
        (below_or_here j step below);
  }

  pub walked_apart : (Meet (moved_box stand.down shift stand.place) other.place → ⊥) → Walked stand boxes shift (step + 1)
  walked_apart apart = record {
    range = walked.range;
    least = walked.least;
    clear = λ j d below again.
        ⊎_elim (λ before. walked.clear j d before again)
        (λ same. apart
        (subst (λ (x : PlacedBox). Meet (moved_box stand.down shift stand.place) x.place) (is d)
        (subst (λ i. Meet (moved_box stand.down shift stand.place) (get_or boxes (way (length boxes) stand.down i) d).place) same again)))
        (below_or_here j step below);
  }

-- after all steps
pub walked_all : (stand : Stand) (boxes : List PlacedBox) (shift : ℤ) (step : ℕ) → step ≡ length boxes → Walked stand boxes shift step → IsLeastShift stand.place (box_places boxes) stand.down shift
walked_all stand boxes shift step all walked =
    let P : Box2 → Type 0 = λ other. Meet (moved_box stand.down shift stand.place) other → ⊥ in
    let clear : All (λ (x : PlacedBox). P x.place) boxes =
    λ k d lt met.
    let back = way_back (length boxes) stand.down k lt in
    walked.clear back.0 d (omega (arith, back.1, all)) (subst (λ i. Meet (moved_box stand.down shift stand.place) (get_or boxes i d).place) (sym back.2) met)
    in
    record {
      from_zero = walked.range.from_zero;
      clear = All-map P (λ (x : PlacedBox). x.place) boxes clear;
      least = walked.least;
    }

-- ---- one step
both : {A B : Type 0} → A ⊎ (A → ⊥) → B ⊎ (B → ⊥) → (A × B) ⊎ (A × B → ⊥)
both a b = ⊎_elim (λ x. ⊎_elim (λ y. inl (x, y)) (λ n. inr (λ p. n p.1)) b) (λ n. inr (λ p. n p.0)) a

less_or : (x y : ℤ) → (x <ℤ y) ⊎ ((x <ℤ y) → ⊥)
less_or x y = ⊎_elim (λ l. inl l) (λ r. inr (λ l. ⊎_elim (λ same. omega (arith, ints, l, same)) (λ more. omega (arith, ints, l, more)) r)) (int_three x y)

overlap_or : (a b c d : ℤ) → Overlap a b c d ⊎ (Overlap a b c d → ⊥)
overlap_or a b c d =
    ⊎_elim
    (λ p. ⊎_elim
    (λ q. ⊎_elim
    (λ r. ⊎_elim (λ s. inl (p, q, r, s)) (λ n. inr (λ o. n o.3)) (less_or c b))
    (λ n. inr (λ o. n o.2)) (less_or a d))
    (λ n. inr (λ o. n o.1)) (less_or c d))
    (λ n. inr (λ o. n o.0)) (less_or a b)

meet_or : (a b : Box2) → Meet a b ⊎ (Meet a b → ⊥)
meet_or a b = both (overlap_or a.left a.right b.left b.right) (overlap_or a.top a.bottom b.top b.bottom)

-- a box that a read past the end would give
abbrev pub no_box : PlacedBox
no_box = record { layer = pos 0; end = pos 0; place = record { left = pos 0; top = pos 0; right = pos 0; bottom = pos 0 } }

pub walked_more : (stand : Stand) (boxes : List PlacedBox) (shift : ℤ) (step : ℕ) (place : ℕ) (next : ℤ) → IsPlaceableStand stand → AreBoxesWithin most_before boxes → AreFromLowest boxes
    → step < length boxes → place ≡ way (length boxes) stand.down step → Walked stand boxes shift step
    → (Meet (moved_box stand.down shift stand.place) (get_or boxes place no_box).place → next ≡ passing stand.down stand.place (get_or boxes place no_box).place)
    → ((Meet (moved_box stand.down shift stand.place) (get_or boxes place no_box).place → ⊥) → next ≡ shift)
    → Walked stand boxes next (step + 1)
walked_more stand boxes shift step place next placeable within sorted lt is walked met apart =
    let other = get_or boxes place no_box in
    let here = way_within (length boxes) stand.down step lt in
    let same : (d : PlacedBox) → get_or boxes (way (length boxes) stand.down step) d ≡ other =
    λ d. get_or_default boxes (way (length boxes) stand.down step) d no_box here ∙ ap (λ i. get_or boxes i no_box) (sym is)
    in
    ⊎_elim
    (λ m. subst (λ z. Walked stand boxes z (step + 1)) (sym (met m)) (walked_met stand boxes shift step other placeable within sorted lt same walked m))
    (λ n. subst (λ z. Walked stand boxes z (step + 1)) (sym (apart n)) (walked_apart stand boxes shift step other placeable within sorted lt same walked n))
    (meet_or (moved_box stand.down shift stand.place) other.place)
