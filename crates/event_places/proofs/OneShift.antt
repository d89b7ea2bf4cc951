-- An event has one shift, since its rivals have one each.
use Rattle.std.proofs.Common.{◌≡◌, ◌∙◌, ap, sym, subst, ◌⊎◌, inl, inr, ⊎_elim, refl, ℤ, pos, neg_ℤ, Bool, true, false, cond, List, Contains, Option, Some, None, arith}
use Rattle.std.proofs.lemmas.Int.{ints}
use Rattle.std.proofs.lemmas.List.Elements.{All-contains, All-contains_itself, All-weaker}
use Rattle.frame_view.specs.declared.view.FrameView.{FrameView}
use Rattle.ass_events.specs.declared.event.Event.{Event}
use Rattle.ass_script.specs.Scripts.{ScriptValue}
use Rattle.bdf_font.specs.Fonts.{FontValue}
use Rattle.event_places.specs.Placement.{IsClear, IsLeastShift, Meet, moved_box}
use Rattle.event_places.specs.declared.stands.Box2.{Box2}
use Rattle.event_places.specs.declared.stands.Stand.{Stand}
use Rattle.event_places.specs.Shifts.{HaveOneStand, IsRival, IsRivalBox, HasShift, Placed, IsMovedBy, Shifted, Pointed, Alone}
use Rattle.event_places.specs.Stands.{HasPoint, IsStandOf, down_by}

-- What is clear of some boxes is clear of boxes that are all among them.
clear_of : (b : Box2) (some all : List Box2) (down : Bool) (shift : ℤ)
    → ((box : Box2) → Contains some box → Contains all box) → IsClear b all down shift → IsClear b some down shift
clear_of b some all down shift over h =
    let P : Box2 → Type 0 = λ other. Meet (moved_box down shift b) other → ⊥ in
    All-weaker (Contains some) P (λ box c. All-contains P all box h (over box c)) some (All-contains_itself some)

-- Boxes that are the same apart from their order leave the same shift.
same_least : (b : Box2) (some others : List Box2) (down : Bool) (s t : ℤ)
    → ((box : Box2) → Contains some box → Contains others box) → ((box : Box2) → Contains others box → Contains some box)
    → IsLeastShift b some down s → IsLeastShift b others down t → s ≡ t
same_least b some others down s t over back h k =
    let below = h.least t k.from_zero (clear_of b some others down t over k.clear) in
    let above = k.least s h.from_zero (clear_of b others some down s back h.clear) in
    omega (arith, ints, below, above)

-- where an option is none or what it has
option_cases : {A : Type 0} (o : Option A) → (o ≡ None) ⊎ ((a : A) × (o ≡ Some a))
option_cases None = inl refl
option_cases (Some a) = inr (a, refl)

-- an event with a shift has a stand
shift_stands : {script : ScriptValue} {fonts : List FontValue} {frame : FrameView} {events : List Event} (e : Event) (s : Stand) (z : ℤ)
    → HasShift script fonts frame events e s z → IsStandOf script fonts frame e s
shift_stands _ _ _ (Placed e stand others place_of shift stands points each boxes least) = stands

-- Where the rivals have the same places, their boxes are the same.
same_box : {script : ScriptValue} {fonts : List FontValue} {frame : FrameView} {events : List Event} {e : Event} {box : Box2} → HaveOneStand script fonts frame
    → (p q : Event → Option (Stand × ℤ))
    → ((f : Event) (s : Stand) (z : ℤ) → IsRival events e f → p f ≡ Some (s, z) → IsStandOf script fonts frame f s)
    → ((f : Event) (s : Stand) (z : ℤ) → IsRival events e f → q f ≡ Some (s, z) → IsStandOf script fonts frame f s)
    → ((f : Event) → IsRival events e f → q f ≡ None → HasPoint f)
    → ((f : Event) (s r : Stand) (y z : ℤ) → IsRival events e f → p f ≡ Some (s, y) → q f ≡ Some (r, z) → y ≡ z)
    → IsRivalBox events p e box → IsRivalBox events q e box
same_box one p q stood stood' points same h =
    let f = h.rival in
    let stands = stood f h.stand h.shift h.is_rival h.stands in
    ⊎_elim
    (λ none. absurd (one.pointless f h.stand stands (points f h.is_rival none)))
    (λ some.
    let s = (some.0).0 in
    let z = (some.0).1 in
    let is_stand : h.stand ≡ s = one.one f h.stand s stands (stood' f s z h.is_rival some.1) in
    let is_shift : h.shift ≡ z = same f h.stand s h.shift z h.is_rival h.stands some.1 in
    record {
      rival = f;
      is_rival = h.is_rival;
      stand = s;
      shift = z;
      stands = some.1;
      moved = h.moved ∙ (ap (λ y. moved_box h.stand.down y h.stand.place) is_shift ∙ ap (λ (r : Stand). moved_box r.down z r.place) is_stand);
    })
    (option_cases (q f))

pub one_shift : {script : ScriptValue} {fonts : List FontValue} {frame : FrameView} {events : List Event} → HaveOneStand script fonts frame
    → (e : Event) (s r : Stand) (a b : ℤ) → HasShift script fonts frame events e s a → HasShift script fonts frame events e r b → a ≡ b
one_shift {script} {fonts} {frame} {events} one _ _ _ a b (Placed e stand others p _ stands points each boxes least) (Placed _ stand' others' q _ stands' points' each' boxes' least') =
    let stood : (f : Event) (s : Stand) (z : ℤ) → IsRival events e f → p f ≡ Some (s, z) → IsStandOf script fonts frame f s = λ f s z rival has. shift_stands f s z (each f s z rival has) in
    let stood' : (f : Event) (s : Stand) (z : ℤ) → IsRival events e f → q f ≡ Some (s, z) → IsStandOf script fonts frame f s = λ f s z rival has. shift_stands f s z (each' f s z rival has) in
    let same : (f : Event) (s r : Stand) (y z : ℤ) → IsRival events e f → p f ≡ Some (s, y) → q f ≡ Some (r, z) → y ≡ z =
    λ f s r y z rival has has'. one_shift one f s r y z (each f s y rival has) (each' f r z rival has')
    in
    let moved : IsLeastShift stand.place others' stand.down b =
    subst (λ (z : Stand). IsLeastShift z.place others' z.down b) (one.one e stand' stand stands' stands) least'
    in
    same_least stand.place others others' stand.down a b
    (λ box c. (boxes' box).1 (same_box one p q stood stood' points' same ((boxes box).0 c)))
    (λ box c. (boxes box).1 (same_box one q p stood' stood points (λ f s r y z rival has has'. sym (same f r s z y rival has' has)) ((boxes' box).0 c)))
    least moved

-- Without rivals a shift is 0.
no_shift : {script : ScriptValue} {fonts : List FontValue} {frame : FrameView} {events : List Event} (e : Event) (s : Stand) (z : ℤ)
    → ((f : Event) → IsRival events e f → ⊥) → HasShift script fonts frame events e s z → z ≡ pos 0
no_shift _ _ z alone (Placed e stand others p _ stands points each boxes least) =
    let P : Box2 → Type 0 = λ other. Meet (moved_box stand.down (pos 0) stand.place) other → ⊥ in
    let clear : IsClear stand.place others stand.down (pos 0) =
    All-weaker (Contains others) P (λ box c. let rival = (boxes box).0 c in absurd (alone rival.rival rival.is_rival)) others (All-contains_itself others)
    in
    let below = least.least (pos 0) (omega (arith, ints)) clear in
    let above = least.from_zero in
    omega (arith, ints, below, above)

unmoved_down : (s : Stand) → down_by s (pos 0) ≡ pos 0
unmoved_down s = elim s.down as (λ b. cond b (pos 0) (neg_ℤ (pos 0)) ≡ pos 0) [ true ↦ refl | false ↦ refl ]

still : {script : ScriptValue} {fonts : List FontValue} {frame : FrameView} {events : List Event} (e : Event) (s : Stand) (z : ℤ)
    → ((f : Event) → IsRival events e f → ⊥) → HasShift script fonts frame events e s z → down_by s z ≡ pos 0
still e s z alone h = ap (down_by s) (no_shift e s z alone h) ∙ unmoved_down s

pub one_move : {script : ScriptValue} {fonts : List FontValue} {frame : FrameView} {events : List Event} → HaveOneStand script fonts frame
    → (e : Event) (a b : ℤ) → IsMovedBy script fonts frame events e a → IsMovedBy script fonts frame events e b → a ≡ b
one_move one _ _ _ (Shifted e s z h) (Shifted _ r y k) =
    ap (λ (t : Stand). down_by t z) (one.one e s r (shift_stands e s z h) (shift_stands e r y k)) ∙ ap (down_by r) (one_shift one e s r z y h k)
one_move one _ _ _ (Shifted e s z h) (Pointed _ point) = absurd (one.pointless e s (shift_stands e s z h) point)
one_move one _ _ _ (Shifted e s z h) (Alone _ alone) = still e s z alone h
one_move one _ _ _ (Pointed e point) (Shifted _ r y k) = absurd (one.pointless e r (shift_stands e r y k) point)
one_move one _ _ _ (Pointed e point) (Pointed _ other) = refl
one_move one _ _ _ (Pointed e point) (Alone _ alone) = refl
one_move one _ _ _ (Alone e alone) (Shifted _ r y k) = sym (still e r y alone k)
one_move one _ _ _ (Alone e alone) (Pointed _ point) = refl
one_move one _ _ _ (Alone e alone) (Alone _ other) = refl
