-- Each event can be moved clear of those that come before it.
use Rattle.std.proofs.Common.{◌≡◌, ℕ, zero, suc, ◌+◌, ◌*◌, ◌<◌, ◌≤◌, ◌≤ℤ◌, ◌<ℤ◌, ℤ, pos, negsuc, Bool, Option, None, Some, List, [], ◌∷◌, Contains, ◌⊎◌, inl, inr, ⊎_elim, refl, sym, ap, subst, ◌∙◌, arith}
use Rattle.std.specs.Prelude.{int_le}
use Rattle.std.specs.Int.RustNames.{unsigned_abs}
use Rattle.std.specs.List.{All}
use Rattle.std.proofs.lemmas.Bool.{and_parts}
use Rattle.std.proofs.lemmas.Int.{ints, by_lt_z}
use Rattle.std.proofs.lemmas.List.Elements.{All-cons, All-contains, All-head, All-nil, All-tail}
use Rattle.ass_num.specs.Limits.{max_instant}
use Rattle.ass_num.proofs.OrderLemmas.{le_is}
use Rattle.ass_events.specs.Histories.{HaveOwnOrders}
use Rattle.ass_events.specs.NearEvents.{IsEarlier, span_of}
use Rattle.ass_events.specs.Ranges.{IsEvent}
use Rattle.ass_events.specs.declared.event.Event.{Event}
use Rattle.ass_script.specs.Scripts.{ScriptValue}
use Rattle.bdf_font.specs.Fonts.{FontValue}
use Rattle.event_places.specs.Placement.{IsClear, IsLeastShift, Meet, Overlap, moved_box, passing}
use Rattle.event_places.specs.Shifts.{HasShift, IsMovedBy, IsRival, Placed, Pointed, Shifted}
use Rattle.event_places.specs.Stands.{HasPoint, IsStandOf, down_by}
use Rattle.event_places.specs.declared.stands.Box2.{Box2}
use Rattle.event_places.specs.declared.stands.Stand.{Stand}
use Rattle.event_places.proofs.ShiftLemmas.{passing-later}
use Rattle.event_places.proofs.StepLemmas.{nat_three, same_event}
use Rattle.frame_view.specs.declared.view.FrameView.{FrameView}
use Rattle.near_events.proofs.Lists.{get_from_there, none_some, same_some}
use Rattle.near_events.proofs.Orders.{int_three}
use Rattle.near_events.proofs.Pairs.{Contains-cons_cases, Contains-head, Contains-nil, Contains-tail}

-- ---- what is so or isn't

abbrev OrNot : Type 0 → Type 0
OrNot A = A ⊎ (A → ⊥)

both_or : {A B : Type 0} → OrNot A → OrNot B → OrNot (A × B)
both_or a b = ⊎_elim (λ x. ⊎_elim (λ y. inl (x, y)) (λ n. inr (λ p. n p.1)) b) (λ n. inr (λ p. n p.0)) a

below_or : (x y : ℤ) → OrNot (x <ℤ y)
below_or x y = by_lt_z x y (λ less. inl less) (λ more. inr (λ less. omega (arith, ints, less, more)))

-- ---- the least shift

module _ (b : Box2) (down : Bool) where
  overlap_or : (x y z w : ℤ) → OrNot (Overlap x y z w)
  overlap_or x y z w =
      ⊎_elim (λ one. ⊎_elim (λ two. inl (one.0, one.1, two.0, two.1)) (λ n. inr (λ all. n (all.2, all.3))) (both_or (below_or x w) (below_or z y)))
      (λ n. inr (λ all. n (all.0, all.1))) (both_or (below_or x y) (below_or z w))

  clear_or : (others : List Box2) (shift : ℤ) → OrNot (IsClear b others down shift)
  clear_or [] shift = inl (All-nil (λ o. Meet (moved_box down shift b) o → ⊥))
  clear_or (other ∷ others) shift =
      let moved = moved_box down shift b in
      let P : Box2 → Type 0 = λ o. Meet moved o → ⊥ in
      ⊎_elim (λ meets. inr (λ clear. All-head P other others clear meets))
      (λ apart. ⊎_elim (λ clear. inl (All-cons P other others apart clear)) (λ n. inr (λ clear. n (All-tail P other others clear))) (clear_or others shift))
      (both_or (overlap_or moved.left moved.right other.left other.right) (overlap_or moved.top moved.bottom other.top other.bottom))

  -- from some shift on it is clear of all
  far_clear : (others : List Box2) → (far : ℕ) × ((shift : ℤ) → pos far ≤ℤ shift → IsClear b others down shift)
  far_clear [] = (0, λ shift beyond. All-nil (λ o. Meet (moved_box down shift b) o → ⊥))
  far_clear (other ∷ others) =
      let rest = far_clear others in
      let past = unsigned_abs (passing down b other) in (
        rest.0 + past,
        λ shift beyond.
            All-cons (λ o. Meet (moved_box down shift b) o → ⊥) other others
            (λ meets. let later = passing-later down b other shift meets in omega (arith, ints, beyond, later))
            (rest.1 shift (omega (arith, ints, beyond))),
      )

  least_of : (others : List Box2) (from : ℕ) → ((shift : ℕ) → shift < from → IsClear b others down (pos shift) → ⊥)
      → (other : ℤ) → pos 0 ≤ℤ other → IsClear b others down other → pos from ≤ℤ other
  least_of others from none (pos n) zero_on clear =
      by_lt_z (pos n) (pos from) (λ before. absurd (none n (omega (arith, ints, before)) clear)) (λ behind. behind)
  least_of others from none (negsuc n) zero_on clear = absurd (omega (arith, ints, zero_on))

  least_from : (others : List Box2) (from more : ℕ) → IsClear b others down (pos (from + more)) → ((shift : ℕ) → shift < from → IsClear b others down (pos shift) → ⊥)
      → (shift : ℤ) × IsLeastShift b others down shift
  least_from others from zero clear none =
      let here : from + 0 ≡ from = omega arith in
      (pos from, record { from_zero = omega (arith, ints); clear = subst (λ (n : ℕ). IsClear b others down (pos n)) here clear; least = least_of others from none })
  least_from others from (suc more) clear none = elim (clear_or others (pos from)) [
    | inl now ↦ (pos from, record { from_zero = omega (arith, ints); clear = now; least = least_of others from none })
    | inr not_yet ↦
        let next : from + suc more ≡ suc from + more = omega arith in
        least_from others (suc from) more (subst (λ (n : ℕ). IsClear b others down (pos n)) next clear)
        (λ shift less here. ⊎_elim (λ is. not_yet (subst (λ (n : ℕ). IsClear b others down (pos n)) is here))
        (λ other. ⊎_elim (λ before. none shift before here) (λ behind. omega (arith, less, behind)) other) (nat_three shift from))
  ]

  least_exists : (others : List Box2) → (shift : ℤ) × IsLeastShift b others down shift
  least_exists others =
      let far = far_clear others in
      least_from others 0 far.0 (far.1 (pos (0 + far.0)) (omega (arith, ints))) (λ shift less. absurd (omega (arith, less)))

-- ---- rivals

order_or : (m n : ℕ) → OrNot (m ≡ n)
order_or m n = ⊎_elim (λ is. inl is) (λ other. inr (λ is. ⊎_elim (λ less. omega (arith, less, is)) (λ more. omega (arith, more, is)) other)) (nat_three m n)

number_or : (x y : ℤ) → OrNot (x ≡ y)
number_or x y =
    ⊎_elim (λ less. inr (λ is. omega (arith, ints, less, is))) (λ other. ⊎_elim (λ is. inl is) (λ more. inr (λ is. omega (arith, ints, more, is))) other) (int_three x y)

less_or : (m n : ℕ) → OrNot (m < n)
less_or m n =
    ⊎_elim (λ is. inr (λ less. omega (arith, less, is))) (λ other. ⊎_elim (λ less. inl less) (λ more. inr (λ less. omega (arith, less, more))) other) (nat_three m n)

rival_or : (events : List Event) (e f : Event) → Contains events f → OrNot (IsRival events e f)
rival_or events e f listed =
    let earlier : OrNot (IsEarlier (span_of f) (span_of e)) =
    ⊎_elim (λ less. inl (inl less))
    (λ no. ⊎_elim (λ both. inl (inr both)) (λ n. inr (λ p. ⊎_elim no n p)) (both_or (number_or f.start e.start) (less_or f.order e.order)))
    (below_or f.start e.start) in
    ⊎_elim
    (λ all. inl (record { listed = listed; before = (all.0, (all.1).0); lasts = (all.1).1 }))
    (λ no. inr (λ (rival : IsRival events e f). let before = rival.before in no (before.0, (before.1, rival.lasts))))
    (both_or (number_or f.layer e.layer) (both_or earlier (below_or e.start (span_of f).end)))

-- how late an event stands among others
abbrev rank : Event → ℕ
rank e = unsigned_abs e.start * 2147483648 + e.order

time_from_zero : (e : Event) → IsEvent e → pos 0 ≤ℤ e.start
time_from_zero e is = let test = and_parts (int_le (pos 0) e.start) (int_le e.start (pos max_instant)) is.start in le_is (pos 0) e.start test.0

rank_falls : (events : List Event) (e f : Event) → IsEvent e → IsEvent f → IsRival events e f → rank f < rank e
rank_falls events e f is_e is_f rival =
    let e_start = time_from_zero e is_e in
    let f_start = time_from_zero f is_f in
    let e_order = is_e.order in
    let f_order = is_f.order in
    let before = rival.before in
    ⊎_elim (λ less. omega (arith, ints, e_start, f_start, e_order, f_order, less)) (λ both. let same = both.0 in let less = both.1 in omega (arith, ints, e_start, f_start, same, less)) before.1

-- ---- one event behind its rivals

pub same_event_of : (events : List Event) (e f : Event) → HaveOwnOrders events → Contains events e → Contains events f → e.order ≡ f.order → e ≡ f
same_event_of events e f orders first second same =
    let i = get_from_there events e first in
    let j = get_from_there events f second in
    same_event events i.0 j.0 e f orders i.1 j.1 same

module _ (script : ScriptValue) (fonts : List FontValue) (frame : FrameView) (events : List Event) (orders : HaveOwnOrders events) where
  -- An event has a point of its own, or a stand and a shift.
  abbrev IsSettled : Event → Type 0
  IsSettled e = HasPoint e ⊎ ((stand : Stand) × (shift : ℤ) × HasShift script fonts frame events e stand shift)

  abbrev place_settled : (e : Event) → IsSettled e → Option (Stand × ℤ)
  place_settled e (inl point) = None
  place_settled e (inr placed) = Some (placed.0, placed.1)

  -- The place is that of the event.
  abbrev IsPlaceOf : Event → Option (Stand × ℤ) → Type 0
  IsPlaceOf e None = HasPoint e
  IsPlaceOf e (Some place) = HasShift script fonts frame events e place.0 place.1

  settled_place : (e : Event) (settled : IsSettled e) → IsPlaceOf e (place_settled e settled)
  settled_place e (inl point) = point
  settled_place e (inr placed) = placed.2

  module _ (e : Event) (before : (f : Event) → IsRival events e f → IsSettled f) where
    -- the rival of a ReadOrder, where there is one
    abbrev RivalOf : ℕ → Type 0
    RivalOf order = (f : Event) × IsRival events e f × (f.order ≡ order)

    rival_of : (order : ℕ) (some : List Event) → ((f : Event) → Contains some f → Contains events f) → RivalOf order ⊎ ((f : Event) → Contains some f → IsRival events e f → f.order ≡ order → ⊥)
    rival_of order [] within = inr (λ f c. absurd (Contains-nil f c))
    rival_of order (x ∷ some) within =
        let others = rival_of order some (λ f c. within f (Contains-tail x some f c)) in
        ⊎_elim
        (λ both. inl (x, both.0, both.1))
        (λ no. ⊎_elim (λ found. inl found)
        (λ none. inr (λ f c rival same. ⊎_elim (λ is. no (subst (λ (z : Event). IsRival events e z × (z.order ≡ order)) (sym is) (rival, same))) (λ later. none f later rival same)
        (Contains-cons_cases x some f c)))
        others)
        (both_or (rival_or events e x (within x (Contains-head x some))) (order_or x.order order))

    abbrev place_by : (order : ℕ) → RivalOf order ⊎ ((f : Event) → Contains events f → IsRival events e f → f.order ≡ order → ⊥) → Option (Stand × ℤ)
    place_by order (inl found) = place_settled found.0 (before found.0 found.1)
    place_by order (inr none) = None

    abbrev place_of : Event → Option (Stand × ℤ)
    place_of f = place_by f.order (rival_of f.order events (λ g c. c))

    place_by_is : (f : Event) → IsRival events e f → (found : RivalOf f.order ⊎ ((g : Event) → Contains events g → IsRival events e g → g.order ≡ f.order → ⊥)) → IsPlaceOf f (place_by f.order found)
    place_by_is f rival (inl found) =
        let same : found.0 ≡ f = same_event_of events found.0 f orders (found.1).listed rival.listed found.2 in
        let place = place_settled found.0 (before found.0 found.1) in
        subst (λ (z : Event). IsPlaceOf z place) same (settled_place found.0 (before found.0 found.1))
    place_by_is f rival (inr none) = absurd (none f rival.listed rival refl)

    place_is : (f : Event) → IsRival events e f → IsPlaceOf f (place_of f)
    place_is f rival = place_by_is f rival (rival_of f.order events (λ g c. c))

    -- the box of a rival
    abbrev HasBox : Event → Box2 → Type 0
    HasBox f box = (stand : Stand) × (shift : ℤ) × IsRival events e f × (place_of f ≡ Some (stand, shift)) × (box ≡ moved_box stand.down shift stand.place)

    box_by : (f : Event) → IsRival events e f → (place : Option (Stand × ℤ)) → place_of f ≡ place → ((box : Box2) × HasBox f box) ⊎ ((box : Box2) → HasBox f box → ⊥)
    box_by f rival None none = inr (λ box has. none_some (has.0, has.1) (sym none ∙ has.3))
    box_by f rival (Some place) is = inl (moved_box (place.0).down place.1 (place.0).place, (place.0, place.1, rival, is, refl))

    box_or : (f : Event) → Contains events f → ((box : Box2) × HasBox f box) ⊎ ((box : Box2) → HasBox f box → ⊥)
    box_or f listed = ⊎_elim (λ rival. box_by f rival (place_of f) refl) (λ no. inr (λ box has. no has.2)) (rival_or events e f listed)

    one_box : (f : Event) (a b : Box2) → HasBox f a → HasBox f b → a ≡ b
    one_box f a b h k =
        let same : (h.0, h.1) ≡ (k.0, k.1) = same_some (h.0, h.1) (k.0, k.1) (sym h.3 ∙ k.3) in
        h.4 ∙ (ap (λ (place : Stand × ℤ). moved_box (place.0).down place.1 (place.0).place) same ∙ sym k.4)

    record BoxesOf (some : List Event) : Type 0 where
      boxes : List Box2
      each : (box : Box2) → Contains boxes box → (f : Event) × HasBox f box
      all : (f : Event) (box : Box2) → Contains some f → HasBox f box → Contains boxes box

    boxes_of_rivals : (some : List Event) → ((f : Event) → Contains some f → Contains events f) → BoxesOf some
    boxes_of_rivals [] within = record { boxes = []; each = λ box c. absurd (Contains-nil box c); all = λ f box c. absurd (Contains-nil f c) }
    boxes_of_rivals (x ∷ some) within =
        let rest = boxes_of_rivals some (λ f c. within f (Contains-tail x some f c)) in
        elim (box_or x (within x (Contains-head x some))) [
          | inl found ↦ record {
            boxes = found.0 ∷ rest.boxes;
            each = λ box c. ⊎_elim (λ is. (x, subst (HasBox x) is found.1)) (λ later. rest.each box later) (Contains-cons_cases found.0 rest.boxes box c);
            all =
                λ f box c has.
                ⊎_elim
                (λ is.
                let own : HasBox x box = subst (λ (z : Event). HasBox z box) (sym is) has in
                subst (Contains (found.0 ∷ rest.boxes)) (one_box x found.0 box found.1 own) (Contains-head found.0 rest.boxes))
                (λ later. Contains-tail found.0 rest.boxes box (rest.all f box later has)) (Contains-cons_cases x some f c);
          }
          | inr none ↦ record {
            boxes = rest.boxes;
            each = rest.each;
            all =
                λ f box c has.
                ⊎_elim (λ is. absurd (none box (subst (λ (z : Event). HasBox z box) (sym is) has))) (λ later. rest.all f box later has) (Contains-cons_cases x some f c);
          }
        ]

    shift_exists : (stand : Stand) → IsStandOf script fonts frame e stand → (shift : ℤ) × HasShift script fonts frame events e stand shift
    shift_exists stand stands =
        let others = boxes_of_rivals events (λ f c. c) in
        let least = least_exists stand.place stand.down others.boxes in (
          least.0,
          Placed e stand others.boxes place_of least.0 stands (λ f rival none. subst (IsPlaceOf f) none (place_is f rival))
              (λ f s z rival some. subst (IsPlaceOf f) some (place_is f rival))
              (λ box. (
                λ c. let found = others.each box c in let has = found.1 in record { rival = found.0; is_rival = has.2; stand = has.0; shift = has.1; stands = has.3; moved = has.4 },
                λ is. others.all is.rival box (is.is_rival).listed (is.stand, is.shift, is.is_rival, is.stands, is.moved),
              ))
              least.1,
        )

  -- ---- all events

  module _ (sound : All IsEvent events) (stand_or_point : (e : Event) → Contains events e → HasPoint e ⊎ ((stand : Stand) × IsStandOf script fonts frame e stand)) where
    settled : (fuel : ℕ) (e : Event) → Contains events e → rank e < fuel → IsSettled e
    settled zero e listed less = absurd (omega (arith, less))
    settled (suc fuel) e listed less = elim (stand_or_point e listed) [
      | inl point ↦ inl point
      | inr stands ↦
          let before : (f : Event) → IsRival events e f → IsSettled f =
          λ f rival.
          let falls = rank_falls events e f (All-contains IsEvent events e sound listed) (All-contains IsEvent events f sound rival.listed) rival in
          settled fuel f rival.listed (omega (arith, less, falls)) in
          let found = shift_exists e before stands.0 stands.1 in
          inr (stands.0, found.0, found.1)
    ]

    -- An event is moved by some distance.
    pub move_exists : (e : Event) → Contains events e → (shift : ℤ) × IsMovedBy script fonts frame events e shift
    move_exists e listed = elim (settled (suc (rank e)) e listed (omega arith)) [
      | inl point ↦ (pos 0, Pointed e point)
      | inr placed ↦ (down_by placed.0 placed.1, Shifted e placed.0 placed.1 placed.2)
    ]
