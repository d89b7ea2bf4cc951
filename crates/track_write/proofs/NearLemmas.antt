-- What matters of later_event events at the later_event instant is what mattered.
use Rattle.std.proofs.Common.{◌≡◌, ◌<◌, inl, inr, List, [], ◌∷◌, length, get_or, map, ℤ, ◌+ℤ◌, ◌<ℤ◌, sym, ap, ◌∙◌, subst, arith}
use Rattle.std.specs.List.{Contains}
use Rattle.std.proofs.lemmas.Int.{ints}
use Rattle.std.proofs.lemmas.List.{get_or-map, get_or_default, length-map}
use Rattle.std.proofs.lemmas.List.Elements.{All-map, All-weaker}
use Rattle.ass_events.specs.Histories.{Pairwise}
use Rattle.ass_events.specs.NearEvents.{span_of, IsShownAt, IsEarlier, ComesBefore, IsNear, Shown, Chained, AreNear}
use Rattle.ass_events.specs.declared.event.Event.{Event}
use Rattle.track_write.specs.Shifts.{later_event}

-- ---- one list, two times

module _ (by : ℤ) where
  shown_on : (e : Event) (t : ℤ) → IsShownAt (span_of e) t → IsShownAt (span_of (later_event by e)) (t +ℤ by)
  shown_on e t s = (omega (arith, ints, s.0), omega (arith, ints, s.1))

  shown_back : (e : Event) (t : ℤ) → IsShownAt (span_of (later_event by e)) (t +ℤ by) → IsShownAt (span_of e) t
  shown_back e t s = (omega (arith, ints, s.0), omega (arith, ints, s.1))

  earlier_on : (f e : Event) → IsEarlier (span_of f) (span_of e) → IsEarlier (span_of (later_event by f)) (span_of (later_event by e))
  earlier_on f e (inl less) = inl (omega (arith, ints, less))
  earlier_on f e (inr same) = inr (omega (arith, ints, same.0), same.1)

  earlier_back : (f e : Event) → IsEarlier (span_of (later_event by f)) (span_of (later_event by e)) → IsEarlier (span_of f) (span_of e)
  earlier_back f e (inl less) = inl (omega (arith, ints, less))
  earlier_back f e (inr same) = inr (omega (arith, ints, same.0), same.1)

  ends_on : (f e : Event) → (span_of e).start <ℤ (span_of f).end → (span_of (later_event by e)).start <ℤ (span_of (later_event by f)).end
  ends_on f e less = omega (arith, ints, less)

  ends_back : (f e : Event) → (span_of (later_event by e)).start <ℤ (span_of (later_event by f)).end → (span_of e).start <ℤ (span_of f).end
  ends_back f e less = omega (arith, ints, less)

  near_on : (events : List Event) (t : ℤ) {e : Event} → IsNear span_of events t e → IsNear (λ e. span_of (later_event by e)) events (t +ℤ by) e
  near_on events t (Shown {e = e} among shown) = Shown among (shown_on e t shown)
  near_on events t (Chained {e = e} {f = f} near among before ends) = Chained (near_on events t near) among (before.0, earlier_on f e before.1) (ends_on f e ends)

  near_back : (events : List Event) (t : ℤ) {e : Event} → IsNear (λ e. span_of (later_event by e)) events (t +ℤ by) e → IsNear span_of events t e
  near_back events t (Shown {e = e} among shown) = Shown among (shown_back e t shown)
  near_back events t (Chained {e = e} {f = f} near among before ends) = Chained (near_back events t near) among (before.0, earlier_back f e before.1) (ends_back f e ends)

-- ---- one time, two lists

pub among_map : {X Y : Type 0} (f : X → Y) (xs : List X) (x : X) → Contains xs x → Contains (map f xs) (f x)
among_map f xs x has = (has.0, omega (arith, has.1, length-map xs f), get_or-map f xs has.0 x (f x) has.1 ∙ ap f has.2)

pub among_back : {X Y : Type 0} (f : X → Y) (xs : List X) (y : Y) → Contains (map f xs) y → (x : X) × Contains xs x × (f x ≡ y)
among_back f [] y has = absurd (omega (arith, has.1))
among_back f (x ∷ xs) y has =
    let k = has.0 in
    let inside : k < length (x ∷ xs) = omega (arith, has.1, length-map (x ∷ xs) f) in
    let z = get_or (x ∷ xs) k x in
    (z, (k, inside, get_or_default (x ∷ xs) k z x inside), sym (get_or-map f (x ∷ xs) k x y inside) ∙ has.2)

module _ (by : ℤ) where
  map_near : (events : List Event) (t : ℤ) {e : Event} → IsNear (λ e. span_of (later_event by e)) events t e → IsNear span_of (map (later_event by) events) t (later_event by e)
  map_near events t (Shown {e = e} among shown) = Shown (among_map (later_event by) events e among) shown
  map_near events t (Chained {e = e} {f = f} near among before ends) = Chained (map_near events t near) (among_map (later_event by) events f among) before ends

  from_map : (events : List Event) (t : ℤ) {y : Event} → IsNear span_of (map (later_event by) events) t y → (x : Event) × IsNear (λ e. span_of (later_event by e)) events t x × (later_event by x ≡ y)
  from_map events t (Shown {e = y} among shown) =
      let x = among_back (later_event by) events y among in
      let P : Event → Type 0 = λ z. IsShownAt (span_of z) t in
      (x.0, Shown x.1 (subst P (sym x.2) shown), x.2)
  from_map events t (Chained {e = e} {f = y} near among before ends) =
      let a = from_map events t near in
      let x = among_back (later_event by) events y among in
      let P : Event → Type 0 = λ z. ComesBefore (span_of z) (span_of e) in
      let Q : Event → Type 0 = λ z. ComesBefore (span_of (later_event by x.0)) (span_of z) in
      let R : Event → Type 0 = λ z. (span_of e).start <ℤ (span_of z).end in
      let S : Event → Type 0 = λ z. (span_of z).start <ℤ (span_of (later_event by x.0)).end in
      (x.0, Chained a.1 x.1 (subst Q (sym a.2) (subst P (sym x.2) before)) (subst S (sym a.2) (subst R (sym x.2) ends)), x.2)

  pairs_on : (xs : List Event) → Pairwise (λ e f. IsEarlier (span_of e) (span_of f)) xs → Pairwise (λ e f. IsEarlier (span_of e) (span_of f)) (map (later_event by) xs)
  pairs_on [] pairs = tt
  pairs_on (x ∷ xs) pairs = (
    All-map (λ f. IsEarlier (span_of (later_event by x)) (span_of f)) (later_event by) xs
        (All-weaker (λ f. IsEarlier (span_of x) (span_of f)) (λ f. IsEarlier (span_of (later_event by x)) (span_of (later_event by f))) (λ f h. earlier_on by x f h) xs pairs.0),
    pairs_on xs pairs.1,
  )

  pub near_moved : (events near : List Event) (t : ℤ) → AreNear span_of events t near → AreNear span_of (map (later_event by) events) (t +ℤ by) (map (later_event by) near)
  near_moved events near t is = record {
    members = λ y. (
      (λ has. (
          let x = among_back (later_event by) near y has in
          let P : Event → Type 0 = λ z. IsNear span_of (map (later_event by) events) (t +ℤ by) z in
          subst P x.2 (map_near events (t +ℤ by) (near_on by events t ((is.members x.0).0 x.1)))
          )),
      (λ n. (
          let x = from_map events (t +ℤ by) n in
          let P : Event → Type 0 = λ z. Contains (map (later_event by) near) z in
          subst P x.2 (among_map (later_event by) near x.0 ((is.members x.0).1 (near_back by events t x.1)))
          )),
    );
    sorted = pairs_on near is.sorted;
  }
