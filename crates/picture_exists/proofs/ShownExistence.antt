-- The events that are shown at an instant can be listed, the lowest first.
use Rattle.std.proofs.Common.{◌≡◌, ◌≢◌, ℤ, List, [], ◌∷◌, Contains, ◌⊎◌, inl, inr, ⊎_elim, sym, subst, arith}
use Rattle.std.proofs.lemmas.Int.{by_lt_z, ints}
use Rattle.std.proofs.lemmas.List.Elements.{All-cons, All-contains, All-contains_itself, All-nil, All-weaker}
use Rattle.ass_events.specs.Histories.{HaveOwnOrders, Pairwise}
use Rattle.ass_events.specs.NearEvents.{IsShownAt, span_of}
use Rattle.ass_events.specs.declared.event.Event.{Event}
use Rattle.event_places.proofs.StepLemmas.{nat_three}
use Rattle.near_events.proofs.Orders.{int_three}
use Rattle.near_events.proofs.Pairs.{Contains-cons_cases, Contains-head, Contains-nil, Contains-tail}
use Rattle.picture_plan.specs.Pictures.{AreShown, IsDrawnBefore}

drawn_trans : (a b c : Event) → IsDrawnBefore a b → IsDrawnBefore b c → IsDrawnBefore a c
drawn_trans a b c p q =
    ⊎_elim (λ x. ⊎_elim (λ y. inl (omega (arith, ints, x, y))) (λ y. let same = y.0 in inl (omega (arith, ints, x, same))) q)
    (λ x. let same = x.0 in ⊎_elim (λ y. inl (omega (arith, ints, same, y))) (λ y. let also = y.0 in let first = x.1 in let second = y.1 in inr (omega (arith, ints, same, also), omega (arith, first, second))) q) p

drawn_or : (a b : Event) → a.order ≢ b.order → IsDrawnBefore a b ⊎ IsDrawnBefore b a
drawn_or a b other =
    ⊎_elim (λ less. inl (inl less))
    (λ x. ⊎_elim (λ same. ⊎_elim (λ is. absurd (other is)) (λ y. ⊎_elim (λ less. inl (inr (same, less))) (λ more. inr (inr (sym same, more))) y) (nat_three a.order b.order)) (λ more. inr (inl more)) x)
    (int_three a.layer b.layer)

-- a list with one event more at its place
record WithEvent (x : Event) (ys : List Event) : Type 0 where
  list : List Event
  has : (e : Event) → Contains list e → (x ≡ e) ⊎ Contains ys e
  new : Contains list x
  kept : (e : Event) → Contains ys e → Contains list e
  sorted : Pairwise IsDrawnBefore list

with_event : (x : Event) (ys : List Event) → Pairwise IsDrawnBefore ys → ((y : Event) → Contains ys y → x.order ≢ y.order) → WithEvent x ys
with_event x [] sorted other = record {
  list = x ∷ [];
  has = λ e c. Contains-cons_cases x [] e c;
  new = Contains-head x [];
  kept = λ e c. absurd (Contains-nil e c);
  sorted = (All-nil (IsDrawnBefore x), tt);
}
with_event x (y ∷ ys) sorted other = elim (drawn_or x y (other y (Contains-head y ys))) [
  | inl below ↦ record {
    list = x ∷ (y ∷ ys);
    has = λ e c. Contains-cons_cases x (y ∷ ys) e c;
    new = Contains-head x (y ∷ ys);
    kept = λ e c. Contains-tail x (y ∷ ys) e c;
    sorted = (All-cons (IsDrawnBefore x) y ys below (All-weaker (IsDrawnBefore y) (IsDrawnBefore x) (λ z above. drawn_trans x y z below above) ys sorted.0), sorted);
  }
  | inr above ↦
      let rest = with_event x ys sorted.1 (λ z c. other z (Contains-tail y ys z c)) in
      record {
        list = y ∷ rest.list;
        has =
            λ e c.
            ⊎_elim (λ is. inr (subst (Contains (y ∷ ys)) is (Contains-head y ys))) (λ later. ⊎_elim (λ is. inl is) (λ old. inr (Contains-tail y ys e old)) (rest.has e later))
            (Contains-cons_cases y rest.list e c);
        new = Contains-tail y rest.list x rest.new;
        kept =
            λ e c.
            ⊎_elim (λ is. subst (Contains (y ∷ rest.list)) is (Contains-head y rest.list)) (λ later. Contains-tail y rest.list e (rest.kept e later)) (Contains-cons_cases y ys e c);
        sorted = (
          All-weaker (Contains rest.list) (IsDrawnBefore y)
              (λ z c. ⊎_elim (λ is. subst (IsDrawnBefore y) is above) (λ old. All-contains (IsDrawnBefore y) ys z sorted.0 old) (rest.has z c)) rest.list (All-contains_itself rest.list),
          rest.sorted,
        );
      }
]

shown_or : (e : Event) (t : ℤ) → IsShownAt (span_of e) t ⊎ (IsShownAt (span_of e) t → ⊥)
shown_or e t =
    by_lt_z t e.start (λ early. inr (λ shown. let begun = shown.0 in omega (arith, ints, early, begun)))
    (λ begun. by_lt_z t (span_of e).end (λ before. inl (begun, before)) (λ late. inr (λ shown. let before = shown.1 in omega (arith, ints, late, before))))

pub shown_exist : (events : List Event) (t : ℤ) → HaveOwnOrders events → (shown : List Event) × AreShown events t shown
shown_exist [] t orders = ([], record { members = λ e. (λ c. absurd (Contains-nil e c), λ both. absurd (Contains-nil e both.0)); sorted = tt })
shown_exist (x ∷ events) t orders =
    let rest = shown_exist events t orders.1 in
    let are = rest.1 in
    elim (shown_or x t) [
      | inl now ↦
          let all = with_event x rest.0 are.sorted (λ y c. All-contains (λ (z : Event). x.order ≢ z.order) events y orders.0 ((are.members y).0 c).0) in (
            all.list,
            record {
              members = λ e. (
                λ c. ⊎_elim (λ is. (subst (Contains (x ∷ events)) is (Contains-head x events), subst (λ (z : Event). IsShownAt (span_of z) t) is now))
                    (λ old. let both = (are.members e).0 old in (Contains-tail x events e both.0, both.1)) (all.has e c),
                λ both. ⊎_elim (λ is. subst (Contains all.list) is all.new) (λ later. all.kept e ((are.members e).1 (later, both.1))) (Contains-cons_cases x events e both.0),
              );
              sorted = all.sorted;
            },
          )
      | inr hidden ↦ (
        rest.0,
        record {
          members = λ e. (
            λ c. let both = (are.members e).0 c in (Contains-tail x events e both.0, both.1),
            λ both. ⊎_elim (λ is. absurd (hidden (subst (λ (z : Event). IsShownAt (span_of z) t) (sym is) both.1))) (λ later. (are.members e).1 (later, both.1)) (Contains-cons_cases x events e both.0),
          );
          sorted = are.sorted;
        },
      )
    ]
