-- Events that are new are live in whatever order they are offered.
use Rattle.std.proofs.Common.{◌≡◌, ◌≢◌, ℕ, ◌<◌, ◌≤◌, Bool, false, cond, List, [], ◌∷◌, ◌++◌, length, get_or, ⊎_elim, refl, sym, ap, ◌∙◌, subst, arith, append_assoc, length-append}
use Rattle.std.specs.Prelude.{◌||◌, nat_le}
use Rattle.std.specs.List.{All, Contains}
use Rattle.std.proofs.lemmas.Bool.{lt-leb, ne_eqb}
use Rattle.std.proofs.lemmas.List.{append-nil}
use Rattle.std.proofs.lemmas.List.Elements.{All-head, All-tail, Contains-append_cases, Contains-append_left, Contains-append_right}
use Rattle.ass_events.specs.Histories.{Chunk, Entry, HaveOwnOrders, after, has_order, live, max_live}
use Rattle.ass_events.specs.declared.event.Event.{Event}
use Rattle.track_history.proofs.Histories.{live-chunk}
use Rattle.near_events.proofs.Pairs.{Pairwise-cross}
use Rattle.world_core.specs.Laws.{AreNewTo, LiveInAnyOrder, after_all}

order-absent : (order : ℕ) (events : List Event) → All (λ (e : Event). e.order ≢ order) events → has_order order events ≡ false
order-absent order [] all = refl
order-absent order (e ∷ es) all =
    ap (λ (b : Bool). b || has_order order es) (ne_eqb e.order order (All-head (λ (e : Event). e.order ≢ order) e es all)) ∙ order-absent order es (All-tail (λ (e : Event). e.order ≢ order) e es all)

-- an event that is new is the last live one then
accepted : (history : List Entry) (e : Event) → All (λ (a : Event). a.order ≢ e.order) (live history) → length (live history) < max_live → live (after history e) ≡ live history ++ e ∷ []
accepted history e others room =
    let full : nat_le max_live (length (live history)) ≡ false = lt-leb max_live (length (live history)) room in
    let refused : (has_order e.order (live history) || nat_le max_live (length (live history))) ≡ false = ap (λ (b : Bool). b || nat_le max_live (length (live history))) (order-absent e.order (live history) others) ∙ full in
    ap (λ (b : Bool). live (cond b history (history ++ Chunk e ∷ []))) refused ∙ live-chunk history e

live-all : (history : List Entry) (events : List Event) → AreNewTo history events → live (after_all history events) ≡ live history ++ events
live-all history [] new = sym (append-nil (live history))
live-all history (e ∷ es) new =
    let orders = λ (a b : Event). a.order ≢ b.order in
    let lives = live history in
    let others : All (λ (a : Event). a.order ≢ e.order) lives = λ k d lt. All-head (orders (get_or lives k d)) e es (Pairwise-cross orders lives (e ∷ es) new.0 k d lt) in
    let one : live (after history e) ≡ lives ++ e ∷ [] = accepted history e others (omega (arith, new.1, length-append lives (e ∷ es))) in
    let again : live (after history e) ++ es ≡ lives ++ e ∷ es = ap (λ (z : List Event). z ++ es) one ∙ append_assoc lives (e ∷ []) es in
    live-all (after history e) es (subst HaveOwnOrders (sym again) new.0, subst (λ (z : List Event). length z ≤ max_live) (sym again) new.1) ∙ again

-- what is in one of two lists is in one of two others
module _ (xs ys new old : List Event) (e : Event) where
  moved : (Contains xs e → Contains ys e) → (Contains new e → Contains old e) → Contains (xs ++ new) e → Contains (ys ++ old) e
  moved first second here = ⊎_elim (λ one. Contains-append_left ys old e (first one)) (λ two. Contains-append_right ys old e (second two)) (Contains-append_cases xs new e here)

pub live-in-any-order : LiveInAnyOrder
live-in-any-order history other a b lives same first second e =
    let one = live-all history a first in
    let two = live-all other b second in (
      λ here. subst (λ (z : List Event). Contains z e) (sym two) (moved (live history) (live other) a b e (lives e).0 (same e).0 (subst (λ (z : List Event). Contains z e) one here)),
      λ here. subst (λ (z : List Event). Contains z e) (sym one) (moved (live other) (live history) b a e (lives e).1 (same e).1 (subst (λ (z : List Event). Contains z e) two here)),
    )
