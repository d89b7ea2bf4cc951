-- A span has its layer for itself where its neighbours are in other layers.
use Rattle.std.proofs.Common.{◌≡◌, ◌≢◌, ℕ, ◌+◌, ◌-◌, ◌<◌, ◌≤◌, ◌≤ℤ◌, List, get_or, sym, ap, ◌∙◌, arith, ◌⊎◌, ⊎_elim, Some}
use Rattle.std.specs.Prelude.{slice_get}
use Rattle.std.proofs.lemmas.Int.{ints}
use Rattle.std.proofs.lemmas.Option.{slice_get_within, slice_get-get_or}
use Rattle.ass_events.specs.Histories.{Pairwise}
use Rattle.near_events.specs.Spans.{StandsBefore}
use Rattle.event_places.specs.Steps.{IsAlone}
use Rattle.near_events.specs.declared.spans.EventSpan.{EventSpan}
use Rattle.near_events.proofs.Lists.{get_from_there, pairwise_get, same_some}
use Rattle.near_events.proofs.Orders.{layer_le}
use Rattle.event_places.proofs.StepLemmas.{nat_three}

at_or_below : (m n : ℕ) → m ≤ n → (m ≡ n) ⊎ (m < n)
at_or_below m n h = grind arith

layers_rise : (near : List EventSpan) (i j : ℕ) (a b : EventSpan) → Pairwise StandsBefore near → i ≤ j → slice_get near i ≡ Some a → slice_get near j ≡ Some b → a.layer ≤ℤ b.layer
layers_rise near i j a b up le p q =
    ⊎_elim (λ same. let is : a ≡ b = same_some a b (sym p ∙ (ap (slice_get near) same ∙ q)) in let layer = ap (λ (s : EventSpan). s.layer) is in omega (arith, ints, layer))
    (λ lt. layer_le a b (pairwise_get StandsBefore near i j a b up lt p q)) (at_or_below i j le)

pub alone_is : (near : List EventSpan) (index : ℕ) (s : EventSpan) → Pairwise StandsBefore near → slice_get near index ≡ Some s
    → ((p : EventSpan) → 0 < index → slice_get near (index - 1) ≡ Some p → p.layer ≢ s.layer)
    → ((n : EventSpan) → slice_get near (index + 1) ≡ Some n → n.layer ≢ s.layer)
    → IsAlone near s
alone_is near index s up at first last other c layer =
    let place = get_from_there near other c in
    let k = place.0 in
    let inside = slice_get_within near index s at in
    let there = slice_get_within near k other place.1 in
    ⊎_elim (λ same. same_some other s (sym place.1 ∙ (ap (slice_get near) same ∙ at)))
    (λ apart. absurd (⊎_elim
    (λ below.
    let p = get_or near (index - 1) s in
    let at_p : slice_get near (index - 1) ≡ Some p = slice_get-get_or near (index - 1) s (omega (arith, inside)) in
    let low = layers_rise near k (index - 1) other p up (omega (arith, below)) place.1 at_p in
    let high = layers_rise near (index - 1) index p s up (omega arith) at_p at in
    first p (omega (arith, below)) at_p (omega (arith, ints, low, high, layer)))
    (λ above.
    let n = get_or near (index + 1) s in
    let at_n : slice_get near (index + 1) ≡ Some n = slice_get-get_or near (index + 1) s (omega (arith, above, there)) in
    let low = layers_rise near index (index + 1) s n up (omega arith) at at_n in
    let high = layers_rise near (index + 1) k n other up (omega (arith, above)) at_n place.1 in
    last n at_n (omega (arith, ints, low, high, layer)))
    apart))
    (nat_three k index)
