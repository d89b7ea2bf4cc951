-- The order of spans.
use Rattle.std.proofs.Common.{◌≡◌, ◌≢◌, ℕ, ◌<◌, ℤ, ◌<ℤ◌, ◌≤ℤ◌, sym, arith, ◌⊎◌, ⊎_elim, inl, inr}
use Rattle.std.specs.Prelude.{int_lt}
use Rattle.std.proofs.lemmas.Int.{ints}
use Rattle.std.proofs.lemmas.Bool.{cases_Bool}
use Rattle.ass_events.specs.NearEvents.{Span, IsEarlier}
use Rattle.near_events.specs.declared.spans.EventSpan.{EventSpan}
use Rattle.near_events.specs.Spans.{StandsBefore, span_at}

pub int_three : (x y : ℤ) → (x <ℤ y) ⊎ ((x ≡ y) ⊎ (y <ℤ x))
int_three x y =
    ⊎_elim (λ a. inl (grind (arith, ints)))
    (λ a. ⊎_elim (λ b. inr (inr (grind (arith, ints)))) (λ b. inr (inl (grind (arith, ints)))) (cases_Bool (int_lt y x)))
    (cases_Bool (int_lt x y))

nat_three : (m n : ℕ) → m ≢ n → (m < n) ⊎ (n < m)
nat_three m n other = grind arith

pub earlier_trans : (a b c : Span) → IsEarlier a b → IsEarlier b c → IsEarlier a c
earlier_trans a b c p q =
    ⊎_elim (λ x. ⊎_elim (λ y. inl (omega (arith, ints, x, y))) (λ y. inl (omega (arith, ints, x, y.0))) q)
    (λ x. ⊎_elim (λ y. inl (omega (arith, ints, x.0, y))) (λ y. inr (omega (arith, ints, x.0, y.0), omega (arith, x.1, y.1))) q) p

pub not_both_earlier : (a b : Span) → IsEarlier a b → IsEarlier b a → ⊥
not_both_earlier a b p q =
    ⊎_elim (λ x. ⊎_elim (λ y. omega (arith, ints, x, y)) (λ y. omega (arith, ints, x, y.0)) q)
    (λ x. ⊎_elim (λ y. omega (arith, ints, x.0, y)) (λ y. omega (arith, x.1, y.1)) q) p

-- Of two spans with different ReadOrders one is earlier.
pub earlier_cases : (a b : Span) → a.order ≢ b.order → IsEarlier a b ⊎ IsEarlier b a
earlier_cases a b other =
    ⊎_elim (λ x. inl (inl x))
    (λ x. ⊎_elim (λ same. ⊎_elim (λ y. inl (inr (same, y))) (λ y. inr (inr (sym same, y))) (nat_three a.order b.order other)) (λ y. inr (inl y)) x)
    (int_three a.start b.start)

pub earlier_start : (a b : Span) → IsEarlier a b → a.start ≤ℤ b.start
earlier_start a b p = ⊎_elim (λ x. omega (arith, ints, x)) (λ x. omega (arith, ints, x.0)) p

pub before_trans : (a b c : EventSpan) → StandsBefore a b → StandsBefore b c → StandsBefore a c
before_trans a b c p q =
    ⊎_elim (λ x. ⊎_elim (λ y. inl (omega (arith, ints, x, y))) (λ y. inl (omega (arith, ints, x, y.0))) q)
    (λ x. ⊎_elim (λ y. inl (omega (arith, ints, x.0, y))) (λ y. inr (omega (arith, ints, x.0, y.0), earlier_trans (span_at a) (span_at b) (span_at c) x.1 y.1)) q) p

pub before_other : (a b : EventSpan) → a.order ≢ b.order → (StandsBefore a b → ⊥) → StandsBefore b a
before_other a b other not_before =
    ⊎_elim (λ x. absurd (not_before (inl x)))
    (λ x. ⊎_elim (λ same. ⊎_elim (λ y. absurd (not_before (inr (same, y)))) (λ y. inr (sym same, y)) (earlier_cases (span_at a) (span_at b) other)) (λ y. inl y) x)
    (int_three a.layer b.layer)

pub layer_le : (a b : EventSpan) → StandsBefore a b → a.layer ≤ℤ b.layer
layer_le a b p = ⊎_elim (λ x. omega (arith, ints, x)) (λ x. omega (arith, ints, x.0)) p

-- in one layer, what stands before is earlier
pub before_in_layer : (a b : EventSpan) → a.layer ≡ b.layer → StandsBefore a b → IsEarlier (span_at a) (span_at b)
before_in_layer a b same p = ⊎_elim (λ x. absurd (omega (arith, ints, x, same))) (λ x. x.1) p

-- spans that stand before one another have different ReadOrders, or differ by layer or start: none stands before itself
pub not_before_itself : (a : EventSpan) → StandsBefore a a → ⊥
not_before_itself a p = ⊎_elim (λ x. omega (arith, ints, x)) (λ x. not_both_earlier (span_at a) (span_at a) x.1 x.1) p
