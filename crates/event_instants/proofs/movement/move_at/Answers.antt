use Rattle.std.proofs.Common.{rules, ◌≡◌, ◌∙◌, ap, pos, ℕ, ℤ, slice_index_or, FitsSigned, to_z, of_z, to_z-of_z, w64}
use Rattle.event_instants.specs.Instants.{IsBetween, nth}
use Rattle.event_instants.specs.Instants as rule
use Rattle.event_instants.proofs.movement.move_at.Goals as goal

weight_is : (c : goal.After-moved-2) → c.move_weight-weight.result ≡ rule.move_weight (rule.in_order (rule.given_times c.args.t1 c.args.t2 c.args.duration)) c.args.elapsed
weight_is c =
    let times : c.given_times.result ≡ rule.given_times c.args.t1 c.args.t2 c.args.duration = rw (to_z-of_z c.ranges.t1, to_z-of_z c.ranges.t2, to_z-of_z c.ranges.duration) at c.given_times.ensures in
    let ordered : c.in_order.result ≡ rule.in_order (rule.given_times c.args.t1 c.args.t2 c.args.duration) = c.in_order.ensures ∙ ap (λ (t : ℤ × ℤ). rule.in_order t) times in
    (rw (to_z-of_z c.ranges.elapsed) at c.move_weight-weight.ensures.value) ∙ ap (λ (t : ℤ × ℤ). rule.move_weight t c.args.elapsed) ordered

fits : (c : goal.After-moved-2) → FitsSigned w64 (slice_index_or c.args.path.now 0 (pos 0)) × FitsSigned w64 (slice_index_or c.args.path.now 1 (pos 0)) × FitsSigned w64 (slice_index_or c.args.path.now 2 (pos 0)) × FitsSigned w64 (slice_index_or c.args.path.now 3 (pos 0))
fits c = (search rules, search rules, search rules, search rules)

across : (c : goal.After-moved-2) → to_z w64 (of_z w64 c.moved.result) ≡ c.moved.result
across c = let f : FitsSigned w64 c.moved.result = search rules in to_z-of_z f

down : (c : goal.After-moved-2) → to_z w64 (of_z w64 c.moved-2.result) ≡ c.moved-2.result
down c = let f : FitsSigned w64 c.moved-2.result = search rules in to_z-of_z f

x_is : (c : goal.After-moved-2) → c.moved.result ≡ rule.moved (nth c.args.path.now 0) (nth c.args.path.now 2) c.move_weight-weight.result
x_is c = rw (to_z-of_z (fits c).0, to_z-of_z (fits c).2) at c.moved.ensures.value

y_is : (c : goal.After-moved-2) → c.moved-2.result ≡ rule.moved (nth c.args.path.now 1) (nth c.args.path.now 3) c.move_weight-weight.result
y_is c = rw (to_z-of_z (fits c).1, to_z-of_z (fits c).3) at c.moved-2.ensures.value

pub returns-clause-value : goal.returns-clause-value
returns-clause-value c = rw (across c, down c, x_is c, y_is c) (ap (λ (w : ℕ). rule.moved_point c.args.path.now w) (weight_is c))

pub returns-clause-across : goal.returns-clause-across
returns-clause-across c = rw (across c) (rw (to_z-of_z (fits c).0, to_z-of_z (fits c).2) at c.moved.ensures.within)

pub returns-clause-down : goal.returns-clause-down
returns-clause-down c = rw (down c) (rw (to_z-of_z (fits c).1, to_z-of_z (fits c).3) at c.moved-2.ensures.within)
