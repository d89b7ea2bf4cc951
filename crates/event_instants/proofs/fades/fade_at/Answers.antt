use Rattle.std.proofs.Common.{rules, ◌≡◌, ◌∙◌, ap, ℤ, pos, slice_index_or, FitsSigned, to_z-of_z, w64}
use Rattle.event_instants.specs.Instants.{nth}
use Rattle.event_instants.specs.Instants as rule
use Rattle.event_instants.proofs.fades.fade_at.Goals as goal

-- the fade by the three alphas at the times that are given
by : (c : goal.After-fade_by) → ℤ → ℤ → ℤ → ℤ
by c a1 a2 a3 = rule.fade_by a1 a2 a3 (nth c.args.f.now 3) (nth c.args.f.now 4) (nth c.args.f.now 5) (nth c.args.f.now 6) c.args.elapsed

value : (c : goal.After-fade_by) → pos c.fade_by.result ≡ by c (pos c.held_alpha-first.result) (pos c.held_alpha-middle.result) (pos c.held_alpha-last.result)
unfolding by
value c =
    let f3 : FitsSigned w64 (slice_index_or c.args.f.now 3 (pos 0)) = search rules in
    let f4 : FitsSigned w64 (slice_index_or c.args.f.now 4 (pos 0)) = search rules in
    let f5 : FitsSigned w64 (slice_index_or c.args.f.now 5 (pos 0)) = search rules in
    let f6 : FitsSigned w64 (slice_index_or c.args.f.now 6 (pos 0)) = search rules in
    rw (to_z-of_z f3, to_z-of_z f4, to_z-of_z f5, to_z-of_z f6, to_z-of_z c.ranges.elapsed) at c.fade_by.ensures.value

alphas : (c : goal.After-fade_by) → by c (pos c.held_alpha-first.result) (pos c.held_alpha-middle.result) (pos c.held_alpha-last.result) ≡ by c (rule.held_alpha (nth c.args.f.now 0)) (rule.held_alpha (nth c.args.f.now 1)) (rule.held_alpha (nth c.args.f.now 2))
alphas c =
    let f0 : FitsSigned w64 (slice_index_or c.args.f.now 0 (pos 0)) = search rules in
    let f1 : FitsSigned w64 (slice_index_or c.args.f.now 1 (pos 0)) = search rules in
    let f2 : FitsSigned w64 (slice_index_or c.args.f.now 2 (pos 0)) = search rules in
    let first : pos c.held_alpha-first.result ≡ rule.held_alpha (nth c.args.f.now 0) = rw (to_z-of_z f0) at c.held_alpha-first.ensures.value in
    let middle : pos c.held_alpha-middle.result ≡ rule.held_alpha (nth c.args.f.now 1) = rw (to_z-of_z f1) at c.held_alpha-middle.ensures.value in
    let last : pos c.held_alpha-last.result ≡ rule.held_alpha (nth c.args.f.now 2) = rw (to_z-of_z f2) at c.held_alpha-last.ensures.value in
    ap (λ a. by c a (pos c.held_alpha-middle.result) (pos c.held_alpha-last.result)) first
    ∙ ap (λ a. by c (rule.held_alpha (nth c.args.f.now 0)) a (pos c.held_alpha-last.result)) middle
    ∙ ap (λ a. by c (rule.held_alpha (nth c.args.f.now 0)) (rule.held_alpha (nth c.args.f.now 1)) a) last

pub returns : goal.returns
unfolding by
returns c = value c ∙ alphas c
