use Rattle.std.proofs.Common.{◌≡◌, ℕ, ◌+◌, ◌-◌, ◌*◌, ◌≤◌, subst, refl, ◌∙◌, inl, inr, arith}
use Rattle.std.proofs.lemmas.List.{get_or-replicate}
use Rattle.std.proofs.lemmas.Nat.{mul-le}
use Rattle.mask_blur.specs.Frames.{IsSoftenedTo}
use Rattle.mask_blur.proofs.FrameLemmas.{softened_start_row}
use Rattle.mask_blur.proofs.strips.soften_strip.Goals as goal

pub loop-q-init : goal.loop-q-init
loop-q-init c = (
  refl,
  refl,
  refl,
  λ b h. omega (arith, get_or-replicate {A = ℕ} 16 b 0 0 h),
  λ b h. omega (arith, get_or-replicate {A = ℕ} 16 b 8 0 h),
  softened_start_row c.args.w c.args.h c.args.m c.args.at (c.args.m + 2 * 0) c.args.from.now c.args.to.now (omega arith) c.requires.framed,
)

pub soften_step-requires-clause-from : goal.soften_step-requires-clause-from
soften_step-requires-clause-from c =
    let k = c.args.m + 2 * c.loop-q.q in
    let rows : (k + 3) * c.args.w ≤ c.args.h * c.args.w = mul-le (k + 3) c.args.w c.args.h c.args.w (omega arith) (omega arith) in
    omega (arith, rows, c.requires.from)

pub loop-q-preserved : goal.loop-q-preserved
loop-q-preserved c =
    let h = c.args.h in
    let m = c.args.m in
    let q = c.loop-q.q in
    let to = c.args.to.now in
    let first = c.soften_step.ensures.softened h m to c.requires.framed (omega arith) (omega arith) c.loop-q.invariant.5 in
    let second = c.soften_step-in-loop-q.ensures.softened h m to c.requires.framed (omega arith) (omega arith) first in
    let next : m + 2 * (q + 1) ≡ m + 2 * q + 1 + 1 = omega arith in (
      c.soften_step-in-loop-q.auto.last ∙ (c.soften_step.auto.last ∙ c.loop-q.invariant.0),
      c.soften_step-in-loop-q.auto.both ∙ (c.soften_step.auto.both ∙ c.loop-q.invariant.1),
      c.soften_step-in-loop-q.auto.to ∙ (c.soften_step.auto.to ∙ c.loop-q.invariant.2),
      c.soften_step-in-loop-q.ensures.last_small,
      c.soften_step-in-loop-q.ensures.both_small,
      rw next second,
    )

pub returns-then-rows-eq1 : goal.returns-then-rows-eq1
returns-then-rows-eq1 c = λ f x y shows j i i_less known.
    let h = c.args.h in
    let m = c.args.m in
    let q = c.loop-q.q in
    let last = m + (h - 2 * m - 2) - 1 in
    let is : m + 2 * q ≡ last = omega (arith, c.if-rows-eq1.true) in
    let was = subst (λ (k : ℕ). IsSoftenedTo c.args.w h m c.args.at k c.args.from.now c.args.to.now c.loop-q.to c.loop-q.last c.loop-q.both) is c.loop-q.invariant.5 in
    let done = c.soften_step-then-rows-eq1.ensures.softened h m c.args.to.now c.requires.framed (omega (arith, c.requires.height)) (omega (arith, c.requires.height)) was in
    done.cells f x y shows j i i_less (elim known [ inl t ↦ inl (t.0, omega (arith, t.1, c.requires.height), t.2, t.3) | inr o ↦ inr o ])
