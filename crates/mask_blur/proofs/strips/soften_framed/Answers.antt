use Rattle.std.proofs.Common.{◌≡◌, ◌+◌, ◌-◌, ◌*◌, length, ap, ◌∙◌, arith}
use Rattle.std.proofs.lemmas.List.{with_items_is}
use Rattle.mask_blur.specs.Shown.{Shows}
use Rattle.mask_blur.specs.Softening.{softened}
use Rattle.mask_blur.proofs.FrameLemmas.{framed_more}
use Rattle.mask_blur.proofs.SoftenedLemmas.{softened_start, softened_step}
use Rattle.mask_blur.proofs.strips.soften_framed.Goals as goal

pub loop-k-init : goal.loop-k-init
loop-k-init c = (
  c.requires.now,
  c.requires.next,
  framed_more c.args.w c.args.h (c.args.n - 0) c.args.n c.args.now.now.items (omega arith) c.requires.framed,
  λ i j i_less j_less place. c.requires.zeros (j * c.args.w + i),
  λ f x y shows. softened_start f x y c.args.w c.args.h c.args.now.now.items shows,
)

pub soften_strips-requires-clause-framed : goal.soften_strips-requires-clause-framed
soften_strips-requires-clause-framed c =
    rw c.as_slice.ensures.value (framed_more c.args.w c.args.h (c.args.n - c.loop-k.k - 1 + 1) (c.args.n - c.loop-k.k) c.loop-k.now.items (omega arith) c.loop-k.invariant.2)

pub soften_strips-requires-clause-clear : goal.soften_strips-requires-clause-clear
soften_strips-requires-clause-clear c =
    rw c.as_mut_slice.ensures.value (framed_more c.args.w c.args.h (c.args.n - c.loop-k.k - 1) (c.args.n - c.loop-k.k) c.loop-k.next.items (omega arith) c.loop-k.invariant.3)

pub loop-k-preserved : goal.loop-k-preserved
loop-k-preserved c =
    let k = c.loop-k.k in
    let w = c.args.w in
    let h = c.args.h in
    let to = c.soften_strips.new.to in
    let count : length to ≡ c.loop-k.next.len = c.soften_strips.auto.to ∙ c.as_mut_slice.ensures.len in
    let items : c.swap.new.x.items ≡ to = rw c.swap.ensures.x_after (with_items_is c.loop-k.next to count) in
    let long : length to ≡ h * w = c.soften_strips.auto.to ∙ ap length c.as_mut_slice.ensures.value ∙ c.loop-k.invariant.1 in (
      rw items long,
      rw c.swap.ensures.y_after c.loop-k.invariant.0,
      rw items (framed_more w h (c.args.n - (k + 1)) (c.args.n - k - 1) to (omega arith) c.soften_strips.ensures.framed),
      rw c.swap.ensures.y_after (framed_more w h (c.args.n - (k + 1)) (c.args.n - k) c.loop-k.now.items (omega arith) c.loop-k.invariant.2),
      λ f x y shows.
          let from : Shows (softened k f) x y w h c.as_slice.result.now = rw c.as_slice.ensures.value (c.loop-k.invariant.4 f x y shows) in
          rw items (softened_step f x y w h k to (c.soften_strips.ensures.softer (softened k f) x y from)),
    )

pub returns-clause-framed : goal.returns-clause-framed
returns-clause-framed c = framed_more c.args.w c.args.h 0 (c.args.n - c.loop-k.k) c.loop-k.now.items (omega arith) c.loop-k.invariant.2

pub returns-clause-softened : goal.returns-clause-softened
returns-clause-softened c = λ f x y shows.
    let all : c.loop-k.k ≡ c.args.n = omega arith in
    rw (← all) (c.loop-k.invariant.4 f x y shows)
