use Rattle.std.proofs.Common.{◌+◌, ◌-◌, ◌*◌, ◌<◌, ◌≤◌, ◌⊎◌, pos, ◌+ℤ◌, sym, ◌∙◌, inl, inr, arith}
use Rattle.std.proofs.lemmas.Bool.{cases_lt}
use Rattle.ass_num.specs.Masks.{MaskValue, value_at}
use Rattle.mask_blur.specs.Frames.{IsInFrame}
use Rattle.mask_blur.specs.Shown.{Shows}
use Rattle.mask_blur.proofs.FrameLemmas.{softer_zero, softer_within, outward, strip_more}
use Rattle.mask_blur.proofs.MaskLemmas.{mask_shows}
use Rattle.mask_blur.proofs.strips.soften_strips.Goals as goal

pub loop-q-init : goal.loop-q-init
loop-q-init c = λ f x y shows j i i_less j_less known.
    let w = c.args.w in
    let h = c.args.h in
    let m = c.args.m in
    let place : IsInFrame w h m i j = elim known [ inl less ↦ inl (omega (arith, less)) | inr side ↦ inr side ] in
    c.requires.clear i j i_less j_less place
    ∙ sym (softer_zero f x y w h m c.args.from.now (omega (arith, c.requires.columns)) c.requires.height shows c.requires.framed (x +ℤ pos i) (y +ℤ pos j) (outward x y w h m i j place))

pub loop-q-preserved : goal.loop-q-preserved
loop-q-preserved c = λ f x y shows j i i_less j_less known.
    let place : (i < c.args.m + 16 * c.loop-q.q + 16) ⊎ (c.args.w ≤ i + c.args.m) ⊎ (j < c.args.m) ⊎ (c.args.h ≤ j + c.args.m + 2) = elim known [ inl less ↦ inl (omega (arith, less)) | inr side ↦ inr side ] in
    c.soften_strip.ensures f x y shows j i i_less
    (strip_more c.args.w c.args.h c.args.m (c.args.m + 16 * c.loop-q.q) i j place (c.loop-q.invariant f x y shows j i i_less j_less))

pub returns-clause-framed : goal.returns-clause-framed
returns-clause-framed c = λ i j i_less j_less place.
    let w = c.args.w in
    let h = c.args.h in
    let m = c.args.m in
    let from = c.args.from.now in
    let mask : MaskValue = record { x = pos 0; y = pos 0; w = w; h = h; bytes = from } in
    let shows : Shows (value_at mask) (pos 0) (pos 0) w h from = mask_shows mask in
    c.soften_strip-2.ensures (value_at mask) (pos 0) (pos 0) shows j i i_less (inr (c.loop-q.invariant (value_at mask) (pos 0) (pos 0) shows j i i_less j_less
    (elim place [ inl less ↦ inl (omega (arith, less)) | inr side ↦ inr side ])))
    ∙ softer_zero (value_at mask) (pos 0) (pos 0) w h m from (omega (arith, c.requires.columns)) c.requires.height shows c.requires.framed (pos 0 +ℤ pos i) (pos 0 +ℤ pos j) (outward (pos 0) (pos 0) w h m i j place)

pub returns-clause-softer : goal.returns-clause-softer
returns-clause-softer c = λ f x y shows.
    let w = c.args.w in
    let h = c.args.h in
    let m = c.args.m in
    record {
      inside = record {
        cells = λ i j i_less j_less.
            let place : (i < w - m - 16 + 16) ⊎ (w ≤ i + m) ⊎ (j < m) ⊎ (h ≤ j + m + 2) = elim (cases_lt (i + m) w) [ inl less ↦ inl (omega (arith, less, c.requires.columns)) | inr far ↦ inr (inl far) ] in
            c.soften_strip-2.ensures f x y shows j i i_less
            (strip_more w h m (w - m - 16) i j place
            (λ known. c.loop-q.invariant f x y shows j i i_less j_less (elim known [ inl less ↦ inl (omega (arith, less, c.requires.columns)) | inr side ↦ inr side ])));
      };
      outside = softer_within f x y w h m c.args.from.now (omega (arith, c.requires.columns)) c.requires.height shows c.requires.framed;
    }
