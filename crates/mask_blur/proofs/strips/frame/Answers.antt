use Rattle.std.proofs.Common.{◌≡◌, ◌+◌, ◌*◌, ◌≤◌, pos, inl, inr, refl, length, get_or, ap, ◌∙◌, arith}
use Rattle.std.proofs.lemmas.List.Edits.{get_or-between}
use Rattle.std.proofs.lemmas.Nat.{mul-le}
use Rattle.ass_num.specs.Masks.{MaskValue, value_at}
use Rattle.mask_blur.specs.Shown.{Shows}
use Rattle.mask_blur.proofs.FrameLemmas.{shown_widely, framed_value}
use Rattle.mask_blur.proofs.MaskLemmas.{mask_shows}
use Rattle.mask_blur.proofs.PutLemmas.{length_part, length-put}
use Rattle.mask_blur.proofs.TileLemmas.{block-put}
use Rattle.mask_blur.proofs.strips.frame.Goals as goal

pub loop-k-init : goal.loop-k-init
loop-k-init c = (refl, λ g is u v v_less known. elim known [ inl t ↦ absurd (omega (arith, t.0, t.1)) | inr o ↦ o ])

pub loop-k-preserved : goal.loop-k-preserved
loop-k-preserved c =
    let k = c.loop-k.k in
    let w = c.args.w in
    let n = c.args.n in
    let bytes = c.args.bytes.now in
    let wide = w + 2 * n in
    let start = (n + k) * wide + n in
    let rows : (n + k + 1) * wide ≤ (c.args.h + 2 * n + 2) * wide = mul-le (n + k + 1) wide (c.args.h + 2 * n + 2) wide (omega arith) (omega arith) in
    let source : (k + 1) * w ≤ c.args.h * w = mul-le (k + 1) w c.args.h w (omega arith) (omega arith) in
    let fits : start + w ≤ length c.loop-k.to = omega (arith, rows, c.requires.room, c.loop-k.invariant.0) in
    let there : k * w + w ≤ length bytes = omega (arith, source, c.requires.count) in
    let row = c.copy_from_slice.new.self in
    let long : length row ≡ w = ap length c.copy_from_slice.ensures.after ∙ (length_part (k * w) (k * w + w) bytes there ∙ omega arith) in (
      length-put start _ c.loop-k.to row (omega (arith, fits)) (omega (arith, long)) ∙ c.loop-k.invariant.0,
      λ g is u v v_less known.
          block-put g wide n n k w _ c.args.to.now c.loop-k.to row (omega arith) fits long (omega arith)
          (λ b less. ap (λ xs. get_or xs b 0) c.copy_from_slice.ensures.after ∙ (get_or-between bytes (k * w) (k * w + w) b 0 (omega (arith, less)) ∙ is k b (omega arith) less))
          (c.loop-k.invariant.1 g is) u v v_less known,
    )

pub returns-clause-framed : goal.returns-clause-framed
returns-clause-framed c = λ i j i_less j_less place.
    let w = c.args.w in
    let h = c.args.h in
    let n = c.args.n in
    let bytes = c.args.bytes.now in
    let mask : MaskValue = record { x = pos 0; y = pos 0; w = w; h = h; bytes = bytes } in
    let shows : Shows (value_at mask) (pos 0) (pos 0) w h bytes = mask_shows mask in
    let shown = shown_widely (value_at mask) (pos 0) (pos 0) w h n bytes c.args.to.now c.loop-k.to shows c.requires.zeros
    (λ g is u v v_less known. c.loop-k.invariant.1 g is u v v_less (elim known [ inl t ↦ inl (t.0, omega (arith, t.1), t.2, t.3) | inr o ↦ inr o ])) in
    framed_value (value_at mask) (pos 0) (pos 0) w h n bytes c.loop-k.to shows shown i j i_less j_less place

pub returns-clause-shown : goal.returns-clause-shown
returns-clause-shown c = λ f x y shows.
    shown_widely f x y c.args.w c.args.h c.args.n c.args.bytes.now c.args.to.now c.loop-k.to shows c.requires.zeros
    (λ g is u v v_less known. c.loop-k.invariant.1 g is u v v_less (elim known [ inl t ↦ inl (t.0, omega (arith, t.1), t.2, t.3) | inr o ↦ inr o ]))
