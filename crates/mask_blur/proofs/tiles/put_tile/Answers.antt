use Rattle.std.proofs.Common.{◌≡◌, ◌+◌, ◌*◌, ◌≤◌, inl, inr, length, get_or, ap, ◌∙◌, arith}
use Rattle.std.proofs.lemmas.List.Edits.{get_or-between}
use Rattle.std.proofs.lemmas.Nat.{mul-le}
use Rattle.mask_blur.proofs.PutLemmas.{length_part}
use Rattle.mask_blur.proofs.TileLemmas.{tile-put}
use Rattle.mask_blur.proofs.tiles.put_tile.Goals as goal

pub loop-a-preserved : goal.loop-a-preserved
loop-a-preserved c = λ f is u v v_less known.
    let a = c.loop-a.a in
    let h = c.args.h in
    let i = c.args.i in
    let tile = c.args.tile.now in
    let rows : (i + a + 1) * h ≤ (i + 16) * h = mul-le (i + a + 1) h (i + 16) h (omega arith) (omega arith) in
    let fits : (i + a) * h + c.args.j + 16 ≤ length c.loop-a.to = omega (arith, rows, c.requires.rows, c.requires.columns) in
    let row = c.copy_from_slice.new.self in
    let long : length row ≡ 16 = ap length c.copy_from_slice.ensures.after ∙ (length_part (16 * a) (16 * a + 16) tile (omega arith) ∙ omega arith) in
    tile-put f h i c.args.j a _ c.args.to.now c.loop-a.to row c.requires.columns fits long (omega arith)
    (λ b less. ap (λ xs. get_or xs b 0) c.copy_from_slice.ensures.after ∙ (get_or-between tile (16 * a) (16 * a + 16) b 0 (omega arith) ∙ is a b (omega arith) less))
    (c.loop-a.invariant f is) u v v_less known

pub returns : goal.returns
returns c = λ f is u v v_less known.
    c.loop-a.invariant f is u v v_less (elim known [ inl t ↦ inl (t.0, omega (arith, t.1), t.2, t.3) | inr o ↦ inr o ])
