use Rattle.std.proofs.Common.{◌≡◌, ◌+◌, ◌*◌, pos, ◌-ℤ◌, w32, to_z, of_z, length, ap, sym, ◌∙◌, arith, rules}
use Rattle.std.proofs.lemmas.Int.{ints}
use Rattle.std.specs.Int.RustNames.{FitsSigned}
use Rattle.mask_blur.proofs.GrowthLemmas.{mask_ok, mask_some, box_grown, grown_value}
use Rattle.mask_blur.proofs.copies.grown.Goals as goal

pub new-requires : goal.new-requires
new-requires c =
    let k = c.args.reach in
    let count : length c.args.bytes.items ≡ (c.w.result + 2 * k) * (c.h.result + 2 * k) = c.requires.count ∙ ap (λ n. (n + 2 * k) * (c.args.mask.now.h + 2 * k)) (sym c.w.ensures) ∙ ap (λ n. (c.w.result + 2 * k) * (n + 2 * k)) (sym c.h.ensures) in
    mask_ok (to_z w32 (of_z w32 (to_z w32 (of_z w32 c.x.result) -ℤ to_z w32 k))) (to_z w32 (of_z w32 (to_z w32 (of_z w32 c.y.result) -ℤ to_z w32 k)))
    (c.w.result + 2 * k) (c.h.result + 2 * k) c.args.bytes.items count (omega (arith, c.requires.further)) (omega (arith, c.requires.further))

pub returns : goal.returns
returns c =
    let k = c.args.reach in
    let m = c.args.mask.now in
    let x : FitsSigned w32 c.x.result = search rules in
    let y : FitsSigned w32 c.y.result = search rules in
    let count : length c.args.bytes.items ≡ (c.w.result + 2 * k) * (c.h.result + 2 * k) = c.requires.count ∙ ap (λ n. (n + 2 * k) * (m.h + 2 * k)) (sym c.w.ensures) ∙ ap (λ n. (c.w.result + 2 * k) * (n + 2 * k)) (sym c.h.ensures) in
    let left : to_z w32 (of_z w32 (to_z w32 (of_z w32 c.x.result) -ℤ to_z w32 k)) ≡ m.x -ℤ pos k = omega (arith, ints, c.x.ensures, c.requires.left, c.requires.width) in
    let top : to_z w32 (of_z w32 (to_z w32 (of_z w32 c.y.result) -ℤ to_z w32 k)) ≡ m.y -ℤ pos k = omega (arith, ints, c.y.ensures, c.requires.top, c.requires.width) in
    let wide : c.w.result + 2 * k ≡ m.w + 2 * k = omega (arith, c.w.ensures) in
    let high : c.h.result + 2 * k ≡ m.h + 2 * k = omega (arith, c.h.ensures) in
    rw c.new.ensures (record {
      canonical = mask_ok (to_z w32 (of_z w32 (to_z w32 (of_z w32 c.x.result) -ℤ to_z w32 k))) (to_z w32 (of_z w32 (to_z w32 (of_z w32 c.y.result) -ℤ to_z w32 k))) (c.w.result + 2 * k) (c.h.result + 2 * k) c.args.bytes.items count (omega (arith, c.requires.further)) (omega (arith, c.requires.further));
      place = box_grown k m _ _ _ _ c.args.bytes.items (mask_some m c.requires.canonical (λ e. omega (arith, e, c.requires.some))) left top wide high;
      value = λ f shows. grown_value f k m _ _ _ _ c.args.bytes.items left top wide high shows;
    })
