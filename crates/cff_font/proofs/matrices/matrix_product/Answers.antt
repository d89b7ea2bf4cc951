use Rattle.std.proofs.Common.{FitsSigned, refl, to_z-of_z, rules, w64}
use Rattle.cff_font.specs.Matrices.{matrix_product}
use Rattle.cff_font.proofs.matrices.matrix_product.Goals as goal

pub returns-clause-value : goal.returns-clause-value
returns-clause-value c =
    let f1 : FitsSigned w64 c.product_share.result = search rules in
    let f2 : FitsSigned w64 c.product_share-2.result = search rules in
    let f3 : FitsSigned w64 c.product_share-3.result = search rules in
    let f4 : FitsSigned w64 c.product_share-4.result = search rules in
    let f5 : FitsSigned w64 c.product_share-5.result = search rules in
    let f6 : FitsSigned w64 c.product_share-6.result = search rules in
    let m1 : FitsSigned w64 c.args.m.xx = search rules in
    let m2 : FitsSigned w64 c.args.m.yx = search rules in
    let m3 : FitsSigned w64 c.args.m.xy = search rules in
    let m4 : FitsSigned w64 c.args.m.yy = search rules in
    let o1 : FitsSigned w64 c.args.own.xx = search rules in
    let o2 : FitsSigned w64 c.args.own.yx = search rules in
    let o3 : FitsSigned w64 c.args.own.xy = search rules in
    let o4 : FitsSigned w64 c.args.own.yy = search rules in
    let o5 : FitsSigned w64 c.args.own.x = search rules in
    let o6 : FitsSigned w64 c.args.own.y = search rules in
    let xx = simp to_z-of_z at c.product_share.ensures.value in
    let yx = simp to_z-of_z at c.product_share-2.ensures.value in
    let xy = simp to_z-of_z at c.product_share-3.ensures.value in
    let yy = simp to_z-of_z at c.product_share-4.ensures.value in
    let x = simp to_z-of_z at c.product_share-5.ensures.value in
    let y = simp to_z-of_z at c.product_share-6.ensures.value in
    rw (to_z-of_z f1, to_z-of_z f2, to_z-of_z f3, to_z-of_z f4, to_z-of_z f5, to_z-of_z f6, xx, yx, xy, yy, x, y) (refl {a = matrix_product c.args.m c.args.own})
