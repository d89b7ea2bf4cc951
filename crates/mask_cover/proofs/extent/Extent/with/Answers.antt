use Rattle.std.proofs.Common.{◌≡◌, ◌==◌, true, false, ℤ, ◌+ℤ◌, length, w32, sym, ap, ◌∙◌, subst, arith, rules}
use Rattle.std.proofs.lemmas.Int.{to_z-of_z}
use Rattle.std.specs.Int.RustNames.{FitsSigned}
use Rattle.ass_num.specs.Coverage.{PixelBox}
use Rattle.ass_num.specs.Masks.{MaskValue}
use Rattle.mask_cover.specs.Extents.{JoinsStretch}
use Rattle.mask_cover.specs.Sums.{IsJoin}
use Rattle.mask_cover.proofs.ExtentLemmas.{join_is, join_none, box_more, extent_joined, moved_corner}
use Rattle.ass_num.proofs.MaskLemmas.{no_pixels, some_pixels}
use Rattle.mask_cover.proofs.extent.Extent.with.Goals as goal

pub returns-then-is_empty : goal.returns-then-is_empty
returns-then-is_empty c =
    let p : MaskValue × ℤ × ℤ = (c.args.mask.now, c.args.dx, c.args.dy) in
    let none : (length c.args.mask.now.bytes == 0) ≡ true = ap (λ z. length z == 0) (sym c.bytes.ensures.bytes) ∙ sym c.is_empty.ensures ∙ c.if-is_empty.true in
    let P : PixelBox → Type 0 = λ z. IsJoin c.args.self p z in
    λ parts is. box_more parts p c.args.self _ (subst P (sym c.self.view_is) (join_none c.args.self p (no_pixels c.args.mask.now c.bytes.ensures.canonical none).w)) is

pub joined-y-requires-clause-some : goal.joined-y-requires-clause-some
joined-y-requires-clause-some c =
    let none : (length c.args.mask.now.bytes == 0) ≡ false = ap (λ z. length z == 0) (sym c.bytes.ensures.bytes) ∙ sym c.is_empty.ensures ∙ c.if-is_empty.false in
    let high = (some_pixels c.args.mask.now c.bytes.ensures.canonical none).h in omega (arith, high, c.h.ensures)

pub invariant_of-result-2 : goal.invariant_of-result-2
invariant_of-result-2 c =
    let left : FitsSigned w32 c.joined-x.result.0 = search rules in
    let top : FitsSigned w32 c.joined-y.result.0 = search rules in
    rw (to_z-of_z w32 c.joined-x.result.0 left, to_z-of_z w32 c.joined-y.result.0 top)
    (extent_joined _ _ _ _ c.joined-x.result.0 c.joined-y.result.0 _ _ _ _ c.joined-x.result.1 c.joined-y.result.1 c.joined-x.ensures c.joined-y.ensures)

pub returns : goal.returns
returns c =
    let p : MaskValue × ℤ × ℤ = (c.args.mask.now, c.args.dx, c.args.dy) in
    let m = c.args.mask.now in
    let none : (length m.bytes == 0) ≡ false = ap (λ z. length z == 0) (sym c.bytes.ensures.bytes) ∙ sym c.is_empty.ensures ∙ c.if-is_empty.false in
    let sides = some_pixels m c.bytes.ensures.canonical none in
    let x : FitsSigned w32 c.self.inside.x = search rules in
    let y : FitsSigned w32 c.self.inside.y = search rules in
    let left : FitsSigned w32 c.joined-x.result.0 = search rules in
    let top : FitsSigned w32 c.joined-y.result.0 = search rules in
    let across : JoinsStretch c.self.inside.x c.self.inside.w (m.x +ℤ c.args.dx) m.w c.joined-x.result.0 c.joined-x.result.1 =
    rw (to_z-of_z w32 c.self.inside.x x, moved_corner c.x.result m.x c.args.dx c.x.ensures c.requires.mask.x c.requires.dx, c.w.ensures) at c.joined-x.ensures in
    let down : JoinsStretch c.self.inside.y c.self.inside.h (m.y +ℤ c.args.dy) m.h c.joined-y.result.0 c.joined-y.result.1 =
    rw (to_z-of_z w32 c.self.inside.y y, moved_corner c.y.result m.y c.args.dy c.y.ensures c.requires.mask.y c.requires.dy, c.h.ensures) at c.joined-y.ensures in
    let old : PixelBox = record { x = c.self.inside.x; y = c.self.inside.y; w = c.self.inside.w; h = c.self.inside.h } in
    let new : PixelBox = record { x = c.joined-x.result.0; y = c.joined-y.result.0; w = c.joined-x.result.1; h = c.joined-y.result.1 } in
    let joins : IsJoin old p new = join_is old p new c.self.invariant sides.w sides.h across down in
    let P : PixelBox → Type 0 = λ z. IsJoin z p new in
    λ parts is. box_more parts p c.args.self _ (rw (to_z-of_z w32 c.joined-x.result.0 left, to_z-of_z w32 c.joined-y.result.0 top) (subst P c.self.view_is joins)) is
