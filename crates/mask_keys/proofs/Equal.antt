-- Keys are equal by `==` exactly where they are one.
use Rattle.std.proofs.Common.{arith, ◌≡◌, refl, true, Bool, List, [], ◌∷◌, ◌&&◌, subst, nat_eq}
use Rattle.std.specs.Cmp.{IsEquivalence}
use Rattle.std.proofs.lemmas.Int.{ints}
use Rattle.std.specs.Bool.{Decides, beq}
use Rattle.std.specs.Cmp.{unsigned_Decides, signed_Decides, booleans_Decides}
use Rattle.std.specs.Cmp.Lexicographic.{pointwise}
use Rattle.ass_num.specs.declared.geometry.Point.{Point}
use Rattle.ass_num.specs.declared.geometry.Matrix.{Matrix}
use Rattle.ass_num.specs.declared.geometry.Seg.{Seg}
use Rattle.ass_num.specs.declared.geometry.Seg.TheVariants.{Move, Line, Cubic, Spline}
use Rattle.ass_num.specs.contracts.geometry.PointPartialEq.TheImpl as point
use Rattle.ass_num.specs.contracts.geometry.MatrixPartialEq.TheImpl as matrix
use Rattle.ass_num.specs.contracts.geometry.SegPartialEq.TheImpl as seg
use Rattle.mask_keys.specs.declared.outline_key.OutlineKey.{OutlineKey}
use Rattle.mask_keys.specs.declared.outline_key.OutlineKey.TheVariants.{Glyph, Drawing, Box}
use Rattle.mask_keys.specs.declared.region_key.RegionKey.{RegionKey}
use Rattle.mask_keys.specs.declared.mask_key.MaskKey.{MaskKey}
use Rattle.mask_keys.specs.declared.composite_key.Part.{Part}
use Rattle.mask_keys.specs.declared.composite_key.CompositeKey.{CompositeKey}
use Rattle.mask_keys.specs.contracts.composite_key.PartPartialEq.TheImpl as part
use Rattle.mask_keys.specs.contracts.outline_key.OutlineKeyEq.TheImpl.Laws as outline_laws
use Rattle.mask_keys.specs.contracts.region_key.RegionKeyEq.TheImpl.Laws as region_laws
use Rattle.mask_keys.specs.contracts.mask_key.MaskKeyEq.TheImpl.Laws as mask_laws
use Rattle.mask_keys.specs.contracts.composite_key.CompositeKeyEq.TheImpl.Laws as composite_laws
use Rattle.mask_keys.specs.Equality.{equal_outlines, equal_regions, equal_masks, equal_composites}
use Rattle.std.proofs.lemmas.Bool.{and_parts}

pub items_same : {K : Type 0} (E : K → K → Bool) (same : (a b : K) → E a b ≡ true → a ≡ b) (xs ys : List K) → pointwise E xs ys ≡ true → xs ≡ ys
items_same E same [] [] e = refl
items_same E same [] (y ∷ ys) e = grind arith
items_same E same (x ∷ xs) [] e = grind arith
items_same E same (x ∷ xs) (y ∷ ys) e =
    let parts = and_parts (E x y) (pointwise E xs ys) e in
    grind (arith, same x y parts.0, items_same E same xs ys parts.1)

pub point_same : (a b : Point) → point.ghosts.eq a b ≡ true → a ≡ b
point_same a b e = grind (arith, ints, signed_Decides a.x b.x, signed_Decides a.y b.y)

pub matrix_same : (a b : Matrix) → matrix.ghosts.eq a b ≡ true → a ≡ b
matrix_same a b e = grind (arith, signed_Decides a.ux b.ux, signed_Decides a.uy b.uy, booleans_Decides a.italic b.italic, signed_Decides a.turn b.turn)

pub seg_same : (a b : Seg) → seg.ghosts.eq a b ≡ true → a ≡ b
seg_same (Move p) (Move q) e = grind (arith, point_same p q e)
seg_same (Line p) (Line q) e = grind (arith, point_same p q e)
seg_same (Cubic a b c) (Cubic p q r) e =
    let first = and_parts (point.ghosts.eq a p) (point.ghosts.eq b q && point.ghosts.eq c r) e in
    let rest = and_parts (point.ghosts.eq b q) (point.ghosts.eq c r) first.1 in
    grind (arith, point_same a p first.0, point_same b q rest.0, point_same c r rest.1)
seg_same (Spline a s) (Spline b t) e =
    let parts = and_parts (pointwise point.ghosts.eq a b) _ e in
    grind (arith, items_same point.ghosts.eq point_same a b parts.0, (booleans_Decides s t).0 parts.1)
seg_same a b e = grind arith

pub outline_same : (a b : OutlineKey) → equal_outlines a b ≡ true → a ≡ b
outline_same (Glyph f g m b u s) (Glyph f2 g2 m2 b2 u2 s2) e =
    let font = and_parts (nat_eq f f2) _ e in
    let glyph = and_parts (nat_eq g g2) _ font.1 in
    let under = and_parts (matrix.ghosts.eq m m2) _ glyph.1 in
    let bold = and_parts (beq b b2) _ under.1 in
    let bars = and_parts (beq u u2) _ bold.1 in
    grind (
      arith,
      (unsigned_Decides f f2).0 font.0,
      (unsigned_Decides g g2).0 glyph.0,
      matrix_same m m2 under.0,
      (booleans_Decides b b2).0 bold.0,
      (booleans_Decides u u2).0 bars.0,
      (booleans_Decides s s2).0 bars.1,
    )
outline_same (Drawing p m s) (Drawing q n t) e =
    let first = and_parts (pointwise seg.ghosts.eq p.segs q.segs) (matrix.ghosts.eq m n && _) e in
    let rest = and_parts (matrix.ghosts.eq m n) _ first.1 in
    grind (arith, items_same seg.ghosts.eq seg_same p.segs q.segs first.0, matrix_same m n rest.0, (signed_Decides s t).0 rest.1)
outline_same (Box w h t) (Box w2 h2 t2) e = grind (arith, signed_Decides w w2, signed_Decides h h2, signed_Decides t t2)
outline_same a b e = grind arith

pub region_same : (a b : RegionKey) → equal_regions a b ≡ true → a ≡ b
region_same a b e =
    let parts = and_parts (equal_outlines a.outline b.outline) _ e in
    grind (arith, outline_same a.outline b.outline parts.0, parts.1, unsigned_Decides a.rx b.rx, unsigned_Decides a.ry b.ry)

pub mask_same : (a b : MaskKey) → equal_masks a b ≡ true → a ≡ b
mask_same a b e =
    let parts = and_parts (equal_outlines a.outline b.outline) _ e in
    grind (
      arith,
      outline_same a.outline b.outline parts.0,
      parts.1,
      unsigned_Decides a.rx b.rx,
      unsigned_Decides a.ry b.ry,
      unsigned_Decides a.px b.px,
      unsigned_Decides a.py b.py,
      unsigned_Decides a.edges b.edges,
      unsigned_Decides a.blur b.blur,
    )

pub part_same : (a b : Part) → part.ghosts.eq a b ≡ true → a ≡ b
part_same a b e =
    let parts = and_parts (equal_masks a.mask b.mask) _ e in
    grind (arith, mask_same a.mask b.mask parts.0, parts.1, signed_Decides a.dx b.dx, signed_Decides a.dy b.dy)

pub composite_same : (a b : CompositeKey) → equal_composites a b ≡ true → a ≡ b
composite_same a b e = grind (arith, items_same part.ghosts.eq part_same a.parts b.parts e)

pub decided : {K : Type 0} (E : K → K → Bool) → IsEquivalence E → ((a b : K) → E a b ≡ true → a ≡ b) → (a b : K) → Decides (E a b) (a ≡ b)
decided E laws same a b = (same a b, λ e. subst (λ z. E a z ≡ true) e (laws.refl a))

pub outlines_decided : (a b : OutlineKey) → Decides (equal_outlines a b) (a ≡ b)
outlines_decided = decided equal_outlines outline_laws.laws-law outline_same

pub regions_decided : (a b : RegionKey) → Decides (equal_regions a b) (a ≡ b)
regions_decided = decided equal_regions region_laws.laws-law region_same

pub masks_decided : (a b : MaskKey) → Decides (equal_masks a b) (a ≡ b)
masks_decided = decided equal_masks mask_laws.laws-law mask_same

pub composites_decided : (a b : CompositeKey) → Decides (equal_composites a b) (a ≡ b)
composites_decided = decided equal_composites composite_laws.laws-law composite_same
