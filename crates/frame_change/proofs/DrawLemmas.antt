-- Draws are equal by `==` exactly where they are one.
use Rattle.std.proofs.Common.{◌≡◌, ℕ, ◌+◌, ◌<◌, true, List, [], ◌∷◌, ◌++◌, length, get_or, take, map, pos, sym, ap, ◌∙◌, refl, arith}
use Rattle.std.proofs.lemmas.List.{take_more, map-append, get_or-map}
use Rattle.std.specs.Bool.{Decides}
use Rattle.std.specs.Ordering.{int_eq}
use Rattle.std.specs.Cmp.{unsigned_Decides, signed_Decides, booleans_Decides}
use Rattle.ass_num.specs.declared.colour.Rgba.{Rgba}
use Rattle.ass_num.specs.contracts.colour.RgbaPartialEq.TheImpl as colour
use Rattle.mask_keys.specs.declared.plans.Clip.{Clip}
use Rattle.mask_keys.specs.declared.plans.Clip.TheVariants.{Free, Rect, Drawn}
use Rattle.mask_keys.specs.declared.plans.Draw.{Draw}
use Rattle.mask_keys.specs.declared.plans.Plan.{Plan}
use Rattle.mask_keys.specs.contracts.plans.ClipPartialEq.TheImpl as clip
use Rattle.mask_keys.specs.contracts.plans.DrawPartialEq.TheImpl as draw
use Rattle.mask_keys.specs.contracts.plans.PlanPartialEq.TheImpl as plan
use Rattle.mask_keys.specs.contracts.plans.ClipEq.TheImpl.Laws as clip_laws
use Rattle.mask_keys.specs.contracts.plans.PlanEq.TheImpl.Laws as plan_laws
use Rattle.frame_change.specs.Changes.{unplaced}
use Rattle.mask_keys.specs.Equality.{equal_composites}
use Rattle.mask_keys.proofs.Equal.{items_same, composite_same, decided}
use Rattle.std.proofs.lemmas.Bool.{and_parts}

pub colour_same : (a b : Rgba) → colour.ghosts.eq a b ≡ true → a ≡ b
colour_same a b e = grind (arith, e, unsigned_Decides a.r b.r, unsigned_Decides a.g b.g, unsigned_Decides a.b b.b, unsigned_Decides a.a b.a)

pub clip_same : (a b : Clip) → clip.ghosts.eq a b ≡ true → a ≡ b
clip_same Free Free e = refl
clip_same (Rect a b c d i) (Rect p q r s j) e = grind (arith, e, signed_Decides a p, signed_Decides b q, signed_Decides c r, signed_Decides d s, booleans_Decides i j)
clip_same (Drawn k x y i) (Drawn l u v j) e =
    let parts = and_parts (equal_composites k l) _ e in
    grind (arith, composite_same k l parts.0, parts.1, signed_Decides x u, signed_Decides y v, booleans_Decides i j)
clip_same a b e = grind arith

pub draw_same : (a b : Draw) → draw.ghosts.eq a b ≡ true → a ≡ b
draw_same a b e =
    let key = and_parts (equal_composites a.key b.key) _ e in
    let x = and_parts (int_eq a.x b.x) _ key.1 in
    let y = and_parts (int_eq a.y b.y) _ x.1 in
    let left = and_parts (colour.ghosts.eq a.left b.left) _ y.1 in
    let right = and_parts (colour.ghosts.eq a.right b.right) _ left.1 in
    let edge = and_parts (int_eq a.edge b.edge) (clip.ghosts.eq a.clip b.clip) right.1 in
    let key_is = composite_same a.key b.key key.0 in
    let x_is = (signed_Decides a.x b.x).0 x.0 in
    let y_is = (signed_Decides a.y b.y).0 y.0 in
    let left_is = colour_same a.left b.left left.0 in
    let right_is = colour_same a.right b.right right.0 in
    let edge_is = (signed_Decides a.edge b.edge).0 edge.0 in
    let clip_is = clip_same a.clip b.clip edge.1 in
    λ i. record { key = key_is i; x = x_is i; y = y_is i; left = left_is i; right = right_is i; edge = edge_is i; clip = clip_is i }

pub plan_same : (a b : Plan) → plan.ghosts.eq a b ≡ true → a ≡ b
plan_same a b e = grind (arith, items_same draw.ghosts.eq draw_same a.draws b.draws e)

pub clips_decided : (a b : Clip) → Decides (clip.ghosts.eq a b) (a ≡ b)
clips_decided = decided clip.ghosts.eq clip_laws.laws-law clip_same

pub plans_decided : (a b : Plan) → Decides (plan.ghosts.eq a b) (a ≡ b)
plans_decided = decided plan.ghosts.eq plan_laws.laws-law plan_same

-- ---- draws whose places are left out

-- draws are equal but for their places where all else is
pub moved_same : (a b : Draw) → a.key ≡ b.key → a.left ≡ b.left → a.right ≡ b.right → a.edge ≡ b.edge → a.clip ≡ b.clip → unplaced a ≡ unplaced b
moved_same a b key left right edge clip = λ i. record { key = key i; x = pos 0; y = pos 0; left = left i; right = right i; edge = edge i; clip = clip i }

pub moved_more : (xs ys : List Draw) (i : ℕ) (d : Draw) → i < length xs → i < length ys → map unplaced (take i xs) ≡ map unplaced (take i ys) → unplaced (get_or xs i d) ≡ unplaced (get_or ys i d) → map unplaced (take (i + 1) xs) ≡ map unplaced (take (i + 1) ys)
moved_more xs ys i d in_xs in_ys before here =
    let split : (zs : List Draw) → i < length zs → map unplaced (take (i + 1) zs) ≡ map unplaced (take i zs) ++ unplaced (get_or zs i d) ∷ [] =
    λ zs inside. ap (map unplaced) (take_more zs i d inside) ∙ map-append unplaced (take i zs) (get_or zs i d ∷ []) in
    split xs in_xs ∙ (λ j. before j ++ here j ∷ []) ∙ sym (split ys in_ys)

pub moved_at : (xs ys : List Draw) (i : ℕ) (d : Draw) → map unplaced xs ≡ map unplaced ys → i < length xs → i < length ys → unplaced (get_or xs i d) ≡ unplaced (get_or ys i d)
moved_at xs ys i d e in_xs in_ys = sym (get_or-map unplaced xs i d (unplaced d) in_xs) ∙ ap (λ z. get_or z i (unplaced d)) e ∙ get_or-map unplaced ys i d (unplaced d) in_ys
