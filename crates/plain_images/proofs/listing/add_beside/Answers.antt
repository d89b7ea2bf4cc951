use Rattle.std.proofs.Common.{w64, sym, subst, rules}
use Rattle.std.proofs.lemmas.Int.{to_z-of_z}
use Rattle.std.proofs.lemmas.Result.{on_ok_weaker}
use Rattle.blend.specs.Areas.{placed_of}
use Rattle.plain_images.specs.Cutting.{IsCuttable}
use Rattle.plain_images.proofs.ListingLemmas.{beside_adds, pane_same, part_cuttable}
use Rattle.plain_images.proofs.PaneLemmas.{above_part, below_part, left_part, right_part, same_pane}
use Rattle.plain_images.proofs.listing.add_beside.Goals as goal

pub add_pane-requires : goal.add_pane-requires
add_pane-requires c =
    let p = c.args.pane in
    let h = c.args.hole in
    subst (IsCuttable (placed_of c.args.placed))
    (sym (same_pane _ _ _ _ _ _ _ _ (to_z-of_z w64 p.x1 (search rules)) (to_z-of_z w64 p.y1 (search rules)) (to_z-of_z w64 p.x2 (search rules)) (to_z-of_z w64 h.y1 (search rules))))
    (part_cuttable (placed_of c.args.placed) _ p (above_part p h c.requires.part c.requires.some) c.requires.cuttable)

pub add_pane-requires-2 : goal.add_pane-requires-2
add_pane-requires-2 c =
    let p = c.args.pane in
    let h = c.args.hole in
    subst (IsCuttable (placed_of c.args.placed))
    (sym (same_pane _ _ _ _ _ _ _ _ (to_z-of_z w64 p.x1 (search rules)) (to_z-of_z w64 h.y2 (search rules)) (to_z-of_z w64 p.x2 (search rules)) (to_z-of_z w64 p.y2 (search rules))))
    (part_cuttable (placed_of c.args.placed) _ p (below_part p h c.requires.part c.requires.some) c.requires.cuttable)

pub add_pane-requires-3 : goal.add_pane-requires-3
add_pane-requires-3 c =
    let p = c.args.pane in
    let h = c.args.hole in
    subst (IsCuttable (placed_of c.args.placed))
    (sym (same_pane _ _ _ _ _ _ _ _ (to_z-of_z w64 p.x1 (search rules)) (to_z-of_z w64 h.y1 (search rules)) (to_z-of_z w64 h.x1 (search rules)) (to_z-of_z w64 h.y2 (search rules))))
    (part_cuttable (placed_of c.args.placed) _ p (left_part p h c.requires.part c.requires.some) c.requires.cuttable)

pub add_pane-requires-4 : goal.add_pane-requires-4
add_pane-requires-4 c =
    let p = c.args.pane in
    let h = c.args.hole in
    subst (IsCuttable (placed_of c.args.placed))
    (sym (same_pane _ _ _ _ _ _ _ _ (to_z-of_z w64 h.x2 (search rules)) (to_z-of_z w64 h.y1 (search rules)) (to_z-of_z w64 p.x2 (search rules)) (to_z-of_z w64 h.y2 (search rules))))
    (part_cuttable (placed_of c.args.placed) _ p (right_part p h c.requires.part c.requires.some) c.requires.cuttable)

pub returns : goal.returns
returns c =
    let p = c.args.pane in
    let h = c.args.hole in
    let above = same_pane _ _ _ _ _ _ _ _ (to_z-of_z w64 p.x1 (search rules)) (to_z-of_z w64 p.y1 (search rules)) (to_z-of_z w64 p.x2 (search rules)) (to_z-of_z w64 h.y1 (search rules)) in
    let below = same_pane _ _ _ _ _ _ _ _ (to_z-of_z w64 p.x1 (search rules)) (to_z-of_z w64 h.y2 (search rules)) (to_z-of_z w64 p.x2 (search rules)) (to_z-of_z w64 p.y2 (search rules)) in
    let left = same_pane _ _ _ _ _ _ _ _ (to_z-of_z w64 p.x1 (search rules)) (to_z-of_z w64 h.y1 (search rules)) (to_z-of_z w64 h.x1 (search rules)) (to_z-of_z w64 h.y2 (search rules)) in
    let right = same_pane _ _ _ _ _ _ _ _ (to_z-of_z w64 h.x2 (search rules)) (to_z-of_z w64 h.y1 (search rules)) (to_z-of_z w64 p.x2 (search rules)) (to_z-of_z w64 h.y2 (search rules)) in
    let moved = placed_of c.args.placed in
    let colour = c.args.colour in
    on_ok_weaker c.add_pane-4.result
    (λ last. beside_adds moved p h colour _ _ _ _ _ (pane_same moved _ _ colour _ _ above c.in_ok-add_pane.ensures) (pane_same moved _ _ colour _ _ below c.in_ok-add_pane-2.ensures)
    (pane_same moved _ _ colour _ _ left c.in_ok-add_pane-3.ensures) (pane_same moved _ _ colour _ _ right last))
    c.add_pane-4.ensures
