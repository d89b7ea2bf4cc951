use Rattle.std.proofs.Common.{◌≡◌, ◌<◌, ◌++◌, ◌∷◌, [], ◌∙◌, length, map, ap, sym, to_z-of_z, rules, arith}
use Rattle.std.specs.List.{All}
use Rattle.std.proofs.lemmas.List.{length-map}
use Rattle.std.proofs.lemmas.Grind.{common_steps}
use Rattle.std.proofs.lemmas.List.Elements.{All-push, All-same}
use Rattle.ass_num.specs.Limits.{IsOutlinePoint}
use Rattle.fixed_outline.specs.Figures.{placed_point}
use Rattle.fixed_outline.proofs.FigureLemmas.{finished_is, written_back}
use Rattle.fixed_outline.proofs.drawings.finish.Goals as goal

written : (c : goal.After-clear) → c.as_slice.result.now ≡ c.place.new.points
written c =
    let whole : c.args.ring.now.len ≡ length c.args.ring.now.items = search rules in
    c.as_slice.ensures.value
    ∙ written_back c.args.ring.now.len c.place.new.points c.args.ring.now.items (ap length c.place.ensures.value ∙ length-map c.as_mut_slice.result.now _ ∙ ap length c.as_mut_slice.ensures.value) whole

pub returns-clause-added : goal.returns-clause-added
returns-clause-added c =
    let some : 0 < length c.args.ring.now.items = grind (arith, common_steps) in
    let placed : c.as_slice.result.now ≡ map (placed_point c.args.turn.now.angle c.args.shift) c.args.ring.now.items =
    written c ∙ rw (to_z-of_z c.ranges.shift) at c.place.ensures.value ∙ ap (map (placed_point c.args.turn.now.angle c.args.shift)) c.as_mut_slice.ensures.value in
    c.in_ok-push.ensures.ok ∙ ap (λ r. c.args.rings.now ++ r ∷ []) placed ∙ ap (λ rs. c.args.rings.now ++ rs) (sym (finished_is c.args.turn.now.angle c.args.shift c.args.ring.now.items some))

pub returns-clause-within : goal.returns-clause-within
returns-clause-within c outline =
    rw c.in_ok-push.ensures.ok (All-push (All IsOutlinePoint) c.args.rings.now c.as_slice.result.now outline (All-same IsOutlinePoint c.as_slice.result.now c.place.new.points (written c) c.place.ensures.within))
