use Rattle.std.proofs.Common.{◌≡◌, ◌+◌, ◌++◌, ◌∷◌, [], ◌∙◌, List, ap, sym, subst, take, w64, to_z, of_z, to_z-of_z}
use Rattle.std.proofs.lemmas.List.{take_all, take_more}
use Rattle.override_tags.specs.declared.item.Item.{Item}
use Rattle.tag_state.specs.Choices.{IsSaid}
use Rattle.tag_state.proofs.ChoiceLemmas.{said_quiet}
use Rattle.tag_state.proofs.choices.said_of.Goals as goal
use Rattle.tag_state.proofs.choices.said_of.Goals.{in-Tag+in_ok-hear-in-Tag, in_default}

pub loop-item-preserved : goal.loop-item-preserved
loop-item-preserved c =
    let header = c.args.header.now in
    let duration = to_z w64 (of_z w64 c.args.duration) in
    let elapsed = to_z w64 (of_z w64 c.args.elapsed) in
    let items = c.args.items.now in
    let k = c.loop-item.item-index in
    let i = c.item-item.result in
    let more : take (k + 1) items ≡ take k items ++ i ∷ [] = take_more items k i c.loop-item-test.true ∙ ap (λ z. take k items ++ z ∷ []) (sym c.item-item.is) in
    subst (λ (z : List Item). IsSaid header duration elapsed z c.match-item.said) (sym more)
    (elim c.match-item.branch [
      | in-Tag+in_ok-hear-in-Tag w ↦
          rw w.said-is (w.in_ok-hear-in-Tag.ensures (take k items) i w.in-Tag.is c.loop-item.invariant)
      | in_default w ↦
          rw w.said-is (said_quiet header duration elapsed (take k items) i c.loop-item.said w.in_default.not-Tag c.loop-item.invariant)
    ])

pub returns : goal.returns
returns c =
    let so_far : IsSaid c.args.header.now c.args.duration c.args.elapsed (take c.loop-item.item-index c.args.items.now) c.loop-item.said = simp (to_z-of_z c.ranges.duration, to_z-of_z c.ranges.elapsed) at c.loop-item.invariant in
    subst (λ (z : List Item). IsSaid c.args.header.now c.args.duration c.args.elapsed z c.loop-item.said) (take_all c.loop-item.item-index c.args.items.now c.loop-item-test.false) so_far
