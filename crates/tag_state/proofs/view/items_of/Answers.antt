use Rattle.std.proofs.Common.{ℕ, List, sym, subst}
use Rattle.override_tags.specs.declared.item.Item.{Item}
use Rattle.tag_state.specs.Views.{AreReadItems}
use Rattle.tag_state.proofs.view.items_of.Goals as goal

pub returns : goal.returns
returns c =
    let read = c.in_ok-items.ensures in
    subst (λ (z : List Item). AreReadItems c.args.event.now.text z) (sym c.from_vec.ensures)
    (subst (λ (z : List ℕ). AreReadItems z c.in_ok-items.items.items) c.as_str.ensures (record { reading = read.reading; held = read.held; cuts = read.cuts }))
