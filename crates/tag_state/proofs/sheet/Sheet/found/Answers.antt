use Rattle.std.proofs.Common.{◌≡◌, sym, ◌∙◌, subst, get_or, List}
use Rattle.override_tags.specs.declared.view.State.{State}
use Rattle.tag_state.specs.Walks.{IsStored}
use Rattle.tag_state.proofs.StateEquality.{stored_same}
use Rattle.tag_state.proofs.sheet.Sheet.found.Goals as goal

pub returns-then-eq : goal.returns-then-eq
returns-then-eq c =
    let number = get_or c.args.self.now.slots c.args.slot 0 in
    let P : List State → Type 0 = λ z. IsStored z c.args.state.now number in
    let same : c.as_slice-states.result.now ≡ c.args.self.now.states = c.as_slice-states.ensures in
    subst P same (stored_same c.as_slice-states.result.now _ c.args.state.now number c.if-number-states.false (sym c.eq.ensures ∙ c.if-eq.true))
