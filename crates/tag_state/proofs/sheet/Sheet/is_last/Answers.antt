use Rattle.std.proofs.Common.{◌≡◌, sym, ap, ◌∙◌, Some, List, length, ◌-◌}
use Rattle.std.specs.Prelude.{slice_get}
use Rattle.override_tags.specs.declared.view.State.{State}
use Rattle.tag_state.proofs.StateEquality.{last_same}
use Rattle.tag_state.proofs.sheet.Sheet.is_last.Goals as goal

pub returns-in-Some : goal.returns-in-Some
returns-in-Some c = λ equal.
    let found : Some c.in-Some.last.now ≡ slice_get c.args.self.now.states (length c.args.self.now.states - 1) =
    c.in-Some.ensures.value ∙ ap (λ (z : List State). slice_get z (length z - 1)) c.as_slice.ensures in
    last_same c.args.self.now.states c.in-Some.last.now c.args.state.now found (sym c.eq.ensures ∙ equal)
