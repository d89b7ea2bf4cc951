use Rattle.std.proofs.Common.{◌≡◌, ◌∙◌, refl, rules, sym, SFits, w32, w64}
use Rattle.std.specs.List.{filter}
use Rattle.std.proofs.lemmas.Fn.{filter_same}
use Rattle.std.proofs.lemmas.Int.{to_z-of_z}
use Rattle.event_places.specs.Steps.{is_in_way}
use Rattle.event_places.proofs.KeptLemmas.{all_stayed, dropped}
use Rattle.event_places.proofs.kept.MovedBoxes.drop_others.Goals as goal

pub returns-then-all_stay-clause-boxes : goal.returns-then-all_stay-clause-boxes
returns-then-all_stay-clause-boxes c = (all_stayed c.args.self.now c.args.span.now c.requires (sym c.all_stay.ensures ∙ c.if-all_stay.true)).0

pub returns-then-all_stay-clause-layer : goal.returns-then-all_stay-clause-layer
returns-then-all_stay-clause-layer c = (all_stayed c.args.self.now c.args.span.now c.requires (sym c.all_stay.ensures ∙ c.if-all_stay.true)).1

pub returns-clause-boxes : goal.returns-clause-boxes
returns-clause-boxes c = filter_same _ (is_in_way c.args.span.now) _ (λ x b f h. search rules) _ _ c.retain.ensures.filtered

pub returns-clause-kept : goal.returns-clause-kept
returns-clause-kept c =
    let old = c.args.self.now in
    let span = c.args.span.now in
    let first = c.earliest_end-self.result in
    let boxes : c.retain.new.self.items ≡ filter (is_in_way span) old.boxes.items = filter_same _ (is_in_way span) _ (λ x b f h. search rules) _ _ c.retain.ensures.filtered in
    let fl : SFits w32 span.layer = search rules in
    let ff : SFits w64 first = search rules in
    rw (to_z-of_z w32 span.layer fl, to_z-of_z w64 first ff)
    (dropped old _ span c.requires boxes refl (rw c.as_slice.ensures.value at c.earliest_end-self.ensures) refl refl refl)
