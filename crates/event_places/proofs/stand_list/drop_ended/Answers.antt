use Rattle.std.proofs.Common.{rules, SFits, to_z, of_z, w64}
use Rattle.std.proofs.lemmas.Int.{to_z-of_z}
use Rattle.std.proofs.lemmas.Fn.{filter_same}
use Rattle.event_places.specs.Placement.{ends_after}
use Rattle.event_places.proofs.stand_list.drop_ended.Goals as goal

pub returns : goal.returns
returns c =
    let f : SFits w64 c.args.next.now.start = search rules in
    let e = filter_same _ (ends_after (to_z w64 (of_z w64 c.args.next.now.start))) _ (λ x b f h. search rules) _ _ c.retain.ensures.filtered in
    simp to_z-of_z at e
