use Rattle.std.proofs.Common.{ap, ◌∙◌}
use Rattle.world_core.specs.States.{with_kind}
use Rattle.world_core.proofs.caching.open_caches.Goals as goal

pub returns : goal.returns
returns c =
    let one = c.in_ok-add_kind.ensures ∙ ap (with_kind c.args.budget) c.new-caches.ensures in
    let two = c.in_ok-add_kind-2.ensures ∙ ap (with_kind c.args.budget) one in
    c.in_ok-add_kind-3.ensures ∙ ap (with_kind c.args.budget) two
