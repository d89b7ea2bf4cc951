use Rattle.std.proofs.Common.{rules}
use Rattle.world_vectors.proofs.inputs.keys_at.Goals as goal

pub keys_of-requires : goal.keys_of-requires
keys_of-requires c =
    let valid = rw (← c.setting.view_is) at c.in_ok-plan.ensures in
    search (rules, valid)

pub returns : goal.returns
returns c = rw (← c.setting.view_is) c.keys_of.ensures
