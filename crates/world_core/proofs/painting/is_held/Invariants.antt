use Rattle.std.proofs.Common.{◌≡◌, take}
use Rattle.world_core.specs.Holdings.{count_held}
use Rattle.world_core.specs.Keys.{equal_world_keys}
use Rattle.world_core.proofs.painting.is_held.Given as goal

abbrev pub invariant-loop-pin : goal.invariant-loop-pin
invariant-loop-pin l = count_held equal_world_keys l.actor l.shard l.key (take l.pin-index l.pins) ≡ 0
