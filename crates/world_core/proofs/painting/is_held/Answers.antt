use Rattle.std.proofs.Common.{◌≡◌, List, sym, ◌∙◌, subst}
use Rattle.std.proofs.lemmas.List.{take_all}
use Rattle.world_core.specs.Holdings.{count_held, is_held_by}
use Rattle.world_core.specs.declared.holding.Holding.{Holding}
use Rattle.world_core.specs.Keys.{equal_world_keys}
use Rattle.world_core.specs.declared.world_keys.WorldKey.{WorldKey}
use Rattle.world_core.proofs.HeldValues.{counted-here, counted-not}
use Rattle.world_core.proofs.painting.is_held.Goals as goal

pub returns-then-is_held_by-clause-some : goal.returns-then-is_held_by-clause-some
returns-then-is_held_by-clause-some c = λ t.
    counted-here (is_held_by equal_world_keys c.args.actor c.args.shard c.args.key.now) c.args.pins.now c.loop-pin.pin-index c.pin-item.result c.loop-pin-test.true c.pin-item.is (sym c.is_held_by.ensures ∙ c.if-is_held_by.true)

pub loop-pin-preserved : goal.loop-pin-preserved
loop-pin-preserved c =
    counted-not (is_held_by equal_world_keys c.args.actor c.args.shard c.args.key.now) c.args.pins.now c.loop-pin.pin-index c.pin-item.result c.loop-pin-test.true c.pin-item.is (sym c.is_held_by.ensures ∙ c.if-is_held_by.false)
    c.loop-pin.invariant

pub returns-clause-none : goal.returns-clause-none
returns-clause-none c = λ t.
    subst (λ (hs : List (Holding WorldKey)). count_held equal_world_keys c.args.actor c.args.shard c.args.key.now hs ≡ 0) (take_all c.loop-pin.pin-index c.args.pins.now c.loop-pin-test.false) c.loop-pin.invariant
