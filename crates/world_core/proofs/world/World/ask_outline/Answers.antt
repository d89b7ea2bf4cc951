use Rattle.std.proofs.Common.{◌≡◌, Err, ap, rules}
use Rattle.world_core.specs.declared.world_keys.WorldKey.TheVariants.{Outline}
use Rattle.world_core.proofs.Telling.{asked-same, made-refused}
use Rattle.world_core.proofs.world.World.ask_outline.Goals as goal

pub returns : goal.returns
returns c = asked-same c.args.actor (Outline c.in_ok-copy.copy) (Outline c.args.key.now) c.args.self.now c.ask.new.self c.ask.result (ap Outline c.in_ok-copy.ensures) c.ask.ensures

pub returns-in_err-copy : goal.returns-in_err-copy
returns-in_err-copy c =
    let same : c.from_residual.result ≡ Err c.in_err-copy.field-0.0 = search rules in
    made-refused c.args.self.now _ _ c.from_residual.result c.in_err-copy.field-0.0 same
