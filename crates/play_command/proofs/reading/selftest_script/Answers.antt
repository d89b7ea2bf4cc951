use Rattle.std.proofs.Common.{◌≡◌, rules, subst}
use Rattle.generated_script.specs.Generated.{generated}
use Rattle.play_command.specs.SelftestRuns.{IsScriptIn}
use Rattle.play_command.proofs.reading.selftest_script.Goals as goal

pub returns-in-Ok-clause-read : goal.returns-in-Ok-clause-read
returns-in-Ok-clause-read c =
    let same : c.as_slice.result.now ≡ generated c.args.seed c.args.events = search rules in
    subst (λ bytes. IsScriptIn bytes c.script_in.result) same c.script_in.ensures.read
