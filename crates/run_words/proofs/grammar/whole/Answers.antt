use Rattle.std.proofs.Common.{◌<◌, length, arith}
use Rattle.clap.specs.Simple.{app_of}
use Rattle.run_words.specs.declared.command.Command.TheVariants.{Check}
use Rattle.run_words.proofs.GrammarLemmas.{bare, command_more}
use Rattle.run_words.proofs.grammar.whole.Goals as goal

pub loop-command-preserved : goal.loop-command-preserved
loop-command-preserved c =
    let inv = c.loop-command.invariant in
    let items = c.commands-command-items.result.now in
    let within : c.loop-command.command-index < length items = omega arith in (
      inv.0,
      command_more items c.loop-command.command-index Check bare (app_of c.loop-command.built) (app_of c.in_ok-built.built) (app_of c.in_ok-subcommand.field-0).top within
          c.in_ok-subcommand.ensures.shape inv.1 (c.in_ok-built.ensures.shape c.in_ok-subcommand.ensures.local),
    )
