use Rattle.std.proofs.Common.{◌≡◌, false, fold, take}
use Rattle.clap.specs.Simple.{app_of, new_app}
use Rattle.clap.specs.declared.builder.command.Command.TheViews.{out-Command}
use Rattle.run_words.specs.Commands.{arguments_of, command_name}
use Rattle.run_words.proofs.GrammarLemmas.{with_argument}
use Rattle.run_words.proofs.grammar.subcommand.Given as goal

abbrev pub invariant-loop-taken : goal.invariant-loop-taken
invariant-loop-taken l = (l.taken-items ≡ arguments_of l.fn.command)
    × (app_of l.built ≡ fold with_argument (new_app (command_name l.fn.command)) (take l.taken-index l.taken-items))
    × ((out-Command l.built).has_globals ≡ false)
