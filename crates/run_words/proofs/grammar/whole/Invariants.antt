use Rattle.std.proofs.Common.{◌≡◌, fold, take}
use Rattle.clap.specs.Simple.{app_of}
use Rattle.run_words.specs.Commands.{commands}
use Rattle.run_words.proofs.GrammarLemmas.{bare, with_command}
use Rattle.run_words.proofs.grammar.whole.Given as goal

abbrev pub invariant-loop-command : goal.invariant-loop-command
invariant-loop-command l = (l.command-items ≡ commands) × (app_of l.built ≡ fold with_command bare (take l.command-index l.command-items))
