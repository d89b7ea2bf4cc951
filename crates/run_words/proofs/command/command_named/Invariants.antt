use Rattle.std.proofs.Common.{◌≡◌, drop}
use Rattle.std.specs.List.{find}
use Rattle.std.specs.Str.{bytes_eq}
use Rattle.run_words.specs.Commands.{command_name, commands}
use Rattle.run_words.proofs.command.command_named.Given as goal

abbrev pub invariant-loop-command : goal.invariant-loop-command
invariant-loop-command l = (l.command-items ≡ commands) × (find (λ command. bytes_eq (command_name command) l.fn.name) (drop l.command-index l.command-items) ≡ find (λ command. bytes_eq (command_name command) l.fn.name) l.command-items)
