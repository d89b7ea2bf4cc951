use Rattle.std.proofs.Common.{◌≡◌, not, drop}
use Rattle.std.specs.List.{find}
use Rattle.clap.specs.Matches.{found_of}
use Rattle.clap.specs.Walk.{rows_of}
use Rattle.run_words.specs.Asked.{fits}
use Rattle.run_words.specs.Commands.{arguments_of}
use Rattle.run_words.proofs.asked.first_bad.Given as goal

abbrev pub invariant-loop-argument : goal.invariant-loop-argument
invariant-loop-argument l = (l.argument-items ≡ arguments_of l.fn.command)
    × (find (λ argument. not (fits (rows_of (found_of l.fn.found)) argument)) (drop l.argument-index l.argument-items) ≡ find (λ argument. not (fits (rows_of (found_of l.fn.found)) argument)) l.argument-items)
