use Rattle.std.proofs.Common.{◌≡◌, drop, is_some}
use Rattle.std.specs.List.{list_any}
use Rattle.clap.specs.Matches.{found_of}
use Rattle.clap.specs.Walk.{rows_of}
use Rattle.run_words.specs.Asked.{text_at}
use Rattle.run_words.specs.Commands.{sharing_arguments}
use Rattle.run_words.proofs.asked.is_shared_out.Given as goal

abbrev pub invariant-loop-argument : goal.invariant-loop-argument
invariant-loop-argument l = (l.argument-items ≡ sharing_arguments)
    × (list_any (λ argument. is_some (text_at (rows_of (found_of l.fn.found)) argument)) (drop l.argument-index l.argument-items) ≡ list_any (λ argument. is_some (text_at (rows_of (found_of l.fn.found)) argument)) l.argument-items)
