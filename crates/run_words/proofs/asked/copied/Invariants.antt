use Rattle.std.proofs.Common.{◌≡◌, map, take}
use Rattle.run_words.proofs.asked.copied.Given as goal

abbrev pub invariant-loop-text : goal.invariant-loop-text
invariant-loop-text l = l.copy ≡ map (λ text. text.now) (take l.text-index l.texts)
