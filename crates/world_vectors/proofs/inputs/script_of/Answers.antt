use Rattle.std.proofs.Common.{ℕ, ◌≤◌, List, length, arith, rules}
use Rattle.std.proofs.lemmas.List.Elements.{All-weaker}
use Rattle.ass_num.specs.Limits.{max_text_bytes}
use Rattle.world_vectors.proofs.inputs.script_of.Goals as goal

pub returns-in-Ok-clause-short : goal.returns-in-Ok-clause-short
returns-in-Ok-clause-short c =
    let bytes = c.args.text.now in
    let small : length bytes ≤ max_text_bytes = search rules in
    All-weaker (λ (line : List ℕ). length line ≤ length bytes) (λ (line : List ℕ). length line ≤ max_text_bytes) (λ line l. omega (arith, l, small)) c.in-Ok.script.lines
    (c.lines_fit_their_text.ensures bytes c.in-Ok.script c.in-Ok.ensures.answer)
