use Rattle.std.proofs.Common.{List, ℕ, sym, subst}
use Rattle.std.specs.Str.{IsUtf8}
use Rattle.ass_script.proofs.Refusals.{never_not_utf8}
use Rattle.ass_script.proofs.read.read_script.Goals as goal

pub returns-clause-front : goal.returns-clause-front
returns-clause-front c =
    let valid = c.in-Ok.ensures.cases in
    λ n e. absurd (never_not_utf8 c.in-Ok.text.now c.read_text.result n (subst (λ (bytes : List ℕ). IsUtf8 bytes) (sym valid.0) valid.1) c.read_text.ensures.answer e)
