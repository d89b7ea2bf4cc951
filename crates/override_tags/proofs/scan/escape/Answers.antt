use Rattle.std.proofs.Common.{◌≢◌, ◌∙◌, sym, rules}
use Rattle.override_tags.proofs.FrontLemmas.{no_escape}
use Rattle.override_tags.proofs.scan.escape.Goals as goal

pub returns-in_default-clause-none : goal.returns-in_default-clause-none
returns-in_default-clause-none c =
    let n : c.in_ok-next.field-0 ≢ 78 = search rules in
    let s : c.in_ok-next.field-0 ≢ 110 = search rules in
    let h : c.in_ok-next.field-0 ≢ 104 = search rules in
    no_escape c.args.text.now _ c.in_ok-next.field-0 (sym c.chars-chars.ensures.rest ∙ c.in_ok-next.ensures.steps.0) n s h
