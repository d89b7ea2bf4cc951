use Rattle.std.proofs.Common.{◌≢◌, ◌++◌, ◌∙◌, ap, sym, rules}
use Rattle.std.specs.Prelude.{encode_utf8}
use Rattle.override_tags.proofs.FrontLemmas.{other_char}
use Rattle.override_tags.proofs.scan.front_of.Goals as goal

pub returns-in_default-clause-front : goal.returns-in_default-clause-front
returns-in_default-clause-front c =
    let brace : c.in_ok-c.c ≢ 123 = search rules in
    let backslash : c.in_ok-c.c ≢ 92 = search rules in
    let e = sym c.chars-chars.ensures.rest ∙ c.in_ok-c.ensures.steps.0 ∙ ap (λ z. encode_utf8 c.in_ok-c.c ++ z) (sym c.as_str-rest.ensures) in
    other_char c.args.text.now c.as_str-rest.result.now c.in_ok-c.c c.shown_char.result e brace backslash c.shown_char.ensures
