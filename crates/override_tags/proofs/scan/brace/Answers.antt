use Rattle.std.proofs.Common.{lit<, ◌∷◌, ap, None, Some}
use Rattle.std.proofs.lemmas.Str.Pattern.{split_parts}
use Rattle.override_tags.proofs.FrontLemmas.{no_close, brace_char}
use Rattle.override_tags.proofs.scan.brace.Goals as goal

pub returns-then-not-may_close-clause-front : goal.returns-then-not-may_close-clause-front
returns-then-not-may_close-clause-front c = brace_char c.args.text.now (c.requires c.if-not-may_close.true)

pub returns-in-Some-clause-front : goal.returns-in-Some-clause-front
returns-in-Some-clause-front c =
    let parts = split_parts 125 c.args.text.now (Some (c.in-Some.body, c.in-Some.rest)) c.in-Some.ensures.cases (lit< tt) in
    (ap (λ z. 123 ∷ z) parts.0, no_close c.in-Some.body.now parts.1)

pub returns-in-None-clause-front : goal.returns-in-None-clause-front
returns-in-None-clause-front c =
    brace_char c.args.text.now (no_close c.args.text.now (split_parts 125 c.args.text.now None c.in-None.ensures.cases (lit< tt)))

pub returns-in-None-clause-closes : goal.returns-in-None-clause-closes
returns-in-None-clause-closes c = λ no. no_close c.args.text.now (split_parts 125 c.args.text.now None c.in-None.ensures.cases (lit< tt))
