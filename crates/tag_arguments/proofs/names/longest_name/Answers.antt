use Rattle.std.proofs.Common.{ap, sym, ◌∙◌}
use Rattle.std.specs.Option.{option_map}
use Rattle.tag_arguments.proofs.NameLemmas.{name_none, name_some, name_begins}
use Rattle.tag_arguments.proofs.names.longest_name.Goals as goal

pub returns-in_err-spelling : goal.returns-in_err-spelling
returns-in_err-spelling c =
    ap (option_map (λ found. (found.0, found.1.now))) c.from_residual.ensures ∙ sym (name_none c.args.text.now c.table_row.result c.table_row.ensures c.in_err-spelling.was)

pub returns-in_err-strip_prefix : goal.returns-in_err-strip_prefix
returns-in_err-strip_prefix c =
    name_begins c.args.text.now c.table_row.result (c.in_ok-spelling.spelling, c.in_ok-spelling.name) c.table_row.ensures c.in_ok-spelling.was c.in_err-strip_prefix.ensures.cases

pub returns : goal.returns
returns c =
    let strips = c.in_ok-strip_prefix.ensures.cases in
    name_some c.args.text.now c.table_row.result (c.in_ok-spelling.spelling, c.in_ok-spelling.name) strips.0 c.in_ok-strip_prefix.field-0.now c.table_row.ensures c.in_ok-spelling.was strips.1.0 strips.2
