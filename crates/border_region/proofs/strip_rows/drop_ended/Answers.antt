use Rattle.std.proofs.Common.{rules, int_lt}
use Rattle.std.proofs.lemmas.Fn.{filter_same}
use Rattle.border_region.specs.declared.wide_strips.Span.{Span}
use Rattle.border_region.proofs.strip_rows.drop_ended.Goals as goal

pub returns : goal.returns
returns c = filter_same _ (λ (span : Span). int_lt c.args.j span.end) _ (λ x b f' k. search rules) _ _ c.retain.ensures.filtered
