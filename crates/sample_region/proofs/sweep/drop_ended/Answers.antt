use Rattle.std.proofs.Common.{rules, int_lt}
use Rattle.std.proofs.lemmas.Fn.{filter_same}
use Rattle.sample_region.specs.declared.carried.LiveEdge.{LiveEdge}
use Rattle.sample_region.proofs.sweep.drop_ended.Goals as goal

pub returns : goal.returns
returns c = filter_same _ (λ (live : LiveEdge). int_lt c.args.y live.edge.lower.y) _ (λ x b f' k. search rules) _ _ c.retain.ensures.filtered
