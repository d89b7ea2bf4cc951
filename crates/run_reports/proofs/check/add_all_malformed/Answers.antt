use Rattle.std.proofs.Common.{◌++◌, ◌∷◌, [], append-nil, append_assoc, codes, rules}
use Rattle.json.specs.Token.{begin_array, key}
use Rattle.ass_events.specs.Events.{line_fault}
use Rattle.ass_num.proofs.ListLemmas.{flat_more}
use Rattle.run_reports.specs.CheckObjects.{malformed_object}
use Rattle.run_reports.proofs.check.add_all_malformed.Goals as goal

pub loop-i-init : goal.loop-i-init
loop-i-init c = record {
  before = search rules;
  tokens = rw (c.in_ok-begin_array.ensures.ok, c.in_ok-key.ensures.ok) (simp (append_assoc, append-nil));
}

pub loop-i-preserved : goal.loop-i-preserved
loop-i-preserved c = record {
  before = search rules;
  tokens = flat_more (λ k. malformed_object k (line_fault c.args.script.now k)) (c.args.line.now.tokens ++ key (codes "malformed") ∷ begin_array ∷ []) c.loop-i.line.tokens c.add_malformed.new.line.tokens
      c.loop-i.i c.loop-i.invariant.tokens c.in_ok-add_malformed.ensures.tokens;
}
