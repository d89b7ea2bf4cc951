use Rattle.std.proofs.Common.{ap, ◌∙◌}
use Rattle.std.proofs.lemmas.List.{take_all}
use Rattle.std.proofs.lemmas.List.Elements.{All-get_or}
use Rattle.ass_num.specs.Regions.{in_runs}
use Rattle.border_region.specs.Strips.{no_run}
use Rattle.border_region.specs.StripRows.{IsFullRun}
use Rattle.border_region.proofs.StripRowLemmas.{united_none, united_more}
use Rattle.border_region.proofs.strip_rows.unite.Goals as goal

pub loop-run-init : goal.loop-run-init
loop-run-init c = rw c.clear.ensures.items (united_none c.args.found.now)

pub add_run-requires-clause-samples : goal.add_run-requires-clause-samples
add_run-requires-clause-samples c = All-get_or IsFullRun c.args.found.now c.loop-run.run-index no_run c.loop-run-test.true c.requires.full

pub add_run-requires-clause-begin : goal.add_run-requires-clause-begin
add_run-requires-clause-begin c = c.loop-run.invariant.begin c.loop-run-test.true

pub loop-run-preserved : goal.loop-run-preserved
loop-run-preserved c = united_more c.args.found.now c.loop-run.run-index c.loop-run.runs.items c.add_run.new.runs.items c.requires.rising c.loop-run-test.true c.loop-run.invariant c.in_ok-add_run.ensures

pub returns : goal.returns
returns c =
    let w = c.loop-run.invariant in
    record {
      covers = λ i. w.covers i ∙ ap (λ rs. in_runs rs i) (take_all c.loop-run.run-index c.args.found.now c.loop-run-test.false);
      ascends = w.ascends;
    }
