use Rattle.std.proofs.Common.{rules, pos}
use Rattle.ass_num.specs.declared.region.Run.{Run}
use Rattle.region_rows.proofs.JoinLemmas.{joined_more}
use Rattle.ass_num.proofs.RegionLemmas.{run_at}
use Rattle.region_rows.proofs.runs.add_first.Goals as goal

abbrev none : Run
none = record { from = pos 0; to = pos 0 }

pub add_run-requires-clause-samples : goal.add_run-requires-clause-samples
add_run-requires-clause-samples c = run_at c.args.a.now c.args.k none c.requires.ascends c.requires.first.within

pub returns : goal.returns
returns c = search (rules, joined_more c.args.a.now c.args.k c.args.b.now c.args.m c.args.runs.now.items c.add_run.new.runs.items none c.requires.ascends c.requires.first c.requires.joined)
