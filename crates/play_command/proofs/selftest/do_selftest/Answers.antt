use Rattle.std.proofs.Common.{refl, rules, subst}
use Rattle.play_command.specs.SelftestRuns.{summary_in}
use Rattle.play_command.specs.Working.{IsSummedBy}
use Rattle.play_command.proofs.SelftestLemmas.{inputs_playable, never_fails, played_out, refused}
use Rattle.play_command.proofs.selftest.do_selftest.Goals as goal

pub play_with-end-requires : goal.play_with-end-requires
play_with-end-requires g c =
    let playable = inputs_playable c.args.seed c.args.events c.args.workers c.in-Ok.inputs c.selftest_job-job.result c.selftest_job-job.ensures c.requires c.in-Ok.ensures.inputs in
    search (rules, playable)

pub summed-requires : goal.summed-requires
summed-requires g c = never_fails _ _ _ c.play_with-end.result refl refl c.play_with-end.ensures

pub returns-in-Ok : goal.returns-in-Ok
returns-in-Ok g c =
    played_out (summary_in c.args.form) c.args.seed c.args.events c.args.workers c.in-Ok.inputs c.selftest_job-job.result _ _ _ _ c.play_with-end.result c.summed.result
    c.requires c.in-Ok.ensures.read c.in-Ok.ensures.inputs c.selftest_job-job.ensures c.new-images.ensures.bytes refl refl c.play_with-end.ensures
    (subst (λ images. IsSummedBy (summary_in c.args.form) c.args.seed c.args.events images c.play_with-end.result c.summed.result) c.bytes.ensures c.summed.ensures)

pub returns-in-Err : goal.returns-in-Err
returns-in-Err g c = refused (summary_in c.args.form) c.args.seed c.args.events c.in-Err.status c.in-Err.ensures.read
