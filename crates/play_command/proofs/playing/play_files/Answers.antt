use Rattle.play_command.proofs.PlayLemmas.{faults_of, play_why, played, read_of, refused, told_kind, why_kind, why_read}
use Rattle.play_command.specs.PlayRuns.{view_of}
use Rattle.play_command.proofs.playing.play_files.Goals as goal

pub returns-in-Ok-clause-run : goal.returns-in-Ok-clause-run
returns-in-Ok-clause-run g c =
    played _ _ c.args.job c.args.script.now c.args.fonts.now c.in-Ok.inputs c.play_headed.result c.told.result _ _ c.in-Ok.ensures.read c.in-Ok.ensures.fetched c.in-Ok.ensures.playable c.play_headed.ensures c.told.ensures

pub returns-in-Ok-clause-read : goal.returns-in-Ok-clause-read
returns-in-Ok-clause-read g c = read_of c.play_headed.result c.told.result _ _ c.told.ensures c.in-Ok.ensures.counted

pub returns-in-Ok-clause-write : goal.returns-in-Ok-clause-write
returns-in-Ok-clause-write g c = faults_of (view_of c.args.job c.in-Ok.inputs) c.play_headed.result c.told.result _ _ c.play_headed.ensures c.told.ensures

pub returns-in-Ok-clause-reportable : goal.returns-in-Ok-clause-reportable
returns-in-Ok-clause-reportable g c = (told_kind c.play_headed.result c.told.result c.told.ensures).0

pub returns-in-Ok-clause-spoken : goal.returns-in-Ok-clause-spoken
returns-in-Ok-clause-spoken g c = (told_kind c.play_headed.result c.told.result c.told.ensures).1

pub returns-in-Err-clause-run : goal.returns-in-Err-clause-run
returns-in-Err-clause-run g c = refused _ _ c.args.job c.args.script.now c.args.fonts.now c.in-Err.status _ c.in-Err.ensures.read c.in-Err.ensures.fetched

pub returns-in-Err-clause-read : goal.returns-in-Err-clause-read
returns-in-Err-clause-read g c = why_read c.in-Err.status _ _ c.in-Err.ensures.counted

pub returns-in-Err-clause-write : goal.returns-in-Err-clause-write
returns-in-Err-clause-write g c = (why_kind c.in-Err.status _ (play_why _ c.args.job c.args.script.now c.args.fonts.now c.in-Err.status c.in-Err.ensures.read)).0

pub returns-in-Err-clause-reportable : goal.returns-in-Err-clause-reportable
returns-in-Err-clause-reportable g c = (why_kind c.in-Err.status 0 (play_why _ c.args.job c.args.script.now c.args.fonts.now c.in-Err.status c.in-Err.ensures.read)).1

pub returns-in-Err-clause-spoken : goal.returns-in-Err-clause-spoken
returns-in-Err-clause-spoken g c = (why_kind c.in-Err.status 0 (play_why _ c.args.job c.args.script.now c.args.fonts.now c.in-Err.status c.in-Err.ensures.read)).2
