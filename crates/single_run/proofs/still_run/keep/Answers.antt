use Rattle.still_images.specs.Stills.{stills_view}
use Rattle.single_run.proofs.StillLemmas.{counted_of, stills_done, told_answer, told_suits}
use Rattle.single_run.proofs.still_run.keep.Goals as goal

pub returns-clause-answered : goal.returns-clause-answered
returns-clause-answered g c = told_answer c.show_stills.result c.told.result c.told.ensures

pub returns-clause-done : goal.returns-clause-done
returns-clause-done g c =
    stills_done c.args.stills.now c.args.inputs (g.F.Sink.state c.args.frames.now) (g.F.Sink.state c.show_stills.new.frames) c.show_stills.result c.told.result c.told.ensures c.show_stills.ensures

pub returns-clause-counted : goal.returns-clause-counted
returns-clause-counted g c =
    counted_of (stills_view c.args.stills.now c.args.inputs.script c.args.inputs.fonts) (g.F.Sink.state c.args.frames.now) (g.F.Sink.state c.show_stills.new.frames) c.show_stills.result c.told.result c.told.ensures c.show_stills.ensures

pub returns-clause-own : goal.returns-clause-own
returns-clause-own g c = told_suits c.show_stills.result c.told.result c.told.ensures
