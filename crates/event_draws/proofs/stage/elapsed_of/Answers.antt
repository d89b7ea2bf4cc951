use Rattle.std.proofs.Common.{rules, FitsSigned, w64, to_z-of_z}
use Rattle.tag_state.proofs.ViewLemmas.{elapsed_fits}
use Rattle.event_draws.proofs.stage.elapsed_of.Goals as goal

pub overflow_sub-result : goal.overflow_sub-result
overflow_sub-result c =
    let begins : FitsSigned w64 c.args.event.now.start = search rules in
    rw (to_z-of_z c.ranges.t, to_z-of_z begins) (elapsed_fits c.args.t c.args.event.now.start c.requires.instant c.requires.event.start)
