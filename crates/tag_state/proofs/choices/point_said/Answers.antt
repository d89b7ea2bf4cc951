use Rattle.std.proofs.Common.{rules, ◌≡◌, FitsSigned, w64, to_z-of_z}
use Rattle.event_instants.specs.Instants.{move_at}
use Rattle.tag_state.proofs.choices.point_said.Goals as goal

pub returns-in-Move : goal.returns-in-Move
returns-in-Move c =
    let first : FitsSigned w64 c.in-Move.t1 = search rules in
    let last : FitsSigned w64 c.in-Move.t2 = search rules in
    let at : c.move_at.result ≡ move_at c.in-Move.path c.in-Move.t1 c.in-Move.t2 c.args.duration c.args.elapsed =
    rw (to_z-of_z first, to_z-of_z last, to_z-of_z c.ranges.duration, to_z-of_z c.ranges.elapsed) at c.move_at.ensures.value in
    rw at (search rules)
