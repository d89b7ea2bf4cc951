use Rattle.std.proofs.Common.{w32, rules}
use Rattle.std.proofs.lemmas.Int.{to_z-of_z}
use Rattle.std.specs.Int.RustNames.{FitsSigned}
use Rattle.made_values.proofs.composites.add_part.Goals as goal

pub add-requires : goal.add-requires
add-requires c =
    let across : FitsSigned w32 c.args.part.now.dx = search rules in
    let down : FitsSigned w32 c.args.part.now.dy = search rules in
    rw (to_z-of_z w32 c.args.part.now.dx across, to_z-of_z w32 c.args.part.now.dy down) c.requires

pub returns-clause-sum : goal.returns-clause-sum
returns-clause-sum c =
    let across : FitsSigned w32 c.args.part.now.dx = search rules in
    let down : FitsSigned w32 c.args.part.now.dy = search rules in
    rw (to_z-of_z w32 c.args.part.now.dx across, to_z-of_z w32 c.args.part.now.dy down) at c.add.ensures.sum
