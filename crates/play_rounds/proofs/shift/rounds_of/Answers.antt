use Rattle.std.proofs.Common.{arith}
use Rattle.play_rounds.proofs.Bounds.{instants_few, lines_few}
use Rattle.play_rounds.proofs.shift.rounds_of.Goals as goal

pub feeding_rounds-feeding-requires-clause-lines : goal.feeding_rounds-feeding-requires-clause-lines
feeding_rounds-feeding-requires-clause-lines c = let few = lines_few c.args.stage.now c.requires in omega (arith, few, c.len.ensures)

pub feeding_rounds-requires-clause-lines : goal.feeding_rounds-requires-clause-lines
feeding_rounds-requires-clause-lines c = let few = lines_few c.args.stage.now c.requires in omega (arith, few, c.len-in-Feed.ensures)

pub returns-in-Both-clause-few : goal.returns-in-Both-clause-few
returns-in-Both-clause-few c =
    let lines = lines_few c.args.stage.now c.requires in let images = instants_few c.args.stage.now c.requires in
    omega (arith, lines, images, c.len.ensures, c.feeding_rounds-feeding.ensures.few, c.image_rounds.ensures.few, c.max.ensures)

pub returns-in-Feed-clause-few : goal.returns-in-Feed-clause-few
returns-in-Feed-clause-few c = let lines = lines_few c.args.stage.now c.requires in omega (arith, lines, c.len-in-Feed.ensures, c.feeding_rounds.ensures.few)

pub returns-in-Paint-clause-few : goal.returns-in-Paint-clause-few
returns-in-Paint-clause-few c = let images = instants_few c.args.stage.now c.requires in omega (arith, images, c.image_rounds-in-Paint.ensures.few)
