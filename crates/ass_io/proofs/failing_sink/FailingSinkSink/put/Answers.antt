use Rattle.std.proofs.Common.{◌/◌, length, take, drop, refl, sym, arith}
use Rattle.std.proofs.lemmas.List.{take-append-drop}
use Rattle.std.proofs.lemmas.Grind.{common_steps}
use Rattle.ass_io.proofs.failing_sink.FailingSinkSink.put.Goals as goal

-- the first half of the piece was appended, and the second half is the rest
pub returns-in-Done : goal.returns-in-Done
returns-in-Done c =
    let piece = c.args.piece.now in
    let half = length piece / 2 in
    record {
      put = (take half piece, drop half piece, sym (take-append-drop half piece), grind (arith, common_steps, c.put-2.ensures.put));
      counted = (c.count_one.ensures.0, c.count_one.ensures.1);
      asked = c.note.ensures;
      made = refl;
    }
