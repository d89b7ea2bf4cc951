use Rattle.std.proofs.Common.{arith}
use Rattle.std.proofs.lemmas.List.{take_rest}
use Rattle.ass_script.specs.declared.script.EventField.TheVariants.{ReadOrder}
use Rattle.ass_events.specs.Plain.{plain}
use Rattle.ass_events.proofs.FieldLemmas.{walk_on, walk_stops, walk_misses, walk_ends}
use Rattle.ass_events.proofs.fields.read_fields.Goals as goal

pub returns-then-place-line : goal.returns-then-place-line
returns-then-place-line c =
    walk_misses c.args.format.now c.args.line.now c.loop-i.i c.loop-i.place 0 (plain c.loop-i.fields) ReadOrder c.loop-i.invariant (omega arith) (omega arith)

pub returns-in-None : goal.returns-in-None
returns-in-None c =
    walk_stops c.args.format.now c.args.line.now c.loop-i.i c.loop-i.place c.piece_len-len.result (plain c.loop-i.fields) ReadOrder c.loop-i.invariant
    (omega arith) (omega arith) (simp take_rest at c.piece_len-len.ensures.len) (simp take_rest at c.in-None.ensures.none)

pub loop-i-preserved : goal.loop-i-preserved
loop-i-preserved c =
    walk_on c.args.format.now c.args.line.now c.loop-i.i c.loop-i.place c.piece_len-len.result (plain c.loop-i.fields) ReadOrder c.loop-i.invariant
    (plain c.in-Some.more) (omega arith) (omega arith) (simp take_rest at c.piece_len-len.ensures.len) (simp take_rest at c.in-Some.ensures.some)

pub returns : goal.returns
returns c = walk_ends c.args.format.now c.args.line.now c.loop-i.i c.loop-i.place 0 (plain c.loop-i.fields) ReadOrder c.loop-i.invariant (omega arith)
