use Rattle.std.proofs.Common.{◌++◌, ◌∙◌, sym, ap}
use Rattle.std.proofs.lemmas.List.{append-nil}
use Rattle.outline_points.proofs.Walks.{pieces_step, pieces_all}
use Rattle.outline_points.proofs.drawings.add_pieces.Goals as goal

pub loop-control-preserved : goal.loop-control-preserved
loop-control-preserved c = (
  pieces_step c.args.m.now c.loop-control.a c.loop-control.b c.loop-control.c c.scaled_point-d.result c.args.rest.now c.loop-control.control-index _ c.loop-control.points.items c.add_piece.new.points.items c.loop-control-test.true c.scaled_point-d.ensures.value c.in_ok-add_piece.ensures.added ∙ c.loop-control.invariant.0,
  λ near. c.in_ok-add_piece.ensures.within (c.loop-control.invariant.1 near),
  c.loop-control.invariant.3,
  c.loop-control.invariant.4,
  c.scaled_point-d.ensures.within,
)

pub returns-clause-added : goal.returns-clause-added
returns-clause-added c =
    sym (append-nil c.loop-control.points.items)
    ∙ ap (λ ps. c.loop-control.points.items ++ ps) (sym (pieces_all c.args.m.now c.loop-control.a c.loop-control.b c.loop-control.c c.args.rest.now c.loop-control.control-index c.loop-control-test.false))
    ∙ c.loop-control.invariant.0
