use Rattle.std.proofs.Common.{◌-◌, ◌++◌, ◌∙◌, length, drop, sym, ap, arith}
use Rattle.std.proofs.lemmas.List.{append-nil}
use Rattle.std.proofs.lemmas.List.Elements.{All-take, All-drop}
use Rattle.ass_num.specs.Limits.{IsHeldPoint}
use Rattle.outline_points.proofs.Walks.{spline_short}
use Rattle.outline_points.proofs.drawings.add_spline.Goals as goal

pub returns-then-controls-lt3-clause-added : goal.returns-then-controls-lt3-clause-added
returns-then-controls-lt3-clause-added c =
    sym (append-nil c.args.points.now.items) ∙ ap (λ ps. c.args.points.now.items ++ ps) (sym (spline_short c.args.m.now c.args.controls.now (omega arith)))

pub add_pieces-requires-clause-rest : goal.add_pieces-requires-clause-rest
add_pieces-requires-clause-rest c = All-take IsHeldPoint (length c.args.controls.now - 3) (drop 3 c.args.controls.now) (All-drop IsHeldPoint 3 c.args.controls.now c.requires.controls)
