use Rattle.std.proofs.Common.{◌≡◌, ℕ, ◌+◌, Option, Some, None, List, sym, ap, ◌∙◌, subst}
use Rattle.ass_num.specs.declared.geometry.Point.{Point}
use Rattle.ass_num.specs.declared.geometry.Seg.{Seg}
use Rattle.drawing_path.specs.declared.command.Command.{Command}
use Rattle.drawing_path.specs.Paths.{after_command, IsPathOf}
use Rattle.drawing_path.specs.Runs.{IsPointRun, command_at}
use Rattle.drawing_path.proofs.RangeLemmas.{drawing_valid}
use Rattle.drawing_path.proofs.ReadingLemmas.{IsDrawn, drawn_more, drawn_all, rest_of}
use Rattle.drawing_path.proofs.read.read_path.Goals as goal

pub loop-command-preserved : goal.loop-command-preserved
loop-command-preserved c =
    let text : List ℕ = c.as_bytes-text.result.now in
    let points : List Point = c.read_points-in-Some.new.points.items in
    let P : List ℕ → Type 0 = λ z. IsPointRun z c.in_ok-at-2.field-0 points in
    let letter : command_at text c.loop-command.at ≡ Some c.in-Some.command = sym c.command_at.ensures ∙ c.in-Some.is in
    let path : c.apply.new.self.segs.items ≡ after_command c.loop-command.sketch.segs.items c.in-Some.command points =
    c.in_ok-apply.ensures.path ∙ ap (after_command c.loop-command.sketch.segs.items c.in-Some.command) c.as_slice.ensures.value in (
      drawn_more text c.loop-command.at c.loop-command.sketch.segs.items c.in-Some.command c.in_ok-at-2.field-0 points c.apply.new.self.segs.items letter
          (subst P (rest_of text (c.loop-command.at + 1)) c.in_ok-at-2.ensures) path c.loop-command.invariant.0,
      c.in_ok-apply.ensures.place,
    )

-- what the loop leaves is the path of the text
path_read : (text bytes : List ℕ) (at : ℕ) (command : Option Command) (segs path : List Seg) → bytes ≡ text → command ≡ command_at bytes at → command ≡ None → IsDrawn bytes at segs → path ≡ segs → IsPathOf text path
path_read text bytes at command segs path same is none drawn e =
    let P : List ℕ → Type 0 = λ z. IsPathOf z path in
    let Q : List Seg → Type 0 = λ z. IsPathOf bytes z in
    subst P same (subst Q (sym e) (drawn_all bytes at segs (sym is ∙ none) drawn))

pub returns-clause-path : goal.returns-clause-path
returns-clause-path c =
    path_read c.args.text.now c.as_bytes-text.result.now c.loop-command.at c.command_at.result c.loop-command.sketch.segs.items c.into_segs.result c.as_bytes-text.ensures.value c.command_at.ensures c.in_default.is c.loop-command.invariant.0 c.into_segs.ensures

pub returns-clause-valid : goal.returns-clause-valid
returns-clause-valid c =
    drawing_valid c.args.text.now c.into_segs.result (path_read c.args.text.now c.as_bytes-text.result.now c.loop-command.at c.command_at.result c.loop-command.sketch.segs.items c.into_segs.result c.as_bytes-text.ensures.value c.command_at.ensures c.in_default.is c.loop-command.invariant.0 c.into_segs.ensures)
