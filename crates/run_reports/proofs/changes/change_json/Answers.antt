use Rattle.std.proofs.Common.{◌≡◌, refl}
use Rattle.json_lines.specs.Members.{object_of}
use Rattle.run_reports.specs.ChangeStreams.{change_members}
use Rattle.run_reports.proofs.changes.change_json.Goals as goal

pub returns : goal.returns
returns c =
    let tokens : c.end_object.new.self.tokens ≡ object_of (change_members c.args.t c.args.change.now) =
    rw (
      c.in_ok-end_object.ensures.ok,
      c.in_ok-add_box.ensures.tokens,
      c.in_ok-add_number-2.ensures.tokens,
      c.in_ok-add_number.ensures.tokens,
      c.in_ok-begin_object.ensures.ok,
      c.new_line-line.ensures.tokens,
      c.from.ensures,
      c.kind_number.ensures,
    ) refl in
    rw tokens at c.line_of.ensures
