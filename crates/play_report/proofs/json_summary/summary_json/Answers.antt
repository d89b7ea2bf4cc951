use Rattle.std.proofs.Common.{◌≡◌, refl}
use Rattle.json_lines.specs.Members.{object_of}
use Rattle.play_report.specs.JsonReports.{summary_members}
use Rattle.play_report.proofs.json_summary.summary_json.Goals as goal

pub returns : goal.returns
returns c =
    let tokens : c.end_object.new.self.tokens ≡ object_of (summary_members c.args.seed c.args.events c.args.accepted c.args.frames c.args.digest) =
    rw (
      c.in_ok-end_object.ensures.ok,
      c.in_ok-add_number-5.ensures.tokens,
      c.in_ok-add_number-4.ensures.tokens,
      c.in_ok-add_number-3.ensures.tokens,
      c.in_ok-add_number-2.ensures.tokens,
      c.in_ok-add_number.ensures.tokens,
      c.in_ok-begin_object.ensures.ok,
      c.new_line-line.ensures.tokens,
      c.from.ensures,
      c.from-2.ensures,
      c.from-3.ensures,
    ) refl in
    rw tokens at c.line_of.ensures
