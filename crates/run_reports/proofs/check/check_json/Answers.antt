use Rattle.std.proofs.Common.{◌≡◌, ◌++◌, append_assoc}
use Rattle.json_lines.specs.Members.{object_of}
use Rattle.run_reports.specs.CheckObjects.{fonts_member, head_members, malformed_member}
use Rattle.run_reports.proofs.check.check_json.Goals as goal

pub returns : goal.returns
returns c =
    let tokens : c.end_object.new.self.tokens ≡ object_of (head_members c.args.script.now ++ malformed_member c.args.script.now ++ fonts_member c.args.fonts.now) =
    rw (
      c.in_ok-end_object.ensures.ok,
      c.in_ok-add_fonts.ensures.tokens,
      c.in_ok-add_all_malformed.ensures.tokens,
      c.in_ok-add_head.ensures.tokens,
      c.in_ok-begin_object.ensures.ok,
      c.new_line-line.ensures.tokens,
    ) (simp append_assoc) in
    rw tokens at c.line_of.ensures
