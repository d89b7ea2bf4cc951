use Rattle.std.proofs.Common.{◌≡◌, refl}
use Rattle.json_lines.specs.Members.{object_of}
use Rattle.still_lists.specs.JsonIndexes.{still_members}
use Rattle.still_lists.proofs.index.entry_json.Goals as goal

pub returns : goal.returns
returns c =
    let tokens : c.end_object.new.self.tokens ≡ object_of (still_members c.args.k c.args.entry.now) =
    rw (
      c.in_ok-end_object.ensures.ok,
      c.in_ok-add_box.ensures.tokens,
      c.in_ok-add_number-3.ensures.tokens,
      c.in_ok-add_number-2.ensures.tokens,
      c.in_ok-add_number.ensures.tokens,
      c.in_ok-begin_object.ensures.ok,
      c.new_line-line.ensures.tokens,
    ) refl in
    rw tokens at c.line_of.ensures
