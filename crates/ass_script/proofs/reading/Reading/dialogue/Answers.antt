use Rattle.std.proofs.Common.{arith, ◌∷◌, [], length, length-append, ap}
use Rattle.std.specs.Str.{IsUtf8}
use Rattle.std.proofs.lemmas.List.Elements.{All-push}
use Rattle.ass_script.proofs.reading.Reading.dialogue.Goals as goal

pub returns-clause-sound : goal.returns-clause-sound
returns-clause-sound c =
    let pushed = c.in_ok-push.ensures.ok in
    record {
      header = c.requires.header;
      styles = c.requires.styles;
      few_styles = c.requires.few_styles;
      format = c.requires.format;
      lines = rw pushed (All-push IsUtf8 c.args.self.now.lines c.as_bytes.result.now c.requires.lines c.as_bytes.ensures.utf8);
      few_lines = omega (arith, ap length pushed, length-append c.args.self.now.lines (c.as_bytes.result.now ∷ []));
    }
