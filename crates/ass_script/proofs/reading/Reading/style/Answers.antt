use Rattle.std.proofs.Common.{arith, ◌∷◌, [], length, length-append, ap}
use Rattle.std.proofs.lemmas.List.Elements.{All-push}
use Rattle.ass_script.specs.Ranges.{IsStyle}
use Rattle.ass_script.proofs.reading.Reading.style.Goals as goal

pub returns-clause-sound : goal.returns-clause-sound
returns-clause-sound c =
    let pushed = c.in_ok-push.ensures.ok in
    record {
      header = c.requires.header;
      styles = rw pushed (All-push IsStyle c.args.self.now.styles c.in_ok-style.style c.requires.styles c.in_ok-style.ensures.range);
      few_styles = omega (arith, ap length pushed, length-append c.args.self.now.styles (c.in_ok-style.style ∷ []));
      format = c.requires.format;
      lines = c.requires.lines;
      few_lines = c.requires.few_lines;
    }
