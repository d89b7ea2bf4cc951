use Rattle.std.proofs.Common.{sym, subst}
use Rattle.ass_script.specs.Ranges.{IsScript}
use Rattle.ass_script.specs.Scripts.{ScriptValue}
use Rattle.ass_script.proofs.reading.Reading.made.Goals as goal

pub returns-clause-script : goal.returns-clause-script
returns-clause-script c =
    subst (λ (s : ScriptValue). IsScript s) (sym c.in_ok-script.ensures)
    (record {
      header = c.made-header.ensures.range;
      styles = c.requires.styles;
      few_styles = c.requires.few_styles;
      format = c.in_ok-format.ensures.text;
      lines = c.requires.lines;
      few_lines = c.requires.few_lines;
    })
