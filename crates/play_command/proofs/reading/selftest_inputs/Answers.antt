use Rattle.play_command.proofs.ReadLemmas.{font_inputs, font_read, generated_short}
use Rattle.play_command.proofs.reading.selftest_inputs.Goals as goal

pub returns-in-Ok-clause-read : goal.returns-in-Ok-clause-read
returns-in-Ok-clause-read c = font_read c.args.seed c.args.events c.in-Ok.script c.with_font.result c.in-Ok.ensures.read c.with_font.ensures

pub returns-in-Ok-clause-inputs : goal.returns-in-Ok-clause-inputs
returns-in-Ok-clause-inputs c =
    font_inputs c.in-Ok.script c.with_font.result c.in-Ok.ensures.script (generated_short c.lines_fit_their_text.ensures c.args.seed c.args.events c.in-Ok.script c.in-Ok.ensures.read) c.with_font.ensures
