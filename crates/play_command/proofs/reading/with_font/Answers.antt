use Rattle.play_command.proofs.ReadLemmas.{font_added}
use Rattle.play_command.proofs.reading.with_font.Goals as goal

pub returns-in-Ok : goal.returns-in-Ok
returns-in-Ok c = font_added c.args.script c.in-Ok.fonts c.in-Ok.ensures.font c.only_font.ensures.few
