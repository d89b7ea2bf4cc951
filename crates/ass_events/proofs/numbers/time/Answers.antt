use Rattle.ass_events.proofs.TimeLemmas.{time_read}
use Rattle.ass_events.proofs.numbers.time.Goals as goal

pub returns : goal.returns
returns c = time_read c.args.text.now c.read_time.result c.read_time.ensures.some c.read_time.ensures.none
