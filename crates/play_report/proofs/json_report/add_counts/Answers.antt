use Rattle.std.proofs.Common.{append_assoc}
use Rattle.play_report.proofs.json_report.add_counts.Goals as goal

pub returns-clause-tokens : goal.returns-clause-tokens
returns-clause-tokens c = rw (c.in_ok-add_number-3.ensures.tokens, c.in_ok-add_number-2.ensures.tokens, c.in_ok-add_number.ensures.tokens) (simp append_assoc)
