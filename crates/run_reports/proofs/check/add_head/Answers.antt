use Rattle.std.proofs.Common.{append_assoc}
use Rattle.run_reports.proofs.check.add_head.Goals as goal

pub returns-clause-tokens : goal.returns-clause-tokens
returns-clause-tokens c =
    rw (c.in_ok-add_number-2.ensures.tokens, c.in_ok-add_number.ensures.tokens, c.in_ok-add_numbers.ensures.tokens, c.in_ok-key.ensures.ok)
    (simp (append_assoc, c.header-header.ensures, c.styles.ensures, c.line_count.ensures))
