use Rattle.std.proofs.Common.{append_assoc}
use Rattle.play_report.proofs.json_report.add_cache.Goals as goal

pub returns-clause-tokens : goal.returns-clause-tokens
returns-clause-tokens c =
    rw (c.in_ok-end_object.ensures.ok, c.in_ok-add_losses.ensures.tokens, c.in_ok-add_entries.ensures.tokens, c.in_ok-begin_object.ensures.ok, c.in_ok-key.ensures.ok, c.cache_name.ensures)
    (simp append_assoc)
