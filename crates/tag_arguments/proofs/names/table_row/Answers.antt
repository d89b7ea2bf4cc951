use Rattle.tag_arguments.proofs.NameLemmas.{rows_enough}
use Rattle.tag_arguments.proofs.names.table_row.Goals as goal

pub returns-in-len1-up : goal.returns-in-len1-up
returns-in-len1-up c =
    rows_enough c.args.text.now c.as_bytes.result.now _ _ c.as_bytes.ensures.value c.in-len1-up.len_at_least c.rows_of.ensures c.longest_row.ensures
