use Rattle.std.proofs.Common.{◌-◌, arith}
use Rattle.std.proofs.lemmas.List.Sums.{prefix_len_passes}
use Rattle.ass_num.specs.Numerals.{is_blank}
use Rattle.ass_num.proofs.CutLemmas.{blank_ascii, past_ascii}
use Rattle.ass_num.proofs.text_blanks.past_blanks.Goals as goal

pub range_from-requires : goal.range_from-requires
range_from-requires c = λ some.
    let count = rw c.as_bytes.ensures.value at c.blanks_before.ensures.count in
    let passes = prefix_len_passes is_blank c.args.text.now (c.blanks_before.result - 1) 0 (omega arith) in
    past_ascii c.args.text.now c.blanks_before.result c.utf8.text (omega arith) some (blank_ascii _ passes)
