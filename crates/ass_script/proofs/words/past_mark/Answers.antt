use Rattle.std.proofs.Common.{rules}
use Rattle.ass_script.proofs.Cuts.{boundary_behind_mark}
use Rattle.ass_script.proofs.words.past_mark.Goals as goal

pub range_from-requires : goal.range_from-requires
range_from-requires c = λ _. boundary_behind_mark c.args.text.now c.utf8.text (search rules)
