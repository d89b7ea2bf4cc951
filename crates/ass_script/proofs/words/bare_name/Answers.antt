use Rattle.ass_script.specs.Words.{is_star_or_blank}
use Rattle.ass_script.proofs.Cuts.{boundary_behind, star_or_blank_is_ascii}
use Rattle.std.proofs.Common.{ap, ◌∙◌}
use Rattle.std.specs.List.{prefix_len}
use Rattle.ass_script.proofs.words.bare_name.Goals as goal

pub range_from-requires : goal.range_from-requires
range_from-requires c = λ _. boundary_behind is_star_or_blank star_or_blank_is_ascii c.args.text.now c.utf8.text c.stars_and_blanks.result (c.stars_and_blanks.ensures.count ∙ ap (prefix_len is_star_or_blank) c.as_bytes.ensures.value)
