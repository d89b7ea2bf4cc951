use Rattle.std.proofs.Common.{◌∙◌}
use Rattle.sfnt_font.proofs.CodeLemmas.{last_counts, last_counts-most}
use Rattle.sfnt_font.proofs.codes.code_count.Goals as goal

pub returns-in-Some-clause-value : goal.returns-in-Some-clause-value
returns-in-Some-clause-value c = c.codes_to.ensures ∙ last_counts c.args.segments.now c.in-Some.segment.now c.requires c.in-Some.ensures.value

pub returns-in-Some-clause-most : goal.returns-in-Some-clause-most
returns-in-Some-clause-most c = rw c.codes_to.ensures (last_counts-most c.args.segments.now c.in-Some.segment.now c.requires c.in-Some.ensures.value)
