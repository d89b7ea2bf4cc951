use Rattle.std.proofs.Common.{◌≤◌, ◌∙◌, ℕ, List, length, ap, sym, subst, arith}
use Rattle.std.specs.Prelude.{IfOk}
use Rattle.ass_num.specs.Limits.{max_file_bytes}
use Rattle.cff_font.specs.Fonts.{cff_of}
use Rattle.cff_font.specs.Ranges.{IsCffFont, IsFileSpan}
use Rattle.sfnt_font.specs.declared.directory.Table.{Table}
use Rattle.sfnt_font.specs.Directory.{IsTableIn, outlines_read, table_span}
use Rattle.sfnt_font.proofs.tables.post_script_outlines.Goals as goal

table_in : (bytes : List ℕ) (table : Table) → IsTableIn bytes table → length bytes ≤ max_file_bytes → IsFileSpan (table_span table)
table_in bytes table within short = record { ascends = omega arith; within = omega (arith, within, short) }

pub returns-in-Ok-clause-value : goal.returns-in-Ok-clause-value
returns-in-Ok-clause-value c = ap outlines_read (sym c.in-Ok.is ∙ c.read_cff.ensures.value ∙ ap (cff_of c.args.bytes.now) c.span.ensures)

pub returns-in-Ok-clause-within : goal.returns-in-Ok-clause-within
returns-in-Ok-clause-within c = subst (λ r. IfOk r IsCffFont) c.in-Ok.is c.read_cff.ensures.within

pub returns-in-Err-clause-value : goal.returns-in-Err-clause-value
returns-in-Err-clause-value c = ap outlines_read (sym c.in-Err.is ∙ c.read_cff.ensures.value ∙ ap (cff_of c.args.bytes.now) c.span.ensures)
