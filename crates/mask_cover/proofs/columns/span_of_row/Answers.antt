use Rattle.std.proofs.Common.{length, get_or, w32, ◌-◌, rules}
use Rattle.std.proofs.lemmas.Int.{to_z-of_z}
use Rattle.std.specs.Int.RustNames.{FitsSigned}
use Rattle.mask_cover.proofs.SpanLemmas.{span_row, none}
use Rattle.mask_cover.proofs.columns.span_of_row.Goals as goal

pub returns : goal.returns
returns c =
    let runs = c.args.runs.now in
    let from : FitsSigned w32 (get_or runs 0 none).from = search rules in
    let to : FitsSigned w32 (get_or runs (length runs - 1) none).to = search rules in
    rw (to_z-of_z w32 (get_or runs 0 none).from from, to_z-of_z w32 (get_or runs (length runs - 1) none).to to) (span_row runs none c.requires.ascends c.requires.some)
