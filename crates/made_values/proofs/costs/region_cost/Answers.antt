use Rattle.std.proofs.Common.{◌≡◌, List, length, sum_by, flat_map, arith, ap, ◌∙◌}
use Rattle.std.proofs.lemmas.List.Concat.{length-flat_map}
use Rattle.ass_num.specs.declared.region.Run.{Run}
use Rattle.made_values.proofs.costs.region_cost.Goals as goal

pub returns : goal.returns
returns c =
    let rows : List (List Run) = c.args.region.now.rows in
    let all : length c.all_items.result.now ≡ sum_by (λ (runs : List Run). length runs) rows =
    ap (λ (z : List Run). length z) c.all_items.ensures ∙ ap (λ (z : List (List Run)). length (flat_map (λ (list : List Run). list) z)) c.rows-rows.ensures.rows
    ∙ length-flat_map (λ (list : List Run). list) rows in
    let count : c.len.result ≡ length rows = c.len.ensures ∙ ap (λ (z : List (List Run)). length z) c.rows-rows.ensures.rows in
    omega (arith, c.held.ensures, c.saturating_add.ensures, c.saturating_add-contents.ensures, c.saturating_mul.ensures, c.saturating_mul-2.ensures)
