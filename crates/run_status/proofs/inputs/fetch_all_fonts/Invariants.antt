use Rattle.std.proofs.Common.{◌≡◌, All}
use Rattle.bdf_font.specs.Ranges.{IsFont}
use Rattle.ass_io.specs.Fetches.{fetch_change}
use Rattle.run_status.proofs.FetchLemmas.{FetchedSoFar}
use Rattle.run_status.proofs.FontLemmas.{ReadSoFar}
use Rattle.run_status.proofs.inputs.fetch_all_fonts.Given as goal

abbrev pub invariant-loop-index : goal.invariant-loop-index
invariant-loop-index g l = record {
  told : g.S.Shelf.told l.shelf ≡ g.S.Shelf.told l.initial.shelf;
  faults : g.S.Shelf.faults l.shelf ≡ g.S.Shelf.faults l.initial.shelf;
  found : ReadSoFar (g.S.Shelf.told l.initial.shelf) l.names l.index l.all.items;
  each : All IsFont l.all.items;
  fetched : FetchedSoFar l.names l.index (fetch_change (g.S.Shelf.log l.initial.shelf) (g.S.Shelf.log l.shelf)) l.all.items;
}
