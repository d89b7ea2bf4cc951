use Rattle.std.proofs.Common.{◌≡◌, ◌∷◌, ◌++◌, drop, flat_map, codes}
use Rattle.json.specs.Token.{begin_array, key}
use Rattle.run_reports.specs.CheckObjects.{font_object}
use Rattle.run_reports.proofs.check.add_fonts.Given as goal

abbrev pub invariant-loop-font : goal.invariant-loop-font
invariant-loop-font l = record {
  before : l.line.before ≡ l.fn.line.before;
  tokens : l.line.tokens ++ flat_map font_object (drop l.font-index l.fonts) ≡ l.fn.line.tokens ++ key (codes "fonts") ∷ begin_array ∷ flat_map font_object l.fonts;
}
