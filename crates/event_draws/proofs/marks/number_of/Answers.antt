use Rattle.std.proofs.Common.{◌≡◌, ◌∙◌, sym, ap, subst, ℕ, ◌<◌, List, [], length}
use Rattle.std.specs.Prelude.{slice_index_or}
use Rattle.std.proofs.lemmas.List.{get_or-map}
use Rattle.bdf_font.proofs.SetLemmas.{chosen_within}
use Rattle.text_layout.specs.Fonts.{font_of_state}
use Rattle.event_draws.specs.Items.{no_state}
use Rattle.event_draws.proofs.marks.number_of.Goals as goal

pub returns-clause-within : goal.returns-clause-within
returns-clause-within c =
    let fonts = c.args.fonts.now.fonts in
    let view = c.args.view.now in
    let k = c.shown_of.result.now.state in
    let state = slice_index_or view.states k no_state in
    let place : slice_index_or c.args.numbers.now k 0 ≡ font_of_state fonts view.names state =
    ap (λ (z : List ℕ). slice_index_or z k 0) c.requires.numbers
    ∙ get_or-map (font_of_state fonts view.names) view.states k no_state 0 c.shown_of.ensures.range.state
    in
    let within : font_of_state fonts view.names state < length fonts = chosen_within (slice_index_or view.names state.font []) state.bold state.italic fonts c.requires.fonts.some in
    subst (λ (n : ℕ). n < length fonts) (sym place) within
