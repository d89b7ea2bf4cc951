use Rattle.std.proofs.Common.{◌≡◌, List, ◌++◌, length, ap, ◌∙◌, arith}
use Rattle.std.specs.Arc.{arc_value}
use Rattle.bdf_font.specs.Fonts.{FontValue}
use Rattle.bdf_font.specs.declared.font.FontSet.{FontSet}
use Rattle.player.specs.Players.{PlayerView}
use Rattle.player.proofs.PlayerLemmas.{more_font_set}
use Rattle.player.proofs.player.Player.add_fonts.Goals as goal

pub open-requires-clause-fonts : goal.open-requires-clause-fonts
open-requires-clause-fonts c =
    let fonts : List FontValue = (arc_value c.self.inside.fonts).fonts in
    let seen : fonts ≡ c.args.self.now.fonts = ap (λ (p : PlayerView). p.fonts) c.self.view_is in
    let made : (arc_value c.in_ok-shared.shared).fonts ≡ fonts ++ c.args.more =
    ap (λ (s : FontSet). s.fonts) (c.in_ok-shared.ensures ∙ c.in_ok-fonts.ensures.ok) ∙ (c.in_ok-all.ensures ∙ ap (λ (s : FontSet). s.fonts ++ c.args.more) c.deref.ensures) in
    more_font_set fonts (arc_value c.in_ok-shared.shared).fonts c.args.more c.self.invariant.font_set c.requires.each (omega (arith, c.requires.few, ap length seen)) made
