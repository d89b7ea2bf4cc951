use Rattle.std.proofs.Common.{◌≡◌, ◌∙◌, ap, pos, rules}
use Rattle.std.specs.Option.{option_or}
use Rattle.std.proofs.lemmas.Int.{to_z-of_z}
use mir.Syntax.{w64}
use mir.Val.{SFits}
use Rattle.bdf_font.specs.Fonts.{place_from}
use Rattle.bdf_font.specs.Places.{first_at}
use Rattle.bdf_font.proofs.bitmap_font.BitmapFont.place_of.Goals as goal

pub returns : goal.returns
returns c =
    let fits : SFits w64 c.from-code.result = search rules in
    let inside = c.self.inside in
    let code : c.from-code.result ≡ pos c.args.c = c.from-code.ensures ∙ ap pos c.from.ensures in
    let kept = simp to_z-of_z at c.place_or.ensures in
    let found : c.place_or.result ≡ option_or (first_at (pos c.args.c) inside.places.items) inside.default_place = rw (code, c.as_slice.ensures.value) at kept in
    rw (← c.self.view_is)
    (found ∙ ap (λ p. option_or p inside.default_place) (c.self.invariant.0.known (pos c.args.c))
    ∙ ap (option_or (place_from 0 (pos c.args.c) inside.glyphs)) c.self.invariant.1)
