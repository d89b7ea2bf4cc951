use Rattle.std.proofs.Common.{◌≡◌, ◌∙◌, ap, pos, rules}
use Rattle.std.proofs.lemmas.Int.{to_z-of_z}
use mir.Syntax.{w64}
use mir.Val.{SFits}
use Rattle.bdf_font.specs.Places.{first_at}
use Rattle.bdf_font.proofs.bitmap_font.BitmapFont.code_place.Goals as goal

pub returns : goal.returns
returns c =
    let fits : SFits w64 c.from-2.result = search rules in
    let inside = c.self.inside in
    let code : c.from-2.result ≡ pos c.args.c = c.from-2.ensures ∙ ap pos c.from.ensures in
    let kept = simp to_z-of_z at c.found_place.ensures in
    let found : c.found_place.result ≡ first_at (pos c.args.c) inside.places.items = rw (code, c.as_slice.ensures.value) at kept in
    rw (← c.self.view_is) (found ∙ c.self.invariant.0.known (pos c.args.c))
