-- The fonts that faces are, one after another.
use Rattle.std.proofs.Common.{◌≡◌, List, [], ◌∷◌, ◌++◌, map, All, refl, sym, ◌∙◌}
use Rattle.std.proofs.lemmas.List.{append_assoc, append-nil}
use Rattle.std.proofs.lemmas.List.Elements.{All-head, All-tail}
use Rattle.sfnt_font.specs.declared.font.SfntFont.{SfntFont}
use Rattle.sfnt_font.specs.Ranges.{IsSfntFont}
use Rattle.bdf_font.specs.Fonts.{FontValue}
use Rattle.bdf_font.specs.Outlines.{outline_font}

-- Of these faces the last ones are still to come, and the first ones have become these fonts.
pub record AreMade (faces : List SfntFont) (fonts : List FontValue) (left : List SfntFont) : Type 0 where
  pub all : fonts ++ map outline_font left ≡ map outline_font faces
  pub sound : All IsSfntFont left

pub made_first : (faces : List SfntFont) → All IsSfntFont faces → AreMade faces [] faces
made_first faces sound = record { all = refl; sound = sound }

pub made_next : (faces : List SfntFont) (fonts : List FontValue) (face : SfntFont) (left : List SfntFont) → AreMade faces fonts (face ∷ left) → AreMade faces (fonts ++ outline_font face ∷ []) left
made_next faces fonts face left h = record {
  all = append_assoc fonts (outline_font face ∷ []) (map outline_font left) ∙ h.all;
  sound = All-tail IsSfntFont face left h.sound;
}

pub made_sound : (faces : List SfntFont) (fonts : List FontValue) (face : SfntFont) (left : List SfntFont) → AreMade faces fonts (face ∷ left) → IsSfntFont face
made_sound faces fonts face left h = All-head IsSfntFont face left h.sound

pub made_all : (faces : List SfntFont) (fonts : List FontValue) → AreMade faces fonts [] → fonts ≡ map outline_font faces
made_all faces fonts h = sym (append-nil fonts) ∙ h.all
