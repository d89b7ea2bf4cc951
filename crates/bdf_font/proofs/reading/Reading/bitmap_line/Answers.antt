use Rattle.std.proofs.Common.{arith, length, length-append, [], ◌∷◌, ap}
use Rattle.std.proofs.lemmas.List.Elements.{All-push}
use Rattle.bdf_font.specs.Ranges.{IsGlyph}
use Rattle.bdf_font.proofs.reading.Reading.bitmap_line.Goals as goal

pub returns-clause-sound : goal.returns-clause-sound
returns-clause-sound c =
    let pushed = c.in_ok-push.ensures.ok in
    record {
      header = c.requires.sound.header;
      draft = rw c.replace-draft.ensures.after c.new.ensures.sound;
      glyphs = rw pushed (All-push IsGlyph c.args.self.now.glyphs c.made.result c.requires.sound.glyphs c.made.ensures.sound);
      place = omega (arith, ap length pushed, length-append c.args.self.now.glyphs (c.made.result ∷ []), c.requires.place.0);
    }
