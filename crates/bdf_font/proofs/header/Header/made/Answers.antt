use Rattle.std.proofs.Common.{FitsSigned, to_z-of_z, rules, w32, pos, ◌≤ℤ◌, arith}
use Rattle.bdf_font.specs.Grammar.{box_depth, box_top}
use Rattle.bdf_font.specs.Limits.{max_ascent, max_offset}
use Rattle.bdf_font.proofs.BitmapFonts.{bitmaps_sound, depth_most, height_within, ok_sound, top_most}
use Rattle.bdf_font.proofs.header.Header.made.Goals as goal

pub returns-clause-font : goal.returns-clause-font
returns-clause-font c =
    let header = c.args.self in
    let fa : FitsSigned w32 c.height-ascent.result = search rules in
    let fd : FitsSigned w32 c.height-descent.result = search rules in
    let ft : FitsSigned w32 c.box_top-top.result = search rules in
    let fb : FitsSigned w32 c.box_depth-depth.result = search rules in
    let up : (pos 0 ≤ℤ c.height-ascent.result) × (c.height-ascent.result ≤ℤ pos max_ascent) =
    rw (c.height-ascent.ensures, to_z-of_z ft, c.box_top-top.ensures) (height_within header.ascent (box_top header.bounding_box) max_ascent c.requires.sound.ascent (omega arith) (top_most header.bounding_box c.requires.sound.bounding_box)) in
    let down : (pos 0 ≤ℤ c.height-descent.result) × (c.height-descent.result ≤ℤ pos max_offset) =
    rw (c.height-descent.ensures, to_z-of_z fb, c.box_depth-depth.ensures) (height_within header.descent (box_depth header.bounding_box) max_offset c.requires.sound.descent (omega arith) (depth_most header.bounding_box c.requires.sound.bounding_box)) in
    ok_sound c.new-2.result _ (rw (to_z-of_z fa, to_z-of_z fd) at c.new-2.ensures) (bitmaps_sound _ _ _ _ _ up.0 up.1 down.0 down.1 c.requires.glyphs c.requires.few)
