-- One step of drawing.
use Rattle.std.proofs.Common.{◌≡◌, ℕ, suc, ◌+◌, ◌-◌, ◌<◌, ◌≤◌, Bool, true, false, List, ℤ, ◌-ℤ◌, Option, Some, None, refl, sym, ◌∙◌, ap, arith}
use Rattle.std.specs.Prelude.{nat_lt, if◌then◌else◌, option_and_then}
use Rattle.std.proofs.lemmas.Bool.Decides.{nat_tests}
use Rattle.sfnt_glyphs.specs.declared.drawn.Drawn.{Drawn}
use Rattle.sfnt_glyphs.specs.declared.drawn.Room.{Room}
use Rattle.sfnt_font.specs.declared.font.SfntFont.{SfntFont}
use Rattle.sfnt_glyphs.specs.declared.parts.Part.{Part}
use Rattle.sfnt_glyphs.specs.declared.stretch.Stretch.{Stretch}
use Rattle.font_bytes.specs.Bytes.{u16_at, s16_at}
use Rattle.sfnt_glyphs.specs.Metrics.{bearing_of}
use Rattle.sfnt_glyphs.specs.Glyphs.{no_points, glyph_drawn, drawn_or_blank, glyph_stretch, stretch_drawn, simple_glyph, max_parts, parts_from, part_at, behind_part, drawn_part}

-- ---- a glyph

pub drawn-deep : (font : SfntFont) (depth g : ℕ) (room : Room) → depth ≡ 0 → glyph_drawn font depth g room ≡ None
unfolding glyph_drawn
drawn-deep font depth g room none = ap (λ n. glyph_drawn font n g room) none

drawn-some : (font : SfntFont) (depth g : ℕ) (room : Room) → 0 < depth →
    glyph_drawn font depth g room ≡ (if nat_lt g font.numbers.glyphs then drawn_or_blank (glyph_drawn font (depth - 1)) font.bytes (bearing_of font g) (glyph_stretch font g) room else None)
unfolding glyph_drawn
drawn-some font depth g room some =
    let deep : depth ≡ suc (depth - 1) = omega arith in
    ap (λ n. glyph_drawn font n g room) deep

pub drawn-missing : (font : SfntFont) (depth g : ℕ) (room : Room) → 0 < depth → font.numbers.glyphs ≤ g → glyph_drawn font depth g room ≡ None
drawn-missing font depth g room some most =
    let no : nat_lt g font.numbers.glyphs ≡ false = grind (arith, nat_tests) in
    drawn-some font depth g room some
    ∙ ap (λ b. if b then drawn_or_blank (glyph_drawn font (depth - 1)) font.bytes (bearing_of font g) (glyph_stretch font g) room else None) no

drawn-there : (font : SfntFont) (depth g : ℕ) (room : Room) (stretch : Option Stretch) → 0 < depth → g < font.numbers.glyphs → stretch ≡ glyph_stretch font g →
    glyph_drawn font depth g room ≡ drawn_or_blank (glyph_drawn font (depth - 1)) font.bytes (bearing_of font g) stretch room
drawn-there font depth g room stretch some less here =
    let yes : nat_lt g font.numbers.glyphs ≡ true = grind (arith, nat_tests) in
    drawn-some font depth g room some
    ∙ (ap (λ b. if b then drawn_or_blank (glyph_drawn font (depth - 1)) font.bytes (bearing_of font g) (glyph_stretch font g) room else None) yes
    ∙ ap (λ s. drawn_or_blank (glyph_drawn font (depth - 1)) font.bytes (bearing_of font g) s room) (sym here))

pub drawn-blank : (font : SfntFont) (depth g : ℕ) (room : Room) → 0 < depth → g < font.numbers.glyphs → None ≡ glyph_stretch font g →
    glyph_drawn font depth g room ≡ Some (no_points (bearing_of font g) room)
drawn-blank font depth g room some less here = drawn-there font depth g room None some less here

pub drawn-stretch : (font : SfntFont) (depth g : ℕ) (room : Room) (stretch : Stretch) → 0 < depth → g < font.numbers.glyphs → Some stretch ≡ glyph_stretch font g →
    glyph_drawn font depth g room ≡ stretch_drawn (glyph_drawn font (depth - 1)) font.bytes (bearing_of font g) stretch room
drawn-stretch font depth g room stretch some less here = drawn-there font depth g room (Some stretch) some less here

-- ---- its parts

pub parts-spent : (draw : ℕ → Room → Option Drawn) (bytes : List ℕ) (stop n k at : ℕ) (front : Drawn) → n ≤ k → parts_from draw bytes stop (n - k) at front ≡ None
unfolding parts_from
parts-spent draw bytes stop n k at front spent =
    let left : n - k ≡ 0 = omega arith in
    ap (λ m. parts_from draw bytes stop m at front) left

parts-some : (draw : ℕ → Room → Option Drawn) (bytes : List ℕ) (stop n k at : ℕ) (front : Drawn) (part : Option Part) → k < n → part ≡ part_at bytes stop at →
    parts_from draw bytes stop (n - k) at front ≡ option_and_then (λ part. behind_part (parts_from draw bytes stop (n - (k + 1))) part (drawn_part draw part front)) part
unfolding parts_from
parts-some draw bytes stop n k at front part less here =
    let left : n - k ≡ suc (n - (k + 1)) = omega arith in
    ap (λ m. parts_from draw bytes stop m at front) left
    ∙ ap (λ (p : Option Part). option_and_then (λ part. behind_part (parts_from draw bytes stop (n - (k + 1))) part (drawn_part draw part front)) p) (sym here)

pub parts-none : (draw : ℕ → Room → Option Drawn) (bytes : List ℕ) (stop n k at : ℕ) (front : Drawn) → k < n → None ≡ part_at bytes stop at → parts_from draw bytes stop (n - k) at front ≡ None
parts-none draw bytes stop n k at front less here = parts-some draw bytes stop n k at front None less here

parts-drawn : (draw : ℕ → Room → Option Drawn) (bytes : List ℕ) (stop n k at : ℕ) (front : Drawn) (part : Part) (whole : Option Drawn) → k < n → Some part ≡ part_at bytes stop at → whole ≡ drawn_part draw part front →
    parts_from draw bytes stop (n - k) at front ≡ behind_part (parts_from draw bytes stop (n - (k + 1))) part whole
parts-drawn draw bytes stop n k at front part whole less here drawn =
    parts-some draw bytes stop n k at front (Some part) less here
    ∙ ap (λ w. behind_part (parts_from draw bytes stop (n - (k + 1))) part w) (sym drawn)

pub parts-broken : (draw : ℕ → Room → Option Drawn) (bytes : List ℕ) (stop n k at : ℕ) (front : Drawn) (part : Part) → k < n → Some part ≡ part_at bytes stop at → None ≡ drawn_part draw part front →
    parts_from draw bytes stop (n - k) at front ≡ None
parts-broken draw bytes stop n k at front part less here drawn = parts-drawn draw bytes stop n k at front part None less here drawn

pub parts-last : (draw : ℕ → Room → Option Drawn) (bytes : List ℕ) (stop n k at : ℕ) (front : Drawn) (part : Part) (whole : Drawn) → k < n → Some part ≡ part_at bytes stop at → Some whole ≡ drawn_part draw part front → part.is_followed ≡ false →
    parts_from draw bytes stop (n - k) at front ≡ Some whole
parts-last draw bytes stop n k at front part whole less here drawn last =
    parts-drawn draw bytes stop n k at front part (Some whole) less here drawn
    ∙ ap (λ b. if b then parts_from draw bytes stop (n - (k + 1)) part.behind whole else Some whole) last

pub parts-next : (draw : ℕ → Room → Option Drawn) (bytes : List ℕ) (stop n k at : ℕ) (front : Drawn) (part : Part) (whole : Drawn) → k < n → Some part ≡ part_at bytes stop at → Some whole ≡ drawn_part draw part front → part.is_followed ≡ true →
    parts_from draw bytes stop (n - k) at front ≡ parts_from draw bytes stop (n - (k + 1)) part.behind whole
parts-next draw bytes stop n k at front part whole less here drawn followed =
    parts-drawn draw bytes stop n k at front part (Some whole) less here drawn
    ∙ ap (λ b. if b then parts_from draw bytes stop (n - (k + 1)) part.behind whole else Some whole) followed

-- ---- the bytes of a glyph

stretch-whole : (draw : ℕ → Room → Option Drawn) (bytes : List ℕ) (bearing : ℤ) (stretch : Stretch) (room : Room) (is_simple : Bool) → stretch.from + 10 ≤ stretch.to → nat_lt (u16_at bytes stretch.from) 32768 ≡ is_simple →
    stretch_drawn draw bytes bearing stretch room ≡ (if is_simple
    then simple_glyph bytes stretch.to (stretch.from + 10) (u16_at bytes stretch.from) (bearing -ℤ s16_at bytes (stretch.from + 2)) room
    else parts_from draw bytes stretch.to max_parts (stretch.from + 10) (no_points (bearing -ℤ s16_at bytes (stretch.from + 2)) room))
stretch-whole draw bytes bearing stretch room is_simple whole simple =
    let no : nat_lt stretch.to (stretch.from + 10) ≡ false = grind (arith, nat_tests) in
    rw (no, simple) refl

pub stretch-simple : (draw : ℕ → Room → Option Drawn) (bytes : List ℕ) (bearing : ℤ) (stretch : Stretch) (room : Room) → stretch.from + 10 ≤ stretch.to → u16_at bytes stretch.from < 32768 →
    stretch_drawn draw bytes bearing stretch room ≡ simple_glyph bytes stretch.to (stretch.from + 10) (u16_at bytes stretch.from) (bearing -ℤ s16_at bytes (stretch.from + 2)) room
stretch-simple draw bytes bearing stretch room whole simple = stretch-whole draw bytes bearing stretch room true whole (grind (arith, nat_tests))

pub stretch-parts : (draw : ℕ → Room → Option Drawn) (bytes : List ℕ) (bearing : ℤ) (stretch : Stretch) (room : Room) → stretch.from + 10 ≤ stretch.to → 32768 ≤ u16_at bytes stretch.from →
    stretch_drawn draw bytes bearing stretch room ≡ parts_from draw bytes stretch.to max_parts (stretch.from + 10) (no_points (bearing -ℤ s16_at bytes (stretch.from + 2)) room)
stretch-parts draw bytes bearing stretch room whole many = stretch-whole draw bytes bearing stretch room false whole (grind (arith, nat_tests))
