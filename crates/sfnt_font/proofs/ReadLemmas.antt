-- The faces of a file, one after another.
use Rattle.std.proofs.Common.{◌≡◌, ℕ, zero, suc, ◌+◌, ◌-◌, ◌*◌, ◌<◌, ◌≤◌, Bool, true, false, cond, List, [], ◌∷◌, ◌++◌, length, All, Option, Some, None, Result, Ok, Err, refl, ap, sym, ◌∙◌, subst, arith}
use Rattle.std.specs.Prelude.{◌==◌, nat_lt, IfOk}
use Rattle.std.proofs.lemmas.Bool.Decides.{nat_tests}
use Rattle.std.proofs.lemmas.List.{append_assoc, append-nil, length-append}
use Rattle.std.proofs.lemmas.List.Elements.{All-push}
use Rattle.sfnt_font.specs.declared.cause.SfntRefusal.{SfntRefusal}
use Rattle.sfnt_font.specs.declared.font.SfntFont.{SfntFont}
use Rattle.sfnt_font.specs.declared.cause.SfntRefusal.TheVariants.{BadFont, OutOfMemory, TooLarge}
use Rattle.sfnt_font.specs.declared.maps.CharacterMap.{CharacterMap}
use Rattle.sfnt_font.specs.Answers.{Answers, WantsBehind, then_read}
use Rattle.sfnt_font.specs.Directory.{directory_at, tables_of}
use Rattle.sfnt_font.specs.Maps.{segments_of}
use Rattle.sfnt_font.specs.Names.{font_names}
use Rattle.sfnt_font.specs.Numbers.{sfnt_numbers}
use Rattle.font_bytes.specs.Bytes.{u32_at}
use Rattle.sfnt_font.specs.Faces.{bad_face, collection_count, collection_kind, face_count, is_compressed, max_faces, unless_misplaced, face_place}
use Rattle.sfnt_font.specs.Fonts.{directory_map, face_map, font_of, sfnt_of, sfnts_from, sfnts_of}
use Rattle.sfnt_font.specs.Ranges.{IsSfntFont}
use Rattle.sfnt_font.proofs.Refusals.{map_wants_no_memory}

-- ---- how many faces there are

abbrev IsCount : ℕ → Type 0
IsCount n = (0 < n) × (n ≤ max_faces)

unless_refused : (b : Bool) (refusal : SfntRefusal) (r : Result ℕ SfntRefusal) → (b ≡ false → IfOk r IsCount) → IfOk (cond b (Err refusal) r) IsCount
unless_refused true refusal r h = tt
unless_refused false refusal r h = h refl

whole_count : (n : ℕ) (o : Option ℕ) → IsCount n → IfOk (unless_misplaced n o) IsCount
whole_count n None is = is
whole_count n (Some at) is = tt

collection_counted : (bytes : List ℕ) (n : ℕ) → IfOk (collection_count bytes n) IsCount
collection_counted bytes n =
    unless_refused (nat_lt max_faces n) _ _ (λ few.
    unless_refused (n == 0) _ _ (λ some.
    unless_refused (nat_lt (length bytes) (12 + 4 * n)) _ _ (λ _.
    let least : 0 < n = grind (arith, nat_tests, some) in
    let most : n ≤ max_faces = grind (arith, nat_tests, few) in
    whole_count n (bad_face bytes 12 n) (least, most))))

pub faces_counted : (bytes : List ℕ) → IfOk (face_count bytes) IsCount
faces_counted bytes =
    unless_refused (is_compressed (u32_at bytes 0)) _ _ (λ _.
    unless_refused (nat_lt (length bytes) 12) _ _ (λ _.
    either (u32_at bytes 0 == collection_kind)))
  where
    either : (b : Bool) → IfOk (cond b (collection_count bytes (u32_at bytes 8)) (Ok 1)) IsCount
    either true = collection_counted bytes (u32_at bytes 8)
    either false = (omega arith, omega arith)

-- ---- the faces that are read so far

-- the fonts so far, and those that are to come
abbrev pub with_rest : List SfntFont → Result (List SfntFont) SfntRefusal → Result (List SfntFont) SfntRefusal
with_rest fonts reading = then_read reading (λ rest. Ok (fonts ++ rest))

pub record AreRead (bytes : List ℕ) (count face : ℕ) (fonts : List SfntFont) : Type 0 where
  pub joined : with_rest fonts (sfnts_from bytes face (count - face)) ≡ sfnts_from bytes 0 count
  pub sound : All IsSfntFont fonts
  pub counted : length fonts ≡ face

none_before : (reading : Result (List SfntFont) SfntRefusal) → with_rest [] reading ≡ reading
none_before (Ok fonts) = refl
none_before (Err refusal) = refl

one_more : (fonts : List SfntFont) (font : SfntFont) (reading : Result (List SfntFont) SfntRefusal) →
    with_rest fonts (then_read reading (λ rest. Ok (font ∷ rest))) ≡ with_rest (fonts ++ font ∷ []) reading
one_more fonts font (Ok rest) = ap Ok (sym (append_assoc fonts (font ∷ []) rest))
one_more fonts font (Err refusal) = refl

-- the reading of a face, and of those behind it
pub face_step : (bytes : List ℕ) (count face : ℕ) (fonts : List SfntFont) → face < count →
    with_rest fonts (sfnts_from bytes face (count - face))
    ≡ with_rest fonts (then_read (sfnt_of bytes face) (λ font. then_read (sfnts_from bytes (face + 1) (count - (face + 1))) (λ rest. Ok (font ∷ rest))))
face_step bytes count face fonts less =
    let left : count - face ≡ suc (count - (face + 1)) = omega arith in
    ap (λ n. with_rest fonts (sfnts_from bytes face n)) left

pub face_read : (bytes : List ℕ) (count face : ℕ) (fonts : List SfntFont) (font : SfntFont) → face < count → sfnt_of bytes face ≡ Ok font →
    with_rest (fonts ++ font ∷ []) (sfnts_from bytes (face + 1) (count - (face + 1))) ≡ with_rest fonts (sfnts_from bytes face (count - face))
face_read bytes count face fonts font less is =
    let behind = sfnts_from bytes (face + 1) (count - (face + 1)) in
    sym (face_step bytes count face fonts less
    ∙ (ap (λ r. with_rest fonts (then_read r (λ font. then_read behind (λ rest. Ok (font ∷ rest))))) is ∙ one_more fonts font behind))

pub face_refused : (bytes : List ℕ) (count face : ℕ) (fonts : List SfntFont) (refusal : SfntRefusal) → face < count → sfnt_of bytes face ≡ Err refusal →
    with_rest fonts (sfnts_from bytes face (count - face)) ≡ Err refusal
face_refused bytes count face fonts refusal less is =
    let behind = sfnts_from bytes (face + 1) (count - (face + 1)) in
    face_step bytes count face fonts less
    ∙ ap (λ r. with_rest fonts (then_read r (λ font. then_read behind (λ rest. Ok (font ∷ rest))))) is

pub all_read : (bytes : List ℕ) (count face : ℕ) (fonts : List SfntFont) → count ≤ face → with_rest fonts (sfnts_from bytes face (count - face)) ≡ Ok fonts
all_read bytes count face fonts behind =
    let none : count - face ≡ 0 = omega (arith, behind) in
    ap (λ n. with_rest fonts (sfnts_from bytes face n)) none ∙ ap Ok (append-nil fonts)

-- of a file with so many faces
pub file_read : (bytes : List ℕ) (count : ℕ) → face_count bytes ≡ Ok count → sfnts_of bytes ≡ sfnts_from bytes 0 count
file_read bytes count counted = ap (λ r. then_read r (sfnts_from bytes 0)) counted

pub none_read : (bytes : List ℕ) (count : ℕ) → with_rest [] (sfnts_from bytes 0 (count - 0)) ≡ sfnts_from bytes 0 count
none_read bytes count = none_before (sfnts_from bytes 0 (count - 0)) ∙ ap (sfnts_from bytes 0) (omega arith)

-- what the calls that read the faces answer
pub read_next : (bytes : List ℕ) (count face : ℕ) (fonts : List SfntFont) (font : SfntFont) → AreRead bytes count face fonts → face < count → sfnt_of bytes face ≡ Ok font → IsSfntFont font →
    AreRead bytes count (face + 1) (fonts ++ font ∷ [])
read_next bytes count face fonts font h less is sound = record {
  joined = face_read bytes count face fonts font less is ∙ h.joined;
  sound = All-push IsSfntFont fonts font h.sound sound;
  counted = length-append fonts (font ∷ []) ∙ ap (λ n. n + 1) h.counted;
}

pub refused_later : (bytes : List ℕ) (count face : ℕ) (fonts : List SfntFont) (refusal : SfntRefusal) → face_count bytes ≡ Ok count → AreRead bytes count face fonts → face < count →
    Answers (sfnt_of bytes face) (Err refusal) → Answers (sfnts_of bytes) (Err refusal)
refused_later bytes count face fonts (BadFont at cause) counted h less e =
    sym (file_read bytes count counted ∙ (sym h.joined ∙ face_refused bytes count face fonts (BadFont at cause) less (sym e)))
refused_later bytes count face fonts (TooLarge most) counted h less e =
    sym (file_read bytes count counted ∙ (sym h.joined ∙ face_refused bytes count face fonts (TooLarge most) less (sym e)))
refused_later bytes count face fonts OutOfMemory counted h less e = tt

pub all_faces : (bytes : List ℕ) (count face : ℕ) (fonts : List SfntFont) → face_count bytes ≡ Ok count → AreRead bytes count face fonts → count ≤ face → Ok fonts ≡ sfnts_of bytes
all_faces bytes count face fonts counted h end = sym (file_read bytes count counted ∙ (sym h.joined ∙ all_read bytes count face fonts end))

-- ---- a first face without a map

then_refused : {T U V : Type 0} (r : Result T SfntRefusal) (f : T → Result U SfntRefusal) (g : T → Result V SfntRefusal) (refusal : SfntRefusal) →
    ((x : T) → f x ≡ Err refusal → g x ≡ Err refusal) → then_read r f ≡ Err refusal → then_read r g ≡ Err refusal
then_refused (Ok x) f g refusal h e = h x e
then_refused {U = U} {V = V} (Err other) f g refusal h e =
    let same : other ≡ refusal = cc in
    ap Err same

map_refused : (bytes : List ℕ) (face : ℕ) (refusal : SfntRefusal) → face_map bytes face ≡ Err refusal → sfnt_of bytes face ≡ Err refusal
map_refused bytes face refusal =
    then_refused (face_count bytes) _ _ refusal (λ faces.
    then_refused (directory_at bytes (face_place bytes face)) (directory_map bytes) (font_of bytes) refusal (λ directory.
    then_refused (tables_of bytes directory) _ _ refusal (λ tables.
    then_refused (sfnt_numbers bytes directory tables) _ _ refusal (λ numbers e.
    ap (λ r. then_read r (λ m. then_read (segments_of bytes m) (λ segments.
    Ok (record { bytes = bytes; tables = tables; numbers = numbers; character_map = m; segments = segments; names = font_names bytes directory })))) e))))

-- a call that answers so answers the reading
answers_are : {T : Type 0} (reading result : Result T SfntRefusal) → result ≡ reading → Answers reading result
answers_are reading (Ok x) e = e
answers_are reading (Err (BadFont at cause)) e = e
answers_are reading (Err (TooLarge most)) e = e
answers_are reading (Err OutOfMemory) e = tt

first_refused : (bytes : List ℕ) (count : ℕ) (refusal : SfntRefusal) → IfOk (face_count bytes) IsCount → face_count bytes ≡ Ok count → sfnt_of bytes 0 ≡ Err refusal → sfnts_of bytes ≡ Err refusal
first_refused bytes count refusal is counted e =
    let some : 0 < count = (subst (λ (r : Result ℕ SfntRefusal). IfOk r IsCount) counted is).0 in
    let more : count ≡ suc (count - 1) = omega (arith, some) in
    file_read bytes count counted ∙ (ap (sfnts_from bytes 0) more ∙ ap (λ r. then_read r (λ font. then_read (sfnts_from bytes 1 (count - 1)) (λ fonts. Ok (font ∷ fonts)))) e)

pub refused_first : (bytes : List ℕ) (count : ℕ) (refusal : SfntRefusal) (result : Result (List SfntFont) SfntRefusal) → face_count bytes ≡ Ok count → face_map bytes 0 ≡ Err refusal →
    result ≡ Err refusal → Answers (sfnts_of bytes) result
refused_first bytes count refusal result counted e is =
    answers_are (sfnts_of bytes) result (is ∙ sym (first_refused bytes count refusal (faces_counted bytes) counted (map_refused bytes 0 refusal e)))

pub refused_without_memory : (bytes : List ℕ) (refusal : SfntRefusal) → face_map bytes 0 ≡ Err refusal → WantsBehind {U = List SfntFont} (face_map bytes 0) (Err refusal)
refused_without_memory bytes refusal e =
    subst (λ (r : Result CharacterMap SfntRefusal). WantsBehind {U = List SfntFont} r (Err refusal)) (sym e) (λ memory.
    let out : refusal ≡ OutOfMemory = cc in
    map_wants_no_memory bytes 0 (e ∙ ap Err out))

-- ---- how many fonts a file gives

pub sfnts_counted : (bytes : List ℕ) (face n : ℕ) → IfOk (sfnts_from bytes face n) (λ fonts. length fonts ≡ n)
sfnts_counted bytes face zero = refl
sfnts_counted bytes face (suc n) = first (sfnt_of bytes face) (sfnts_counted bytes (face + 1) n)
  where
    more : (font : SfntFont) (r : Result (List SfntFont) SfntRefusal) → IfOk r (λ fonts. length fonts ≡ n) → IfOk (then_read r (λ fonts. Ok (font ∷ fonts))) (λ fonts. length fonts ≡ suc n)
    more font (Ok fonts) counted = ap suc counted
    more font (Err refusal) counted = tt

    first : (r : Result SfntFont SfntRefusal) → IfOk (sfnts_from bytes (face + 1) n) (λ fonts. length fonts ≡ n) → IfOk (then_read r (λ font. then_read (sfnts_from bytes (face + 1) n) (λ fonts. Ok (font ∷ fonts)))) (λ fonts. length fonts ≡ suc n)
    first (Ok font) counted = more font (sfnts_from bytes (face + 1) n) counted
    first (Err refusal) counted = tt

counted_by : (bytes : List ℕ) (r : Result ℕ SfntRefusal) → IfOk r IsCount → IfOk (then_read r (sfnts_from bytes 0)) (λ fonts. IsCount (length fonts))
counted_by bytes (Err refusal) is = tt
counted_by bytes (Ok n) is = held (sfnts_from bytes 0 n) (sfnts_counted bytes 0 n)
  where
    held : (r : Result (List SfntFont) SfntRefusal) → IfOk r (λ fonts. length fonts ≡ n) → IfOk r (λ fonts. IsCount (length fonts))
    held (Ok fonts) counted = subst IsCount (sym counted) is
    held (Err refusal) counted = tt

pub fonts_counted : (bytes : List ℕ) → IfOk (sfnts_of bytes) (λ fonts. (0 < length fonts) × (length fonts ≤ max_faces))
fonts_counted bytes = counted_by bytes (face_count bytes) (faces_counted bytes)
