-- Segments read one after another.
use Rattle.std.proofs.Common.{◌≡◌, ℕ, suc, ◌+◌, ◌-◌, ◌<◌, List, [], ◌∷◌, ◌++◌, Result, Ok, Err, refl, ap, ◌∙◌, append_assoc, arith}
use Rattle.sfnt_font.specs.declared.cause.SfntRefusal.{SfntRefusal}
use Rattle.sfnt_font.specs.declared.maps.CharacterMap.{CharacterMap}
use Rattle.sfnt_font.specs.declared.segments.Segment.{Segment}
use Rattle.sfnt_font.specs.Maps.{segment_at, segments_from, behind_segment, codes_to}

-- a list with others in front of it
abbrev pub behind : List Segment → Result (List Segment) SfntRefusal → Result (List Segment) SfntRefusal
behind front (Ok rest) = Ok (front ++ rest)
behind front (Err refusal) = Err refusal

behind-one : (front : List Segment) (segment : Segment) (rest : Result (List Segment) SfntRefusal) → behind (front ++ segment ∷ []) rest ≡ behind front (behind_segment segment rest)
behind-one front segment (Ok rest) = ap Ok (append_assoc front (segment ∷ []) rest)
behind-one front segment (Err refusal) = refl

pub segments_from-next : (bytes : List ℕ) (m : CharacterMap) (front : List Segment) (n k low before : ℕ) (segment : Segment) → k < n → Ok segment ≡ segment_at bytes m k low before →
    behind (front ++ segment ∷ []) (segments_from bytes m (k + 1) (n - (k + 1)) (segment.last + 1) (codes_to segment)) ≡ behind front (segments_from bytes m k (n - k) low before)
segments_from-next bytes m front n k low before segment less here =
    let left : n - k ≡ suc (n - (k + 1)) = omega arith in
    behind-one front segment (segments_from bytes m (k + 1) (n - (k + 1)) (segment.last + 1) (codes_to segment)) ∙ rw (left, ← here) refl

pub segments_from-fault : (bytes : List ℕ) (m : CharacterMap) (front : List Segment) (n k low before : ℕ) (refusal : SfntRefusal) → k < n → Err refusal ≡ segment_at bytes m k low before →
    behind front (segments_from bytes m k (n - k) low before) ≡ Err refusal
segments_from-fault bytes m front n k low before refusal less here =
    let left : n - k ≡ suc (n - (k + 1)) = omega arith in
    rw (left, ← here) refl
