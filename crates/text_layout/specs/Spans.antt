-- Public: paragraphs, and how they are broken into lines. A span has the items from its first place up to its last, which isn't in it.
use Rattle.std.specs.Prelude.{◌≡◌, ◌≢◌, ℕ, ◌+◌, ◌<◌, ◌≤◌, Bool, true, false, if◌then◌else◌, List, [], ◌∷◌, ◌++◌, map, length, slice_range, ℤ}
use Rattle.line_layout.specs.Breaks.{AreFilled, IsBest}
use Rattle.text_layout.specs.declared.kinds.BreakRole.{BreakRole}
use Rattle.text_layout.specs.declared.kinds.BreakRole.TheVariants.{Word, Space, Break}
use Rattle.text_layout.specs.declared.spans.Span.{Span}

abbrev pub is_role : BreakRole → BreakRole → Bool
is_role Word Word = true
is_role Space Space = true
is_role Break Break = true
is_role _ _ = false

-- the places of a role, where the first of the roles has the place n
abbrev pub places_from : BreakRole → ℕ → List BreakRole → List ℕ
places_from role n [] = []
places_from role n (r ∷ roles) = if is_role r role then n ∷ places_from role (n + 1) roles else places_from role (n + 1) roles

abbrev pub places_of : BreakRole → List BreakRole → List ℕ
places_of role roles = places_from role 0 roles

-- The items from `first` up to `to`, cut at the places, which are in order; what stands at a place is in no span.
abbrev pub spans_between : ℕ → ℕ → List ℕ → List Span
spans_between first to [] = record { first = first; last = to } ∷ []
spans_between first to (place ∷ places) = record { first = first; last = place } ∷ spans_between (place + 1) to places

-- the paragraphs of a text: what stands between hard breaks
abbrev pub paragraphs_of : List BreakRole → List Span
paragraphs_of roles = spans_between 0 (length roles) (places_of Break roles)

-- The places are where a wrap style breaks a paragraph of these widths and break places. Any other style breaks nowhere.
pub record AreChosen (wrap : ℕ) (widths : List ℤ) (spaces : List ℕ) (max : ℤ) (places : List ℕ) : Type 0 where
  pub greatest : wrap ≡ 0 → IsBest widths spaces max true places
  pub filled : wrap ≡ 1 → AreFilled widths spaces max 0 places
  pub none : wrap ≢ 0 → wrap ≢ 1 → wrap ≢ 3 → places ≡ []
  pub least : wrap ≡ 3 → IsBest widths spaces max false places

-- The spans are the lines of a paragraph, which is broken at chosen spaces.
abbrev pub AreLinesOf : ℕ → List BreakRole → List ℤ → ℤ → Span → List Span → Type 0
AreLinesOf wrap roles advances max paragraph lines =
    (places : List ℕ)
    × AreChosen wrap (slice_range advances paragraph.first paragraph.last) (places_of Space (slice_range roles paragraph.first paragraph.last)) max places
    × (lines ≡ spans_between paragraph.first paragraph.last (map (λ place. paragraph.first + place) places))

-- The spans are the lines of the paragraphs, one after another.
abbrev pub AreLines : ℕ → List BreakRole → List ℤ → ℤ → List Span → List Span → Type 0
AreLines wrap roles advances max [] lines = lines ≡ []
AreLines wrap roles advances max (paragraph ∷ paragraphs) lines =
    (front rest : List Span) × AreLinesOf wrap roles advances max paragraph front × AreLines wrap roles advances max paragraphs rest × (lines ≡ front ++ rest)

-- ---- ranges

-- The places are in order, none before `from` or behind `to`.
abbrev pub ArePlacesInOrder : ℕ → ℕ → List ℕ → Type 0
ArePlacesInOrder from to [] = from ≤ to
ArePlacesInOrder from to (place ∷ places) = (from ≤ place) × (place < to) × ArePlacesInOrder (place + 1) to places

-- The spans follow one another from `from` on, with one place behind each, up to `end`.
abbrev pub AreSpans : ℕ → ℕ → List Span → Type 0
AreSpans from end [] = from ≡ end
AreSpans from end (span ∷ spans) = (span.first ≡ from) × (from ≤ span.last) × (span.last < end) × AreSpans (span.last + 1) end spans

-- a span of so many items
pub record IsSpanWithin (items : ℕ) (span : Span) : Type 0 where
  pub ordered : span.first ≤ span.last
  pub within : span.last ≤ items
