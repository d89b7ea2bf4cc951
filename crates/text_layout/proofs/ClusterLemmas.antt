-- The clusters that a text is cut into have the ends that the rules give.
use Rattle.std.proofs.Common.{◌≡◌, ℕ, suc, ◌+◌, ◌-◌, ◌<◌, ◌≤◌, ◌==◌, ◌&&◌, Bool, true, false, cond, Option, Some, None, List, [], ◌∷◌, ◌++◌, map, flat_map, length, refl, sym, ap, ap₂, ◌∙◌, arith, append_assoc, append-nil, get_or, drop}
use Rattle.std.proofs.lemmas.Bool.Decides.{nat_tests}
use Rattle.std.proofs.lemmas.List.{drop_more}
use Rattle.std.proofs.lemmas.Str.{chars-append, chars-encodes, scalars-chars}
use Rattle.std.specs.Prelude.{encode_utf8, encode_utf8_all}
use Rattle.std.specs.Str.{chars, IsUtf8}
use lib.Utf8.{scalar, scalars}
use Rattle.unicode_segmentation.specs.Grapheme.{graphemes, is_grapheme_break}
use Rattle.unicode_segmentation.specs.Segments.{Rule, cut, prepend, segments}
use Rattle.unicode_segmentation.proofs.TextLemmas.{IsUtf8-after, chars-encode_utf8}
use Rattle.override_tags.specs.declared.view.Shown.{Shown}
use Rattle.text_layout.specs.Kinds.{char_of, chars_of}
use Rattle.text_layout.specs.Clusters.{ends_behind, flags_of, text_ends, text_of}

-- ---- a text alone, and a text that a break ends

text_of-map : (cs : List ℕ) → text_of (map Some cs) ≡ cs
text_of-map [] = refl
text_of-map (c ∷ cs) = ap (λ l. c ∷ l) (text_of-map cs)

text_of-ended : (cs : List ℕ) (rest : List (Option ℕ)) → text_of (map Some cs ++ None ∷ rest) ≡ cs
text_of-ended [] rest = refl
text_of-ended (c ∷ cs) rest = ap (λ l. c ∷ l) (text_of-ended cs rest)

pub ends_behind-ended : (before cs : List ℕ) (rest : List (Option ℕ))
    → ends_behind before (map Some cs ++ None ∷ rest) ≡ ends_behind before (map Some cs) ++ true ∷ ends_behind [] rest
ends_behind-ended before [] rest = refl
ends_behind-ended before (c ∷ cs) rest =
    ap₂ (λ t l. is_grapheme_break true (c ∷ before) t ∷ l) (text_of-ended cs rest ∙ sym (text_of-map cs)) (ends_behind-ended (c ∷ before) cs rest)

-- ---- clusters

-- which characters end the clusters of a text, of these lengths
abbrev pub all_flags : List (List ℕ) → List Bool
all_flags pieces = flat_map (λ piece. flags_of (length piece)) pieces

-- the first piece isn't empty
abbrev HasFront : List (List ℕ) → Type 0
HasFront [] = ⊥
HasFront ([] ∷ _) = ⊥
HasFront ((_ ∷ _) ∷ _) = Unit {0}

cut-front : (rule : Rule) (before : List ℕ) (c : ℕ) (cs after : List ℕ) → HasFront (cut rule before (c ∷ cs) after)
unfolding cut
cut-front rule before c cs after =
    elim (rule (c ∷ before) (cs ++ after)) as (λ b. HasFront (cond b ((c ∷ []) ∷ cut rule (c ∷ before) cs after) (prepend (c ∷ []) (cut rule (c ∷ before) cs after)))) [
      | true ↦ tt
      | false ↦ elim (cut rule (c ∷ before) cs after) as (λ l. HasFront (prepend (c ∷ []) l)) [ [] ↦ tt | _ ∷ _ ↦ tt ]
    ]

flags_of-more : (n : ℕ) → flags_of (suc (suc n)) ≡ false ∷ flags_of (suc n)
flags_of-more n = let t : (suc n == 0) ≡ false = grind (arith, nat_tests) in ap (λ b. b ∷ flags_of (suc n)) t

all_flags-prepend : (c : ℕ) (pieces : List (List ℕ)) → HasFront pieces → all_flags (prepend (c ∷ []) pieces) ≡ false ∷ all_flags pieces
all_flags-prepend c [] h = absurd h
all_flags-prepend c ([] ∷ pieces) h = absurd h
all_flags-prepend c ((d ∷ piece) ∷ pieces) h = ap (λ l. l ++ all_flags pieces) (flags_of-more (length piece))

all_flags-step : (b : Bool) (c : ℕ) (rest : List (List ℕ)) → HasFront rest → all_flags (cond b ((c ∷ []) ∷ rest) (prepend (c ∷ []) rest)) ≡ b ∷ all_flags rest
all_flags-step true c rest h = refl
all_flags-step false c rest h = all_flags-prepend c rest h

all_flags-last : (b : Bool) (c : ℕ) → all_flags (cond b ((c ∷ []) ∷ []) (prepend (c ∷ []) [])) ≡ true ∷ []
all_flags-last true c = refl
all_flags-last false c = refl

ends_behind-last : (before : List ℕ) (c : ℕ) → is_grapheme_break true (c ∷ before) [] ≡ true
unfolding is_grapheme_break
ends_behind-last before c = refl

pub all_flags-cut : (before cs : List ℕ) → all_flags (cut (is_grapheme_break true) before cs []) ≡ ends_behind before (map Some cs)
unfolding cut
all_flags-cut before [] = refl
all_flags-cut before (c ∷ []) =
    all_flags-last (is_grapheme_break true (c ∷ before) []) c ∙ ap (λ b. b ∷ []) (sym (ends_behind-last before c))
all_flags-cut before (c ∷ (d ∷ ds)) =
    all_flags-step (is_grapheme_break true (c ∷ before) ((d ∷ ds) ++ [])) c _ (cut-front (is_grapheme_break true) (c ∷ before) d ds [])
    ∙ ap₂ (λ b l. b ∷ l) (ap (is_grapheme_break true (c ∷ before)) (append-nil (d ∷ ds) ∙ sym (text_of-map (d ∷ ds)))) (all_flags-cut (c ∷ before) (d ∷ ds))

-- ---- as bytes

-- whether each of the pieces has characters alone
abbrev AreText : List (List ℕ) → Type 0
AreText [] = Unit {0}
AreText (piece ∷ pieces) = (scalars piece ≡ true) × AreText pieces

and_parts : (a b : Bool) → (a && b) ≡ true → (a ≡ true) × (b ≡ true)
and_parts true b h = (refl, h)
and_parts false b h = (cc)

and_join : (a b : Bool) → a ≡ true → b ≡ true → (a && b) ≡ true
and_join true b p q = q
and_join false b p q = p

scalars-cons : (c : ℕ) (cs : List ℕ) → scalars (c ∷ cs) ≡ true → (scalars (c ∷ []) ≡ true) × (scalars cs ≡ true)
scalars-cons c cs h = let parts = and_parts (scalar c) (scalars cs) h in (and_join (scalar c) true parts.0 refl, parts.1)

AreText-prepend : (c : ℕ) (pieces : List (List ℕ)) → scalars (c ∷ []) ≡ true → AreText pieces → AreText (prepend (c ∷ []) pieces)
AreText-prepend c [] h k = (h, tt)
AreText-prepend c (piece ∷ pieces) h k = (and_join (scalar c) (scalars piece) (and_parts (scalar c) true h).0 k.0, k.1)

AreText-cut : (rule : Rule) (before cs after : List ℕ) → scalars cs ≡ true → AreText (cut rule before cs after)
unfolding cut
AreText-cut rule before [] after h = tt
AreText-cut rule before (c ∷ cs) after h =
    let parts = scalars-cons c cs h in
    let rest = AreText-cut rule (c ∷ before) cs after parts.1 in
    elim (rule (c ∷ before) (cs ++ after)) as (λ b. AreText (cond b ((c ∷ []) ∷ cut rule (c ∷ before) cs after) (prepend (c ∷ []) (cut rule (c ∷ before) cs after)))) [
      | true ↦ (parts.0, rest)
      | false ↦ AreText-prepend c _ parts.0 rest
    ]

flags-encoded : (pieces : List (List ℕ)) → AreText pieces → flat_map (λ bytes. flags_of (length (chars bytes))) (map encode_utf8_all pieces) ≡ all_flags pieces
flags-encoded [] h = refl
flags-encoded (piece ∷ pieces) h = ap₂ (λ n l. flags_of n ++ l) (ap length (chars-encodes piece h.0)) (flags-encoded pieces h.1)

-- The clusters of a text have the ends that the rules give its characters.
pub flags-graphemes : (text : List ℕ) → IsUtf8 text → flat_map (λ cluster. flags_of (length (chars cluster))) (graphemes true text) ≡ text_ends (chars text)
unfolding segments
flags-graphemes text h =
    let cs = chars text in
    flags-encoded (cut (is_grapheme_break true) [] cs []) (AreText-cut (is_grapheme_break true) [] cs [] (scalars-chars text h)) ∙ all_flags-cut [] cs

-- ---- the walk along the items

char_joins : (cs : List ℕ) (c : ℕ) (rest : List (Option ℕ)) → map Some (cs ++ c ∷ []) ++ rest ≡ map Some cs ++ Some c ∷ rest
char_joins [] c rest = refl
char_joins (d ∷ cs) c rest = ap (λ l. Some d ∷ l) (char_joins cs c rest)

-- the characters of the items from one on
pub codes-more : (wrap : ℕ) (items : List Shown) (k : ℕ) (shown : Shown) (o : Option ℕ) → k < length items → shown ≡ get_or items k shown → o ≡ char_of wrap shown.kind
    → chars_of wrap (drop k items) ≡ o ∷ chars_of wrap (drop (k + 1) items)
codes-more wrap items k shown o l is e =
    ap (chars_of wrap) (drop_more items k shown l)
    ∙ ap (λ (s : Shown). char_of wrap s.kind ∷ chars_of wrap (drop (k + 1) items)) (sym is)
    ∙ ap (λ c. c ∷ chars_of wrap (drop (k + 1) items)) (sym e)

-- A character goes on with the text.
pub walk-char : (ends all : List Bool) (cs : List ℕ) (c : ℕ) (codes rest : List (Option ℕ)) → codes ≡ Some c ∷ rest
    → ends ++ ends_behind [] (map Some cs ++ codes) ≡ all → ends ++ ends_behind [] (map Some (cs ++ c ∷ []) ++ rest) ≡ all
walk-char ends all cs c codes rest e h =
    ap (λ l. ends ++ ends_behind [] l) (char_joins cs c rest ∙ ap (λ l. map Some cs ++ l) (sym e)) ∙ h

-- A hard break or a drawing ends it.
pub walk-break : (ends all : List Bool) (cs : List ℕ) (codes rest : List (Option ℕ)) → codes ≡ None ∷ rest
    → ends ++ ends_behind [] (map Some cs ++ codes) ≡ all → ((ends ++ text_ends cs) ++ true ∷ []) ++ ends_behind [] rest ≡ all
walk-break ends all cs codes rest e h =
    append_assoc (ends ++ text_ends cs) (true ∷ []) (ends_behind [] rest)
    ∙ append_assoc ends (text_ends cs) (true ∷ ends_behind [] rest)
    ∙ ap (λ l. ends ++ l) (sym (ends_behind-ended [] cs rest) ∙ ap (λ l. ends_behind [] (map Some cs ++ l)) (sym e))
    ∙ h

-- At the end the last text is left.
pub walk-end : (ends all : List Bool) (cs : List ℕ) (codes : List (Option ℕ)) → codes ≡ []
    → ends ++ ends_behind [] (map Some cs ++ codes) ≡ all → ends ++ text_ends cs ≡ all
walk-end ends all cs codes e h =
    ap (λ l. ends ++ ends_behind [] l) (sym (append-nil (map Some cs)) ∙ ap (λ l. map Some cs ++ l) (sym e)) ∙ h

-- A text that a character is put behind.
pub chars-pushed : (bs : List ℕ) (c : ℕ) → IsUtf8 bs → IsUtf8 (bs ++ encode_utf8 c) → chars (bs ++ encode_utf8 c) ≡ chars bs ++ c ∷ []
chars-pushed bs c h k =
    let behind = IsUtf8-after (bs ++ encode_utf8 c) bs (encode_utf8 c) k h refl in
    chars-append bs (encode_utf8 c) h ∙ ap (λ l. chars bs ++ l) (chars-encode_utf8 c behind)

-- ---- the loops

-- the first of the flags that are left
pub flags_of-step : (count k : ℕ) (b : Bool) → k < count → b ≡ (k + 1 == count) → flags_of (count - k) ≡ b ∷ flags_of (count - (k + 1))
flags_of-step count k b l e =
    let n : count - k ≡ suc (count - (k + 1)) = omega arith in
    ap flags_of n ∙ ap (λ t. t ∷ flags_of (count - (k + 1))) (same_test (count - (k + 1)) k count (omega arith) ∙ sym e)
  where
    same_test : (m k count : ℕ) → m + k + 1 ≡ count → (m == 0) ≡ (k + 1 == count)
    same_test m k count h = grind (arith, nat_tests)

pub flags_of-none : (count k : ℕ) → count ≤ k → flags_of (count - k) ≡ []
flags_of-none count k l = ap flags_of (let e : count - k ≡ 0 = omega arith in e)

-- a function of pieces, by what the references to them point to
pub flat_map-now : {X Y Z : Type 0} (v : X → Y) (f : Y → List Z) (xs : List X) → flat_map (λ x. f (v x)) xs ≡ flat_map f (map v xs)
flat_map-now v f [] = refl
flat_map-now v f (x ∷ xs) = ap (λ l. f (v x) ++ l) (flat_map-now v f xs)

-- There is a flag for each item.
pub length-ends_behind : (before : List ℕ) (codes : List (Option ℕ)) → length (ends_behind before codes) ≡ length codes
length-ends_behind before [] = refl
length-ends_behind before (None ∷ codes) = ap suc (length-ends_behind [] codes)
length-ends_behind before (Some c ∷ codes) = ap suc (length-ends_behind (c ∷ before) codes)
