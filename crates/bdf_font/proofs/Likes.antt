-- Of two like lines the later counts, whatever stands between them.
use Rattle.std.proofs.Common.{◌≡◌, ℕ, ◌⊎◌, inl, inr, List, [], ◌∷◌, ◌++◌, Bool, true, false, Option, Some, None, IsSome, refl, ap, sym, ◌∙◌}
use Rattle.std.specs.Option.{option_or}
use Rattle.bdf_font.specs.Words.{after_word}
use Rattle.bdf_font.specs.declared.glyphs.FontGlyph.{FontGlyph}
use Rattle.bdf_font.specs.declared.keyword.Keyword.{Keyword}
use Rattle.bdf_font.specs.declared.keyword.GlyphKeyword.{GlyphKeyword}
use Rattle.bdf_font.specs.declared.keyword.PropertyKeyword.{PropertyKeyword}
use Rattle.bdf_font.specs.declared.keyword.Keyword.TheVariants as keyword
use Rattle.bdf_font.specs.declared.keyword.GlyphKeyword.TheVariants as in_glyph
use Rattle.bdf_font.specs.declared.keyword.HeaderKeyword.TheVariants as in_header
use Rattle.bdf_font.specs.declared.keyword.PropertyKeyword.TheVariants as property
use Rattle.bdf_font.specs.Grammar.{says, line_value, last_given, last_property, switched, open_after, title_in, box_in, family_in, ascent_in, descent_in, default_in, code_in, advance_in, cell_in, is_read, glyph_in, font_said}
use Rattle.bdf_font.proofs.Given.{or_none, or_assoc}
use Rattle.bdf_font.proofs.Fronts.{open_after-append}

last_given-append : {V : Type 0} (f : List ℕ → Option V) (xs ys : List (List ℕ)) → last_given f (xs ++ ys) ≡ option_or (last_given f ys) (last_given f xs)
last_given-append f [] ys = sym (or_none (last_given f ys))
last_given-append f (x ∷ xs) ys = ap (λ o. option_or o (f x)) (last_given-append f xs ys) ∙ or_assoc (last_given f ys) (last_given f xs) (f x)

last_property-append : {V : Type 0} (f : Bool → List ℕ → Option V) (on : Bool) (xs ys : List (List ℕ)) → last_property f on (xs ++ ys) ≡ option_or (last_property f (open_after on xs) ys) (last_property f on xs)
last_property-append f on [] ys = sym (or_none (last_property f on ys))
last_property-append f on (x ∷ xs) ys =
    ap (λ o. option_or o (f on x)) (last_property-append f (switched (says x) on) xs ys)
    ∙ or_assoc (last_property f (open_after (switched (says x) on) xs) ys) (last_property f (switched (says x) on) xs) (f on x)

-- a value that is there hides those before it
hides : {V : Type 0} (a b c d : Option V) → IsSome b → option_or (option_or a b) c ≡ option_or (option_or a b) d
hides None None c d some = absurd cc
hides None (Some v) c d some = refl
hides (Some v) b c d some = refl

-- an earlier line that gives nothing, or a later one that does
last_same : {V : Type 0} (f : List ℕ → Option V) (front : List (List ℕ)) (earlier : List ℕ) (mid : List (List ℕ)) (later : List ℕ) (back : List (List ℕ)) → (f earlier ≡ None) ⊎ IsSome (f later) →
    last_given f (front ++ earlier ∷ mid ++ later ∷ back) ≡ last_given f (front ++ mid ++ later ∷ back)
last_same f front earlier mid later back (inl none) =
    let without : last_given f (front ++ earlier ∷ mid) ≡ last_given f (front ++ mid) =
    last_given-append f front (earlier ∷ mid)
    ∙ (ap (λ o. option_or (option_or (last_given f mid) o) (last_given f front)) none
    ∙ (ap (λ o. option_or o (last_given f front)) (or_none (last_given f mid))
    ∙ sym (last_given-append f front mid))) in
    last_given-append f (front ++ earlier ∷ mid) (later ∷ back)
    ∙ (ap (option_or (last_given f (later ∷ back))) without
    ∙ sym (last_given-append f (front ++ mid) (later ∷ back)))
last_same f front earlier mid later back (inr some) =
    last_given-append f (front ++ earlier ∷ mid) (later ∷ back)
    ∙ (hides (last_given f back) (f later) (last_given f (front ++ earlier ∷ mid)) (last_given f (front ++ mid)) some
    ∙ sym (last_given-append f (front ++ mid) (later ∷ back)))

-- a line that switches nothing
open_without : (front : List (List ℕ)) (earlier : List ℕ) (mid : List (List ℕ)) → ((on : Bool) → switched (says earlier) on ≡ on) → open_after false (front ++ earlier ∷ mid) ≡ open_after false (front ++ mid)
open_without front earlier mid still =
    open_after-append false front (earlier ∷ mid)
    ∙ (ap (λ on. open_after on mid) (still (open_after false front)) ∙ sym (open_after-append false front mid))

property_same : {V : Type 0} (f : Bool → List ℕ → Option V) (front : List (List ℕ)) (earlier : List ℕ) (mid : List (List ℕ)) (later : List ℕ) (back : List (List ℕ)) → ((on : Bool) → switched (says earlier) on ≡ on) →
    ((on : Bool) → f on earlier ≡ None) ⊎ ((open_after false (front ++ earlier ∷ mid) ≡ true) × IsSome (f true later)) →
    last_property f false (front ++ earlier ∷ mid ++ later ∷ back) ≡ last_property f false (front ++ mid ++ later ∷ back)
property_same f front earlier mid later back still (inl none) =
    let on = open_after false front in
    let without : last_property f false (front ++ earlier ∷ mid) ≡ last_property f false (front ++ mid) =
    last_property-append f false front (earlier ∷ mid)
    ∙ (ap (λ o. option_or (option_or (last_property f (switched (says earlier) on) mid) o) (last_property f false front)) (none on)
    ∙ (ap (λ o. option_or o (last_property f false front)) (or_none (last_property f (switched (says earlier) on) mid))
    ∙ (ap (λ b. option_or (last_property f b mid) (last_property f false front)) (still on)
    ∙ sym (last_property-append f false front mid)))) in
    last_property-append f false (front ++ earlier ∷ mid) (later ∷ back)
    ∙ (ap (λ o. option_or (last_property f (open_after false (front ++ earlier ∷ mid)) (later ∷ back)) o) without
    ∙ (ap (λ b. option_or (last_property f b (later ∷ back)) (last_property f false (front ++ mid))) (open_without front earlier mid still)
    ∙ sym (last_property-append f false (front ++ mid) (later ∷ back))))
property_same f front earlier mid later back still (inr one) =
    let also : open_after false (front ++ mid) ≡ true = sym (open_without front earlier mid still) ∙ one.0 in
    last_property-append f false (front ++ earlier ∷ mid) (later ∷ back)
    ∙ (ap (λ b. option_or (last_property f b (later ∷ back)) (last_property f false (front ++ earlier ∷ mid))) one.0
    ∙ (hides (last_property f (switched (says later) true) back) (f true later) (last_property f false (front ++ earlier ∷ mid)) (last_property f false (front ++ mid)) one.1
    ∙ (ap (λ b. option_or (last_property f b (later ∷ back)) (last_property f false (front ++ mid))) (sym also)
    ∙ sym (last_property-append f false (front ++ mid) (later ∷ back)))))

-- what a line gives, by what it says
given_at : {V : Type 0} (f : Keyword → List ℕ → Option V) (earlier later : List ℕ) (kind : Keyword) → says earlier ≡ kind → says later ≡ kind →
    (f kind (after_word earlier) ≡ None) ⊎ IsSome (f kind (after_word later)) → (line_value f earlier ≡ None) ⊎ IsSome (line_value f later)
given_at f earlier later kind e l (inl none) = inl (ap (λ k. f k (after_word earlier)) e ∙ none)
given_at f earlier later kind e l (inr some) = inr (rw l some)

code_like : (kind : GlyphKeyword) (a b : List ℕ) → is_read true (keyword.Glyph kind) b ≡ true → (code_in (keyword.Glyph kind) a ≡ None) ⊎ IsSome (code_in (keyword.Glyph kind) b)
code_like in_glyph.Encoding a b r = inr r
code_like in_glyph.Width a b r = inl refl
code_like in_glyph.Box a b r = inl refl
code_like in_glyph.Bitmap a b r = inl refl
code_like in_glyph.EndChar a b r = inl refl

advance_like : (kind : GlyphKeyword) (a b : List ℕ) → is_read true (keyword.Glyph kind) b ≡ true → (advance_in (keyword.Glyph kind) a ≡ None) ⊎ IsSome (advance_in (keyword.Glyph kind) b)
advance_like in_glyph.Encoding a b r = inl refl
advance_like in_glyph.Width a b r = inr r
advance_like in_glyph.Box a b r = inl refl
advance_like in_glyph.Bitmap a b r = inl refl
advance_like in_glyph.EndChar a b r = inl refl

cell_like : (kind : GlyphKeyword) (a b : List ℕ) → is_read true (keyword.Glyph kind) b ≡ true → (cell_in (keyword.Glyph kind) a ≡ None) ⊎ IsSome (cell_in (keyword.Glyph kind) b)
cell_like in_glyph.Encoding a b r = inl refl
cell_like in_glyph.Width a b r = inl refl
cell_like in_glyph.Box a b r = inr r
cell_like in_glyph.Bitmap a b r = inl refl
cell_like in_glyph.EndChar a b r = inl refl

pub later_glyph_line : (kind : GlyphKeyword) (front : List (List ℕ)) (earlier : List ℕ) (mid : List (List ℕ)) (later : List ℕ) (back rows : List (List ℕ)) →
    says earlier ≡ keyword.Glyph kind → says later ≡ keyword.Glyph kind → is_read true (keyword.Glyph kind) (after_word later) ≡ true →
    glyph_in (front ++ earlier ∷ mid ++ later ∷ back) rows ≡ glyph_in (front ++ mid ++ later ∷ back) rows
later_glyph_line kind front earlier mid later back rows e l r =
    let code = last_same (line_value code_in) front earlier mid later back (given_at code_in earlier later (keyword.Glyph kind) e l (code_like kind (after_word earlier) (after_word later) r)) in
    let advance = last_same (line_value advance_in) front earlier mid later back (given_at advance_in earlier later (keyword.Glyph kind) e l (advance_like kind (after_word earlier) (after_word later) r)) in
    let cell = last_same (line_value cell_in) front earlier mid later back (given_at cell_in earlier later (keyword.Glyph kind) e l (cell_like kind (after_word earlier) (after_word later) r)) in
    rw (code, advance, cell) refl

-- a property's line, by what it says
property_at : {V : Type 0} (f : Bool → Keyword → List ℕ → Option V) (earlier later : List ℕ) (kind : Keyword) (open_there : Type 0) → says earlier ≡ kind → says later ≡ kind → open_there →
    ((on : Bool) → f on kind (after_word earlier) ≡ None) ⊎ IsSome (f true kind (after_word later)) → ((on : Bool) → line_value (f on) earlier ≡ None) ⊎ (open_there × IsSome (line_value (f true) later))
property_at f earlier later kind open_there e l there (inl none) = inl (λ on. ap (λ k. f on k (after_word earlier)) e ∙ none on)
property_at f earlier later kind open_there e l there (inr some) = inr (there, rw l some)

-- a line of another kind gives no property
no_property : {V : Type 0} (f : Bool → Keyword → List ℕ → Option V) (line : List ℕ) (kind : Keyword) → says line ≡ kind → ((on : Bool) → f on kind (after_word line) ≡ None) → (on : Bool) → line_value (f on) line ≡ None
no_property f line kind e none on = ap (λ k. f on k (after_word line)) e ∙ none on

still_at : (line : List ℕ) (kind : Keyword) → says line ≡ kind → ((on : Bool) → switched kind on ≡ on) → (on : Bool) → switched (says line) on ≡ on
still_at line kind e still on = ap (λ k. switched k on) e ∙ still on

pub later_name : (front : List (List ℕ)) (earlier : List ℕ) (mid : List (List ℕ)) (later : List ℕ) (back : List (List ℕ)) (glyphs : List FontGlyph) → says earlier ≡ keyword.Header in_header.Name → says later ≡ keyword.Header in_header.Name →
    font_said (front ++ earlier ∷ mid ++ later ∷ back) glyphs ≡ font_said (front ++ mid ++ later ∷ back) glyphs
later_name front earlier mid later back glyphs e l =
    let kind = keyword.Header in_header.Name in
    let still = still_at earlier kind e (λ on. refl) in
    let title = last_same (line_value title_in) front earlier mid later back (given_at title_in earlier later kind e l (inr refl)) in
    let box = last_same (line_value box_in) front earlier mid later back (given_at box_in earlier later kind e l (inl refl)) in
    let family = property_same (λ on. line_value (family_in on)) front earlier mid later back still (inl (no_property family_in earlier kind e (λ on. refl))) in
    let ascent = property_same (λ on. line_value (ascent_in on)) front earlier mid later back still (inl (no_property ascent_in earlier kind e (λ on. refl))) in
    let descent = property_same (λ on. line_value (descent_in on)) front earlier mid later back still (inl (no_property descent_in earlier kind e (λ on. refl))) in
    let default = property_same (λ on. line_value (default_in on)) front earlier mid later back still (inl (no_property default_in earlier kind e (λ on. refl))) in
    rw (title, box, family, ascent, descent, default) refl

pub later_box : (front : List (List ℕ)) (earlier : List ℕ) (mid : List (List ℕ)) (later : List ℕ) (back : List (List ℕ)) (glyphs : List FontGlyph) → says earlier ≡ keyword.Header in_header.Box → says later ≡ keyword.Header in_header.Box →
    is_read true (keyword.Header in_header.Box) (after_word later) ≡ true → font_said (front ++ earlier ∷ mid ++ later ∷ back) glyphs ≡ font_said (front ++ mid ++ later ∷ back) glyphs
later_box front earlier mid later back glyphs e l r =
    let kind = keyword.Header in_header.Box in
    let still = still_at earlier kind e (λ on. refl) in
    let title = last_same (line_value title_in) front earlier mid later back (given_at title_in earlier later kind e l (inl refl)) in
    let box = last_same (line_value box_in) front earlier mid later back (given_at box_in earlier later kind e l (inr r)) in
    let family = property_same (λ on. line_value (family_in on)) front earlier mid later back still (inl (no_property family_in earlier kind e (λ on. refl))) in
    let ascent = property_same (λ on. line_value (ascent_in on)) front earlier mid later back still (inl (no_property ascent_in earlier kind e (λ on. refl))) in
    let descent = property_same (λ on. line_value (descent_in on)) front earlier mid later back still (inl (no_property descent_in earlier kind e (λ on. refl))) in
    let default = property_same (λ on. line_value (default_in on)) front earlier mid later back still (inl (no_property default_in earlier kind e (λ on. refl))) in
    rw (title, box, family, ascent, descent, default) refl

family_like : (kind : PropertyKeyword) (a b : List ℕ) → ((on : Bool) → family_in on (keyword.Header (in_header.Property kind)) a ≡ None) ⊎ IsSome (family_in true (keyword.Header (in_header.Property kind)) b)
family_like property.Ascent a b = inl (λ on. refl)
family_like property.Descent a b = inl (λ on. refl)
family_like property.DefaultChar a b = inl (λ on. refl)
family_like property.FamilyName a b = inr refl

ascent_like : (kind : PropertyKeyword) (a b : List ℕ) → is_read true (keyword.Header (in_header.Property kind)) b ≡ true → ((on : Bool) → ascent_in on (keyword.Header (in_header.Property kind)) a ≡ None) ⊎ IsSome (ascent_in true (keyword.Header (in_header.Property kind)) b)
ascent_like property.Ascent a b r = inr r
ascent_like property.Descent a b r = inl (λ on. refl)
ascent_like property.DefaultChar a b r = inl (λ on. refl)
ascent_like property.FamilyName a b r = inl (λ on. refl)

descent_like : (kind : PropertyKeyword) (a b : List ℕ) → is_read true (keyword.Header (in_header.Property kind)) b ≡ true → ((on : Bool) → descent_in on (keyword.Header (in_header.Property kind)) a ≡ None) ⊎ IsSome (descent_in true (keyword.Header (in_header.Property kind)) b)
descent_like property.Ascent a b r = inl (λ on. refl)
descent_like property.Descent a b r = inr r
descent_like property.DefaultChar a b r = inl (λ on. refl)
descent_like property.FamilyName a b r = inl (λ on. refl)

default_like : (kind : PropertyKeyword) (a b : List ℕ) → is_read true (keyword.Header (in_header.Property kind)) b ≡ true → ((on : Bool) → default_in on (keyword.Header (in_header.Property kind)) a ≡ None) ⊎ IsSome (default_in true (keyword.Header (in_header.Property kind)) b)
default_like property.Ascent a b r = inl (λ on. refl)
default_like property.Descent a b r = inl (λ on. refl)
default_like property.DefaultChar a b r = inr r
default_like property.FamilyName a b r = inl (λ on. refl)

pub later_property : (kind : PropertyKeyword) (front : List (List ℕ)) (earlier : List ℕ) (mid : List (List ℕ)) (later : List ℕ) (back : List (List ℕ)) (glyphs : List FontGlyph) →
    says earlier ≡ keyword.Header (in_header.Property kind) → says later ≡ keyword.Header (in_header.Property kind) →
    open_after false (front ++ earlier ∷ mid) ≡ true → is_read true (keyword.Header (in_header.Property kind)) (after_word later) ≡ true →
    font_said (front ++ earlier ∷ mid ++ later ∷ back) glyphs ≡ font_said (front ++ mid ++ later ∷ back) glyphs
later_property kind front earlier mid later back glyphs e l there r =
    let word = keyword.Header (in_header.Property kind) in
    let a = after_word earlier in
    let b = after_word later in
    let is_there = open_after false (front ++ earlier ∷ mid) ≡ true in
    let still = still_at earlier word e (λ on. refl) in
    let title = last_same (line_value title_in) front earlier mid later back (given_at title_in earlier later word e l (inl refl)) in
    let box = last_same (line_value box_in) front earlier mid later back (given_at box_in earlier later word e l (inl refl)) in
    let family = property_same (λ on. line_value (family_in on)) front earlier mid later back still (property_at family_in earlier later word is_there e l there (family_like kind a b)) in
    let ascent = property_same (λ on. line_value (ascent_in on)) front earlier mid later back still (property_at ascent_in earlier later word is_there e l there (ascent_like kind a b r)) in
    let descent = property_same (λ on. line_value (descent_in on)) front earlier mid later back still (property_at descent_in earlier later word is_there e l there (descent_like kind a b r)) in
    let default = property_same (λ on. line_value (default_in on)) front earlier mid later back still (property_at default_in earlier later word is_there e l there (default_like kind a b r)) in
    rw (title, box, family, ascent, descent, default) refl
