-- A style is read back from its line.
use Rattle.std.proofs.Common.{◌≡◌, ℕ, ◌*◌, ◌/◌, ◌%◌, ◌≤◌, cond, eqb, leb, ◌&&◌, Bool, true, false, List, [], ◌∷◌, length, get_or, set, ℤ, pos, refl, sym, ap, ◌∙◌, arith, inl, inr, ◌⊎◌}
use Rattle.std.specs.Prelude.{codes}
use Rattle.std.specs.Fmt.{decimal, signed_decimal}
use Rattle.std.specs.Int.{int_max}
use Rattle.std.specs.List.{All, slice_split}
use Rattle.std.specs.Option.{option_map_or}
use Rattle.std.specs.Ordering.{int_eq}
use Rattle.std.proofs.lemmas.Bool.Decides.{nat_tests}
use Rattle.std.proofs.lemmas.Int.{ints}
use Rattle.std.proofs.lemmas.List.Elements.{All-nil, All-cons, All-get_or}
use Rattle.std.proofs.lemmas.List.Splits.{slice_split_at, slice_split_none}
use Rattle.ass_num.specs.Colours.{colour_of}
use Rattle.ass_num.specs.Limits.{IsWithin, IsHeldLength, IsHeldNumber, max_whole}
use Rattle.ass_num.specs.Wholes.{whole_of}
use Rattle.ass_num.specs.declared.colour.Rgba.{Rgba}
use Rattle.ass_script.specs.Fields.{usual_style_fields}
use Rattle.ass_script.specs.Numbers.{milli_of}
use Rattle.ass_script.specs.Ranges.{IsStyle}
use Rattle.ass_script.specs.Styles.{built_in_style, bare_style, milli_or, size_or, margin_or, flag_or, border_style_or, alignment_in, alignment_or, colours_with, with_fields, style_of}
use Rattle.ass_script.specs.Words.{is_comma}
use Rattle.ass_script.specs.declared.lines.Version.TheVariants.{V4Plus}
use Rattle.ass_script.specs.declared.style.Style.{Style}
use Rattle.ass_events.proofs.PieceLemmas.{EachPlain}
use Rattle.ass_num.specs.Blanks.{trimmed}
use Rattle.track_write.specs.Ranges.{IsByteColour, IsSpelledStyle}
use Rattle.track_write.specs.Rows.{row, colour_of_place, style_fields}
use Rattle.track_write.specs.Spelling.{milli_text, colour_text, flag_text}
use Rattle.track_write.proofs.Colours.{colour_back, colour_read}
use Rattle.track_write.proofs.Readings.{milli_read, whole_milli, whole_read, no_blanks, not_below}
use Rattle.track_write.proofs.Tokens.{no_comma, tokens_stay, milli_tokens, colour_tokens, flag_tokens, decimal_tokens, signed_tokens, blank_dropped}

-- ---- the pieces of a row

pub row_cut : (field : List ℕ) (fields : List (List ℕ)) → EachPlain (field ∷ fields) → slice_split is_comma (row (field ∷ fields)) ≡ field ∷ fields
row_cut field [] each = slice_split_none is_comma field each.0
row_cut field (next ∷ fields) each = slice_split_at is_comma field 44 (row (next ∷ fields)) each.0 refl ∙ ap (λ z. field ∷ z) (row_cut next fields each.1)

-- ---- single fields

milli_field : (old z : ℤ) → IsHeldNumber z → milli_or old (trimmed (milli_text z)) ≡ z
milli_field old z held = ap (λ t. option_map_or (λ n. n) (milli_of t) old) (tokens_stay (milli_text z) (milli_tokens z held)) ∙ ap (λ o. option_map_or (λ n. n) o old) (milli_read z held)

length_held : (z : ℤ) → IsHeldLength z → IsHeldNumber z
length_held z held = (omega (arith, ints, held.0), held.1)

size_field : (old z : ℤ) → IsHeldLength z → size_or old (trimmed (milli_text z)) ≡ z
size_field old z held =
    let number = length_held z held in
    ap (λ t. option_map_or (λ n. int_max (pos 0) n) (milli_of t) old) (tokens_stay (milli_text z) (milli_tokens z number))
    ∙ ap (λ o. option_map_or (λ n. int_max (pos 0) n) o old) (milli_read z number) ∙ not_below z held.0

margin_field : (old z : ℤ) → IsWithin max_whole z → margin_or old (trimmed (signed_decimal z)) ≡ z
margin_field old z within =
    ap (λ t. option_map_or (λ n. n) (whole_of t) old) (tokens_stay (signed_decimal z) (signed_tokens z within)) ∙ ap (λ o. option_map_or (λ n. n) o old) (whole_read [] z no_blanks within)

flag_field : (old b : Bool) → flag_or old (trimmed (flag_text b)) ≡ b
unfolding whole_of
flag_field old true = ap (flag_or old) (tokens_stay (flag_text true) (flag_tokens true))
flag_field old false = ap (flag_or old) (tokens_stay (flag_text false) (flag_tokens false))

small_field : (n : ℕ) → n ≤ 9 → trimmed (decimal n) ≡ decimal n
small_field n small = tokens_stay (decimal n) (decimal_tokens n (omega arith))

-- the style of the border
abbrev border_in : ℤ → ℕ
border_in n = cond (int_eq n (pos 3000)) 3 1

border_field : (old n : ℕ) → (n ≡ 1) ⊎ (n ≡ 3) → border_style_or old (trimmed (decimal n)) ≡ n
border_field old n (inl one) = ap (λ k. border_style_or old (trimmed (decimal k))) one ∙ (ap (border_style_or old) (small_field 1 (omega arith)) ∙ ap (λ o. option_map_or border_in o old) (whole_milli 1 (omega arith))) ∙ sym one
border_field old n (inr three) = ap (λ k. border_style_or old (trimmed (decimal k))) three ∙ (ap (border_style_or old) (small_field 3 (omega arith)) ∙ ap (λ o. option_map_or border_in o old) (whole_milli 3 (omega arith))) ∙ sym three

thousands : (n : ℕ) → 1 ≤ n → n ≤ 9 → alignment_in (pos (n * 1000)) ≡ n
thousands n some small =
    let none : eqb (n * 1000 % 1000) 0 ≡ true = (let e : n * 1000 % 1000 ≡ 0 = omega arith in grind (arith, nat_tests)) in
    let low : leb 1000 (n * 1000) ≡ true = (let h : 1000 ≤ n * 1000 = omega arith in grind (arith, nat_tests)) in
    let high : leb (n * 1000) 9000 ≡ true = (let h : n * 1000 ≤ 9000 = omega arith in grind (arith, nat_tests)) in
    let back : n * 1000 / 1000 ≡ n = omega arith in
    ap (λ b. cond (b && (leb 1000 (n * 1000) && leb (n * 1000) 9000)) (n * 1000 / 1000) 2) none
    ∙ ap (λ b. cond (b && leb (n * 1000) 9000) (n * 1000 / 1000) 2) low
    ∙ ap (λ b. cond b (n * 1000 / 1000) 2) high ∙ back

alignment_field : (old n : ℕ) → 1 ≤ n → n ≤ 9 → alignment_or old (trimmed (decimal n)) ≡ n
alignment_field old n some small = ap (alignment_or old) (small_field n small) ∙ ap (λ o. option_map_or alignment_in o old) (whole_milli n (omega arith)) ∙ thousands n some small

-- ---- the colours

colour_put : (k : ℕ) (colours : List Rgba) (c : Rgba) → IsByteColour c → colours_with k colours (trimmed (colour_text c)) ≡ set colours k c
colour_put k colours c is =
    ap (colours_with k colours) (tokens_stay (colour_text c) (colour_tokens c is))
    ∙ ap (λ o. option_map_or (λ n. set colours k (colour_of n)) o colours) (colour_read c is)
    ∙ ap (set colours k) (colour_back c is)

four : (xs : List Rgba) (d : Rgba) → length xs ≡ 4 → get_or xs 0 d ∷ get_or xs 1 d ∷ get_or xs 2 d ∷ get_or xs 3 d ∷ [] ≡ xs
four (a ∷ b ∷ c ∷ e ∷ []) d size = refl
four [] d size = absurd (omega (arith, size))
four (a ∷ []) d size = absurd (omega (arith, size))
four (a ∷ b ∷ []) d size = absurd (omega (arith, size))
four (a ∷ b ∷ c ∷ []) d size = absurd (omega (arith, size))
four (a ∷ b ∷ c ∷ e ∷ f ∷ fs) d size = absurd (omega (arith, size))

module _ (s : Style) (is : IsStyle s) (spelled : IsSpelledStyle s) where
  colour_is : (k : ℕ) → k ≤ 3 → IsByteColour (colour_of_place s k)
  colour_is k below = All-get_or IsByteColour s.colours k (colour_of 0) (omega (arith, is.colours)) spelled.colours

  said : ℕ → List ℕ
  said k = trimmed (colour_text (colour_of_place s k))

  abbrev first_colours : List Rgba
  first_colours = built_in_style.colours

  colours_read : colours_with 3 (colours_with 2 (colours_with 1 (colours_with 0 built_in_style.colours (trimmed (colour_text (colour_of_place s 0)))) (trimmed (colour_text (colour_of_place s 1)))) (trimmed (colour_text (colour_of_place s 2)))) (trimmed (colour_text (colour_of_place s 3))) ≡ s.colours
  colours_read =
      let t1 = trimmed (colour_text (colour_of_place s 1)) in
      let t2 = trimmed (colour_text (colour_of_place s 2)) in
      let t3 = trimmed (colour_text (colour_of_place s 3)) in
      let c0 = set built_in_style.colours 0 (colour_of_place s 0) in
      let c1 = set c0 1 (colour_of_place s 1) in
      let c2 = set c1 2 (colour_of_place s 2) in
      ap (λ z. colours_with 3 (colours_with 2 (colours_with 1 z t1) t2) t3) (colour_put 0 built_in_style.colours (colour_of_place s 0) (colour_is 0 (omega arith)))
      ∙ ap (λ z. colours_with 3 (colours_with 2 z t2) t3) (colour_put 1 c0 (colour_of_place s 1) (colour_is 1 (omega arith)))
      ∙ ap (λ z. colours_with 3 z t3) (colour_put 2 c1 (colour_of_place s 2) (colour_is 2 (omega arith)))
      ∙ colour_put 3 c2 (colour_of_place s 3) (colour_is 3 (omega arith))
      ∙ four s.colours (colour_of 0) is.colours

  name_read : trimmed (32 ∷ s.name) ≡ s.name
  name_read = blank_dropped s.name ∙ spelled.name.bare

  fields_read : with_fields (usual_style_fields V4Plus) ((32 ∷ s.name) ∷ s.font ∷ milli_text s.size
      ∷ colour_text (colour_of_place s 0) ∷ colour_text (colour_of_place s 1) ∷ colour_text (colour_of_place s 2) ∷ colour_text (colour_of_place s 3)
      ∷ flag_text s.bold ∷ flag_text s.italic ∷ flag_text s.underline ∷ flag_text s.strikeout
      ∷ milli_text s.scale_x ∷ milli_text s.scale_y ∷ milli_text s.spacing ∷ milli_text s.angle
      ∷ decimal s.border_style ∷ milli_text s.outline ∷ milli_text s.shadow ∷ decimal s.alignment
      ∷ signed_decimal s.margin_l ∷ signed_decimal s.margin_r ∷ signed_decimal s.margin_v ∷ codes "1" ∷ []) (bare_style V4Plus) ≡ s
  fields_read = λ i. record {
    name = name_read i;
    font = spelled.font.bare i;
    size = size_field (pos 18000) s.size is.size i;
    colours = colours_read i;
    bold = flag_field false s.bold i;
    italic = flag_field false s.italic i;
    underline = flag_field false s.underline i;
    strikeout = flag_field false s.strikeout i;
    scale_x = size_field (pos 100000) s.scale_x is.scale_x i;
    scale_y = size_field (pos 100000) s.scale_y is.scale_y i;
    spacing = milli_field (pos 0) s.spacing is.spacing i;
    angle = milli_field (pos 0) s.angle is.angle i;
    border_style = border_field 1 s.border_style is.border_style i;
    outline = size_field (pos 2000) s.outline is.outline i;
    shadow = size_field (pos 2000) s.shadow is.shadow i;
    alignment = alignment_field 2 s.alignment is.some_alignment is.alignment i;
    margin_l = margin_field (pos 20) s.margin_l is.margin_l i;
    margin_r = margin_field (pos 20) s.margin_r is.margin_r i;
    margin_v = margin_field (pos 20) s.margin_v is.margin_v i;
  }

  abbrev pieces : List (List ℕ)
  pieces =
      s.font ∷ milli_text s.size
      ∷ colour_text (colour_of_place s 0) ∷ colour_text (colour_of_place s 1) ∷ colour_text (colour_of_place s 2) ∷ colour_text (colour_of_place s 3)
      ∷ flag_text s.bold ∷ flag_text s.italic ∷ flag_text s.underline ∷ flag_text s.strikeout
      ∷ milli_text s.scale_x ∷ milli_text s.scale_y ∷ milli_text s.spacing ∷ milli_text s.angle
      ∷ decimal s.border_style ∷ milli_text s.outline ∷ milli_text s.shadow ∷ decimal s.alignment
      ∷ signed_decimal s.margin_l ∷ signed_decimal s.margin_r ∷ signed_decimal s.margin_v ∷ codes "1" ∷ []

  milli_plain : (z : ℤ) → IsHeldNumber z → All (λ c. is_comma c ≡ false) (milli_text z)
  milli_plain z held = no_comma (milli_text z) (milli_tokens z held)

  colour_plain : (k : ℕ) → k ≤ 3 → All (λ c. is_comma c ≡ false) (colour_text (colour_of_place s k))
  colour_plain k below = no_comma (colour_text (colour_of_place s k)) (colour_tokens (colour_of_place s k) (colour_is k below))

  flag_plain : (b : Bool) → All (λ c. is_comma c ≡ false) (flag_text b)
  flag_plain b = no_comma (flag_text b) (flag_tokens b)

  small_plain : (n : ℕ) → n ≤ 9 → All (λ c. is_comma c ≡ false) (decimal n)
  small_plain n small = no_comma (decimal n) (decimal_tokens n (omega arith))

  margin_plain : (z : ℤ) → IsWithin max_whole z → All (λ c. is_comma c ≡ false) (signed_decimal z)
  margin_plain z within = no_comma (signed_decimal z) (signed_tokens z within)

  border_small : (s.border_style ≡ 1) ⊎ (s.border_style ≡ 3) → s.border_style ≤ 9
  border_small (inl one) = omega (arith, one)
  border_small (inr three) = omega (arith, three)

  last_plain : EachPlain (decimal s.border_style ∷ milli_text s.outline ∷ milli_text s.shadow ∷ decimal s.alignment
      ∷ signed_decimal s.margin_l ∷ signed_decimal s.margin_r ∷ signed_decimal s.margin_v ∷ codes "1" ∷ [])
  last_plain = (
    small_plain s.border_style (border_small is.border_style),
    (
      milli_plain s.outline (length_held s.outline is.outline),
      (
        milli_plain s.shadow (length_held s.shadow is.shadow),
        (
          small_plain s.alignment is.alignment,
          (margin_plain s.margin_l is.margin_l, (margin_plain s.margin_r is.margin_r, (margin_plain s.margin_v is.margin_v, (flag_plain_one, tt)))),
        ),
      ),
    ),
  )
    where
      flag_plain_one : All (λ c. is_comma c ≡ false) (codes "1")
      flag_plain_one = All-cons (λ c. is_comma c ≡ false) 49 [] refl (All-nil (λ c. is_comma c ≡ false))

  all_plain : EachPlain ((32 ∷ s.name) ∷ pieces)
  all_plain = (
    All-cons (λ c. is_comma c ≡ false) 32 s.name refl spelled.name.no_comma,
    (
      spelled.font.no_comma,
      (
        milli_plain s.size (length_held s.size is.size),
        (
          colour_plain 0 (omega arith),
          (
            colour_plain 1 (omega arith),
            (
              colour_plain 2 (omega arith),
              (
                colour_plain 3 (omega arith),
                (
                  flag_plain s.bold,
                  (
                    flag_plain s.italic,
                    (
                      flag_plain s.underline,
                      (
                        flag_plain s.strikeout,
                        (
                          milli_plain s.scale_x (length_held s.scale_x is.scale_x),
                          (milli_plain s.scale_y (length_held s.scale_y is.scale_y), (milli_plain s.spacing is.spacing, (milli_plain s.angle is.angle, last_plain))),
                        ),
                      ),
                    ),
                  ),
                ),
              ),
            ),
          ),
        ),
      ),
    ),
  )

  pub style_read : style_of V4Plus (usual_style_fields V4Plus) (32 ∷ row (style_fields s)) ≡ s
  style_read = ap (λ z. with_fields (usual_style_fields V4Plus) z (bare_style V4Plus)) (row_cut (32 ∷ s.name) pieces all_plain) ∙ fields_read
