-- The walk over the lines as a whole: one step a line.
use Rattle.std.proofs.Common.{◌≡◌, ℕ, suc, ◌+◌, Bool, true, false, cond, ◌||◌, List, [], ◌∷◌, ◌++◌, take, Result, Ok, Err, Some, refl, sym, ap, ◌∙◌, subst, append_assoc, arith}
use Rattle.std.specs.Prelude.{not}
use Rattle.std.specs.List.{prefix_len, before_first, concat}
use Rattle.std.specs.Option.{option_map_or}
use Rattle.std.proofs.lemmas.List.{append-nil}
use Rattle.script_fonts.specs.Attachments.{UnlessMemory, is_data, begins_section, begins_fonts, begins_font, ends_font, file_name_in, attached, first_bad_line, font_of_characters, font_before, attached_fonts}
use Rattle.script_fonts.specs.Steps.{closed, with_font, next_place, section_place, opened, with_data, is_elsewhere, data_step, fonts_step, line_step, no_lines_read}
use Rattle.script_fonts.specs.declared.font.ScriptFont.{ScriptFont}
use Rattle.script_fonts.specs.declared.refusal.ScriptFontsRefusal.{ScriptFontsRefusal}
use Rattle.script_fonts.specs.declared.refusal.ScriptFontsRefusal.TheVariants.{BadCharacter, BadLength, OutOfMemory}
use Rattle.script_fonts.specs.declared.reading.OpenFont.{OpenFont}
use Rattle.script_fonts.specs.declared.reading.Place.{Place}
use Rattle.script_fonts.specs.declared.reading.Place.TheVariants.{Elsewhere, Fonts, Font}
use Rattle.script_fonts.specs.declared.reading.Reading.{Reading}

abbrev Answer : Type 0
Answer = Result (List ScriptFont) ScriptFontsRefusal

abbrev onto : List ScriptFont → Answer → Answer
onto fonts (Ok more) = Ok (fonts ++ more)
onto fonts (Err refusal) = Err refusal

-- the font whose data go on with these lines
abbrev font_left : OpenFont → ℕ → List (List ℕ) → Result ScriptFont ScriptFontsRefusal
font_left begun n data_lines = option_map_or (λ m. Err (BadCharacter m)) (first_bad_line n data_lines) (font_of_characters begun.name begun.line (begun.characters ++ concat data_lines))

-- the fonts that are still to come
abbrev left : Place → ℕ → List (List ℕ) → Answer
left (Font begun) n lines = font_before (font_left begun n (before_first ends_font lines)) (attached_fonts (attached true n lines))
left Fonts n lines = attached_fonts (attached true n lines)
left Elsewhere n lines = attached_fonts (attached false n lines)

-- what the rest of the lines leads to
unfoldable pub answer_from : Reading → List (List ℕ) → Answer
answer_from r lines = onto r.fonts (left r.place r.number lines)

abbrev after : List (List ℕ) → Result Reading ScriptFontsRefusal → Answer
after lines (Ok next) = answer_from next lines
after lines (Err refusal) = Err refusal

first_stops : {X : Type 0} (p : X → Bool) (x : X) (xs : List X) → p x ≡ true → before_first p (x ∷ xs) ≡ []
first_stops p x xs e = ap (λ b. take (cond (not b) (1 + prefix_len (λ y. not (p y)) xs) 0) (x ∷ xs)) e

first_goes : {X : Type 0} (p : X → Bool) (x : X) (xs : List X) → p x ≡ false → before_first p (x ∷ xs) ≡ x ∷ before_first p xs
first_goes p x xs e =
    let next : 1 + prefix_len (λ y. not (p y)) xs ≡ suc (prefix_len (λ y. not (p y)) xs) = omega arith in
    ap (λ b. take (cond (not b) (1 + prefix_len (λ y. not (p y)) xs) 0) (x ∷ xs)) e ∙ ap (λ (n : ℕ). take n (x ∷ xs)) next

onto_one : (fonts : List ScriptFont) (font : ScriptFont) (more : Answer) → onto fonts (font_before (Ok font) more) ≡ onto (fonts ++ font ∷ []) more
onto_one fonts font (Ok more) = ap Ok (sym (append_assoc fonts (font ∷ []) more))
onto_one fonts font (Err refusal) = refl

onto_none : (more : Answer) → onto [] more ≡ more
onto_none (Ok more) = refl
onto_none (Err refusal) = refl

-- where no more data come
abbrev shut : Place → Answer → Answer
shut (Font begun) more = font_before (font_of_characters begun.name begun.line begun.characters) more
shut Fonts more = more
shut Elsewhere more = more

no_data : (begun : OpenFont) (n : ℕ) → font_left begun n [] ≡ font_of_characters begun.name begun.line begun.characters
no_data begun n = ap (font_of_characters begun.name begun.line) (append-nil begun.characters)

module _ (fonts : List ScriptFont) (n : ℕ) (line : List ℕ) (lines : List (List ℕ)) where
  shuts : (before then : Place) → onto fonts (shut before (left then (n + 1) lines)) ≡ after lines (next_place then n (closed before fonts))
  unfolding answer_from
  shuts (Font begun) then = cases (font_of_characters begun.name begun.line begun.characters)
    where
      cases : (made : Result ScriptFont ScriptFontsRefusal) → onto fonts (font_before made (left then (n + 1) lines)) ≡ after lines (next_place then n (with_font fonts made))
      cases (Ok font) = onto_one fonts font (left then (n + 1) lines)
      cases (Err refusal) = refl
  shuts Fonts then = refl
  shuts Elsewhere then = refl

  -- a line at which data end
  ends_here : ends_font line ≡ true → (place : Place) (more : Answer) → ((here : Bool) → attached_fonts (attached here n (line ∷ lines)) ≡ more) → left place n (line ∷ lines) ≡ shut place more
  ends_here e (Font begun) more rest =
      ap (λ ls. font_before (font_left begun n ls) (attached_fonts (attached true n (line ∷ lines)))) (first_stops ends_font line lines e)
      ∙ (ap (λ f. font_before f (attached_fonts (attached true n (line ∷ lines)))) (no_data begun n)
      ∙ ap (font_before (font_of_characters begun.name begun.line begun.characters)) (rest true))
  ends_here e Fonts more rest = rest true
  ends_here e Elsewhere more rest = rest false

  section_step : begins_section line ≡ true → (place : Place) → onto fonts (left place n (line ∷ lines)) ≡ after lines (next_place (section_place (begins_fonts line)) n (closed place fonts))
  section_step e place =
      ap (onto fonts) (ends_here (ap (λ b. b || begins_font line) e) place (left (section_place (begins_fonts line)) (n + 1) lines) rest)
      ∙ shuts place (section_place (begins_fonts line))
    where
      where_to : (b : Bool) → attached_fonts (attached b (n + 1) lines) ≡ left (section_place b) (n + 1) lines
      where_to true = refl
      where_to false = refl

      rest : (here : Bool) → attached_fonts (attached here n (line ∷ lines)) ≡ left (section_place (begins_fonts line)) (n + 1) lines
      rest here = rw e (where_to (begins_fonts line))

  -- a line that begins a font
  abbrev then_font : Place
  then_font = Font (opened (file_name_in line) n)

  font_rest : begins_section line ≡ false → begins_font line ≡ true → attached_fonts (attached true n (line ∷ lines)) ≡ left then_font (n + 1) lines
  font_rest s e = rw (s, e)

  font_step : begins_section line ≡ false → begins_font line ≡ true → (place : Place) → is_elsewhere place ≡ false →
      onto fonts (left place n (line ∷ lines)) ≡ after lines (next_place then_font n (closed place fonts))
  font_step s e (Font begun) here =
      ap (λ ls. onto fonts (font_before (font_left begun n ls) (attached_fonts (attached true n (line ∷ lines))))) (first_stops ends_font line lines (ends e))
      ∙ (ap (λ f. onto fonts (font_before f (attached_fonts (attached true n (line ∷ lines))))) (no_data begun n)
      ∙ (ap (λ more. onto fonts (font_before (font_of_characters begun.name begun.line begun.characters) more)) (font_rest s e)
      ∙ shuts (Font begun) then_font))
    where
      ends : begins_font line ≡ true → ends_font line ≡ true
      ends e = ap (λ b. b || begins_font line) s ∙ e
  font_step s e Fonts here = ap (onto fonts) (font_rest s e) ∙ shuts Fonts then_font
  font_step s e Elsewhere here = cc

  -- any other line
  no_font_rest : begins_section line ≡ false → begins_font line ≡ false → (here : Bool) → attached_fonts (attached here n (line ∷ lines)) ≡ attached_fonts (attached here (n + 1) lines)
  no_font_rest s e true = rw (s, e)
  no_font_rest s e false = rw s

  more_data : (begun : OpenFont) → is_data line ≡ true → (data_lines : List (List ℕ)) → font_left begun n (line ∷ data_lines) ≡ font_left (with_data line begun) (n + 1) data_lines
  more_data begun d data_lines =
      ap (λ b. option_map_or (λ m. Err (BadCharacter m)) (cond b (first_bad_line (n + 1) data_lines) (Some n)) (font_of_characters begun.name begun.line (begun.characters ++ (line ++ concat data_lines)))) d
      ∙ ap (λ characters. option_map_or (λ m. Err (BadCharacter m)) (first_bad_line (n + 1) data_lines) (font_of_characters begun.name begun.line characters)) (sym (append_assoc begun.characters line (concat data_lines)))

  bad_data : (begun : OpenFont) → is_data line ≡ false → (data_lines : List (List ℕ)) → font_left begun n (line ∷ data_lines) ≡ Err (BadCharacter n)
  bad_data begun d data_lines =
      ap (λ b. option_map_or (λ m. Err (BadCharacter m)) (cond b (first_bad_line (n + 1) data_lines) (Some n)) (font_of_characters begun.name begun.line (begun.characters ++ (line ++ concat data_lines)))) d

  font_goes : begins_section line ≡ false → begins_font line ≡ false → (begun : OpenFont) →
      left (Font begun) n (line ∷ lines) ≡ font_before (font_left begun n (line ∷ before_first ends_font lines)) (attached_fonts (attached true (n + 1) lines))
  font_goes s e begun =
      ap (λ ls. font_before (font_left begun n ls) (attached_fonts (attached true n (line ∷ lines)))) (first_goes ends_font line lines (ap (λ b. b || begins_font line) s ∙ e))
      ∙ ap (font_before (font_left begun n (line ∷ before_first ends_font lines))) (no_font_rest s e true)

  other_step : begins_section line ≡ false → begins_font line ≡ false → (place : Place) →
      onto fonts (left place n (line ∷ lines)) ≡ after lines (data_step line n fonts place)
  unfolding answer_from
  other_step s e (Font begun) = cases (is_data line) refl
    where
      cases : (b : Bool) → is_data line ≡ b → onto fonts (left (Font begun) n (line ∷ lines)) ≡ after lines (data_step line n fonts (Font begun))
      cases true d =
          ap (onto fonts) (font_goes s e begun ∙ ap (λ f. font_before f (attached_fonts (attached true (n + 1) lines))) (more_data begun d (before_first ends_font lines)))
          ∙ sym (ap (λ b. after lines (cond b (Ok (record { fonts = fonts; place = Font (with_data line begun); number = n + 1 })) (Err (BadCharacter n)))) d)
      cases false d =
          ap (onto fonts) (font_goes s e begun ∙ ap (λ f. font_before f (attached_fonts (attached true (n + 1) lines))) (bad_data begun d (before_first ends_font lines)))
          ∙ sym (ap (λ b. after lines (cond b (Ok (record { fonts = fonts; place = Font (with_data line begun); number = n + 1 })) (Err (BadCharacter n)))) d)
  other_step s e Fonts = ap (onto fonts) (no_font_rest s e true)
  other_step s e Elsewhere = ap (onto fonts) (no_font_rest s e false)

  -- a line that is no heading, elsewhere
  elsewhere_step : begins_section line ≡ false → attached_fonts (attached false n (line ∷ lines)) ≡ attached_fonts (attached false (n + 1) lines)
  elsewhere_step s = rw s

  step : (place : Place) → onto fonts (left place n (line ∷ lines)) ≡ after lines (line_step line (record { fonts = fonts; place = place; number = n }))
  unfolding answer_from
  step place = heading (begins_section line) refl
    where
      font : begins_section line ≡ false → (b : Bool) → begins_font line ≡ b → (place : Place) → is_elsewhere place ≡ false →
          onto fonts (left place n (line ∷ lines)) ≡ after lines (fonts_step line (record { fonts = fonts; place = place; number = n }))
      font s true e place here = font_step s e place here ∙ sym (ap (λ b. after lines (cond b (next_place then_font n (closed place fonts)) (data_step line n fonts place))) e)
      font s false e place here = other_step s e place ∙ sym (ap (λ b. after lines (cond b (next_place then_font n (closed place fonts)) (data_step line n fonts place))) e)

      fonts_or_elsewhere : begins_section line ≡ false → (place : Place) →
          onto fonts (left place n (line ∷ lines)) ≡ after lines (cond (is_elsewhere place) (Ok (record { fonts = fonts; place = place; number = n + 1 })) (fonts_step line (record { fonts = fonts; place = place; number = n })))
      fonts_or_elsewhere s (Font begun) = font s (begins_font line) refl (Font begun) refl
      fonts_or_elsewhere s Fonts = font s (begins_font line) refl Fonts refl
      fonts_or_elsewhere s Elsewhere = ap (onto fonts) (elsewhere_step s)

      heading : (b : Bool) → begins_section line ≡ b → onto fonts (left place n (line ∷ lines)) ≡ after lines (line_step line (record { fonts = fonts; place = place; number = n }))
      heading true s = section_step s place ∙ sym (rw s)
      heading false s = fonts_or_elsewhere s place ∙ sym (rw s)

pub read_line : (line : List ℕ) (lines : List (List ℕ)) (r : Reading) → answer_from r (line ∷ lines) ≡ after lines (line_step line r)
unfolding answer_from
read_line line lines r = step r.fonts r.number line lines r.place

-- the walk goes on
pub read_on : (line : List ℕ) (lines : List (List ℕ)) (r next : Reading) → line_step line r ≡ Ok next → answer_from r (line ∷ lines) ≡ answer_from next lines
read_on line lines r next e = read_line line lines r ∙ ap (after lines) e

-- the walk stops
pub read_stops : (line : List ℕ) (lines : List (List ℕ)) (r : Reading) (wanted : Answer) (refusal : ScriptFontsRefusal) →
    answer_from r (line ∷ lines) ≡ wanted → UnlessMemory (line_step line r) (Err refusal) → UnlessMemory wanted (Err refusal)
read_stops line lines r wanted (BadCharacter m) e stop = sym e ∙ (read_line line lines r ∙ ap (after lines) stop)
read_stops line lines r wanted (BadLength m) e stop = sym e ∙ (read_line line lines r ∙ ap (after lines) stop)
read_stops line lines r wanted OutOfMemory e stop = tt

-- the walk ends
pub read_end : (r : Reading) → answer_from r [] ≡ closed r.place r.fonts
unfolding answer_from
read_end r = ends r.place
  where
    one : (begun : OpenFont) (made : Result ScriptFont ScriptFontsRefusal) → onto r.fonts (font_before made (Ok [])) ≡ with_font r.fonts made
    one begun (Ok font) = refl
    one begun (Err refusal) = refl

    ends : (place : Place) → onto r.fonts (left place r.number []) ≡ closed place r.fonts
    ends (Font begun) = ap (λ f. onto r.fonts (font_before f (Ok []))) (no_data begun r.number) ∙ one begun (font_of_characters begun.name begun.line begun.characters)
    ends Fonts = ap Ok (append-nil r.fonts)
    ends Elsewhere = ap Ok (append-nil r.fonts)

-- the walk begins
pub read_begins : (lines : List (List ℕ)) → answer_from no_lines_read lines ≡ attached_fonts (attached false 1 lines)
unfolding answer_from
read_begins lines = onto_none (attached_fonts (attached false 1 lines))

-- ---- numbers

abbrev Counted : ℕ → Result Reading ScriptFontsRefusal → Type 0
Counted n (Ok next) = next.number ≡ n + 1
Counted n (Err refusal) = Unit {0}

either_counted : (n : ℕ) (b : Bool) (one other : Result Reading ScriptFontsRefusal) → Counted n one → Counted n other → Counted n (cond b one other)
either_counted n true one other h k = h
either_counted n false one other h k = k

next_counted : (place : Place) (n : ℕ) (fonts : Answer) → Counted n (next_place place n fonts)
next_counted place n (Ok fonts) = refl
next_counted place n (Err refusal) = tt

data_counted : (line : List ℕ) (n : ℕ) (fonts : List ScriptFont) (place : Place) → Counted n (data_step line n fonts place)
data_counted line n fonts (Font begun) =
    either_counted n (is_data line) (Ok (record { fonts = fonts; place = Font (with_data line begun); number = n + 1 })) (Err (BadCharacter n)) refl tt
data_counted line n fonts Fonts = refl
data_counted line n fonts Elsewhere = refl

line_counted : (line : List ℕ) (r : Reading) → Counted r.number (line_step line r)
line_counted line r =
    either_counted r.number (begins_section line) _ _ (next_counted (section_place (begins_fonts line)) r.number (closed r.place r.fonts))
    (either_counted r.number (is_elsewhere r.place) _ _ refl
    (either_counted r.number (begins_font line) _ _ (next_counted (Font (opened (file_name_in line) r.number)) r.number (closed r.place r.fonts)) (data_counted line r.number r.fonts r.place)))

pub number_after : (line : List ℕ) (r next : Reading) → line_step line r ≡ Ok next → next.number ≡ r.number + 1
number_after line r next e = subst (Counted r.number) e (line_counted line r)
