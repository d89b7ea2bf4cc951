-- What a tag's functions give is one step for each property.
use Rattle.std.proofs.Common.{◌≡◌, ◌≢◌, ℕ, zero, suc, ◌+◌, ◌<◌, ◌==◌, ℤ, Bool, true, false, cond, List, [], ◌∷◌, length, set, refl, sym, ap, ◌∙◌, subst, Option, None, Some, arith, eq-eqb, get_or-set_other, get_or-set_same}
use Rattle.std.specs.Prelude.{unwrap_or}
use Rattle.std.specs.Option.{option_map}
use Rattle.ass_num.specs.Colours.{colour_of}
use Rattle.ass_num.specs.declared.colour.Rgba.{Rgba}
use Rattle.ass_script.specs.declared.style.Style.{Style}
use Rattle.event_instants.specs.Instants.{moved}
use Rattle.override_tags.specs.declared.tag.GradualTag.TheVariants as gradual
use Rattle.override_tags.specs.declared.tag.Tag.TheVariants as tag
use Rattle.override_tags.specs.declared.view.State.{State}
use Rattle.tag_arguments.specs.declared.kinds.Num.{Num}
use Rattle.tag_arguments.specs.declared.kinds.Num.TheVariants as num
use Rattle.tag_state.specs.Setters.{Plain, Gradual, Sets, Moves, replaced}
use Rattle.tag_state.specs.Properties.{Measure, Size, ScaleX, ScaleY, Spacing, Angle, BorderX, BorderY, ShadowX, ShadowY, Edges, Blur, Offset, number, measure_of, sets_measure, given_number, styled_number, sets_switch, is_on, styled_switch, Switch, Bold, Italic, Underline, Strikeout, switch, switch_of, Channel, Red, Green, Blue, Opacity, byte, byte_in, colour_at, level, has_alpha, moved_byte, colour_setter, alpha_setter}
use Rattle.tag_state.specs.Steps.{after_setter, property_after, IsStepped, set_or_moved, number_after, numbers_after, switch_after, level_after, number_stepped, colour_after, alpha_after, number_effect, colour_effect, alpha_effect}

-- ---- numbers

number_is : (m : Measure) (style : Style) (property : Num) (value : Option ℤ) (weight : Option ℕ) (old : ℤ)
    → number_after m style property value weight old ≡ property_after (number m) style (number_effect weight property value) old
number_is m style property value None old = by (sets_measure m property)
  where
    by : (b : Bool) → cond b (unwrap_or (given_number property value) (styled_number m style)) old ≡ after_setter moved (styled_number m style) old (cond b (Some (Sets (given_number property value))) None)
    by true = refl
    by false = refl
number_is m style property value (Some weight) old = by (sets_measure m property)
  where
    by : (b : Bool) → cond b (moved old (unwrap_or (given_number property value) (styled_number m style)) weight) old ≡ after_setter moved (styled_number m style) old (cond b (Some (Moves weight (given_number property value))) None)
    by true = refl
    by false = refl

numbers_are : (m : Measure) (style : Style) (property : Num) (value : Option ℤ) (weight : Option ℕ) (state : State)
    → measure_of m (numbers_after style property value weight state) ≡ number_after m style property value weight (measure_of m state)
numbers_are Size style property value weight state = refl
numbers_are ScaleX style property value weight state = refl
numbers_are ScaleY style property value weight state = refl
numbers_are Spacing style property value weight state = refl
numbers_are Angle style property value weight state = refl
numbers_are BorderX style property value weight state = refl
numbers_are BorderY style property value weight state = refl
numbers_are ShadowX style property value weight state = refl
numbers_are ShadowY style property value weight state = refl
numbers_are Edges style property value weight state = refl
numbers_are Blur style property value weight state = refl
numbers_are Offset style property value weight state = refl

-- switches and the level are no numbers
numbers_stay : (m : Measure) (style : Style) (property : Num) (value : Option ℤ) (state : State)
    → measure_of m (number_stepped style property value state) ≡ measure_of m (numbers_after style property value None state)
numbers_stay Size style property value state = refl
numbers_stay ScaleX style property value state = refl
numbers_stay ScaleY style property value state = refl
numbers_stay Spacing style property value state = refl
numbers_stay Angle style property value state = refl
numbers_stay BorderX style property value state = refl
numbers_stay BorderY style property value state = refl
numbers_stay ShadowX style property value state = refl
numbers_stay ShadowY style property value state = refl
numbers_stay Edges style property value state = refl
numbers_stay Blur style property value state = refl
numbers_stay Offset style property value state = refl

switch_is : (s : Switch) (style : Style) (property : Num) (value : Option ℤ) (old : Bool) → switch_after s style property value old ≡ property_after (switch s) style (Plain (tag.Number property value)) old
switch_is s style property value old = by (sets_switch s property)
  where
    by : (b : Bool) → cond b (unwrap_or (option_map (is_on s) value) (styled_switch s style)) old ≡ after_setter replaced (styled_switch s style) old (cond b (Some (Sets (option_map (is_on s) value))) None)
    by true = refl
    by false = refl

switches_are : (s : Switch) (style : Style) (property : Num) (value : Option ℤ) (state : State) → switch_of s (number_stepped style property value state) ≡ switch_after s style property value (switch_of s state)
switches_are Bold style property value state = refl
switches_are Italic style property value state = refl
switches_are Underline style property value state = refl
switches_are Strikeout style property value state = refl

level_is : (style : Style) (property : Num) (value : Option ℤ) (old : ℕ) → level_after property value old ≡ property_after level style (Plain (tag.Number property value)) old
level_is style num.Draw value old = refl
level_is style property value old = refl

-- no number sets a byte of a colour
bytes_stay : (c : Channel) (place : ℕ) (style : Style) (weight : Option ℕ) (property : Num) (value : Option ℤ) (old : ℕ) → old ≡ property_after (byte c place) style (number_effect weight property value) old
bytes_stay Opacity place style None property value old = refl
bytes_stay Opacity place style (Some weight) property value old = refl
bytes_stay c place style None property value old = refl
bytes_stay c place style (Some weight) property value old = refl

pub gradual_number_steps : (style : Style) (property : Num) (value : Option ℤ) (weight : ℕ) (old new : State) → new ≡ numbers_after style property value (Some weight) old
    → IsStepped style (Gradual weight (gradual.Number property value)) old new
gradual_number_steps style property value weight old new e =
    let P : State → Type 0 = λ z. IsStepped style (Gradual weight (gradual.Number property value)) old z in
    subst P (sym e) (record {
      font = refl;
      numbers = λ m. numbers_are m style property value (Some weight) old ∙ number_is m style property value (Some weight) (measure_of m old);
      switches = same;
      colours = λ c place four. bytes_stay c place style (Some weight) property value (byte_in c (colour_at old.colours place));
      border_style = refl;
      draw = refl;
      sung = refl;
    })
  where
    same : (s : Switch) → switch_of s (numbers_after style property value (Some weight) old) ≡ switch_of s old
    same Bold = refl
    same Italic = refl
    same Underline = refl
    same Strikeout = refl

pub number_steps : (style : Style) (property : Num) (value : Option ℤ) (old new : State) → new ≡ number_stepped style property value old → IsStepped style (Plain (tag.Number property value)) old new
number_steps style property value old new e =
    let P : State → Type 0 = λ z. IsStepped style (Plain (tag.Number property value)) old z in
    subst P (sym e) (record {
      font = refl;
      numbers = λ m. numbers_stay m style property value old ∙ (numbers_are m style property value None old ∙ number_is m style property value None (measure_of m old));
      switches = λ s. switches_are s style property value old ∙ switch_is s style property value (switch_of s old);
      colours = λ c place four. bytes_stay c place style None property value (byte_in c (colour_at old.colours place));
      border_style = refl;
      draw = level_is style property value old.draw;
      sung = refl;
    })

-- ---- colours

-- no colour sets a number
colour_numbers_stay : (m : Measure) (style : Style) (weight : Option ℕ) (which : ℕ) (value : Option ℕ) (old : ℤ) → old ≡ property_after (number m) style (colour_effect weight which value) old
colour_numbers_stay m style None which value old = refl
colour_numbers_stay m style (Some weight) which value old = refl

colour_switches_stay : (s : Switch) (style : Style) (weight : Option ℕ) (which : ℕ) (value : Option ℕ) (old : Bool) → old ≡ property_after (switch s) style (colour_effect weight which value) old
colour_switches_stay s style None which value old = refl
colour_switches_stay s style (Some weight) which value old = refl

colour_level_stays : (style : Style) (weight : Option ℕ) (which : ℕ) (value : Option ℕ) (old : ℕ) → old ≡ property_after level style (colour_effect weight which value) old
colour_level_stays style None which value old = refl
colour_level_stays style (Some weight) which value old = refl

same_byte : (c : Channel) (value : Option ℕ) (styled : Rgba) → byte_in c (unwrap_or (option_map colour_of value) styled) ≡ unwrap_or (option_map (λ n. byte_in c (colour_of n)) value) (byte_in c styled)
same_byte c None styled = refl
same_byte c (Some n) styled = refl

-- the byte of a colour that a tag sets
set_byte : (c : Channel) (styled : Rgba) (value : Option ℕ) (weight : Option ℕ) (which place old : ℕ) → (which == place + 1) ≡ true
    → set_or_moved moved_byte old (byte_in c (unwrap_or (option_map colour_of value) styled)) weight ≡ after_setter moved_byte (byte_in c styled) old (colour_setter c place (colour_effect weight which value))
set_byte c styled value None which place old here = rw here (same_byte c value styled)
set_byte c styled value (Some weight) which place old here = rw here (ap (λ new. moved_byte old new weight) (same_byte c value styled))

-- and of another one
kept_byte : (c : Channel) (styled : Rgba) (value : Option ℕ) (weight : Option ℕ) (which place old : ℕ) → (which == place + 1) ≡ false
    → old ≡ after_setter moved_byte (byte_in c styled) old (colour_setter c place (colour_effect weight which value))
kept_byte c styled value None which place old other = rw other refl
kept_byte c styled value (Some weight) which place old other = rw other refl

alpha_stays : (styled : Rgba) (value : Option ℕ) (weight : Option ℕ) (which place old : ℕ) → old ≡ after_setter moved_byte styled.a old (alpha_setter place (colour_effect weight which value))
alpha_stays styled value None which place old = refl
alpha_stays styled value (Some weight) which place old = refl

byte_set : (c : Channel) (style : Style) (value : Option ℕ) (weight : Option ℕ) (which place : ℕ) (old : Rgba) → (which == place + 1) ≡ true
    → byte_in c (colour_after style place value weight old) ≡ property_after (byte c place) style (colour_effect weight which value) (byte_in c old)
byte_set Red style value weight which place old here = set_byte Red (colour_at style.colours place) value weight which place old.r here
byte_set Green style value weight which place old here = set_byte Green (colour_at style.colours place) value weight which place old.g here
byte_set Blue style value weight which place old here = set_byte Blue (colour_at style.colours place) value weight which place old.b here
byte_set Opacity style value weight which place old here = alpha_stays (colour_at style.colours place) value weight which place old.a

byte_kept : (c : Channel) (style : Style) (value : Option ℕ) (weight : Option ℕ) (which place : ℕ) (old : Rgba) → (which == place + 1) ≡ false
    → byte_in c old ≡ property_after (byte c place) style (colour_effect weight which value) (byte_in c old)
byte_kept Red style value weight which place old other = kept_byte Red (colour_at style.colours place) value weight which place old.r other
byte_kept Green style value weight which place old other = kept_byte Green (colour_at style.colours place) value weight which place old.g other
byte_kept Blue style value weight which place old other = kept_byte Blue (colour_at style.colours place) value weight which place old.b other
byte_kept Opacity style value weight which place old other = alpha_stays (colour_at style.colours place) value weight which place old.a

-- the colour at a place behind a write
colour_written : (c : Channel) (style : Style) (value : Option ℕ) (weight : Option ℕ) (written place : ℕ) (colours : List Rgba) → written < length colours
    → byte_in c (colour_at (set colours written (colour_after style written value weight (colour_at colours written))) place) ≡ property_after (byte c place) style (colour_effect weight (written + 1) value) (byte_in c (colour_at colours place))
colour_written c style value weight written place colours within = by (place == written) refl
  where
    black : Rgba
    black = record { r = 0; g = 0; b = 0; a = 0 }

    new : Rgba
    new = colour_after style written value weight (colour_at colours written)

    by : (b : Bool) → (place == written) ≡ b → byte_in c (colour_at (set colours written new) place) ≡ property_after (byte c place) style (colour_effect weight (written + 1) value) (byte_in c (colour_at colours place))
    by true same =
        let here : place ≡ written = grind (arith, same) in
        let P : ℕ → Type 0 = λ z. byte_in c (colour_at (set colours written new) z) ≡ property_after (byte c z) style (colour_effect weight (written + 1) value) (byte_in c (colour_at colours z)) in
        subst P (sym here) (ap (byte_in c) (get_or-set_same colours written new black within) ∙ byte_set c style value weight (written + 1) written (colour_at colours written) (eq-eqb (written + 1) (written + 1) refl))
    by false differs =
        let there : place ≢ written = grind (arith, differs) in
        let other : (written + 1 == place + 1) ≡ false = grind (arith, there) in
        ap (byte_in c) (get_or-set_other colours written place new black there) ∙ byte_kept c style value weight (written + 1) place (colour_at colours place) other

-- A colour's number is one more than its place.
pub colour_steps : (style : Style) (which written : ℕ) (value : Option ℕ) (weight : Option ℕ) (old new : State) → which ≡ written + 1 → written < length old.colours
    → new ≡ record old { colours = set old.colours written (colour_after style written value weight (colour_at old.colours written)) }
    → IsStepped style (colour_effect weight which value) old new
colour_steps style which written value weight old new named within e =
    let P : State → Type 0 = λ z. IsStepped style (colour_effect weight (written + 1) value) old z in
    let Q : ℕ → Type 0 = λ z. IsStepped style (colour_effect weight z value) old new in
    subst Q (sym named) (subst P (sym e) (record {
      font = refl;
      numbers = same;
      switches = kept;
      colours = λ c place four. colour_written c style value weight written place old.colours within;
      border_style = refl;
      draw = colour_level_stays style weight (written + 1) value old.draw;
      sung = refl;
    }))
  where
    after_write : State
    after_write = record old { colours = set old.colours written (colour_after style written value weight (colour_at old.colours written)) }

    same : (m : Measure) → measure_of m after_write ≡ property_after (number m) style (colour_effect weight (written + 1) value) (measure_of m old)
    same Size = colour_numbers_stay Size style weight (written + 1) value old.size
    same ScaleX = colour_numbers_stay ScaleX style weight (written + 1) value old.scale_x
    same ScaleY = colour_numbers_stay ScaleY style weight (written + 1) value old.scale_y
    same Spacing = colour_numbers_stay Spacing style weight (written + 1) value old.spacing
    same Angle = colour_numbers_stay Angle style weight (written + 1) value old.angle
    same BorderX = colour_numbers_stay BorderX style weight (written + 1) value old.border_x
    same BorderY = colour_numbers_stay BorderY style weight (written + 1) value old.border_y
    same ShadowX = colour_numbers_stay ShadowX style weight (written + 1) value old.shadow_x
    same ShadowY = colour_numbers_stay ShadowY style weight (written + 1) value old.shadow_y
    same Edges = colour_numbers_stay Edges style weight (written + 1) value old.edges
    same Blur = colour_numbers_stay Blur style weight (written + 1) value old.blur
    same Offset = colour_numbers_stay Offset style weight (written + 1) value old.offset

    kept : (s : Switch) → switch_of s after_write ≡ property_after (switch s) style (colour_effect weight (written + 1) value) (switch_of s old)
    kept Bold = colour_switches_stay Bold style weight (written + 1) value old.bold
    kept Italic = colour_switches_stay Italic style weight (written + 1) value old.italic
    kept Underline = colour_switches_stay Underline style weight (written + 1) value old.underline
    kept Strikeout = colour_switches_stay Strikeout style weight (written + 1) value old.strikeout

-- ---- alphas

alpha_numbers_stay : (m : Measure) (style : Style) (weight : Option ℕ) (which : ℕ) (value : Option ℕ) (old : ℤ) → old ≡ property_after (number m) style (alpha_effect weight which value) old
alpha_numbers_stay m style None which value old = refl
alpha_numbers_stay m style (Some weight) which value old = refl

alpha_switches_stay : (s : Switch) (style : Style) (weight : Option ℕ) (which : ℕ) (value : Option ℕ) (old : Bool) → old ≡ property_after (switch s) style (alpha_effect weight which value) old
alpha_switches_stay s style None which value old = refl
alpha_switches_stay s style (Some weight) which value old = refl

alpha_level_stays : (style : Style) (weight : Option ℕ) (which : ℕ) (value : Option ℕ) (old : ℕ) → old ≡ property_after level style (alpha_effect weight which value) old
alpha_level_stays style None which value old = refl
alpha_level_stays style (Some weight) which value old = refl

-- an alpha sets no other byte
hue_stays : (c : Channel) (styled : Rgba) (weight : Option ℕ) (which place : ℕ) (value : Option ℕ) (old : ℕ) → old ≡ after_setter moved_byte (byte_in c styled) old (colour_setter c place (alpha_effect weight which value))
hue_stays c styled None which place value old = refl
hue_stays c styled (Some weight) which place value old = refl

alpha_byte : (c : Channel) (style : Style) (weight : Option ℕ) (which place : ℕ) (value : Option ℕ) (old : Rgba)
    → byte_in c (alpha_after style place which value weight old) ≡ property_after (byte c place) style (alpha_effect weight which value) (byte_in c old)
alpha_byte Red style weight which place value old = red (has_alpha which place) ∙ hue_stays Red (colour_at style.colours place) weight which place value old.r
  where
    red : (b : Bool) → (cond b (record old { a = set_or_moved moved_byte old.a (unwrap_or value (colour_at style.colours place).a) weight }) old).r ≡ old.r
    red true = refl
    red false = refl
alpha_byte Green style weight which place value old = green (has_alpha which place) ∙ hue_stays Green (colour_at style.colours place) weight which place value old.g
  where
    green : (b : Bool) → (cond b (record old { a = set_or_moved moved_byte old.a (unwrap_or value (colour_at style.colours place).a) weight }) old).g ≡ old.g
    green true = refl
    green false = refl
alpha_byte Blue style weight which place value old = blue (has_alpha which place) ∙ hue_stays Blue (colour_at style.colours place) weight which place value old.b
  where
    blue : (b : Bool) → (cond b (record old { a = set_or_moved moved_byte old.a (unwrap_or value (colour_at style.colours place).a) weight }) old).b ≡ old.b
    blue true = refl
    blue false = refl
alpha_byte Opacity style None which place value old = by (has_alpha which place)
  where
    by : (b : Bool) → (cond b (record old { a = unwrap_or value (colour_at style.colours place).a }) old).a ≡ after_setter moved_byte (colour_at style.colours place).a old.a (cond b (Some (Sets value)) None)
    by true = refl
    by false = refl
alpha_byte Opacity style (Some weight) which place value old = by (has_alpha which place)
  where
    by : (b : Bool) → (cond b (record old { a = moved_byte old.a (unwrap_or value (colour_at style.colours place).a) weight }) old).a ≡ after_setter moved_byte (colour_at style.colours place).a old.a (cond b (Some (Moves weight value)) None)
    by true = refl
    by false = refl

-- the four colours behind an alpha
abbrev pub alphas_after : Style → ℕ → Option ℕ → Option ℕ → List Rgba → List Rgba
alphas_after style which value weight old =
    alpha_after style 0 which value weight (colour_at old 0) ∷ (alpha_after style 1 which value weight (colour_at old 1)
    ∷ (alpha_after style 2 which value weight (colour_at old 2) ∷ (alpha_after style 3 which value weight (colour_at old 3) ∷ [])))

alphas_are : (c : Channel) (style : Style) (weight : Option ℕ) (which : ℕ) (value : Option ℕ) (old : List Rgba) (place : ℕ) → place < 4
    → byte_in c (colour_at (alphas_after style which value weight old) place) ≡ property_after (byte c place) style (alpha_effect weight which value) (byte_in c (colour_at old place))
alphas_are c style weight which value old zero four = alpha_byte c style weight which 0 value (colour_at old 0)
alphas_are c style weight which value old (suc zero) four = alpha_byte c style weight which 1 value (colour_at old 1)
alphas_are c style weight which value old (suc (suc zero)) four = alpha_byte c style weight which 2 value (colour_at old 2)
alphas_are c style weight which value old (suc (suc (suc zero))) four = alpha_byte c style weight which 3 value (colour_at old 3)
alphas_are c style weight which value old (suc (suc (suc (suc place)))) four = absurd (omega arith)

pub alpha_steps : (style : Style) (which : ℕ) (value : Option ℕ) (weight : Option ℕ) (old new : State)
    → new ≡ record old { colours = alphas_after style which value weight old.colours }
    → IsStepped style (alpha_effect weight which value) old new
alpha_steps style which value weight old new e =
    let P : State → Type 0 = λ z. IsStepped style (alpha_effect weight which value) old z in
    subst P (sym e) (record {
      font = refl;
      numbers = same;
      switches = kept;
      colours = λ c place four. alphas_are c style weight which value old.colours place four;
      border_style = refl;
      draw = alpha_level_stays style weight which value old.draw;
      sung = refl;
    })
  where
    behind : State
    behind = record old { colours = alphas_after style which value weight old.colours }

    same : (m : Measure) → measure_of m behind ≡ property_after (number m) style (alpha_effect weight which value) (measure_of m old)
    same Size = alpha_numbers_stay Size style weight which value old.size
    same ScaleX = alpha_numbers_stay ScaleX style weight which value old.scale_x
    same ScaleY = alpha_numbers_stay ScaleY style weight which value old.scale_y
    same Spacing = alpha_numbers_stay Spacing style weight which value old.spacing
    same Angle = alpha_numbers_stay Angle style weight which value old.angle
    same BorderX = alpha_numbers_stay BorderX style weight which value old.border_x
    same BorderY = alpha_numbers_stay BorderY style weight which value old.border_y
    same ShadowX = alpha_numbers_stay ShadowX style weight which value old.shadow_x
    same ShadowY = alpha_numbers_stay ShadowY style weight which value old.shadow_y
    same Edges = alpha_numbers_stay Edges style weight which value old.edges
    same Blur = alpha_numbers_stay Blur style weight which value old.blur
    same Offset = alpha_numbers_stay Offset style weight which value old.offset

    kept : (s : Switch) → switch_of s behind ≡ property_after (switch s) style (alpha_effect weight which value) (switch_of s old)
    kept Bold = alpha_switches_stay Bold style weight which value old.bold
    kept Italic = alpha_switches_stay Italic style weight which value old.italic
    kept Underline = alpha_switches_stay Underline style weight which value old.underline
    kept Strikeout = alpha_switches_stay Strikeout style weight which value old.strikeout
