-- Colours are read as they were written.
use Rattle.std.proofs.Common.{◌≡◌, ℕ, ◌+◌, ◌*◌, ◌/◌, ◌%◌, ◌<◌, Bool, true, false, cond, ltb, [], ◌∷◌, ◌++◌, drop, Some, refl, ap, ◌∙◌, arith}
use Rattle.std.specs.Char.{digit_value}
use Rattle.std.specs.List.{prefix_len}
use Rattle.std.proofs.Math.Nat.{mod-eq_of_lt}
use Rattle.std.proofs.lemmas.Bool.Decides.{nat_tests}
use Rattle.ass_num.specs.Colours.{colour_of}
use Rattle.ass_num.specs.Numerals.{is_hexadecimal, is_mark, number_of}
use Rattle.ass_num.specs.declared.colour.Rgba.{Rgba}
use Rattle.ass_num.proofs.Runs.{hexadecimal_no_mark}
use Rattle.ass_script.specs.Numbers.{hex_colour_in, hex_colour_from, style_colour_of}
use Rattle.track_write.specs.Ranges.{IsByteColour}
use Rattle.track_write.specs.Spelling.{hex_digit, byte_text, colour_text}

hex_passes : (d : ℕ) → d < 16 → is_hexadecimal (hex_digit d) ≡ true
hex_passes d below = cases (ltb d 10) refl
  where
    cases : (b : Bool) → ltb d 10 ≡ b → is_hexadecimal (cond b (48 + d) (55 + d)) ≡ true
    cases true e = grind (arith, nat_tests)
    cases false e = grind (arith, nat_tests)

hex_says : (d : ℕ) → d < 16 → digit_value (hex_digit d) ≡ d
hex_says d below = cases (ltb d 10) refl
  where
    cases : (b : Bool) → ltb d 10 ≡ b → digit_value (cond b (48 + d) (55 + d)) ≡ d
    cases true e = grind (arith, nat_tests)
    cases false e = grind (arith, nat_tests)

-- the number of a colour
pub number_of_colour : Rgba → ℕ
number_of_colour c = ((c.a * 256 + c.b) * 256 + c.g) * 256 + c.r

pub colour_back : (c : Rgba) → IsByteColour c → colour_of (number_of_colour c) ≡ c
unfolding number_of_colour
colour_back c is = λ i. record {
  r = low c.a c.b c.g c.r is.a is.b is.g is.r i;
  g = green c.a c.b c.g c.r is.a is.b is.g is.r i;
  b = blue c.a c.b c.g c.r is.a is.b is.g is.r i;
  a = alpha c.a c.b c.g c.r is.a is.b is.g is.r i;
}
  where
    low : (a b g r : ℕ) → a < 256 → b < 256 → g < 256 → r < 256 → (((a * 256 + b) * 256 + g) * 256 + r) % 256 ≡ r
    low a b g r ha hb hg hr = omega arith

    green : (a b g r : ℕ) → a < 256 → b < 256 → g < 256 → r < 256 → (((a * 256 + b) * 256 + g) * 256 + r) / 256 % 256 ≡ g
    green a b g r ha hb hg hr = omega arith

    blue : (a b g r : ℕ) → a < 256 → b < 256 → g < 256 → r < 256 → (((a * 256 + b) * 256 + g) * 256 + r) / 65536 % 256 ≡ b
    blue a b g r ha hb hg hr = omega arith

    alpha : (a b g r : ℕ) → a < 256 → b < 256 → g < 256 → r < 256 → (((a * 256 + b) * 256 + g) * 256 + r) / 16777216 % 256 ≡ a
    alpha a b g r ha hb hg hr = omega arith

-- eight digits
eight_pass : (p : ℕ → Bool) (a b c d e f g h : ℕ) → p a ≡ true → p b ≡ true → p c ≡ true → p d ≡ true → p e ≡ true → p f ≡ true → p g ≡ true → p h ≡ true →
    prefix_len p (a ∷ b ∷ c ∷ d ∷ e ∷ f ∷ g ∷ h ∷ []) ≡ 8
eight_pass p a b c d e f g h pa pb pc pd pe pf pg ph =
    ap (λ z. cond z (1 + prefix_len p (b ∷ c ∷ d ∷ e ∷ f ∷ g ∷ h ∷ [])) 0) pa
    ∙ ap (λ z. 1 + cond z (1 + prefix_len p (c ∷ d ∷ e ∷ f ∷ g ∷ h ∷ [])) 0) pb
    ∙ ap (λ z. 1 + (1 + cond z (1 + prefix_len p (d ∷ e ∷ f ∷ g ∷ h ∷ [])) 0)) pc
    ∙ ap (λ z. 1 + (1 + (1 + cond z (1 + prefix_len p (e ∷ f ∷ g ∷ h ∷ [])) 0))) pd
    ∙ ap (λ z. 1 + (1 + (1 + (1 + cond z (1 + prefix_len p (f ∷ g ∷ h ∷ [])) 0)))) pe
    ∙ ap (λ z. 1 + (1 + (1 + (1 + (1 + cond z (1 + prefix_len p (g ∷ h ∷ [])) 0))))) pf
    ∙ ap (λ z. 1 + (1 + (1 + (1 + (1 + (1 + cond z (1 + prefix_len p (h ∷ [])) 0)))))) pg
    ∙ ap (λ z. 1 + (1 + (1 + (1 + (1 + (1 + (1 + cond z (1 + 0) 0))))))) ph

-- the number of eight digits in base 16
eight_say : (a b g r : ℕ) → a < 256 → b < 256 → g < 256 → r < 256 →
    number_of 16 (hex_digit (a / 16) ∷ hex_digit (a % 16) ∷ hex_digit (b / 16) ∷ hex_digit (b % 16) ∷ hex_digit (g / 16) ∷ hex_digit (g % 16) ∷ hex_digit (r / 16) ∷ hex_digit (r % 16) ∷ [])
    ≡ ((a * 256 + b) * 256 + g) * 256 + r
eight_say a b g r ha hb hg hr =
    let a1 = hex_says (a / 16) (omega arith) in
    let a0 = hex_says (a % 16) (omega arith) in
    let b1 = hex_says (b / 16) (omega arith) in
    let b0 = hex_says (b % 16) (omega arith) in
    let g1 = hex_says (g / 16) (omega arith) in
    let g0 = hex_says (g % 16) (omega arith) in
    let r1 = hex_says (r / 16) (omega arith) in
    let r0 = hex_says (r % 16) (omega arith) in
    omega (arith, a1, a0, b1, b0, g1, g0, r1, r0)

pub colour_read : (c : Rgba) → IsByteColour c → style_colour_of (colour_text c) ≡ Some (number_of_colour c)
unfolding style_colour_of number_of_colour
colour_read c is =
    let pass : (n : ℕ) → n < 16 → is_hexadecimal (hex_digit n) ≡ true = hex_passes in
    let marks : prefix_len is_mark (colour_text c) ≡ 2 =
    ap (λ b. 1 + (1 + cond b (1 + prefix_len is_mark (hex_digit (c.a % 16) ∷ byte_text c.b ++ byte_text c.g ++ byte_text c.r)) 0)) (hexadecimal_no_mark (hex_digit (c.a / 16)) (pass (c.a / 16) (omega (arith, is.a)))) in
    let digits : prefix_len is_hexadecimal (drop 2 (colour_text c)) ≡ 8 =
    eight_pass is_hexadecimal (hex_digit (c.a / 16)) (hex_digit (c.a % 16)) (hex_digit (c.b / 16)) (hex_digit (c.b % 16)) (hex_digit (c.g / 16)) (hex_digit (c.g % 16)) (hex_digit (c.r / 16)) (hex_digit (c.r % 16))
    (pass (c.a / 16) (omega (arith, is.a))) (pass (c.a % 16) (omega arith)) (pass (c.b / 16) (omega (arith, is.b))) (pass (c.b % 16) (omega arith))
    (pass (c.g / 16) (omega (arith, is.g))) (pass (c.g % 16) (omega arith)) (pass (c.r / 16) (omega (arith, is.r))) (pass (c.r % 16) (omega arith)) in
    ap (hex_colour_from (colour_text c)) marks
    ∙ ap (hex_colour_in (colour_text c) 2) digits
    ∙ ap (λ n. Some (n % 4294967296)) (eight_say c.a c.b c.g c.r is.a is.b is.g is.r)
    ∙ ap Some (mod-eq_of_lt (omega (arith, is.a, is.b, is.g, is.r)))
