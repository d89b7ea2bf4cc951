-- Bytes that are written are read back.
use Rattle.std.proofs.Common.{◌≡◌, ◌≢◌, ℕ, suc, ◌+◌, ◌-◌, ◌*◌, ◌/◌, ◌%◌, ◌<◌, Bool, true, ◌&&◌, leb, List, [], ◌∷◌, length, refl, sym, ap, ◌∙◌, arith}
use Rattle.std.specs.Prelude.{All}
use Rattle.std.proofs.lemmas.Bool.Decides.{nat_tests}
use Rattle.std.proofs.lemmas.List.Elements.{All-head, All-tail}
use Rattle.script_fonts.specs.Attachments.{is_data}
use Rattle.script_fonts.specs.Coding.{is_coded, number_coded, number_of_bytes, character_of, high_byte, middle_byte, low_byte, coded, decoded}
use Rattle.script_fonts.specs.Laws.{IsByte, CodedAreReadBack}

character_is_coded : (m : ℕ) → is_coded (m % 64 + 33) ≡ true
character_is_coded m = within (m % 64) (omega arith)
  where
    within : (k : ℕ) → k < 64 → (leb 33 (k + 33) && leb (k + 33) 96) ≡ true
    within k h = grind (arith, nat_tests)

-- 24 bits in four parts
four_parts : (n : ℕ) → n < 16777216 → n / 262144 % 64 * 262144 + n / 4096 % 64 * 4096 + n / 64 % 64 * 64 + n / 1 % 64 ≡ n
four_parts n h = omega arith

number_back : (n : ℕ) → n < 16777216 → number_coded (character_of 262144 n) (character_of 4096 n) (character_of 64 n) (character_of 1 n) ≡ n
number_back n h = less (n / 262144 % 64) (n / 4096 % 64) (n / 64 % 64) (n / 1 % 64) ∙ four_parts n h
  where
    less : (a b c d : ℕ) → (a + 33 - 33) * 262144 + (b + 33 - 33) * 4096 + (c + 33 - 33) * 64 + (d + 33 - 33) ≡ a * 262144 + b * 4096 + c * 64 + d
    less a b c d = omega arith

high_back : (x y z : ℕ) → x < 256 → y < 256 → z < 256 → high_byte (number_of_bytes x y z) ≡ x
high_back x y z a b c = omega arith

middle_back : (x y z : ℕ) → x < 256 → y < 256 → z < 256 → middle_byte (number_of_bytes x y z) ≡ y
middle_back x y z a b c = omega arith

low_back : (x y z : ℕ) → x < 256 → y < 256 → z < 256 → low_byte (number_of_bytes x y z) ≡ z
low_back x y z a b c = omega arith

fits : (x y z : ℕ) → x < 256 → y < 256 → z < 256 → number_of_bytes x y z < 16777216
fits x y z a b c = omega arith

no_low_bits : (x y : ℕ) → character_of 1 (number_of_bytes x y 0) ≡ 33
no_low_bits x y = omega arith

no_more_bits : (x : ℕ) → character_of 64 (number_of_bytes x 0 0) ≡ 33
no_more_bits x = omega arith

-- ---- lists

all_coded : (m : ℕ) (b : Bool) → b ≡ true → (is_coded (m % 64 + 33) && b) ≡ true
all_coded m b e = ap (λ c. c && b) (character_is_coded m) ∙ e

coded_is_data : (bytes : List ℕ) → is_data (coded bytes) ≡ true
coded_is_data [] = refl
coded_is_data (x ∷ []) = all_coded (number_of_bytes x 0 0 / 262144) _ (all_coded (number_of_bytes x 0 0 / 4096) _ refl)
coded_is_data (x ∷ y ∷ []) = all_coded (number_of_bytes x y 0 / 262144) _ (all_coded (number_of_bytes x y 0 / 4096) _ (all_coded (number_of_bytes x y 0 / 64) _ refl))
coded_is_data (x ∷ y ∷ z ∷ more) =
    let n = number_of_bytes x y z in
    all_coded (n / 262144) _ (all_coded (n / 4096) _ (all_coded (n / 64) _ (all_coded (n / 1) _ (coded_is_data more))))

four_more : (k : ℕ) → k % 4 ≢ 1 → suc (suc (suc (suc k))) % 4 ≢ 1
four_more k h = omega arith

coded_length : (bytes : List ℕ) → length (coded bytes) % 4 ≢ 1
coded_length [] = omega arith
coded_length (x ∷ []) = omega arith
coded_length (x ∷ y ∷ []) = omega arith
coded_length (x ∷ y ∷ z ∷ more) = four_more (length (coded more)) (coded_length more)

decoded_back : (bytes : List ℕ) → All IsByte bytes → decoded (coded bytes) ≡ bytes
decoded_back [] all = refl
decoded_back (x ∷ []) all =
    let small : x < 256 = All-head IsByte x [] all in
    let n = number_of_bytes x 0 0 in
    let zeros : number_coded (character_of 262144 n) (character_of 4096 n) 33 33 ≡ n =
    ap (λ c. number_coded (character_of 262144 n) (character_of 4096 n) c 33) (sym (no_more_bits x))
    ∙ (ap (λ d. number_coded (character_of 262144 n) (character_of 4096 n) (character_of 64 n) d) (sym (no_low_bits x 0)) ∙ number_back n (fits x 0 0 small (omega arith) (omega arith))) in
    ap (λ m. high_byte m ∷ []) zeros ∙ ap (λ b. b ∷ []) (high_back x 0 0 small (omega arith) (omega arith))
decoded_back (x ∷ y ∷ []) all =
    let small : x < 256 = All-head IsByte x (y ∷ []) all in
    let small_y : y < 256 = All-head IsByte y [] (All-tail IsByte x (y ∷ []) all) in
    let n = number_of_bytes x y 0 in
    let zeros : number_coded (character_of 262144 n) (character_of 4096 n) (character_of 64 n) 33 ≡ n =
    ap (λ d. number_coded (character_of 262144 n) (character_of 4096 n) (character_of 64 n) d) (sym (no_low_bits x y)) ∙ number_back n (fits x y 0 small small_y (omega arith)) in
    ap (λ m. high_byte m ∷ middle_byte m ∷ []) zeros
    ∙ (ap (λ b. b ∷ middle_byte n ∷ []) (high_back x y 0 small small_y (omega arith)) ∙ ap (λ b. x ∷ b ∷ []) (middle_back x y 0 small small_y (omega arith)))
decoded_back (x ∷ y ∷ z ∷ more) all =
    let rest = All-tail IsByte x (y ∷ z ∷ more) all in
    let last = All-tail IsByte y (z ∷ more) rest in
    let small : x < 256 = All-head IsByte x (y ∷ z ∷ more) all in
    let small_y : y < 256 = All-head IsByte y (z ∷ more) rest in
    let small_z : z < 256 = All-head IsByte z more last in
    let n = number_of_bytes x y z in
    ap (λ m. high_byte m ∷ middle_byte m ∷ low_byte m ∷ decoded (coded more)) (number_back n (fits x y z small small_y small_z))
    ∙ (ap (λ b. b ∷ middle_byte n ∷ low_byte n ∷ decoded (coded more)) (high_back x y z small small_y small_z)
    ∙ (ap (λ b. x ∷ b ∷ low_byte n ∷ decoded (coded more)) (middle_back x y z small small_y small_z)
    ∙ (ap (λ b. x ∷ y ∷ b ∷ decoded (coded more)) (low_back x y z small small_y small_z)
    ∙ ap (λ bytes. x ∷ y ∷ z ∷ bytes) (decoded_back more (All-tail IsByte z more last)))))

pub coded_are_read_back : CodedAreReadBack
coded_are_read_back bytes all = (coded_is_data bytes, coded_length bytes, decoded_back bytes all)
