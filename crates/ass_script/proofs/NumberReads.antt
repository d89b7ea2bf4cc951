-- The numbers as functions of the texts are what the readers give.
use Rattle.std.proofs.Common.{◌≡◌, ℕ, ◌+◌, ◌*◌, ◌/◌, ◌%◌, ◌^◌, ◌<◌, min, Bool, true, false, cond, ltb, eqb, ◌&&◌, List, length, get_or, take, drop, Option, Some, None, ℤ, pos, negsuc, refl, ap, subst, arith}
use Rattle.std.specs.Prelude.{IfSome, IfNone, MatchOption, ◌↔◌}
use Rattle.std.specs.List.{prefix_len}
use Rattle.std.specs.Option.{option_map}
use Rattle.std.specs.Int.{int_rem_euclid}
use Rattle.std.specs.Int.RustNames.{unsigned_abs}
use Rattle.std.proofs.lemmas.Bool.Decides.{nat_tests}
use Rattle.ass_num.specs.Limits.{max_held}
use Rattle.ass_num.specs.Fronts.{IsLongestFront, BeginsWith, HasNoFront, SpellsOne}
use Rattle.ass_num.specs.Numerals.{is_blank, is_decimal, is_hexadecimal, is_mark, sign_len, number_of, signed, is_hex_start, IsHeldDecimal, IsMilli, IsStyleColour}
use Rattle.ass_num.proofs.DecimalFronts.{point_front, point_none, plain_front, plain_none}
use Rattle.ass_num.proofs.SignFronts.{milli_front, milli_none}
use Rattle.ass_num.proofs.ColourFronts.{marked_none, marked_front, wrapped_none, wrapped_front, style_hex_none, style_decimal_none, style_hex_front, style_decimal_front}
use Rattle.ass_num.proofs.OneReading.{one_front, one_milli, one_style_colour}
use Rattle.ass_script.specs.Numbers.{plain_decimal, pointed_decimal, decimal_from, milli_of, hex_colour_in, decimal_colour_in, colour_in, style_colour_of}

-- What an answer says: a value that has the fact, or that no value has it.
abbrev Tells : {V : Type 0} → (V → Type 0) → Option V → Type 0
Tells {V} P o = MatchOption o ((v : V) → P v → ⊥) P

-- Two answers that tell of one fact are one, where one value alone may have it.
same_answer : {V : Type 0} (P : V → Type 0) → ((v w : V) → P v → P w → v ≡ w) → (r o : Option V) → Tells P r → Tells P o → r ≡ o
same_answer P one None None first second = refl
same_answer P one None (Some w) first second = absurd (first w second)
same_answer P one (Some v) None first second = absurd (second v first)
same_answer P one (Some v) (Some w) first second = ap Some (one v w first second)

tells : {V : Type 0} (P : V → Type 0) (r : Option V) → IfSome r P → IfNone r ((v : V) → P v → ⊥) → Tells P r
tells P None some none = none
tells P (Some v) some none = some

-- ---- thousandths

-- holding the digits first changes nothing
held_plain : (n : ℕ) → min (min n 4294967296 * 1000) max_held ≡ min (n * 1000) max_held
held_plain n = omega arith

held_pointed : (n f : ℕ) → min (min n 4294967296 * 1000 + f) max_held ≡ min (n * 1000 + f) max_held
held_pointed n f = omega arith

-- The same of what stands at the front of a text.
abbrev TellsFront : {V : Type 0} → (List ℕ → V → Type 0) → List ℕ → Option V → Type 0
TellsFront Spells t o = MatchOption o (HasNoFront Spells t) (BeginsWith Spells t)

tells_front : {V : Type 0} (Spells : List ℕ → V → Type 0) (t : List ℕ) (o : Option V) → TellsFront Spells t o → Tells (BeginsWith Spells t) o
tells_front Spells t None none = λ v f. none f.0 v f.1.spelled
tells_front Spells t (Some v) front = front

one_begins : {V : Type 0} (Spells : List ℕ → V → Type 0) → SpellsOne Spells → (t : List ℕ) (v w : V) → BeginsWith Spells t v → BeginsWith Spells t w → v ≡ w
one_begins Spells one t v w first second = (one_front Spells one t v w first.0 second.0 first.1 second.1).0

same_front : {V : Type 0} (Spells : List ℕ → V → Type 0) → SpellsOne Spells → (t : List ℕ) (r o : Option V) → TellsFront Spells t r → TellsFront Spells t o → r ≡ o
same_front Spells one t r o first second = same_answer (BeginsWith Spells t) (one_begins Spells one t) r o (tells_front Spells t r first) (tells_front Spells t o second)

plain_told : (t : List ℕ) (w : ℕ) → w ≡ prefix_len is_decimal t → (w < length t → get_or t w 0 ≡ 46 → ⊥) → TellsFront IsHeldDecimal t (plain_decimal t w)
plain_told t w count no_point = cases _ refl
  where
    n : ℕ
    n = number_of 10 (take w t)

    cases : (x : Bool) → eqb w 0 ≡ x → TellsFront IsHeldDecimal t (cond x None (Some (min (n * 1000) max_held)))
    cases true e = plain_none t w count no_point (grind (arith, nat_tests))
    cases false e = (w, subst (λ (v : ℕ). IsLongestFront IsHeldDecimal t v w) (held_plain n) (plain_front t (min n 4294967296) w refl count no_point (grind (arith, nat_tests))))

pointed_told : (t : List ℕ) (w f : ℕ) → w ≡ prefix_len is_decimal t → w < length t → get_or t w 0 ≡ 46 → f ≡ prefix_len is_decimal (drop (w + 1) t) → TellsFront IsHeldDecimal t (pointed_decimal t w f)
pointed_told t w f count inside at more = cases _ refl
  where
    n : ℕ
    n = number_of 10 (take w t)

    m : ℕ
    m = number_of 10 (take f (drop (w + 1) t)) * 1000 / 10 ^ f

    cases : (x : Bool) → eqb (w + f) 0 ≡ x → TellsFront IsHeldDecimal t (cond x None (Some (min (n * 1000 + m) max_held)))
    cases true e = point_none t w f count more (grind (arith, nat_tests))
    cases false e = (w + 1 + f, subst (λ (v : ℕ). IsLongestFront IsHeldDecimal t v (w + 1 + f)) (held_pointed n m) (point_front t (min n 4294967296) w m f refl count inside at refl more (grind (arith, nat_tests))))

decimal_told : (t : List ℕ) (w : ℕ) → w ≡ prefix_len is_decimal t → TellsFront IsHeldDecimal t (decimal_from t w)
decimal_told t w count = cases _ _ refl refl
  where
    cases : (x y : Bool) → ltb w (length t) ≡ x → eqb (get_or t w 0) 46 ≡ y → TellsFront IsHeldDecimal t (cond (x && y) (pointed_decimal t w (prefix_len is_decimal (drop (w + 1) t))) (plain_decimal t w))
    cases true true ex ey = pointed_told t w _ count (grind (arith, nat_tests)) (grind (arith, nat_tests)) refl
    cases true false ex ey = plain_told t w count (λ inside at. grind (arith, nat_tests))
    cases false y ex ey = plain_told t w count (λ inside at. grind (arith, nat_tests))

milli_is : (t : List ℕ) → TellsFront IsMilli t (milli_of t)
unfolding milli_of
milli_is t = cases _ (decimal_told (drop (sign_len t) t) _ refl)
  where
    cases : (o : Option ℕ) → TellsFront IsHeldDecimal (drop (sign_len t) t) o → TellsFront IsMilli t (option_map (signed (take (sign_len t) t)) o)
    cases None none = milli_none t none
    cases (Some h) front = (sign_len t + front.0, milli_front t _ h front.0 refl front.1)

pub milli_read : (t : List ℕ) (z : ℤ) (len : ℕ) → IsLongestFront IsMilli t z len → Some z ≡ milli_of t
milli_read t z len front = same_front IsMilli one_milli t (Some z) (milli_of t) (len, front) (milli_is t)

pub milli_not_read : (t : List ℕ) → HasNoFront IsMilli t → None ≡ milli_of t
milli_not_read t none = same_front IsMilli one_milli t None (milli_of t) none (milli_is t)

-- ---- colours

rest_is_low : (z : ℤ) → pos (unsigned_abs (int_rem_euclid z (pos 4294967296))) ≡ int_rem_euclid z (pos 4294967296)
rest_is_low (pos n) = refl
rest_is_low (negsuc n) = refl

hex_told : (t : List ℕ) (b d : ℕ) → b ≡ prefix_len is_blank t → is_hex_start (drop b t) ≡ true → d ≡ prefix_len is_hexadecimal (drop (prefix_len is_mark (drop b t)) (drop b t)) → TellsFront IsStyleColour t (hex_colour_in (drop b t) (prefix_len is_mark (drop b t)) d)
hex_told t b d blanks start digits = cases _ refl
  where
    code : List ℕ
    code = drop b t

    m : ℕ
    m = prefix_len is_mark code

    cases : (x : Bool) → eqb d 0 ≡ x → TellsFront IsStyleColour t (cond x None (Some (number_of 16 (take d (drop m code)) % 2 ^ 32)))
    cases true e = style_hex_none t b blanks start (marked_none 32 code m d refl digits (grind (arith, nat_tests)))
    cases false e = style_hex_front t b blanks start _ _ (marked_front 32 code m d refl digits _ refl (grind (arith, nat_tests)))

wrapped_told : (t : List ℕ) (b d : ℕ) → b ≡ prefix_len is_blank t → is_hex_start (drop b t) ≡ false → d ≡ prefix_len is_decimal (drop (sign_len (drop b t)) (drop b t)) → TellsFront IsStyleColour t (decimal_colour_in (drop b t) (sign_len (drop b t)) d)
wrapped_told t b d blanks start digits = cases _ refl
  where
    code : List ℕ
    code = drop b t

    n : ℤ
    n = signed (take (sign_len code) code) (number_of 10 (take d (drop (sign_len code) code)))

    cases : (x : Bool) → eqb d 0 ≡ x → TellsFront IsStyleColour t (cond x None (Some (unsigned_abs (int_rem_euclid n (pos (2 ^ 32))))))
    cases true e = style_decimal_none t b blanks start (wrapped_none code (sign_len code) d refl digits (grind (arith, nat_tests)))
    cases false e = style_decimal_front t b blanks start _ _ (wrapped_front code (sign_len code) d refl digits _ (rest_is_low n) (grind (arith, nat_tests)))

style_colour_is : (t : List ℕ) → TellsFront IsStyleColour t (style_colour_of t)
unfolding style_colour_of
style_colour_is t = cases _ refl
  where
    b : ℕ
    b = prefix_len is_blank t

    cases : (x : Bool) → is_hex_start (drop b t) ≡ x → TellsFront IsStyleColour t (colour_in (drop b t))
    cases true e = rw e (hex_told t b _ refl e refl)
    cases false e = rw e (wrapped_told t b _ refl e refl)

pub style_colour_read : (t : List ℕ) (r : Option ℕ) → IfSome r (BeginsWith IsStyleColour t) → IfNone r (HasNoFront IsStyleColour t) → r ≡ style_colour_of t
style_colour_read t r some none = same_front IsStyleColour one_style_colour t r (style_colour_of t) (told r some none) (style_colour_is t)
  where
    told : (r : Option ℕ) → IfSome r (BeginsWith IsStyleColour t) → IfNone r (HasNoFront IsStyleColour t) → TellsFront IsStyleColour t r
    told None some none = none
    told (Some v) some none = some

-- ---- both ways

both : {V : Type 0} (P : V → Type 0) → ((v w : V) → P v → P w → v ≡ w) → (o : Option V) → Tells P o → (v : V) → (o ≡ Some v) ↔ P v
both P one None none v = ((λ e. absurd (cc)), (λ p. absurd (none v p)))
both P one (Some w) has v = ((λ e. let same : w ≡ v = cc in subst P same has), (λ p. ap Some (one w v has p)))

pub milli_both : (t : List ℕ) (v : ℤ) → (milli_of t ≡ Some v) ↔ BeginsWith IsMilli t v
milli_both t v = both (BeginsWith IsMilli t) (one_begins IsMilli one_milli t) (milli_of t) (tells_front IsMilli t (milli_of t) (milli_is t)) v

pub style_colour_both : (t : List ℕ) (v : ℕ) → (style_colour_of t ≡ Some v) ↔ BeginsWith IsStyleColour t v
style_colour_both t v = both (BeginsWith IsStyleColour t) (one_begins IsStyleColour one_style_colour t) (style_colour_of t) (tells_front IsStyleColour t (style_colour_of t) (style_colour_is t)) v
