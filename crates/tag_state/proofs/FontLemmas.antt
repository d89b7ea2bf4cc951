-- Names of fonts and their numbers.
use Rattle.std.proofs.Common.{◌≡◌, ℕ, zero, suc, Bool, true, false, cond, List, [], ◌∷◌, ◌++◌, length, get_or, ◌≤◌, ◌⊎◌, inl, inr, refl, sym, ap, ◌∙◌, subst, None, Some, arith, length-append}
use Rattle.std.specs.Prelude.{slice_get}
use Rattle.std.specs.BTreeMap.{get, get_by_text}
use Rattle.std.specs.Ordering.{nat_cmp, is_eq}
use Rattle.std.proofs.lemmas.Bool.Decides.{nat_tests}
use Rattle.std.proofs.lemmas.Option.{slice_get_within, slice_get-get_or}
use Rattle.std.specs.Str.{bytes_eq}
use Rattle.std.proofs.lemmas.Slice.Eq.{bytes_eq-Decides}
use Rattle.ass_script.specs.Scripts.{ScriptValue}
use Rattle.ass_script.specs.declared.style.Style.{Style}
use Rattle.tag_state.specs.Walks.{AreFonts, Grow}
use Rattle.tag_state.specs.declared.fonts.Fonts.{Fonts}

pub get_left : {X : Type 0} (xs ys : List X) (place : ℕ) (x : X) → slice_get xs place ≡ Some x → slice_get (xs ++ ys) place ≡ Some x
get_left [] ys place x found = cc
get_left (y ∷ xs) ys zero x found = found
get_left (y ∷ xs) ys (suc place) x found = get_left xs ys place x found

pub get_end : {X : Type 0} (xs : List X) (x : X) → slice_get (xs ++ x ∷ []) (length xs) ≡ Some x
get_end [] x = refl
get_end (y ∷ xs) x = get_end xs x

-- what is found behind one more element was there, or is that
found_more : {X : Type 0} (xs : List X) (x : X) (place : ℕ) (y : X) → slice_get (xs ++ x ∷ []) place ≡ Some y → (slice_get xs place ≡ Some y) ⊎ ((place ≡ length xs) × (x ≡ y))
found_more [] x zero y found = inr (refl, cc)
found_more [] x (suc place) y found = cc
found_more (z ∷ xs) x zero y found = inl found
found_more (z ∷ xs) x (suc place) y found = elim (found_more xs x place y found) [ inl before ↦ inl before | inr last ↦ inr (ap suc last.0, last.1) ]

pub grow_same : {X : Type 0} (xs : List X) → Grow xs xs
grow_same xs = record { kept = λ place x found. found; few = omega arith }

pub grow_one : {X : Type 0} (xs ys : List X) (x : X) → ys ≡ xs ++ x ∷ [] → Grow xs ys
grow_one xs ys x e =
    let P : List _ → Type 0 = λ z. Grow xs z in
    subst P (sym e) (record { kept = λ place y found. get_left xs (x ∷ []) place y found; few = omega (arith, length-append xs (x ∷ [])) })

-- What grows gets no shorter.
pub grow_longer : {X : Type 0} (xs ys : List X) → Grow xs ys → length xs ≤ length ys
grow_longer [] ys grown = omega arith
grow_longer (x ∷ xs) ys grown =
    let last = get_or (x ∷ xs) (length xs) x in
    let found : slice_get (x ∷ xs) (length xs) ≡ Some last = slice_get-get_or (x ∷ xs) (length xs) x (omega arith) in
    omega (arith, slice_get_within ys (length xs) last (grown.kept (length xs) last found))

-- one more name
pub fonts_push : (script : ScriptValue) (old new : Fonts) (name : List ℕ) → AreFonts script old → get_by_text old.numbers name ≡ None → new.names ≡ old.names ++ name ∷ []
    → ((q : List ℕ) → get_by_text new.numbers q ≡ cond (bytes_eq name q) (Some (length old.names)) (get_by_text old.numbers q)) → new.styles ≡ old.styles → AreFonts script new
fonts_push script old new name are absent pushed put same = record { known = known; found = found; styles = styles }
  where
    left : (place : ℕ) (x : List ℕ) → slice_get old.names place ≡ Some x → slice_get new.names place ≡ Some x
    left place x there = ap (λ z. slice_get z place) pushed ∙ get_left old.names (name ∷ []) place x there

    known : (q : List ℕ) (number : ℕ) → get_by_text new.numbers q ≡ Some number → slice_get new.names number ≡ Some q
    known q number e = by (bytes_eq name q) refl
      where
        by : (b : Bool) → bytes_eq name q ≡ b → slice_get new.names number ≡ Some q
        by true is =
            let value : Some (length old.names) ≡ Some number = sym (ap (λ b. cond b (Some (length old.names)) (get_by_text old.numbers q)) is) ∙ (sym (put q) ∙ e) in
            let place : length old.names ≡ number = cc in
            let same_name : name ≡ q = (bytes_eq-Decides name q).0 is in
            ap (λ z. slice_get z number) pushed ∙ (sym (ap (slice_get (old.names ++ name ∷ [])) place) ∙ (get_end old.names name ∙ ap Some same_name))
        by false is = left number q (are.known q number (sym (ap (λ b. cond b (Some (length old.names)) (get_by_text old.numbers q)) is) ∙ (sym (put q) ∙ e)))

    found : (q : List ℕ) (number : ℕ) → slice_get new.names number ≡ Some q → get_by_text new.numbers q ≡ Some number
    found q number e = elim (found_more old.names name number q (sym (ap (λ z. slice_get z number) pushed) ∙ e)) [
      | inl before ↦ kept (are.found q number before)
      | inr last ↦ put q ∙ (ap (λ b. cond b (Some (length old.names)) (get_by_text old.numbers q)) ((bytes_eq-Decides name q).1 last.1) ∙ ap Some (sym last.0))
    ]
      where
        kept : get_by_text old.numbers q ≡ Some number → get_by_text new.numbers q ≡ Some number
        kept was = by (bytes_eq name q) refl
          where
            by : (b : Bool) → bytes_eq name q ≡ b → get_by_text new.numbers q ≡ Some number
            by true is =
                let none : get_by_text old.numbers q ≡ None = ap (get_by_text old.numbers) (sym ((bytes_eq-Decides name q).0 is)) ∙ absent in
                cc
            by false is = put q ∙ (ap (λ b. cond b (Some (length old.names)) (get_by_text old.numbers q)) is ∙ was)

    styles : (place number : ℕ) → get nat_cmp new.styles place ≡ Some number → (style : Style) × (slice_get script.styles place ≡ Some style) × (slice_get new.names number ≡ Some style.font)
    styles place number e =
        let was = are.styles place number (sym (ap (λ z. get nat_cmp z place) same) ∙ e) in
        (was.0, was.1, left number was.0.font was.2)

same_place : (x y : ℕ) → is_eq (nat_cmp x y) ≡ true → x ≡ y
same_place x y e = grind (arith, nat_tests)

-- one more style
pub fonts_styled : (script : ScriptValue) (old new : Fonts) (place number : ℕ) (style : Style) → AreFonts script old → slice_get script.styles place ≡ Some style → slice_get old.names number ≡ Some style.font
    → ((q : ℕ) → get nat_cmp new.styles q ≡ cond (is_eq (nat_cmp place q)) (Some number) (get nat_cmp old.styles q)) → new.names ≡ old.names → new.numbers ≡ old.numbers → AreFonts script new
fonts_styled script old new place number style are there named put names numbers = record {
  known = λ name n e. ap (λ z. slice_get z n) names ∙ are.known name n (sym (ap (λ z. get_by_text z name) numbers) ∙ e);
  found = λ name n e. ap (λ z. get_by_text z name) numbers ∙ are.found name n (sym (ap (λ z. slice_get z n) names) ∙ e);
  styles = styles;
}
  where
    styles : (q n : ℕ) → get nat_cmp new.styles q ≡ Some n → (s : Style) × (slice_get script.styles q ≡ Some s) × (slice_get new.names n ≡ Some s.font)
    styles q n e = by (is_eq (nat_cmp place q)) refl
      where
        by : (b : Bool) → is_eq (nat_cmp place q) ≡ b → (s : Style) × (slice_get script.styles q ≡ Some s) × (slice_get new.names n ≡ Some s.font)
        by true is =
            let value : Some number ≡ Some n = sym (ap (λ b. cond b (Some number) (get nat_cmp old.styles q)) is) ∙ (sym (put q) ∙ e) in
            let same : number ≡ n = cc in
            (style, ap (slice_get script.styles) (sym (same_place place q is)) ∙ there, ap (λ z. slice_get z n) names ∙ (ap (slice_get old.names) (sym same) ∙ named))
        by false is =
            let was = are.styles q n (sym (ap (λ b. cond b (Some number) (get nat_cmp old.styles q)) is) ∙ (sym (put q) ∙ e)) in
            (was.0, was.1, ap (λ z. slice_get z n) names ∙ was.2)
