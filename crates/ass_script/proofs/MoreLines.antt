-- What is picked from a list of lines, where one more line stands at its end.
use Rattle.std.proofs.Common.{◌≡◌, Bool, true, false, cond, ◌||◌, List, [], ◌∷◌, ◌++◌, map, Option, Some, None, refl, sym, ap, ◌∙◌, append_assoc}
use Rattle.std.specs.Prelude.{filter}
use Rattle.std.specs.List.{list_any}
use Rattle.std.specs.Option.{option_or}
use Rattle.std.proofs.lemmas.List.{append-nil}
use Rattle.ass_script.specs.Lines.{Line}
use Rattle.ass_script.specs.Fields.{event_fields_of, ends_in_text}
use Rattle.ass_script.specs.Scripts.{has, values_of, last_of, last_value, styles_at, styles_behind, limit_at, limit_behind, event_formats, is_event_format}
use Rattle.ass_script.specs.declared.lines.Key.{Key}

any_more : {X : Type 0} (p : X → Bool) (xs : List X) (x : X) → list_any p (xs ++ x ∷ []) ≡ (list_any p xs || p x)
any_more p [] x = cases (p x)
  where
    cases : (b : Bool) → (b || false) ≡ (false || b)
    cases true = refl
    cases false = refl
any_more p (y ∷ ys) x = cases (p y) (any_more p ys x)
  where
    cases : (b : Bool) → list_any p (ys ++ x ∷ []) ≡ (list_any p ys || p x) → (b || list_any p (ys ++ x ∷ [])) ≡ ((b || list_any p ys) || p x)
    cases true e = refl
    cases false e = e

or_true : (b : Bool) → (b || true) ≡ true
or_true true = refl
or_true false = refl

or_false : (b : Bool) → (b || false) ≡ b
or_false true = refl
or_false false = refl

filter_more : {X : Type 0} (p : X → Bool) (xs : List X) (x : X) → filter p (xs ++ x ∷ []) ≡ filter p xs ++ cond (p x) (x ∷ []) []
filter_more p [] x = cases (p x)
  where
    cases : (b : Bool) → cond b (x ∷ []) [] ≡ [] ++ cond b (x ∷ []) []
    cases true = refl
    cases false = refl
filter_more p (y ∷ ys) x = cases (p y) (filter_more p ys x)
  where
    cases : (b : Bool) → filter p (ys ++ x ∷ []) ≡ filter p ys ++ cond (p x) (x ∷ []) [] → cond b (y ∷ filter p (ys ++ x ∷ [])) (filter p (ys ++ x ∷ [])) ≡ cond b (y ∷ filter p ys) (filter p ys) ++ cond (p x) (x ∷ []) []
    cases true e = ap (λ zs. y ∷ zs) e
    cases false e = e

map_append : {X Y : Type 0} (f : X → Y) (xs ys : List X) → map f (xs ++ ys) ≡ map f xs ++ map f ys
map_append f [] ys = refl
map_append f (x ∷ xs) ys = ap (λ zs. f x ∷ zs) (map_append f xs ys)

last_more : {X : Type 0} (xs : List X) (x : X) → last_of (xs ++ x ∷ []) ≡ Some x
last_more [] x = refl
last_more (y ∷ ys) x = ap (λ o. option_or o (Some y)) (last_more ys x)

module _ (before : List Line) (line : Line) where
  abbrev pub after : List Line
  after = before ++ line ∷ []

  pub has_yes : (kind : Key → Bool) → kind line.key ≡ true → true ≡ has kind after
  has_yes kind is = sym (any_more (λ (l : Line). kind l.key) before line ∙ (ap (λ b. has kind before || b) is ∙ or_true (has kind before)))

  pub has_no : (kind : Key → Bool) → kind line.key ≡ false → has kind before ≡ has kind after
  has_no kind is = sym (any_more (λ (l : Line). kind l.key) before line ∙ (ap (λ b. has kind before || b) is ∙ or_false (has kind before)))

  values_more : (kind : Key → Bool) → values_of kind after ≡ values_of kind before ++ map (λ (l : Line). l.value) (cond (kind line.key) (line ∷ []) [])
  values_more kind = ap (map (λ (l : Line). l.value)) (filter_more (λ (l : Line). kind l.key) before line) ∙ map_append (λ (l : Line). l.value) (filter (λ (l : Line). kind l.key) before) (cond (kind line.key) (line ∷ []) [])

  pub values_yes : (kind : Key → Bool) → kind line.key ≡ true → values_of kind before ++ line.value ∷ [] ≡ values_of kind after
  values_yes kind is = sym (values_more kind ∙ ap (λ b. values_of kind before ++ map (λ (l : Line). l.value) (cond b (line ∷ []) [])) is)

  pub values_no : (kind : Key → Bool) → kind line.key ≡ false → values_of kind before ≡ values_of kind after
  values_no kind is = sym (values_more kind ∙ (ap (λ b. values_of kind before ++ map (λ (l : Line). l.value) (cond b (line ∷ []) [])) is ∙ append-nil (values_of kind before)))

  pub last_yes : (kind : Key → Bool) → kind line.key ≡ true → Some line.value ≡ last_value kind after
  last_yes kind is = sym (ap last_of (sym (values_yes kind is)) ∙ last_more (values_of kind before) line.value)

  pub last_no : (kind : Key → Bool) → kind line.key ≡ false → last_value kind before ≡ last_value kind after
  last_no kind is = ap last_of (values_no kind is)

  pub formats_no : is_event_format line.key ≡ false → last_of (event_formats before) ≡ last_of (event_formats after)
  formats_no is = ap (λ values. last_of (filter ends_in_text (map event_fields_of values))) (values_no is_event_format is)

  formats_more : is_event_format line.key ≡ true → event_formats after ≡ event_formats before ++ cond (ends_in_text (event_fields_of line.value)) (event_fields_of line.value ∷ []) []
  formats_more is =
      ap (λ values. filter ends_in_text (map event_fields_of values)) (sym (values_yes is_event_format is))
      ∙ (ap (filter ends_in_text) (map_append event_fields_of (values_of is_event_format before) (line.value ∷ []))
      ∙ filter_more ends_in_text (map event_fields_of (values_of is_event_format before)) (event_fields_of line.value))

  pub formats_yes : is_event_format line.key ≡ true → cond (ends_in_text (event_fields_of line.value)) (Some (event_fields_of line.value)) (last_of (event_formats before)) ≡ last_of (event_formats after)
  formats_yes is = cases (ends_in_text (event_fields_of line.value)) ∙ ap last_of (sym (formats_more is))
    where
      cases : (b : Bool) → cond b (Some (event_fields_of line.value)) (last_of (event_formats before)) ≡ last_of (event_formats before ++ cond b (event_fields_of line.value ∷ []) [])
      cases true = sym (last_more (event_formats before) (event_fields_of line.value))
      cases false = ap last_of (sym (append-nil (event_formats before)))

styles_from : (front before : List Line) (line : Line) → styles_behind front (before ++ line ∷ []) ≡ styles_behind front before ++ styles_at (front ++ before) line
styles_from front [] line = append-nil (styles_at front line) ∙ ap (λ ls. styles_at ls line) (sym (append-nil front))
styles_from front (l ∷ ls) line =
    ap (λ ss. styles_at front l ++ ss) (styles_from (front ++ l ∷ []) ls line)
    ∙ (sym (append_assoc (styles_at front l) (styles_behind (front ++ l ∷ []) ls) (styles_at ((front ++ l ∷ []) ++ ls) line))
    ∙ ap (λ bs. (styles_at front l ++ styles_behind (front ++ l ∷ []) ls) ++ styles_at bs line) (append_assoc front (l ∷ []) ls))

pub styles_more : (before : List Line) (line : Line) → styles_behind [] before ++ styles_at before line ≡ styles_behind [] (before ++ line ∷ [])
styles_more before line = sym (styles_from [] before line)

or_assoc : {X : Type 0} (a b c : Option X) → option_or a (option_or b c) ≡ option_or (option_or a b) c
or_assoc None b c = refl
or_assoc (Some x) b c = refl

or_none : {X : Type 0} (a : Option X) → option_or a None ≡ a
or_none None = refl
or_none (Some x) = refl

limit_from : (front before : List Line) (line : Line) → limit_behind front (before ++ line ∷ []) ≡ option_or (limit_behind front before) (limit_at (front ++ before) line)
limit_from front [] line = or_none (limit_at front line) ∙ ap (λ ls. limit_at ls line) (sym (append-nil front))
limit_from front (l ∷ ls) line =
    ap (λ o. option_or (limit_at front l) o) (limit_from (front ++ l ∷ []) ls line)
    ∙ (ap (λ bs. option_or (limit_at front l) (option_or (limit_behind (front ++ l ∷ []) ls) (limit_at bs line))) (append_assoc front (l ∷ []) ls)
    ∙ or_assoc (limit_at front l) (limit_behind (front ++ l ∷ []) ls) (limit_at (front ++ (l ∷ ls)) line))

pub limit_more : (before : List Line) (line : Line) → limit_behind [] (before ++ line ∷ []) ≡ option_or (limit_behind [] before) (limit_at before line)
limit_more before line = limit_from [] before line
