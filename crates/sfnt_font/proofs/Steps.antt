-- One step of each loop over the file.
use Rattle.std.proofs.Common.{◌≡◌, ℕ, suc, ◌+◌, ◌-◌, ◌*◌, ◌<◌, ◌≤◌, List, [], ◌∷◌, ◌++◌, length, map, take, Some, cond, true, false, sym, ap, ◌∙◌, arith}
use Rattle.std.specs.Prelude.{nat_lt}
use Rattle.std.specs.List.{range_with_len}
use Rattle.std.proofs.lemmas.List.{append_assoc, length-append}
use Rattle.std.proofs.lemmas.List.FromFn.{map-range_with_len_more}
use Rattle.sfnt_font.specs.declared.directory.Table.{Table}
use Rattle.sfnt_font.specs.declared.maps.Choice.{Choice}
use Rattle.font_bytes.specs.Bytes.{u32_at}
use Rattle.sfnt_font.specs.Faces.{bad_face}
use Rattle.sfnt_font.specs.Directory.{is_table, table_at, table_from}
use Rattle.sfnt_font.specs.Maps.{best_map, better, choice_at}
use Rattle.sfnt_font.specs.Names.{is_name, records_from}

pub bad_face-next : (bytes : List ℕ) (at n k : ℕ) → k < n → nat_lt (length bytes) (u32_at bytes (at + 4 * k) + 12) ≡ false → bad_face bytes (at + 4 * (k + 1)) (n - (k + 1)) ≡ bad_face bytes (at + 4 * k) (n - k)
bad_face-next bytes at n k less fails =
    let left : n - k ≡ suc (n - (k + 1)) = omega arith in
    let next : at + 4 * (k + 1) ≡ (at + 4 * k) + 4 = omega arith in
    ap (λ place. bad_face bytes place (n - (k + 1))) next
    ∙ (sym (ap (λ b. cond b (Some (at + 4 * k)) (bad_face bytes ((at + 4 * k) + 4) (n - (k + 1)))) fails)
    ∙ ap (bad_face bytes (at + 4 * k)) (sym left))

pub table_from-next : (bytes : List ℕ) (name first n k : ℕ) → k < n → is_table bytes name (first + 16 * k) ≡ false → table_from bytes name (first + 16 * (k + 1)) (n - (k + 1)) ≡ table_from bytes name (first + 16 * k) (n - k)
table_from-next bytes name first n k less fails =
    let left : n - k ≡ suc (n - (k + 1)) = omega arith in
    let next : first + 16 * (k + 1) ≡ (first + 16 * k) + 16 = omega arith in
    ap (λ place. table_from bytes name place (n - (k + 1))) next
    ∙ (sym (ap (λ b. cond b (Some (table_at bytes (first + 16 * k))) (table_from bytes name ((first + 16 * k) + 16) (n - (k + 1)))) fails)
    ∙ ap (table_from bytes name (first + 16 * k)) (sym left))

pub best_map-next : (bytes : List ℕ) (cmap : Table) (first n k : ℕ) (best : Choice) → k < n →
    best_map bytes cmap (first + 8 * (k + 1)) (n - (k + 1)) (better best (choice_at bytes cmap (first + 8 * k))) ≡ best_map bytes cmap (first + 8 * k) (n - k) best
best_map-next bytes cmap first n k best less =
    let left : n - k ≡ suc (n - (k + 1)) = omega arith in
    let next : first + 8 * (k + 1) ≡ (first + 8 * k) + 8 = omega arith in
    ap (λ place. best_map bytes cmap place (n - (k + 1)) (better best (choice_at bytes cmap (first + 8 * k)))) next
    ∙ ap (λ m. best_map bytes cmap (first + 8 * k) m best) (sym left)

pub record-passed : (bytes : List ℕ) (names : Table) (kind rank first n k : ℕ) → k < n → is_name bytes names kind rank (first + 12 * k) ≡ false →
    records_from bytes names kind rank (first + 12 * k) (n - k) ≡ records_from bytes names kind rank (first + 12 * (k + 1)) (n - (k + 1))
record-passed bytes names kind rank first n k less fails =
    let left : n - k ≡ suc (n - (k + 1)) = omega arith in
    let next : (first + 12 * k) + 12 ≡ first + 12 * (k + 1) = omega arith in
    let rest = records_from bytes names kind rank ((first + 12 * k) + 12) (n - (k + 1)) in
    ap (records_from bytes names kind rank (first + 12 * k)) left
    ∙ (ap (λ b. cond b ((first + 12 * k) ∷ rest) rest) fails
    ∙ ap (λ place. records_from bytes names kind rank place (n - (k + 1))) next)

pub record-there : (bytes : List ℕ) (names : Table) (kind rank first n k : ℕ) → k < n → is_name bytes names kind rank (first + 12 * k) ≡ true →
    records_from bytes names kind rank (first + 12 * k) (n - k) ≡ (first + 12 * k) ∷ records_from bytes names kind rank (first + 12 * (k + 1)) (n - (k + 1))
record-there bytes names kind rank first n k less is =
    let left : n - k ≡ suc (n - (k + 1)) = omega arith in
    let next : (first + 12 * k) + 12 ≡ first + 12 * (k + 1) = omega arith in
    let rest = records_from bytes names kind rank ((first + 12 * k) + 12) (n - (k + 1)) in
    ap (records_from bytes names kind rank (first + 12 * k)) left
    ∙ (ap (λ b. cond b ((first + 12 * k) ∷ rest) rest) is
    ∙ ap (λ place. (first + 12 * k) ∷ records_from bytes names kind rank place (n - (k + 1))) next)

-- the names that are found so far, and those that are to come
abbrev pub found_with : (ℕ → List ℕ) → ℕ → List (List ℕ) → List ℕ → List (List ℕ)
found_with spell most found records = found ++ map spell (take (most - length found) records)

-- one name more
pub name-found : (spell : ℕ → List ℕ) (most : ℕ) (found : List (List ℕ)) (at : ℕ) (name : List ℕ) (before after : List ℕ) → length found < most → name ≡ spell at →
    before ≡ at ∷ after → found_with spell most (found ++ name ∷ []) after ≡ found_with spell most found before
name-found spell most found at name before after room is there =
    let counted : length (found ++ name ∷ []) ≡ length found + 1 = length-append found (name ∷ []) in
    let left : most - length found ≡ suc (most - length (found ++ name ∷ [])) = omega (arith, counted) in
    append_assoc found (name ∷ []) (map spell (take (most - length (found ++ name ∷ [])) after))
    ∙ (ap (λ first. found ++ (first ∷ map spell (take (most - length (found ++ name ∷ [])) after))) is
    ∙ sym (ap (λ n. found ++ map spell (take n before)) left ∙ ap (λ records. found ++ map spell (take (suc (most - length (found ++ name ∷ []))) records)) there))

-- none is taken where there are as many as may be
pub names-full : (spell : ℕ → List ℕ) (most : ℕ) (found : List (List ℕ)) (before after : List ℕ) → most ≤ length found →
    found_with spell most found after ≡ found_with spell most found before
names-full spell most found before after full =
    let none : most - length found ≡ 0 = omega (arith, full) in
    ap (λ n. found ++ map spell (take n after)) none ∙ sym (ap (λ n. found ++ map spell (take n before)) none)

pub unit-next : (f : ℕ → ℕ) (units : List ℕ) (k unit : ℕ) → units ≡ map f (range_with_len 0 k) → unit ≡ f k → units ++ unit ∷ [] ≡ map f (range_with_len 0 (k + 1))
unit-next f units k unit h e = rw (h, e) (sym (map-range_with_len_more f 0 k k (omega arith)))
