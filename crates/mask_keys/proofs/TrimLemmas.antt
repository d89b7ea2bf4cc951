-- Rows without the empty ones at both ends.
use Rattle.std.proofs.Common.{◌≡◌, ℕ, zero, suc, true, ◌&&◌, ℤ, pos, negsuc, ◌+ℤ◌, ◌-ℤ◌, refl, sym, ap, ◌∙◌, arith, List, [], ◌∷◌, get_or}
use Rattle.std.proofs.lemmas.Int.{ints}
use Rattle.std.proofs.lemmas.Bool.{and_parts, and_from}
use Rattle.ass_num.specs.Regions.{in_runs, row_at, member, ascend, all_ascend, first_has_run, last_has_run, top_fits, is_canonical}
use Rattle.ass_num.specs.declared.region.Run.{Run}
use Rattle.ass_num.proofs.RegionLemmas.{row_above, row_none}
use Rattle.mask_keys.specs.Regions.{with_row_before, without_end, trimmed_region}

-- ---- the end

row_first : (runs : List Run) (rows : List (List Run)) → get_or (with_row_before runs rows) 0 [] ≡ runs
row_first [] [] = refl
row_first [] (s ∷ rows) = refl
row_first (r ∷ runs) [] = refl
row_first (r ∷ runs) (s ∷ rows) = refl

row_next : (runs : List Run) (rows : List (List Run)) (k : ℕ) → get_or (with_row_before runs rows) (suc k) [] ≡ get_or rows k []
row_next [] [] k = refl
row_next [] (s ∷ rows) k = refl
row_next (r ∷ runs) [] k = refl
row_next (r ∷ runs) (s ∷ rows) k = refl

end_get : (rows : List (List Run)) (k : ℕ) → get_or (without_end rows) k [] ≡ get_or rows k []
end_get [] k = refl
end_get (runs ∷ rows) zero = row_first runs (without_end rows)
end_get (runs ∷ rows) (suc k) = row_next runs (without_end rows) k ∙ end_get rows k

end_row : (rows : List (List Run)) (z : ℤ) → row_at (without_end rows) z ≡ row_at rows z
end_row rows (pos k) = end_get rows k
end_row rows (negsuc k) = refl

row_ascend : (runs : List Run) (rows : List (List Run)) → ascend runs ≡ true → all_ascend rows ≡ true → all_ascend (with_row_before runs rows) ≡ true
row_ascend [] [] a h = refl
row_ascend [] (s ∷ rows) a h = and_from (ascend []) (all_ascend (s ∷ rows)) a h
row_ascend (r ∷ runs) [] a h = and_from (ascend (r ∷ runs)) (all_ascend []) a h
row_ascend (r ∷ runs) (s ∷ rows) a h = and_from (ascend (r ∷ runs)) (all_ascend (s ∷ rows)) a h

end_ascend : (rows : List (List Run)) → all_ascend rows ≡ true → all_ascend (without_end rows) ≡ true
end_ascend [] h = refl
end_ascend (runs ∷ rows) h =
    let p = and_parts (ascend runs) (all_ascend rows) h in
    row_ascend runs (without_end rows) p.0 (end_ascend rows p.1)

row_last : (runs : List Run) (rows : List (List Run)) → last_has_run rows ≡ true → last_has_run (with_row_before runs rows) ≡ true
row_last [] [] h = refl
row_last [] (s ∷ rows) h = h
row_last (r ∷ runs) [] h = refl
row_last (r ∷ runs) (s ∷ rows) h = h

end_last : (rows : List (List Run)) → last_has_run (without_end rows) ≡ true
end_last [] = refl
end_last (runs ∷ rows) = row_last runs (without_end rows) (end_last rows)

full_first : (r : Run) (runs : List Run) (rows : List (List Run)) → first_has_run (with_row_before (r ∷ runs) rows) ≡ true
full_first r runs [] = refl
full_first r runs (s ∷ rows) = refl

full_top : (top : ℤ) (r : Run) (runs : List Run) (rows : List (List Run)) → top_fits top (with_row_before (r ∷ runs) rows) ≡ true
full_top top r runs [] = refl
full_top top r runs (s ∷ rows) = refl

-- ---- both ends

pub trimmed-canonical : (top : ℤ) (rows : List (List Run)) → all_ascend rows ≡ true → is_canonical (trimmed_region top rows).top (trimmed_region top rows).rows ≡ true
trimmed-canonical top [] h = refl
trimmed-canonical top ([] ∷ rows) h = trimmed-canonical (top +ℤ pos 1) rows (and_parts (ascend []) (all_ascend rows) h).1
trimmed-canonical top ((r ∷ runs) ∷ rows) h =
    let kept : List (List Run) = without_end ((r ∷ runs) ∷ rows) in
    and_from (all_ascend kept) (first_has_run kept && (last_has_run kept && top_fits top kept)) (end_ascend ((r ∷ runs) ∷ rows) h)
    (and_from (first_has_run kept) (last_has_run kept && top_fits top kept) (full_first r runs (without_end rows))
    (and_from (last_has_run kept) (top_fits top kept) (end_last ((r ∷ runs) ∷ rows)) (full_top top r runs (without_end rows))))

-- an empty row before rows moves them down
row_moved : (rows : List (List Run)) (z y : ℤ) → y ≡ z -ℤ pos 1 → row_at rows y ≡ row_at ([] ∷ rows) z
row_moved rows (pos zero) y e = row_above rows y (omega (arith, ints))
row_moved rows (pos (suc k)) y e = let f : y ≡ pos k = omega (arith, ints) in ap (row_at rows) f
row_moved rows (negsuc k) y e = row_above rows y (omega (arith, ints))

pub trimmed-member : (top : ℤ) (rows : List (List Run)) (i j : ℤ) → member (trimmed_region top rows).top (trimmed_region top rows).rows i j ≡ member top rows i j
trimmed-member top [] i j = ap (λ runs. in_runs runs i) (row_none (j -ℤ pos 0) ∙ sym (row_none (j -ℤ top)))
trimmed-member top ([] ∷ rows) i j =
    trimmed-member (top +ℤ pos 1) rows i j ∙ ap (λ runs. in_runs runs i) (row_moved rows (j -ℤ top) (j -ℤ (top +ℤ pos 1)) (omega (arith, ints)))
trimmed-member top ((r ∷ runs) ∷ rows) i j = ap (λ runs. in_runs runs i) (end_row ((r ∷ runs) ∷ rows) (j -ℤ top))
