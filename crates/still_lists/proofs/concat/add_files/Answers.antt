use Rattle.std.proofs.Common.{◌≡◌, ◌∙◌, ℕ, ◌+◌, ◌-◌, ◌<◌, List, ◌∷◌, ◌++◌, length, take, drop, get_or, sym, ap, append_assoc}
use Rattle.std.proofs.lemmas.List.{drop_more, take_rest}
use Rattle.still_lists.specs.ConcatLists.{duration_line, file_entry, file_lines, shown_from}
use Rattle.still_lists.specs.declared.entry.StillEntry.{StillEntry}
use Rattle.still_lists.proofs.concat.add_files.Goals as goal

joined : (text file time more : List ℕ) → text ++ file ++ time ++ more ≡ text ++ (file ++ time ++ more)
joined text file time more = simp append_assoc

-- the lines on one image more
one_more : (format : List ℕ) (k : ℕ) (entries : List StillEntry) (end : ℕ) (d : StillEntry) (text now all : List ℕ) (next time : ℕ) → k < length entries →
    text ++ file_lines format k (drop k entries) end ≡ all → next ≡ shown_from (take (length entries - (k + 1)) (drop (k + 1) entries)) end →
    time ≡ next - (get_or entries k d).t → now ≡ text ++ file_entry format k ++ duration_line time → now ++ file_lines format (k + 1) (drop (k + 1) entries) end ≡ all
one_more format k entries end d text now all next time inside so_far from long added =
    let rest = drop (k + 1) entries in
    let here : drop k entries ≡ get_or entries k d ∷ rest = drop_more entries k d inside in
    let until : next ≡ shown_from rest end = simp take_rest at from in
    let shown : time ≡ shown_from rest end - (get_or entries k d).t = long ∙ ap (λ (n : ℕ). n - (get_or entries k d).t) until in
    let grown : now ≡ text ++ file_entry format k ++ duration_line (shown_from rest end - (get_or entries k d).t) = added ∙ ap (λ (t : ℕ). text ++ file_entry format k ++ duration_line t) shown in
    ap (λ (s : List ℕ). s ++ file_lines format (k + 1) rest end) grown
    ∙ joined text (file_entry format k) (duration_line (shown_from rest end - (get_or entries k d).t)) (file_lines format (k + 1) rest end)
    ∙ ap (λ (s : List StillEntry). text ++ file_lines format k s end) (sym here) ∙ so_far

pub loop-k-preserved : goal.loop-k-preserved
loop-k-preserved c =
    one_more c.args.format.now c.loop-k.k c.args.entries.now c.args.end _ _ _ _ _ _ c.loop-k-test.true c.loop-k.invariant c.shown_from-next.ensures c.saturating_sub.ensures
    c.in_ok-add_file.ensures
