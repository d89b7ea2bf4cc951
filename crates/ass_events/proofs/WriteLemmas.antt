-- The bytes of a chunk, put together part by part.
use Rattle.std.proofs.Common.{◌≡◌, ℕ, List, [], ◌∷◌, ◌++◌, ◌∙◌, append_assoc}
use Rattle.std.specs.Prelude.{codes}

-- a head and margins with their commas, and the texts between them
abbrev pub parts_bytes : (head style name margins effect text : List ℕ) → List ℕ
parts_bytes head style name margins effect text = head ++ (style ++ (44 ∷ (name ++ (margins ++ (effect ++ (44 ∷ text))))))

pub put_together : (a b c d e f g h i head style name margins effect text : List ℕ) → a ≡ [] → b ≡ a ++ head → c ≡ b ++ style → d ≡ c ++ 44 ∷ [] → e ≡ d ++ name → f ≡ e ++ margins → g ≡ f ++ effect → h ≡ g ++ 44 ∷ [] → i ≡ h ++ text →
    i ≡ parts_bytes head style name margins effect text
put_together a b c d e f g h i head style name margins effect text a_is b_is c_is d_is e_is f_is g_is h_is i_is =
    let whole : i ≡ ((((((([] ++ head) ++ style) ++ 44 ∷ []) ++ name) ++ margins) ++ effect) ++ 44 ∷ []) ++ text = cc in
    whole ∙ simp append_assoc

-- the nine fields with commas between them
pub written : (order layer style name l r v effect text head margins : List ℕ) → head ≡ order ++ codes "," ++ layer ++ codes "," → margins ≡ codes "," ++ l ++ codes "," ++ r ++ codes "," ++ v ++ codes "," →
    parts_bytes head style name margins effect text ≡ order ++ (44 ∷ (layer ++ (44 ∷ (style ++ (44 ∷ (name ++ (44 ∷ (l ++ (44 ∷ (r ++ (44 ∷ (v ++ (44 ∷ (effect ++ (44 ∷ text)))))))))))))))
written order layer style name l r v effect text head margins head_is margins_is = rw (head_is, margins_is) (simp append_assoc)
