-- Which refusals a text in UTF-8 has.
use Rattle.std.proofs.Common.{◌≡◌, ℕ, Bool, true, false, cond, ◌&&◌, leb, eqb, List, [], ◌∷◌, ◌++◌, length, Option, Some, None, Result, Ok, Err, sym, ap, ◌∙◌, subst, eq-eqb}
use Rattle.std.specs.Option.{option_or, option_map_or}
use Rattle.std.specs.Str.{IsUtf8}
use Rattle.std.specs.Str.Lossy.{utf8_valid_len}
use Rattle.std.proofs.lemmas.Str.{utf8_valid_len-IsUtf8}
use Rattle.ass_script.specs.Limits.{max_lines, max_styles}
use Rattle.ass_script.specs.Lines.{Line}
use Rattle.ass_script.specs.Scripts.{ScriptValue, IsScriptAnswer, has, is_events_heading, is_dialogue, is_style, values_of, styles_behind, limit_at, limit_behind, picked_script, script_of_lines, script_of, lines_of}
use Rattle.ass_script.specs.declared.refusal.ScriptRefusal.{ScriptRefusal}
use Rattle.ass_script.specs.declared.refusal.ScriptRefusal.TheVariants as refusal

-- a line too many, or none
abbrev IsLimit : Option ScriptRefusal → Type 0
IsLimit None = Unit {0}
IsLimit (Some (refusal.TooManyLines _)) = Unit {0}
IsLimit (Some (refusal.TooManyStyles _)) = Unit {0}
IsLimit (Some (refusal.NotUtf8 _)) = ⊥
IsLimit (Some refusal.NoEvents) = ⊥
IsLimit (Some refusal.OutOfMemory) = ⊥

limit_here : (before : List Line) (line : Line) → IsLimit (limit_at before line)
limit_here before line = cases (is_dialogue line.key && leb max_lines (length (values_of is_dialogue before))) (is_style line.key && leb max_styles (length (styles_behind [] before)))
  where
    cases : (a b : Bool) → IsLimit (cond a (Some (refusal.TooManyLines max_lines)) (cond b (Some (refusal.TooManyStyles max_styles)) None))
    cases true b = tt
    cases false true = tt
    cases false false = tt

limit_or : (a b : Option ScriptRefusal) → IsLimit a → IsLimit b → IsLimit (option_or a b)
limit_or None b first second = second
limit_or (Some why) b first second = first

limit_is : (before all : List Line) → IsLimit (limit_behind before all)
limit_is before [] = tt
limit_is before (line ∷ all) = limit_or (limit_at before line) (limit_behind (before ++ line ∷ []) all) (limit_here before line) (limit_is (before ++ line ∷ []) all)

-- lines are never refused for what isn't UTF-8
lines_are_utf8 : (all : List Line) (n : ℕ) → script_of_lines all ≡ Err (refusal.NotUtf8 n) → ⊥
lines_are_utf8 all n = cases (has is_events_heading all) (limit_behind [] all) (limit_is [] all)
  where
    cases : (b : Bool) (o : Option ScriptRefusal) → IsLimit o → cond b (option_map_or Err o (Ok (picked_script all))) (Err refusal.NoEvents) ≡ Err (refusal.NotUtf8 n) → ⊥
    cases false o limit e = cc
    cases true None limit e = cc
    cases true (Some (refusal.TooManyLines m)) limit e = cc
    cases true (Some (refusal.TooManyStyles m)) limit e = cc
    cases true (Some (refusal.NotUtf8 m)) limit e = limit
    cases true (Some refusal.NoEvents) limit e = limit
    cases true (Some refusal.OutOfMemory) limit e = limit

-- the script of a text in UTF-8 is that of its lines
pub script_of_utf8 : (bytes : List ℕ) → IsUtf8 bytes → script_of bytes ≡ script_of_lines (lines_of bytes)
script_of_utf8 bytes utf8 =
    ap (λ b. cond b (script_of_lines (lines_of bytes)) (Err (refusal.NotUtf8 (utf8_valid_len bytes)))) (eq-eqb (utf8_valid_len bytes) (length bytes) (utf8_valid_len-IsUtf8 bytes utf8))

pub never_not_utf8 : (bytes : List ℕ) (result : Result ScriptValue ScriptRefusal) (n : ℕ) → IsUtf8 bytes → IsScriptAnswer result (script_of bytes) → result ≡ Err (refusal.NotUtf8 n) → ⊥
never_not_utf8 bytes result n utf8 answer e =
    let said : script_of bytes ≡ Err (refusal.NotUtf8 n) = subst (λ (r : Result ScriptValue ScriptRefusal). IsScriptAnswer r (script_of bytes)) e answer in
    lines_are_utf8 (lines_of bytes) n (sym (script_of_utf8 bytes utf8) ∙ said)

-- no text wants memory
pub never_wants_memory : (bytes : List ℕ) → script_of bytes ≡ Err refusal.OutOfMemory → ⊥
never_wants_memory bytes = whole (eqb (utf8_valid_len bytes) (length bytes))
  where
    cases : (b : Bool) (o : Option ScriptRefusal) → IsLimit o → cond b (option_map_or Err o (Ok (picked_script (lines_of bytes)))) (Err refusal.NoEvents) ≡ Err refusal.OutOfMemory → ⊥
    cases false o limit e = cc
    cases true None limit e = cc
    cases true (Some (refusal.TooManyLines m)) limit e = cc
    cases true (Some (refusal.TooManyStyles m)) limit e = cc
    cases true (Some (refusal.NotUtf8 m)) limit e = limit
    cases true (Some refusal.NoEvents) limit e = limit
    cases true (Some refusal.OutOfMemory) limit e = limit

    whole : (b : Bool) → cond b (script_of_lines (lines_of bytes)) (Err (refusal.NotUtf8 (utf8_valid_len bytes))) ≡ Err refusal.OutOfMemory → ⊥
    whole true e = cases (has is_events_heading (lines_of bytes)) (limit_behind [] (lines_of bytes)) (limit_is [] (lines_of bytes)) e
    whole false e = cc
