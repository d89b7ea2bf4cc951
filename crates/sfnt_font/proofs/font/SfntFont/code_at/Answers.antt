use Rattle.std.proofs.Common.{◌≡◌, ◌++◌, ◌∷◌, [], ◌∙◌, sym, ap, get_or, rules, arith, FitsSigned, to_z-of_z, w64, ◌-◌}
use Rattle.sfnt_font.specs.Fonts.{symbol_count}
use Rattle.sfnt_font.specs.Codes.{codes_of, missing_code}
use Rattle.sfnt_font.proofs.CodeLemmas.{symbol_at, behind_symbols}
use Rattle.sfnt_font.proofs.font.SfntFont.code_at.Goals as goal

pub returns-then-place-symbols-clause-value : goal.returns-then-place-symbols-clause-value
returns-then-place-symbols-clause-value c =
    let font = c.args.self.now in
    let fits : FitsSigned w64 c.from.result = search rules in
    to_z-of_z fits ∙ (c.from.ensures ∙ sym (symbol_at (symbol_count font) c.args.place (codes_of font.segments ++ missing_code ∷ []) missing_code (omega (arith, c.if-place-symbols.true, c.symbol_count-symbols.ensures.value))))

pub returns-clause-value : goal.returns-clause-value
returns-clause-value c =
    let font = c.args.self.now in
    let behind = behind_symbols (symbol_count font) c.args.place (codes_of font.segments) missing_code (omega (arith, c.if-place-symbols.false, c.symbol_count-symbols.ensures.value)) in
    let fits : FitsSigned w64 c.code_in.result = search rules in
    let place : get_or (codes_of c.as_slice.result.now) (c.args.place - c.symbol_count-symbols.result) missing_code ≡ get_or (codes_of font.segments) (c.args.place - symbol_count font) missing_code =
    ap (λ segments. get_or (codes_of segments) (c.args.place - c.symbol_count-symbols.result) missing_code) c.as_slice.ensures
    ∙ ap (λ n. get_or (codes_of font.segments) (c.args.place - n) missing_code) c.symbol_count-symbols.ensures.value in
    to_z-of_z fits ∙ (c.code_in.ensures.value ∙ (place ∙ sym behind))
