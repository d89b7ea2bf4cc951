use Rattle.std.proofs.Common.{◌≡◌, ℕ, ◌-◌, ◌≤◌, cond, false, ap, sym, ◌∙◌, arith}
use Rattle.std.specs.Prelude.{nat_lt, slice_index}
use Rattle.std.proofs.lemmas.Bool.Decides.{nat_tests}
use Rattle.sfnt_font.specs.Names.{mac_roman, mac_character}
use Rattle.sfnt_font.proofs.names.mac_character.Goals as goal

in_table : (byte k : ℕ) → 128 ≤ byte → k ≡ byte - 128 → slice_index mac_roman k ≡ mac_character byte
in_table byte k above place =
    let test : nat_lt byte 128 ≡ false = grind (arith, nat_tests) in
    ap (slice_index mac_roman) place ∙ ap (λ b. cond b byte (slice_index mac_roman (byte - 128))) (sym test)

pub returns : goal.returns
unfolding mac_roman
returns c = in_table c.args.byte c.from-2.result c.if-byte-lt128.false c.from-2.ensures
