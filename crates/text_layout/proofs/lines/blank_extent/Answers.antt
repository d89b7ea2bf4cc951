use Rattle.std.proofs.Common.{◌≡◌, ◌∙◌, ℕ, ◌-◌, ◌<◌, ◌≤◌, List, length, get_or, ℤ, pos, sym, ap, ap₂, arith}
use Rattle.std.proofs.lemmas.Int.{ints}
use Rattle.std.proofs.lemmas.Option.{slice_get-get_or, slice_get_past}
use Rattle.std.specs.List.{All}
use Rattle.std.specs.Option.{option_map_or}
use Rattle.override_tags.specs.declared.view.Shown.{Shown}
use Rattle.text_layout.specs.declared.extents.Extent.{Extent}
use Rattle.text_layout.specs.declared.metrics.Metrics.{Metrics}
use Rattle.text_layout.specs.Lines.{blank_extent, state_at}
use Rattle.text_layout.specs.Metrics.{IsMetrics, no_metrics}
use Rattle.text_layout.proofs.BitLemmas.{bits_64, place_bits}
use Rattle.text_layout.proofs.lines.blank_extent.Goals as goal
use Rattle.text_layout.proofs.lines.blank_extent.Goals.{then-place-items, else-place-items}

-- the extent of a state without items
abbrev heights : ℤ → ℤ → Extent
heights ascent descent = record { advance = pos 0; ascent = ascent; descent = descent }

blank_bits : (metrics : List Metrics) (items : List Shown) (place state : ℕ) → All IsMetrics metrics → state < length metrics → state ≡ state_at (length metrics) items place
    → heights (bits_64 (get_or metrics state no_metrics).ascent) (bits_64 (get_or metrics state no_metrics).descent) ≡ blank_extent metrics items place
blank_bits metrics items place state each l same =
    let m = each state no_metrics l in
    ap₂ heights
    (place_bits (get_or metrics state no_metrics).ascent (omega (arith, ints, m.ascent), omega (arith, ints, m.ascent)))
    (place_bits (get_or metrics state no_metrics).descent (omega (arith, ints, m.descent), omega (arith, ints, m.descent)))
    ∙ ap (λ (n : ℕ). heights (get_or metrics n no_metrics).ascent (get_or metrics n no_metrics).descent) same

state_within : (states : ℕ) (items : List Shown) (place : ℕ) (d : Shown) → place < length items → (get_or items place d).state ≡ state_at states items place
state_within states items place d l = sym (ap (λ o. option_map_or (λ (shown : Shown). shown.state) o (states - 1)) (slice_get-get_or items place d l))

state_past : (states : ℕ) (items : List Shown) (place : ℕ) → length items ≤ place → states - 1 ≡ state_at states items place
state_past states items place l = sym (ap (λ o. option_map_or (λ (shown : Shown). shown.state) o (states - 1)) (slice_get_past items place l))

pub returns-clause-value : goal.returns-clause-value
returns-clause-value c =
    let metrics = c.args.metrics.now in
    let items = c.args.items.now in
    let place = c.args.place in
    let n = c.if-place-items.state in
    let some = c.requires.states in
    elim c.if-place-items.branch [
      | then-place-items w ↦
          let l = w.if-place-items.true in
          let within = (c.requires.items place w.index-items-place.result l).state in
          let is = w.state-is in
          blank_bits metrics items place n c.requires.metrics (omega (arith, is, within)) (is ∙ state_within (length metrics) items place w.index-items-place.result l)
      | else-place-items w ↦
          let is = w.state-is in
          blank_bits metrics items place n c.requires.metrics (omega (arith, is, some)) (is ∙ state_past (length metrics) items place w.if-place-items.false)
    ]
