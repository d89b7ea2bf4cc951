-- Inner: views that are laid out alike: layout looks at nothing else of a view.
use Rattle.std.specs.Prelude.{◌≡◌}
use Rattle.override_tags.specs.declared.view.EventView.{EventView}
use Rattle.text_layout.specs.LineScales.{is_typeset}

pub record AreLaidAlike (a b : EventView) : Type 0 where
  pub names : a.names ≡ b.names
  pub states : a.states ≡ b.states
  pub items : a.items ≡ b.items
  pub align : a.align ≡ b.align
  pub wrap : a.wrap ≡ b.wrap
  pub typeset : is_typeset a ≡ is_typeset b
