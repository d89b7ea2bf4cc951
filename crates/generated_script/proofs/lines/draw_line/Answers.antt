use Rattle.generated_script.proofs.lines.draw_line.Goals as goal

pub returns-clause-numbers : goal.returns-clause-numbers
returns-clause-numbers c = simp (
  c.below-layer.ensures.drawn,
  c.below-length.ensures.drawn,
  c.below-size.ensures.drawn,
  c.below-x.ensures.drawn,
  c.below-y.ensures.drawn,
  c.form_of-form.ensures,
  c.below.ensures.drawn,
  c.below.ensures.state,
  c.below-y.ensures.state,
  c.below-x.ensures.state,
  c.below-size.ensures.state,
  c.below-length.ensures.state,
  c.below-layer.ensures.state,
)
