-- Public: what a walk over spans finds.
use Rattle.std.specs.Prelude.{Bool, ◌&&◌, if◌then◌else◌, ℤ, pos, int_le, int_lt, List, [], ◌∷◌, ◌++◌}
use Rattle.std.specs.Ordering.{int_eq}
use Rattle.near_events.specs.declared.spans.EventSpan.{EventSpan}
use Rattle.near_events.specs.declared.walks.Walk.{Walk}

-- what was found so far, and the layer and the start of the span found last
pub record WalkValue : Type 0 where
  pub found : List EventSpan
  pub layer : ℤ
  pub least : ℤ

abbrev pub walk_of : Walk → WalkValue
walk_of walk = record { found = walk.found.items; layer = walk.layer; least = walk.least }

-- before the last span
abbrev pub first_walk : ℤ → WalkValue
first_walk t = record { found = []; layer = pos 0; least = t }

-- what a span of this layer has to outlast: the start of the one found last there, or t where there is none
abbrev pub bound_of : ℤ → WalkValue → ℤ → ℤ
bound_of t walk layer = if int_eq layer walk.layer then walk.least else t

abbrev pub walk_takes : ℤ → WalkValue → EventSpan → Bool
walk_takes t walk span = int_le span.start t && int_lt (bound_of t walk span.layer) span.end

abbrev pub stepped : ℤ → WalkValue → EventSpan → WalkValue
stepped t walk span = if walk_takes t walk span then record { found = walk.found ++ span ∷ []; layer = span.layer; least = span.start } else walk

-- after all these spans, the last one first
abbrev pub walked_spans : ℤ → WalkValue → List EventSpan → WalkValue
walked_spans t walk [] = walk
walked_spans t walk (span ∷ spans) = stepped t (walked_spans t walk spans) span

-- after all spans
abbrev pub all_walked : ℤ → List EventSpan → WalkValue
all_walked t spans = walked_spans t (first_walk t) spans
