-- Public: how far events are moved to stand clear of one another. These are conditions of calls.
use Rattle.std.specs.Prelude.{ℕ, ◌+◌, ◌*◌}
use Rattle.event_places.specs.Placement.{max_height, max_moved, max_place}

-- the farthest that a block is moved to stand clear of others, in 1/64 pixel
abbrev pub max_shift : ℕ
max_shift = max_place + max_moved

-- the farthest from 0 that a box lies which is moved clear of so many others
abbrev pub reach : ℕ → ℕ
reach count = max_place + count * max_height
