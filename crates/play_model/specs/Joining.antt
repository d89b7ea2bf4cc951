-- Public: the first pass of a cell and those that are split off it and joined again.
use Rattle.std.specs.Prelude.{◌≡◌, ℕ, ◌+◌, ◌<◌, List, Contains}
use Rattle.turn_cell.specs.History.{IsPrefix}
use Rattle.turn_cell.specs.Passes.{Extends, PassView, mine, new_pass}

-- The first pass of a cell after so many passes were split off it, and these passes.
pub record ArePassesSplit {E T : Type 0} (before : PassView E T) (count : ℕ) (passes : ℕ → PassView E T) (after : PassView E T) : Type 0 where
  pub first_is : after ≡ record before { next = before.next + count }
  pub each : (i : ℕ) → i < count → passes i ≡ new_pass (record before { next = before.next + i })

-- The first pass of a cell after it took in so many passes.
pub record ArePassesJoined {E T : Type 0} (before : PassView E T) (count : ℕ) (passes : ℕ → PassView E T) (after : PassView E T) : Type 0 where
  pub cell : after.cell ≡ before.cell
  pub tag : after.tag ≡ before.tag
  pub number : after.number ≡ before.number
  pub next : after.next ≡ before.next
  pub begins : IsPrefix before.seen after.seen
  pub mine_is : mine after ≡ mine before
  pub past : (pair : ℕ × List E) → Contains before.past pair → Contains after.past pair
  pub joined : (i : ℕ) → i < count → Contains after.past ((passes i).number, mine (passes i))
  pub seen : (i : ℕ) → i < count → IsPrefix (passes i).seen after.seen
  pub itself : Extends after after.seen
