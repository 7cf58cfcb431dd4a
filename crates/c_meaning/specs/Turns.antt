-- Turns: as many as are left are enough for what is left of a run.
use Rattle.std.specs.Prelude.{◌≡◌, ℕ, ◌≤◌, Bool, List}
use Rattle.c_tree.specs.declared.value.Value.{Value}
use Rattle.c_tree.specs.Tree.{Program}
use Rattle.c_meaning.specs.Meaning.{Marks, Frame, Loop}
use Rattle.c_meaning.specs.Results.{State}
use Rattle.c_meaning.specs.Runs.{enter, loop, world}

-- where at most n turns are left, what n turns are enough for enters a function by its body, and tests a loop as the loop
pub record TurnsAreEnough : Type 0 where
  pub enter : (p : Program) (marks : Marks) (n : ℕ) (wanted : Bool) (f : ℕ) (vs : List Value) (st : State) → st.turns ≤ n → (world p marks n).enter wanted f vs st ≡ enter p (world p marks n) marks wanted f vs st
  pub again : (p : Program) (marks : Marks) (n : ℕ) (fr : Frame) (l : Loop) (st : State) → st.turns ≤ n → (world p marks n).again fr l st ≡ loop p (world p marks n) marks fr l st
