-- The next numbers of variables.
use Rattle.std.specs.Prelude.{◌≡◌, ℕ, ◌+◌, ◌<◌, ◌^◌, true, false, List, length, Option, Some, None, nat_le}
use Rattle.c_check_counts.specs.declared.numbers.Next.{Next as NextTree}
use Rattle.c_check_scopes.specs.Limits.{most_local_cells}
use Rattle.c_check_scopes.specs.Names.{Name}
use Rattle.c_check_scopes.specs.Variables.{Next, first_numbers, names_of_block}
use Rattle.c_syntax.specs.Tree.{BlockItems}
use Rattle.dm_base.specs.declared.mode.Mode.{Mode}

abbrev pub next_of : NextTree → Next
next_of n = record { plain = n.plain; added = n.added }

-- variables with these names have numbers below 2^32, and so have those behind them
pub record HaveNumbers (next : Next) (names : List Name) : Type 0 where
  pub plain : next.plain + length names < 2 ^ 32
  pub added : next.added + length names < 2 ^ 32

-- The first numbers in a body behind so many parameters, where these are not too many variables. Then all of them have numbers.
abbrev pub AreFirst : Mode → (parameters : ℕ) → BlockItems → Option NextTree → Type 0
AreFirst m k is None = nat_le (k + length (names_of_block is)) (most_local_cells m) ≡ false
AreFirst m k is (Some n) =
    (nat_le (k + length (names_of_block is)) (most_local_cells m) ≡ true)
    × (next_of n ≡ first_numbers k is)
    × HaveNumbers (next_of n) (names_of_block is)
