-- The shapes of functions: the control flow of their bodies, of which only the system calls, the calls at sites and the ways to leave a construct are kept (Wagner and Dean 2001).
use Rattle.std.specs.Prelude.{ℕ, ℤ, Bool, List, Option, slice_index_or}

mutual
  -- The shape of a construct of C.
  pub data Shape : Type 0 where
    -- nothing that matters
    Skip : Shape
    -- a call of the system call with this number, other than `_exit`, whose recorded arguments fit the pattern
    Sys : ℕ → List (Option ℤ) → Shape
    -- a call of `_exit`, which doesn't come back
    Exit : List (Option ℤ) → Shape
    -- a call at a site
    Call : ℕ → Shape
    -- a first part, and the others in order after it
    Seq : Shape → Parts → Shape
    -- one of two parts
    Alt : Shape → Shape → Shape
    -- a loop with a test before the body, and a step after it (C99 6.8.5.1, 6.8.5.3)
    Loop : Shape → Shape → Shape → Shape
    -- a loop with a body and the test after it (C99 6.8.5.2)
    Do : Shape → Shape → Shape
    -- the groups of a switch, and whether one of them has the label `default` (C99 6.8.4.2)
    Cases : Parts → Bool → Shape
    Break : Shape
    Continue : Shape
    Return : Shape

  -- Shapes in order.
  pub data Parts : Type 0 where
    End : Parts
    Part : Shape → Parts → Parts

-- The shapes of a program: that of each function that may be entered, the functions that may be called at each site, and the function that a run enters. Functions go by their places in the list.
pub record Shapes : Type 0 where
  pub functions : List Shape
  pub candidates : ℕ → List ℕ
  pub main : ℕ

-- the shape of the function f; past the list, nothing
abbrev pub shape_of : Shapes → ℕ → Shape
shape_of env f = slice_index_or env.functions f Skip

-- the number of the system call `_exit`
abbrev pub exit_call : ℕ
exit_call = 23

-- How a construct is left: at its end, or by a break, a continue or a return (C99 6.8.6).
pub data Leave : Type 0 where
  goes_on : Leave
  breaks : Leave
  continues : Leave
  returns : Leave

-- a function's body is left at its end or by a return
abbrev pub IsDone : Leave → Type 0
IsDone goes_on = Unit {0}
IsDone breaks = ⊥
IsDone continues = ⊥
IsDone returns = Unit {0}

-- a loop's body is left for the next round
abbrev pub IsNext : Leave → Type 0
IsNext goes_on = Unit {0}
IsNext breaks = ⊥
IsNext continues = Unit {0}
IsNext returns = ⊥

-- a construct is left elsewhere than at its end
abbrev pub IsAway : Leave → Type 0
IsAway goes_on = ⊥
IsAway breaks = Unit {0}
IsAway continues = Unit {0}
IsAway returns = Unit {0}
