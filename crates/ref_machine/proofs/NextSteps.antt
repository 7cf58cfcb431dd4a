-- The next step of a machine: what it costs, and where no turn is left for it.
use Rattle.std.proofs.Common.{◌≡◌, ℕ, ◌≤◌, List, [], arith}
use Rattle.dm_base.specs.declared.outcome.Outcome.TheVariants.{Turns}
use Rattle.sys_table.specs.declared.sys_result.SysResult.{SysResult}
use Rattle.c_tree.specs.Tree.{Program}
use Rattle.c_tree.specs.View.{stmt_of}
use Rattle.c_values.specs.Memory.{Objects}
use Rattle.c_meaning.specs.Results.{Stop}
use Rattle.ref_machine_frames.specs.Held.{world}
use Rattle.ref_machine_frames.specs.Frames.{after_exit, after_value, place_of, rounds_of, stack}
use Rattle.ref_machine_frames.specs.Work.{of_bit}
use Rattle.ref_machine_frames.specs.declared.frames.Frame.{Frame}
use Rattle.ref_machine_frames.specs.declared.frames.Here.{Here}
use Rattle.ref_machine_frames.specs.declared.frames.Now.{Now}
use Rattle.ref_machine_frames.specs.declared.frames.Now.TheVariants.{Eval, Have, Exec, Left, Enter, Test, Ask, Told, Stopped, Mistyped}
use Rattle.ref_machine.specs.Standing.{IsCostly, left_of}
use Rattle.ref_machine.proofs.Turning.{no_turn_to_enter, no_turn_to_test}

pub bit_is_small : (now : Now) → of_bit now ≤ 1
bit_is_small (Eval wanted e) = omega arith
bit_is_small now = omega arith

-- no turn is left for the next step
pub no_turn_left : (p : Program) (n : ℕ) (here : Here) (m : Objects) (e t : ℕ) (now : Now) (todo : List Frame) (records : List SysResult) (taken : ℕ) → IsCostly now → t ≡ 0 → t ≤ n →
    Stop Turns [] ≡ left_of p n (record { here = here; memory = m; entries = e; turns = t; now = now; todo = todo }) records taken
no_turn_left p n here m e t (Enter wanted f vs) todo records taken costly none le =
    no_turn_to_enter p n wanted f vs.items m e records taken t (after_value p (world p n) (place_of here) (stack todo)) none le
no_turn_left p n here m e t (Test s) todo records taken costly none le =
    no_turn_to_test p n (place_of here) (rounds_of (stmt_of s.now)) m e records taken t (after_exit p (world p n) (place_of here) (stack todo)) none le
no_turn_left p n here m e t now todo records taken costly none le = absurd costly
