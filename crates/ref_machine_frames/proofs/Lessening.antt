-- Steps that leave less to do.
use Rattle.std.proofs.Common.{ℕ, zero, suc, ◌<◌, ◌≤◌, List, [], ◌∷◌, drop, IfOk, arith}
use Rattle.std.specs.Prelude.{Result, Ok, Err}
use Rattle.dm_base.specs.declared.memory.OutOfMemory.{OutOfMemory}
use Rattle.c_tree.specs.declared.tree.TGroup.{TGroup}
use Rattle.c_tree.specs.View.{groups_of}
use Rattle.ref_machine_frames.specs.declared.frames.Frame.{Frame}
use Rattle.ref_machine_frames.specs.declared.frames.Now.{Now}
use Rattle.ref_machine_frames.specs.Work.{of_groups, work}

-- a step that leaves at most so much leaves at most what is more
pub at_most : (r : Result Now OutOfMemory) (new : List Frame) (k l : ℕ) → k ≤ l → IfOk r (λ now. work now new ≤ k) → IfOk r (λ now. work now new ≤ l)
at_most (Ok now) new k l le h = omega (arith, le, h)
at_most (Err e) new k l le h = tt

-- and less than what is more still
pub below : (r : Result Now OutOfMemory) (new : List Frame) (k l : ℕ) → k < l → IfOk r (λ now. work now new ≤ k) → IfOk r (λ now. work now new < l)
below (Ok now) new k l lt h = omega (arith, lt, h)
below (Err e) new k l lt h = tt

-- later groups are fewer
pub later_groups : (n : ℕ) (gs : List TGroup) → of_groups (groups_of (drop n gs)) ≤ of_groups (groups_of gs)
later_groups zero gs = omega arith
later_groups (suc n) [] = omega arith
later_groups (suc n) (g ∷ gs) = let h = later_groups n gs in omega (arith, h)
