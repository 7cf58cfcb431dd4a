-- The Dyck language inside the abstract-stack language, and that one inside the callgraph language.
use Rattle.std.proofs.Common.{ℕ, ℤ, List, ◌∷◌, Option, take}
use Rattle.dm_base.specs.declared.event.Event.{Event}
use Rattle.dm_base.specs.declared.event.Event.TheVariants.{Sys, Pre, Post}
use Rattle.dm_base.specs.Fits.{Fits}
use Rattle.dm_base.specs.Trace.{erase}
use Rattle.flow_model.specs.declared.which.Which.TheVariants.{Callgraph, Stack, Dyck}
use Rattle.flow_model.specs.Graph.{Graph, HasSys}
use Rattle.flow_model.specs.Language.{Inside, Calls, Enters, Leaves, Steps, DyckRun, StackRun, Walk, Quiet, Reads}
use Rattle.flow_model.specs.Language.DyckRun.{over as d_over, inside as d_inside, calls as d_calls, enters as d_enters, leaves as d_leaves}
use Rattle.flow_model.specs.Language.StackRun.{over as s_over, inside as s_inside, calls as s_calls, enters as s_enters, leaves as s_leaves}
use Rattle.flow_model.specs.Language.Walk.{over as w_over, quiet as w_quiet, calls as w_calls}
use Rattle.flow_model.specs.Language.Steps.{silent, sys, enter, leave}
use Rattle.flow_model.specs.Language.Quiet.{silent as q_silent, enter as q_enter, leave as q_leave}
use Rattle.flow_model.specs.Verdict.{IsAccepted}

-- an event that is read along a system-call edge is no null call
called : {g : Graph} {a b c x : ℕ} {p : List (Option ℤ)} {y z w : List ℕ} (e : Event) (t : List Event) → Steps g a y (Calls x p) b z → Fits x p e → StackRun g b z (erase t) c w → StackRun g a y (erase (e ∷ t)) c w
called (Sys name arguments outcome) t step fits rest = s_calls step fits rest
called (Pre site) t step fits rest = absurd fits
called (Post site) t step fits rest = absurd fits

stack_of_dyck : {g : Graph} {a c : ℕ} {y w : List ℕ} {t : List Event} → DyckRun g a y t c w → StackRun g a y (erase t) c w
stack_of_dyck d_over = s_over
stack_of_dyck (d_inside step rest) = s_inside step (stack_of_dyck rest)
stack_of_dyck (d_calls {e = e} {t = t} step fits rest) = called e t step fits (stack_of_dyck rest)
stack_of_dyck (d_enters step rest) = s_enters step (stack_of_dyck rest)
stack_of_dyck (d_leaves step rest) = s_leaves step (stack_of_dyck rest)

quiet_inside : {g : Graph} {a b : ℕ} {y z : List ℕ} → Steps g a y Inside b z → Quiet g a b
quiet_inside (silent has) = q_silent has

quiet_enters : {g : Graph} {a b s : ℕ} {y z : List ℕ} → Steps g a y (Enters s) b z → Quiet g a b
quiet_enters (enter call function) = q_enter call function

quiet_leaves : {g : Graph} {a b s : ℕ} {y z : List ℕ} → Steps g a y (Leaves s) b z → Quiet g a b
quiet_leaves (leave call function) = q_leave call function

edge_of : {g : Graph} {a b x : ℕ} {p : List (Option ℤ)} {y z : List ℕ} → Steps g a y (Calls x p) b z → HasSys g a x p b
edge_of (sys has) = has

walk_of_stack : {g : Graph} {a c : ℕ} {y w : List ℕ} {t : List Event} → StackRun g a y t c w → Walk g a t c
walk_of_stack s_over = w_over
walk_of_stack (s_inside step rest) = w_quiet (quiet_inside step) (walk_of_stack rest)
walk_of_stack (s_calls step fits rest) = w_calls (edge_of step) fits (walk_of_stack rest)
walk_of_stack (s_enters step rest) = w_quiet (quiet_enters step) (walk_of_stack rest)
walk_of_stack (s_leaves step rest) = w_quiet (quiet_leaves step) (walk_of_stack rest)

pub dyck_in_stack : (g : Graph) (t : List Event) → Reads Dyck g t → Reads Stack g t
dyck_in_stack g t (entry, exit, a, z, has, run) = (entry, exit, a, z, has, stack_of_dyck run)

pub stack_in_callgraph : (g : Graph) (t : List Event) → Reads Stack g t → Reads Callgraph g t
stack_in_callgraph g t (entry, exit, a, z, has, run) = (entry, exit, a, has, walk_of_stack run)

pub dyck_accepted_by_stack : (g : Graph) (t : List Event) (k n : ℕ) → IsAccepted Dyck g k t → IsAccepted Stack g n t
dyck_accepted_by_stack g t k n accepted = record { kept = λ j le. dyck_in_stack g (take j t) (accepted.kept j le).0 }

pub stack_accepted_by_callgraph : (g : Graph) (t : List Event) (k n : ℕ) → IsAccepted Stack g k t → IsAccepted Callgraph g n t
stack_accepted_by_callgraph g t k n accepted = record { kept = λ j le. stack_in_callgraph g (take j t) (accepted.kept j le) }
