-- The languages of a model (Wagner and Dean 2001; Giffin, Jha and Miller 2004).
use Rattle.std.specs.Prelude.{ℕ, ℤ, List, [], ◌∷◌, Option}
use Rattle.dm_base.specs.declared.event.Event.{Event}
use Rattle.dm_base.specs.declared.event.Event.TheVariants.{Pre, Post}
use Rattle.dm_base.specs.Fits.{Fits}
use Rattle.dm_base.specs.Trace.{erase}
use Rattle.flow_model.specs.declared.which.Which.{Which}
use Rattle.flow_model.specs.declared.which.Which.TheVariants.{Callgraph, Stack, Dyck}
use Rattle.flow_model.specs.Graph.{Graph, HasSilent, HasSys, HasCall, HasFunction}

-- What a step does: stay inside and read nothing, call the system, enter a function at a site, or leave one.
pub data Move : Type 0 where
  Inside : Move
  Calls : ℕ → List (Option ℤ) → Move
  Enters : ℕ → Move
  Leaves : ℕ → Move

-- The steps of the pushdown automaton. A configuration is a node and the list of open sites, the newest first.
pub data Steps (g : Graph) : ℕ → List ℕ → Move → ℕ → List ℕ → Type 0 where
  silent : {a b : ℕ} {z : List ℕ} → HasSilent g a b → Steps g a z Inside b z
  sys : {a x b : ℕ} {p : List (Option ℤ)} {z : List ℕ} → HasSys g a x p b → Steps g a z (Calls x p) b z
  enter : {a s b f entry exit : ℕ} {z : List ℕ} → HasCall g a s b f → HasFunction g f entry exit → Steps g a z (Enters s) entry (s ∷ z)
  leave : {a s b f entry exit : ℕ} {z : List ℕ} → HasCall g a s b f → HasFunction g f entry exit → Steps g exit (s ∷ z) (Leaves s) b z

-- The word t is read along steps from the configuration (a, y) to (c, w), null calls included.
pub data DyckRun (g : Graph) : ℕ → List ℕ → List Event → ℕ → List ℕ → Type 0 where
  over : {a : ℕ} {z : List ℕ} → DyckRun g a z [] a z
  inside : {a b c : ℕ} {y z w : List ℕ} {t : List Event} → Steps g a y Inside b z → DyckRun g b z t c w → DyckRun g a y t c w
  calls : {a b c x : ℕ} {p : List (Option ℤ)} {y z w : List ℕ} {e : Event} {t : List Event} → Steps g a y (Calls x p) b z → Fits x p e → DyckRun g b z t c w → DyckRun g a y (e ∷ t) c w
  enters : {a b c s : ℕ} {y z w : List ℕ} {t : List Event} → Steps g a y (Enters s) b z → DyckRun g b z t c w → DyckRun g a y (Pre s ∷ t) c w
  leaves : {a b c s : ℕ} {y z w : List ℕ} {t : List Event} → Steps g a y (Leaves s) b z → DyckRun g b z t c w → DyckRun g a y (Post s ∷ t) c w

-- The same, where entering and leaving a function reads nothing.
pub data StackRun (g : Graph) : ℕ → List ℕ → List Event → ℕ → List ℕ → Type 0 where
  over : {a : ℕ} {z : List ℕ} → StackRun g a z [] a z
  inside : {a b c : ℕ} {y z w : List ℕ} {t : List Event} → Steps g a y Inside b z → StackRun g b z t c w → StackRun g a y t c w
  calls : {a b c x : ℕ} {p : List (Option ℤ)} {y z w : List ℕ} {e : Event} {t : List Event} → Steps g a y (Calls x p) b z → Fits x p e → StackRun g b z t c w → StackRun g a y (e ∷ t) c w
  enters : {a b c s : ℕ} {y z w : List ℕ} {t : List Event} → Steps g a y (Enters s) b z → StackRun g b z t c w → StackRun g a y t c w
  leaves : {a b c s : ℕ} {y z w : List ℕ} {t : List Event} → Steps g a y (Leaves s) b z → StackRun g b z t c w → StackRun g a y t c w

-- A step of the finite automaton that reads nothing: the exit of a function goes on after each site that may call it.
pub data Quiet (g : Graph) : ℕ → ℕ → Type 0 where
  silent : {a b : ℕ} → HasSilent g a b → Quiet g a b
  enter : {a s b f entry exit : ℕ} → HasCall g a s b f → HasFunction g f entry exit → Quiet g a entry
  leave : {a s b f entry exit : ℕ} → HasCall g a s b f → HasFunction g f entry exit → Quiet g exit b

-- The word t is read along a walk over nodes alone from a to c.
pub data Walk (g : Graph) : ℕ → List Event → ℕ → Type 0 where
  over : {a : ℕ} → Walk g a [] a
  quiet : {a b c : ℕ} {t : List Event} → Quiet g a b → Walk g b t c → Walk g a t c
  calls : {a b c x : ℕ} {p : List (Option ℤ)} {e : Event} {t : List Event} → HasSys g a x p b → Fits x p e → Walk g b t c → Walk g a (e ∷ t) c

-- The words of the callgraph model, of the abstract-stack model and of the Dyck model: those that are read from the
-- start function's entry. The first two read the trace without its null calls.
abbrev pub Reads : Which → Graph → List Event → Type 0
Reads Callgraph g t = (entry : ℕ) × (exit : ℕ) × (a : ℕ) × HasFunction g g.start entry exit × Walk g entry (erase t) a
Reads Stack g t = (entry : ℕ) × (exit : ℕ) × (a : ℕ) × (z : List ℕ) × HasFunction g g.start entry exit × StackRun g entry [] (erase t) a z
Reads Dyck g t = (entry : ℕ) × (exit : ℕ) × (a : ℕ) × (z : List ℕ) × HasFunction g g.start entry exit × DyckRun g entry [] t a z

-- the node a with the open sites z is one of the configurations of the abstract-stack model after the trace t
abbrev pub IsConfig : Graph → List Event → ℕ → List ℕ → Type 0
IsConfig g t a z = (entry : ℕ) × (exit : ℕ) × HasFunction g g.start entry exit × StackRun g entry [] (erase t) a z
