-- For private contracts and proofs alone: events that stand for the edges of a model, and which of them are kept.
use Rattle.std.specs.Prelude.{◌≡◌, ℕ, ℤ, List, [], ◌∷◌, ◌++◌, Option, None, Some, Contains}
use Rattle.std.specs.List.{AllZip}
use Rattle.dm_base.specs.declared.event.Arg.{Arg}
use Rattle.dm_base.specs.declared.event.Event.{Event}
use Rattle.dm_base.specs.declared.event.Event.TheVariants.{Sys, Pre, Post}
use Rattle.dm_base.specs.Fits.{Fits, IsNumber}
use Rattle.flow_model.specs.declared.records.SysEdge.{SysEdge}
use Rattle.flow_model.specs.declared.which.Which.{Which}
use Rattle.flow_model.specs.Graph.{Graph}
use Rattle.flow_model.specs.Verdict.{IsAccepted}
use Rattle.sys_table.specs.declared.kinds.ArgKind.{ArgKind}
use Rattle.sys_table.specs.Table.{FitsArgument, IsRecorded}

-- the argument is the number of the entry, where it has one
abbrev pub FillsEntry : Option ℤ → Arg → Type 0
FillsEntry None argument = Unit {0}
FillsEntry (Some n) argument = IsNumber n argument

-- the arguments are of the kinds, and fill the entries
pub record AreFilled (kinds : List ArgKind) (entries : List (Option ℤ)) (arguments : List Arg) : Type 0 where
  pub kind : AllZip FitsArgument kinds arguments
  pub entry : AllZip FillsEntry entries arguments

-- the event is a system call with this name
abbrev pub IsNamed : ℕ → Event → Type 0
IsNamed x (Sys name arguments outcome) = name ≡ x
IsNamed x (Pre site) = ⊥
IsNamed x (Post site) = ⊥

-- some event of the list fits the edge
abbrev pub HasTrial : List Event → SysEdge → Type 0
HasTrial es d = (e : Event) × Contains es e × Fits d.name d.args e

-- events that a trace may record, one at least for each edge
pub record AreTrials (g : Graph) (es : List Event) : Type 0 where
  pub recorded : (e : Event) → Contains es e → IsRecorded e
  pub complete : (d : SysEdge) → Contains g.sys d → HasTrial es d

-- after the history some event of the list with this name is kept
abbrev pub Comes : Which → Graph → ℕ → List Event → List Event → ℕ → Type 0
Comes which g bound h es x = (e : Event) × Contains es e × IsNamed x e × IsAccepted which g bound (h ++ e ∷ [])

-- the new pool is the model's too, and each monitor that stood for a history stands for it still
pub record KeepsPool {P M : Type 0} (IsPool : P → Graph → Type 0) (Stands : M → P → Graph → ℕ → List Event → Type 0) (AreNoted : P → Graph → List M → Type 0) (g : Graph) (old new : P) : Type 0 where
  pub pool : IsPool new g
  pub others : (m : M) (k : ℕ) (h : List Event) → Stands m old g k h → Stands m new g k h
  pub notes : AreNoted old g [] → AreNoted new g []
