-- For private contracts and proofs alone: where one event leads in the Dyck model.
use Rattle.std.specs.Prelude.{◌≡◌, ℕ, Contains}
use Rattle.dm_base.specs.declared.event.Event.{Event}
use Rattle.dm_base.specs.declared.event.Event.TheVariants.{Sys, Pre, Post}
use Rattle.dm_base.specs.Fits.{Fits}
use Rattle.flow_model.specs.declared.records.SysEdge.{SysEdge}
use Rattle.flow_model.specs.Graph.{Graph, HasCall, HasFunction}
use Rattle.dyck_monitor.specs.Silence.{LeadsTo}

-- an edge that reads the event leads from one of the nodes to b
pub record IsRead (g : Graph) (Is : ℕ → Type 0) (e : Event) (b : ℕ) : Type 0 where
  pub edge : SysEdge
  pub has : Contains g.sys edge
  pub from : Is edge.from
  pub fits : Fits edge.name edge.args e
  pub to : edge.to ≡ b

-- the call at the site leaves one of the nodes, and a function that it may enter begins at b
pub record IsEntered (g : Graph) (Is : ℕ → Type 0) (s b : ℕ) : Type 0 where
  pub from : ℕ
  pub to : ℕ
  pub function : ℕ
  pub exit : ℕ
  pub call : HasCall g from s to function
  pub enters : HasFunction g function b exit
  pub leaves : Is from

-- a function that the call at the site may enter ends at one of the nodes, and the call goes on at b
pub record IsReturned (g : Graph) (Is : ℕ → Type 0) (s b : ℕ) : Type 0 where
  pub from : ℕ
  pub function : ℕ
  pub entry : ℕ
  pub exit : ℕ
  pub call : HasCall g from s b function
  pub ends : HasFunction g function entry exit
  pub leaves : Is exit

-- the event leads at once from one of the nodes to b
abbrev pub IsAhead : Graph → (ℕ → Type 0) → Event → ℕ → Type 0
IsAhead g Is (Sys name arguments outcome) b = IsRead g Is (Sys name arguments outcome) b
IsAhead g Is (Pre s) b = IsEntered g Is s b
IsAhead g Is (Post s) b = IsReturned g Is s b

-- and silent edges lead from there to c
pub record IsAfter (g : Graph) (Is : ℕ → Type 0) (e : Event) (c : ℕ) : Type 0 where
  pub first : ℕ
  pub ahead : IsAhead g Is e first
  pub rest : LeadsTo g first c
