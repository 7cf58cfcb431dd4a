-- What `depth` makes of its file and why it refuses it never hold both, and it is refused with one status.
use Rattle.std.proofs.Common.{◌≡◌, ℕ, List, Option, Some, None}
use Rattle.dm_base.specs.declared.verdict.Status.{Status}
use Rattle.dm_base.specs.declared.verdict.Status.TheVariants as statuses
use Rattle.dm_io.specs.Store.{Files}
use Rattle.tool_files.specs.Inputs.{RefusesModel}
use Rattle.tool_files.proofs.InputLemmas.{model_or_refused}
use Rattle.tool_reading.specs.Depth.{TellsDepth, IsReadyToTellDepth}

pub depth_ready : (told : Option Files) (name line : List ℕ) (status : Status) → IsReadyToTellDepth told name → RefusesModel told name status line → ⊥
depth_ready None name line status ready refuses = ready
depth_ready (Some told) name line status ready refuses = model_or_refused told name refuses.0 ready refuses.1 refuses.4

pub depth_apart : (told : Files) (name text line : List ℕ) (status : Status) → TellsDepth told name text → RefusesModel (Some told) name status line → ⊥
depth_apart told name text line status makes refuses = model_or_refused told name refuses.0 (makes.graph, makes.is_model) refuses.1 refuses.4

pub depth_status : (told : Option Files) (name line : List ℕ) (status : Status) → RefusesModel told name status line → status ≡ statuses.ModelRefused
depth_status told name line status refuses = refuses.2
