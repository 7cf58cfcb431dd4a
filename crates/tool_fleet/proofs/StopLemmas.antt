-- Why a command stopped, told of more files and of more reads.
use Rattle.std.proofs.Common.{ℕ, ◌≤◌, List, Option, Some, None, IfSome, inl, inr, arith}
use Rattle.dm_base.specs.declared.verdict.Status.{Status}
use Rattle.dm_base.specs.declared.verdict.Status.TheVariants as statuses
use Rattle.dm_io.specs.Store.{Files, IsMissing}
use Rattle.tool_files.specs.Inputs.{RefusesModel}
use Rattle.tool_files.specs.Reading.{StopsModel}
use Rattle.tool_frame.specs.declared.stop.Stop.{Stop}
use Rattle.tool_frame.specs.declared.stop.Stop.TheVariants as stops
use Rattle.tool_frame.specs.Stop.{Stops}
use Rattle.tool_frame.proofs.RiseLemmas.{rises}

-- a stop for one reason is one for each that follows from it
pub stops_weaker : (stop : Stop) (R T : Status → List ℕ → Type 0) (L N : Type 0) (before between after : ℕ) → before ≤ between → ((status : Status) (line : List ℕ) → R status line → T status line) → (L → N) → Stops stop R L between after → Stops stop T N before after
stops_weaker stops.Usage R T L N before between after less refuses lacks why = why
stops_weaker (stops.Source line) R T L N before between after less refuses lacks why = refuses statuses.SourceRefused line.items why
stops_weaker (stops.Model line) R T L N before between after less refuses lacks why = refuses statuses.ModelRefused line.items why
stops_weaker (stops.Record line) R T L N before between after less refuses lacks why = refuses statuses.RecordRefused line.items why
stops_weaker stops.Read R T L N before between after less refuses lacks (inl rose) = inl (rises before between after less rose)
stops_weaker stops.Read R T L N before between after less refuses lacks (inr lacking) = inr (lacks lacking)
stops_weaker stops.Write R T L N before between after less refuses lacks why = why
stops_weaker stops.OutOfMemory R T L N before between after less refuses lacks why = tt

-- why a model was not read
pub model_stops : (stop : Stop) (told : Option Files) (name : List ℕ) (before after : ℕ) → StopsModel stop told name before after → Stops stop (RefusesModel told name) (IsMissing told name) before after
model_stops stops.Usage told name before after why = why
model_stops (stops.Source line) told name before after why = absurd why
model_stops (stops.Model line) told name before after why = why
model_stops (stops.Record line) told name before after why = absurd why
model_stops stops.Read told name before after why = why
model_stops stops.Write told name before after why = why
model_stops stops.OutOfMemory told name before after why = tt

-- what holds of the told files in two ways
pub both_told : (P Q : Files → Type 0) (told : Option Files) → IfSome told P → IfSome told Q → IfSome told (λ files. P files × Q files)
both_told P Q None p q = tt
both_told P Q (Some files) p q = (p, q)

pub told_so : (P Q : Files → Type 0) (told : Option Files) → ((files : Files) → P files → Q files) → IfSome told P → IfSome told Q
told_so P Q None so p = tt
told_so P Q (Some files) so p = so files p
