-- What commands make of a C text and why they refuse it never hold both, and it is refused with one status.
use Rattle.std.proofs.Common.{◌≡◌, ◌⊎◌, ℕ, ◌≤◌, List, length, Option, Some, None, IfSome, inl, inr, refl, subst, arith}
use Rattle.dm_base.specs.declared.mode.Mode.{Mode}
use Rattle.dm_base.specs.declared.mode.Mode.TheVariants.{Plain}
use Rattle.dm_base.specs.declared.verdict.Status.{Status}
use Rattle.dm_base.specs.declared.verdict.Status.TheVariants as statuses
use Rattle.dm_io.specs.Store.{Files, file_at, IsMissing}
use Rattle.c_rules.specs.Accepted.{IsAcceptedAs}
use Rattle.c_tree.specs.Tree.{Program}
use Rattle.c_tree.specs.View.{program_of}
use Rattle.c_meaning.specs.GraphOfProgram.{graph_of_program}
use Rattle.model_file.specs.declared.version.ModelVersion.TheVariants.{Two}
use Rattle.model_file.specs.ModelText.{model_text}
use Rattle.model_file.specs.Refusal.{longest}
use Rattle.tool_frame.specs.declared.stop.Stop.{Stop}
use Rattle.tool_frame.specs.declared.stop.Stop.TheVariants as stops
use Rattle.tool_frame.specs.Stop.{Stops}
use Rattle.tool_steps.specs.declared.source.Source.{Source}
use Rattle.tool_texts.specs.Check.{Checks, checked_text, IsReadyToCheck}
use Rattle.tool_texts.specs.Modelled.{Models, RefusesToModel, IsReadyToModel}
use Rattle.tool_steps.specs.ModelTexts.{IsModelOf, IsPastLimit, many_nodes, long_text}
use Rattle.tool_steps.specs.Sources.{IsSourceOf, RefusesSource}
use Rattle.tool_steps.specs.ModelStops.{StopsModelling}
use Rattle.tool_steps.proofs.SourceLemmas.{source_accepted, accepted_once}

-- what a command makes of a program that a file was read as

pub checks : (told : Option Files) (name text : List ℕ) (source : Source) → IfSome told (λ files. IsSourceOf (file_at files name) Plain source) → text ≡ checked_text (program_of source.program) → IfSome told (λ files. Checks files name text)
checks None name text source is writes = tt
checks (Some files) name text source is writes = (program_of source.program, source_accepted (file_at files name) Plain source is, writes)

pub models : (told : Option Files) (name text : List ℕ) (source : Source) → IfSome told (λ files. IsSourceOf (file_at files name) Plain source) → IsModelOf (program_of source.program) text → IfSome told (λ files. Models files name text)
models None name text source is made = tt
models (Some files) name text source is made = (program_of source.program, source_accepted (file_at files name) Plain source is, made)

-- why no model was made of a file that was read
pub stops_modelling : (told : Option Files) (name : List ℕ) (source : Source) (stop : Stop) (before after : ℕ) → IfSome told (λ files. IsSourceOf (file_at files name) Plain source) → StopsModelling stop (program_of source.program) → Stops stop (RefusesToModel told name) (IsMissing told name) before after
stops_modelling told name source stops.Usage before after is why = why
stops_modelling told name source (stops.Source line) before after is why = inr (refl, fixed why, with_source told is)
  where
    fixed : IsPastLimit (program_of source.program) line.items → (line.items ≡ many_nodes) ⊎ (line.items ≡ long_text)
    fixed (inl many) = inl many.0
    fixed (inr long) = inr long.0

    with_source : (t : Option Files) → IfSome t (λ files. IsSourceOf (file_at files name) Plain source) → IfSome t (λ files. (p : Program) × IsAcceptedAs (file_at files name) Plain p × IsPastLimit p line.items)
    with_source None is = tt
    with_source (Some files) is = (program_of source.program, source_accepted (file_at files name) Plain source is, why)
stops_modelling told name source (stops.Model line) before after is why = absurd why
stops_modelling told name source (stops.Record line) before after is why = absurd why
stops_modelling told name source stops.Read before after is why = absurd why
stops_modelling told name source stops.Write before after is why = why
stops_modelling told name source stops.OutOfMemory before after is why = tt

-- why the file was not read
pub stops_reading : (told : Option Files) (name : List ℕ) (stop : Stop) (before after : ℕ) → Stops stop (RefusesSource Plain told name) (IsMissing told name) before after → Stops stop (RefusesToModel told name) (IsMissing told name) before after
stops_reading told name stops.Usage before after why = why
stops_reading told name (stops.Source line) before after why = inl why
stops_reading told name (stops.Model line) before after why = inl why
stops_reading told name (stops.Record line) before after why = inl why
stops_reading told name stops.Read before after why = why
stops_reading told name stops.Write before after why = why
stops_reading told name stops.OutOfMemory before after why = tt

-- a file that is accepted isn't refused
pub accepted_apart : (told : Files) (name line : List ℕ) (mode : Mode) (status : Status) (p : Program) → IsAcceptedAs (file_at told name) mode p → RefusesSource mode (Some told) name status line → ⊥
accepted_apart told name line mode status p is refuses = (refuses.4).1 p is

pub check_ready : (told : Option Files) (name line : List ℕ) (status : Status) → IsReadyToCheck told name → RefusesSource Plain told name status line → ⊥
check_ready None name line status ready refuses = ready
check_ready (Some told) name line status ready refuses = accepted_apart told name line Plain status ready.0 ready.1 refuses

pub checked_apart : (told : Files) (name text line : List ℕ) (status : Status) → Checks told name text → RefusesSource Plain (Some told) name status line → ⊥
checked_apart told name text line status makes refuses = accepted_apart told name line Plain status makes.0 makes.1 refuses

pub check_status : (mode : Mode) (told : Option Files) (name line : List ℕ) (status : Status) → RefusesSource mode told name status line → status ≡ statuses.SourceRefused
check_status mode told name line status refuses = refuses.2

-- a program whose model is within the limits is past none
within_limits : (p : Program) (line : List ℕ) → (graph_of_program p).nodes ≤ 200000 → length (model_text Two (graph_of_program p)) ≤ longest → IsPastLimit p line → ⊥
within_limits p line few short (inl many) = (let more = many.1 in omega (arith, few, more))
within_limits p line few short (inr long) = (let more = long.2 in omega (arith, short, more))

modelled_or_refused : (told : Files) (name line : List ℕ) (status : Status) (p : Program) → IsAcceptedAs (file_at told name) Plain p → (graph_of_program p).nodes ≤ 200000 → length (model_text Two (graph_of_program p)) ≤ longest → RefusesToModel (Some told) name status line → ⊥
modelled_or_refused told name line status p is few short (inl refuses) = accepted_apart told name line Plain status p is refuses
modelled_or_refused told name line status p is few short (inr past) =
    let same : (past.2).0 ≡ p = accepted_once (file_at told name) Plain (past.2).0 p (past.2).1 is in
    within_limits p line few short (subst (λ (q : Program). IsPastLimit q line) same (past.2).2)

pub model_ready : (told : Option Files) (name line : List ℕ) (status : Status) → IsReadyToModel told name → RefusesToModel told name status line → ⊥
model_ready None name line status ready refuses = ready
model_ready (Some told) name line status ready refuses = modelled_or_refused told name line status ready.0 ready.1 ready.2 ready.3 refuses

pub modelled_apart : (told : Files) (name text line : List ℕ) (status : Status) → Models told name text → RefusesToModel (Some told) name status line → ⊥
modelled_apart told name text line status makes refuses =
    modelled_or_refused told name line status makes.0 makes.1 (makes.2).few (subst (λ (w : List ℕ). length w ≤ longest) (((makes.2).written).writes) (((makes.2).written).is_model).short) refuses

pub model_status : (told : Option Files) (name line : List ℕ) (status : Status) → RefusesToModel told name status line → status ≡ statuses.SourceRefused
model_status told name line status (inl refuses) = refuses.2
model_status told name line status (inr past) = past.0
