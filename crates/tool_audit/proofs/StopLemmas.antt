-- What `audit` makes of files that were read, and why it stops.
use Rattle.std.proofs.Common.{◌≡◌, ℕ, ◌<◌, ◌≤◌, List, Option, Some, None, IfSome, inl, inr, refl, subst, arith}
use Rattle.dm_base.specs.declared.mode.Mode.TheVariants.{Plain}
use Rattle.dm_base.specs.declared.verdict.Status.{Status}
use Rattle.dm_io.specs.Store.{Files, file_at, IsMissing}
use Rattle.null_calls_laws.specs.MarkedRuns.{marked_run}
use Rattle.c_rules.specs.Accepted.{IsAcceptedAs}
use Rattle.c_tree.specs.Tree.{Program}
use Rattle.c_tree.specs.View.{program_of}
use Rattle.c_meaning.specs.GraphOfProgram.{graph_of_program}
use Rattle.tool_steps.specs.Results.{AreSomeResults}
use Rattle.tool_steps.specs.ResultsStops.{RefusesResultsAlone}
use Rattle.tool_steps.specs.declared.source.Source.{Source}
use Rattle.tool_steps.specs.Sources.{IsSourceOf, RefusesSource}
use Rattle.tool_steps.proofs.SourceLemmas.{source_accepted}
use Rattle.sys_table.specs.declared.sys_result.SysResult.{SysResult}
use Rattle.sys_table.specs.ResultsText.{AreResultsWithin, IsResultsRefusal}
use Rattle.tool_frame.specs.declared.stop.Stop.{Stop}
use Rattle.tool_frame.specs.declared.stop.Stop.TheVariants as stops
use Rattle.tool_frame.specs.Stop.{Stops}
use Rattle.tool_audit.specs.Audit.{Audits, IsAuditOf, IsPlainProgram, RefusesToAudit, LacksToAudit}
use Rattle.tool_audit.specs.Stopping.{StopsAuditing}
use Rattle.tool_frame.proofs.RiseLemmas.{rises}

pub audits : (told : Option Files) (name results : List ℕ) (turns bound : ℕ) (status : Status) (text : List ℕ) (source : Source) (records : List SysResult) → IfSome told (λ files. IsSourceOf (file_at files name) Plain source) → IfSome told (λ files. AreResultsWithin (file_at files results) records) → (graph_of_program (program_of source.program)).nodes ≤ 200000
    → IsAuditOf (graph_of_program (program_of source.program)) bound (marked_run (program_of source.program) records turns) status text → IfSome told (λ files. Audits files name results turns bound status text)
audits None name results turns bound status text source records is read few made = tt
audits (Some files) name results turns bound status text source records is read few made =
    record { program = program_of source.program; records = records; accepted = source_accepted (file_at files name) Plain source is; recorded = read; few = few; is = made }

plain_program : (told : Option Files) (name : List ℕ) (source : Source) → IfSome told (λ files. IsSourceOf (file_at files name) Plain source) → IfSome told (λ files. IsPlainProgram files name)
plain_program None name source is = tt
plain_program (Some files) name source is = (program_of source.program, source_accepted (file_at files name) Plain source is)

both : (P Q : Files → Type 0) (t : Option Files) → IfSome t P → IfSome t Q → IfSome t (λ files. P files × Q files)
both P Q None p q = tt
both P Q (Some files) p q = (p, q)

-- why the source was not read
pub stops_at_source : (told : Option Files) (name results : List ℕ) (stop : Stop) (before after : ℕ) → Stops stop (RefusesSource Plain told name) (IsMissing told name) before after → Stops stop (RefusesToAudit told name results) (LacksToAudit told name results) before after
stops_at_source told name results stops.Usage before after why = why
stops_at_source told name results (stops.Source line) before after why = inl why
stops_at_source told name results (stops.Model line) before after why = inl why
stops_at_source told name results (stops.Record line) before after why = inl why
stops_at_source told name results stops.Read before after (inl rose) = inl rose
stops_at_source told name results stops.Read before after (inr lacks) = inr (inl lacks)
stops_at_source told name results stops.Write before after why = why
stops_at_source told name results stops.OutOfMemory before after why = tt

-- why the results were not read
at_results : (told : Option Files) (name results : List ℕ) (source : Source) (stop : Stop) (before between after : ℕ) → IfSome told (λ files. IsSourceOf (file_at files name) Plain source) → before ≤ between → Stops stop (RefusesResultsAlone told results) (IsMissing told results) between after → Stops stop (RefusesToAudit told name results) (LacksToAudit told name results) before after
at_results told name results source stops.Usage before between after is less why = why
at_results told name results source (stops.Source line) before between after is less why = absurd (cc (why.2))
at_results told name results source (stops.Model line) before between after is less why = absurd (cc (why.2))
at_results told name results source (stops.Record line) before between after is less why =
    inr (inl (why.0, why.1, why.2, why.3, both (λ files. IsPlainProgram files name) (λ files. IsResultsRefusal why.0 (file_at files results)) told (plain_program told name source is) why.4))
at_results told name results source stops.Read before between after is less (inl rose) = inl (rises before between after less rose)
at_results told name results source stops.Read before between after is less (inr lacks) = inr (inr (lacks, plain_program told name source is))
at_results told name results source stops.Write before between after is less why = why
at_results told name results source stops.OutOfMemory before between after is less why = tt

-- after the source was read, which changed no file
pub stops_at_results : (told mid : Option Files) (name results : List ℕ) (source : Source) (stop : Stop) (before between after : ℕ) → mid ≡ told → IfSome told (λ files. IsSourceOf (file_at files name) Plain source) → before ≤ between → Stops stop (RefusesResultsAlone mid results) (IsMissing mid results) between after → Stops stop (RefusesToAudit told name results) (LacksToAudit told name results) before after
stops_at_results told mid name results source stop before between after same is less why =
    at_results told name results source stop before between after is less
    (subst (λ (t : Option Files). Stops stop (RefusesResultsAlone t results) (IsMissing t results) between after) same why)

-- why no audit was made of files that were read
pub stops_at_graph : (told : Option Files) (name results : List ℕ) (source : Source) (records : List SysResult) (stop : Stop) (before after : ℕ) → IfSome told (λ files. IsSourceOf (file_at files name) Plain source) → IfSome told (λ files. AreResultsWithin (file_at files results) records) → StopsAuditing stop (program_of source.program) → Stops stop (RefusesToAudit told name results) (LacksToAudit told name results) before after
stops_at_graph told name results source records stops.Usage before after is read why = why
stops_at_graph told name results source records (stops.Source line) before after is read why = inr (inr (refl, why.0, many told is read))
  where
    many : (t : Option Files) → IfSome t (λ files. IsSourceOf (file_at files name) Plain source) → IfSome t (λ files. AreResultsWithin (file_at files results) records)
        → IfSome t (λ files. (p : Program) × IsAcceptedAs (file_at files name) Plain p × AreSomeResults files results × (200000 < (graph_of_program p).nodes))
    many None is read = tt
    many (Some files) is read = (program_of source.program, source_accepted (file_at files name) Plain source is, (records, read), why.1)
stops_at_graph told name results source records (stops.Model line) before after is read why = absurd why
stops_at_graph told name results source records (stops.Record line) before after is read why = absurd why
stops_at_graph told name results source records stops.Read before after is read why = absurd why
stops_at_graph told name results source records stops.Write before after is read why = why
stops_at_graph told name results source records stops.OutOfMemory before after is read why = tt
