-- What `certify MODEL TRACE WHICH` makes of its files, and why it refuses them.
use Rattle.std.specs.Prelude.{◌≡◌, ◌⊎◌, ℕ, List, Option, IfSome, IsSomeAnd, codes}
use Rattle.dm_base.specs.declared.event.Event.{Event}
use Rattle.dm_base.specs.declared.outcome.TraceEnd.{TraceEnd}
use Rattle.dm_base.specs.declared.verdict.Status.{Status}
use Rattle.dm_base.specs.declared.verdict.Status.TheVariants as statuses
use Rattle.dm_base.specs.declared.verdict.Verdict.{Verdict}
use Rattle.dm_base.specs.declared.verdict.Verdict.TheVariants.{Accepted, Rejected, Bound}
use Rattle.dm_io.specs.Store.{Files, file_at}
use Rattle.flow_model.specs.Graph.{Graph}
use Rattle.model_file.specs.Refusal.{IsModel}
use Rattle.trace_file.specs.Trace.{IsTraceWithin}
use Rattle.certify_facts.specs.declared.fact.Judge.{Judge}
use Rattle.certify_facts.specs.Told.{Told}
use Rattle.certify_file.specs.CertificateText.{IsCertificate}
use Rattle.certify_making.specs.Made.{IsMade, HasTooMany}
use Rattle.tool_files.specs.Inputs.{RefusesToJudge}

-- the status of a verdict
abbrev pub status_of : Verdict → Status
status_of (Accepted n) = statuses.Done
status_of (Rejected n) = statuses.Rejected
status_of (Bound n) = statuses.Bound

-- the two files hold this model and this trace
pub record AreJudgeable (files : Files) (model trace : List ℕ) (g : Graph) (t : List Event) : Type 0 where
  pub is_model : IsModel (file_at files model) g
  pub end : TraceEnd
  pub is_trace : IsTraceWithin (file_at files trace) t end

-- The text is that of a certificate that shows the judge's verdict on the trace, by each fact that follows; the status is the
-- verdict's.
pub record IsCertified (judge : Judge) (g : Graph) (t : List Event) (status : Status) (text : List ℕ) : Type 0 where
  pub told : Told
  pub made : IsMade judge g t told
  pub is : IsCertificate text told
  pub verdict : status ≡ status_of told.verdict

pub record TellsCertificate (files : Files) (model trace : List ℕ) (judge : Judge) (status : Status) (text : List ℕ) : Type 0 where
  pub graph : Graph
  pub events : List Event
  pub read : AreJudgeable files model trace graph events
  pub certified : IsCertified judge graph events status text

-- more facts follow of the model and the trace than a certificate may have
pub record IsUncertifiable (files : Files) (model trace : List ℕ) (judge : Judge) : Type 0 where
  pub graph : Graph
  pub events : List Event
  pub read : AreJudgeable files model trace graph events
  pub many : HasTooMany judge graph events

-- no certificate is made of a model and a trace, with this status and this line
abbrev pub RefusesToMake : Option Files → List ℕ → List ℕ → Judge → Status → List ℕ → Type 0
RefusesToMake files model trace judge status line =
    (status ≡ statuses.RecordRefused) × (line ≡ codes "record refused Q3\n") × IfSome files (λ told. IsUncertifiable told model trace judge)

-- the files are read and refused in this order, and at last the facts are too many
abbrev pub RefusesToCertify : Option Files → List ℕ → List ℕ → Judge → Status → List ℕ → Type 0
RefusesToCertify files model trace judge status line = RefusesToJudge files model trace status line ⊎ RefusesToMake files model trace judge status line

-- the files are told, and hold a model and a trace of which not too many facts follow
pub record IsCertifiable (files : Files) (model trace : List ℕ) (judge : Judge) : Type 0 where
  pub graph : Graph
  pub events : List Event
  pub read : AreJudgeable files model trace graph events
  pub few : HasTooMany judge graph events → ⊥

abbrev pub IsReadyToCertify : Option Files → List ℕ → List ℕ → Judge → Type 0
IsReadyToCertify files model trace judge = IsSomeAnd files (λ told. IsCertifiable told model trace judge)
