-- What `confirm MODEL TRACE CERTIFICATE` makes of its files, and why it refuses them.
use Rattle.std.specs.Prelude.{◌≡◌, ◌≢◌, ◌⊎◌, ℕ, List, [], ◌++◌, Option, IfSome, IsSomeAnd, codes, decimal}
use Rattle.dm_base.specs.declared.event.Event.{Event}
use Rattle.dm_base.specs.declared.outcome.TraceEnd.{TraceEnd}
use Rattle.dm_base.specs.declared.verdict.Status.{Status}
use Rattle.dm_base.specs.declared.verdict.Status.TheVariants as statuses
use Rattle.dm_base.specs.declared.verdict.Verdict.{Verdict}
use Rattle.dm_base.specs.declared.verdict.Verdict.TheVariants.{Accepted, Rejected, Bound}
use Rattle.dm_io.specs.Store.{Files, file_at, IsMissing}
use Rattle.flow_model.specs.Graph.{Graph}
use Rattle.flow_model.specs.Verdict.{IsVerdict}
use Rattle.model_file.specs.Refusal.{IsModel}
use Rattle.trace_file.specs.Trace.{IsTraceWithin}
use Rattle.certify_facts.specs.declared.fact.Judge.{Judge}
use Rattle.certify_facts.specs.declared.fact.Judge.TheVariants as judges
use Rattle.certify_facts.specs.Confirms.{Confirms, which_of}
use Rattle.certify_facts.specs.Told.{Told}
use Rattle.certify_file.specs.declared.error.CertificateError.{CertificateError}
use Rattle.certify_file.specs.declared.error.CertificateError.TheVariants as texts
use Rattle.certify_file.specs.CertificateText.{IsCertificateWithin, IsCertificateRefusal}
use Rattle.certify.specs.declared.error.ConfirmError.{ConfirmError}
use Rattle.certify.specs.declared.error.ConfirmError.TheVariants as claims
use Rattle.certify.specs.Refusals.{IsRefusal}
use Rattle.tool_files.specs.Inputs.{IsAModel, IsATrace, RefusesToJudge, LacksToJudge}

-- the line of a confirmed verdict; no certificate claims that a bound was passed
abbrev pub confirmed_text : Judge → Verdict → List ℕ
confirmed_text judges.Callgraph (Accepted n) = codes "confirmed callgraph accepted " ++ decimal n ++ codes "\n"
confirmed_text judges.Callgraph (Rejected n) = codes "confirmed callgraph rejected " ++ decimal n ++ codes "\n"
confirmed_text judges.Callgraph (Bound n) = []
confirmed_text judges.Stack (Accepted n) = codes "confirmed stack accepted " ++ decimal n ++ codes "\n"
confirmed_text judges.Stack (Rejected n) = codes "confirmed stack rejected " ++ decimal n ++ codes "\n"
confirmed_text judges.Stack (Bound n) = []

-- the line of a refused text of a certificate
abbrev pub certificate_refusal : CertificateError → List ℕ
certificate_refusal texts.OutOfMemory = codes "out of memory\n"
certificate_refusal (texts.BadLine k) = codes "record refused Q1 line " ++ decimal k ++ codes "\n"
certificate_refusal texts.NoEnd = codes "record refused Q2\n"
certificate_refusal texts.TooLong = codes "record refused Q3\n"
certificate_refusal texts.Version = codes "record refused Q4\n"

-- the line of a certificate that isn't confirmed
abbrev pub confirm_refusal : ConfirmError → List ℕ
confirm_refusal claims.OutOfMemory = codes "out of memory\n"
confirm_refusal (claims.Line k) = codes "record refused Q5 line " ++ decimal k ++ codes "\n"
confirm_refusal claims.Claim = codes "record refused Q6\n"

-- the three files hold this model, this trace and this certificate
pub record AreRead (files : Files) (model trace certificate : List ℕ) (g : Graph) (t : List Event) (c : Told) : Type 0 where
  pub is_model : IsModel (file_at files model) g
  pub end : TraceEnd
  pub is_trace : IsTraceWithin (file_at files trace) t end
  pub is_certificate : IsCertificateWithin (file_at files certificate) c

-- The certificate in the third file shows what it claims of the model and the trace in the others. So its verdict is that
-- of the model's language on the trace, whatever the bound of the Dyck model is. The text says so.
pub record TellsConfirmed (files : Files) (model trace certificate text : List ℕ) : Type 0 where
  pub graph : Graph
  pub events : List Event
  pub told : Told
  pub read : AreRead files model trace certificate graph events told
  pub confirms : Confirms graph events told
  pub verdict : (bound : ℕ) → IsVerdict (which_of told.judge) graph bound events told.verdict
  pub is : text ≡ confirmed_text told.judge told.verdict

-- the text in a file is no certificate's, with this status and this line
abbrev pub RefusesText : Option Files → List ℕ → Status → List ℕ → Type 0
RefusesText files certificate status line =
    (error : CertificateError) × (error ≢ texts.OutOfMemory) × (status ≡ statuses.RecordRefused) × (line ≡ certificate_refusal error)
    × IfSome files (λ told. IsCertificateRefusal error (file_at told certificate))

-- the model and the trace are such
abbrev pub AreJudged : Option Files → List ℕ → List ℕ → Type 0
AreJudged files model trace = IfSome files (λ told. IsAModel told model × IsATrace told trace)

-- the certificate in the third file doesn't show what it claims, for this reason
pub record IsUnconfirmed (files : Files) (model trace certificate : List ℕ) (error : ConfirmError) : Type 0 where
  pub graph : Graph
  pub events : List Event
  pub told : Told
  pub read : AreRead files model trace certificate graph events told
  pub refusal : IsRefusal graph events told error

-- the certificate isn't confirmed, with this status and this line
abbrev pub RefusesClaim : Option Files → List ℕ → List ℕ → List ℕ → Status → List ℕ → Type 0
RefusesClaim files model trace certificate status line =
    (error : ConfirmError) × (error ≢ claims.OutOfMemory) × (status ≡ statuses.RecordRefused) × (line ≡ confirm_refusal error)
    × IfSome files (λ told. IsUnconfirmed told model trace certificate error)

-- the files are read and refused in this order, and at last the claim is looked at
abbrev pub RefusesToConfirm : Option Files → List ℕ → List ℕ → List ℕ → Status → List ℕ → Type 0
RefusesToConfirm files model trace certificate status line =
    RefusesToJudge files model trace status line
    ⊎ ((AreJudged files model trace × RefusesText files certificate status line)
    ⊎ RefusesClaim files model trace certificate status line)

-- the model or the trace isn't there, or the certificate isn't, and the others are a model and a trace
abbrev pub LacksToConfirm : Option Files → List ℕ → List ℕ → List ℕ → Type 0
LacksToConfirm files model trace certificate = LacksToJudge files model trace ⊎ (AreJudged files model trace × IsMissing files certificate)

-- the files are told, and hold a model, a trace and a certificate that shows what it claims of them
pub record IsConfirmable (files : Files) (model trace certificate : List ℕ) : Type 0 where
  pub graph : Graph
  pub events : List Event
  pub told : Told
  pub read : AreRead files model trace certificate graph events told
  pub confirms : Confirms graph events told

abbrev pub IsReadyToConfirm : Option Files → List ℕ → List ℕ → List ℕ → Type 0
IsReadyToConfirm files model trace certificate = IsSomeAnd files (λ told. IsConfirmable told model trace certificate)
