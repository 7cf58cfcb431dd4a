-- What `certify` makes of two files that were read, and why it stopped.
use Rattle.std.proofs.Common.{◌≡◌, ℕ, ◌≤◌, List, Option, Some, None, IfSome, inl, inr, refl, ◌∙◌, ap, subst, arith}
use Rattle.std.specs.Prelude.{codes}
use Rattle.dm_base.specs.declared.event.Event.{Event}
use Rattle.dm_base.specs.declared.outcome.TraceEnd.{TraceEnd}
use Rattle.dm_base.specs.declared.verdict.Status.{Status}
use Rattle.dm_base.specs.declared.verdict.Verdict.{Verdict}
use Rattle.dm_io.specs.Store.{Files, file_at}
use Rattle.flow_model.specs.Graph.{Graph}
use Rattle.model_file.specs.Refusal.{IsModel}
use Rattle.trace_file.specs.Trace.{IsTraceWithin, IsTraceRefusal}
use Rattle.certify_facts.specs.declared.fact.Judge.{Judge}
use Rattle.certify_facts.specs.Told.{Told}
use Rattle.certify_file.specs.CertificateText.{IsCertificate}
use Rattle.certify_making.specs.declared.error.CertifyError.{CertifyError}
use Rattle.certify_making.specs.declared.error.CertifyError.TheVariants.{TooLarge}
use Rattle.certify_making.specs.Made.{HasTooMany, IsCertifyRefusal, IsMade}
use Rattle.tool_files.specs.Inputs.{RefusesToJudge, LacksToJudge}
use Rattle.tool_files.specs.Reading.{StopsModel, StopsTrace}
use Rattle.tool_files.proofs.InputFiles.{stops_before, stops_following}
use Rattle.tool_frame.specs.declared.stop.Stop.{Stop}
use Rattle.tool_frame.specs.declared.stop.Stop.TheVariants as stops
use Rattle.tool_frame.specs.Stop.{Stops}
use Rattle.tool_reading.specs.Certify.{AreJudgeable, IsCertified, IsUncertifiable, RefusesToCertify, TellsCertificate, status_of}
use Rattle.tool_reading.specs.Stopping.{IsRecordStop, StopsMaking}
use Rattle.tool_reading.proofs.ConfirmLemmas.{stops_more}

-- both files that were read
pub are_judgeable : (told mid : Option Files) (model trace : List ℕ) (g : Graph) (t : List Event) → mid ≡ told
    → IfSome told (λ files. IsModel (file_at files model) g) → IfSome mid (λ files. (end : TraceEnd) × IsTraceWithin (file_at files trace) t end)
    → IfSome told (λ files. AreJudgeable files model trace g t)
are_judgeable told mid model trace g t same is_model is_trace = of told is_model (subst (λ (f : Option Files). IfSome f (λ files. (end : TraceEnd) × IsTraceWithin (file_at files trace) t end)) same is_trace)
  where
    of : (f : Option Files) → IfSome f (λ files. IsModel (file_at files model) g) → IfSome f (λ files. (end : TraceEnd) × IsTraceWithin (file_at files trace) t end) → IfSome f (λ files. AreJudgeable files model trace g t)
    of None is_model is_trace = tt
    of (Some files) is_model is_trace = record { is_model = is_model; end = is_trace.0; is_trace = is_trace.1 }

pub tells_certificate : (told : Option Files) (model trace : List ℕ) (judge : Judge) (status : Status) (text : List ℕ) (g : Graph) (t : List Event) → IfSome told (λ files. AreJudgeable files model trace g t) → IsCertified judge g t status text
    → IfSome told (λ files. TellsCertificate files model trace judge status text)
tells_certificate None model trace judge status text g t read certified = tt
tells_certificate (Some files) model trace judge status text g t read certified = record { graph = g; events = t; read = read; certified = certified }

-- why it stopped at the model, at the trace and at the facts
module _ (told : Option Files) (model trace : List ℕ) (judge : Judge) where
  abbrev StopsHere : Stop → ℕ → ℕ → Type 0
  StopsHere stop before after = Stops stop (RefusesToCertify told model trace judge) (LacksToJudge told model trace) before after

  of_files : (stop : Stop) (before after : ℕ) → Stops stop (RefusesToJudge told model trace) (LacksToJudge told model trace) before after → StopsHere stop before after
  of_files stop before after why =
      stops_more (RefusesToJudge told model trace) (RefusesToCertify told model trace judge) (LacksToJudge told model trace) (LacksToJudge told model trace)
      stop before before after (omega arith) (λ status line refuses. inl refuses) (λ lacks. lacks) why

  pub stops_at_model : (stop : Stop) (before after : ℕ) → StopsModel stop told model before after → StopsHere stop before after
  stops_at_model stop before after why = of_files stop before after (stops_before IsTraceRefusal told model trace stop before after why)

  pub stops_at_trace : (mid : Option Files) (g : Graph) (stop : Stop) (before between after : ℕ) → mid ≡ told → before ≤ between → IfSome told (λ files. IsModel (file_at files model) g) → StopsTrace stop mid trace between after → StopsHere stop before after
  stops_at_trace mid g stop before between after same less is_model why =
      of_files stop before after (stops_following IsTraceRefusal told model trace g stop before between after less is_model (subst (λ (f : Option Files). StopsTrace stop f trace between after) same why))

  uncertifiable : (g : Graph) (t : List Event) → IfSome told (λ files. AreJudgeable files model trace g t) → HasTooMany judge g t → IfSome told (λ files. IsUncertifiable files model trace judge)
  uncertifiable g t read many = of told read
    where
      of : (f : Option Files) → IfSome f (λ files. AreJudgeable files model trace g t) → IfSome f (λ files. IsUncertifiable files model trace judge)
      of None read = tt
      of (Some files) read = record { graph = g; events = t; read = read; many = many }

  pub stops_at_facts : (g : Graph) (t : List Event) (stop : Stop) (before after : ℕ) → IfSome told (λ files. AreJudgeable files model trace g t) → StopsMaking stop judge g t → StopsHere stop before after
  stops_at_facts g t stops.Usage before after read why = why
  stops_at_facts g t (stops.Source line) before after read why = absurd why
  stops_at_facts g t (stops.Model line) before after read why = absurd why
  stops_at_facts g t (stops.Record line) before after read why = inr (refl, why.0, uncertifiable g t read why.1)
  stops_at_facts g t stops.Read before after read why = absurd why
  stops_at_facts g t stops.Write before after read why = why
  stops_at_facts g t stops.OutOfMemory before after read why = tt

-- why a certificate wasn't made
pub stops_making : (judge : Judge) (g : Graph) (t : List Event) (error : CertifyError) (stop : Stop) → IsCertifyRefusal judge g t error → IsRecordStop stop (error ≡ TooLarge) (codes "record refused Q3\n") → StopsMaking stop judge g t
stops_making judge g t error stops.Usage refusal why = why
stops_making judge g t error (stops.Source line) refusal why = why
stops_making judge g t error (stops.Model line) refusal why = why
stops_making judge g t error (stops.Record line) refusal why = (why.1, subst (IsCertifyRefusal judge g t) why.0 refusal)
stops_making judge g t error stops.Read refusal why = why
stops_making judge g t error stops.Write refusal why = why
stops_making judge g t error stops.OutOfMemory refusal why = tt

-- the text of a certificate that was made, with its verdict's status
pub certified_by : (judge : Judge) (g : Graph) (t : List Event) (told : Told) (text : List ℕ) (v : Verdict) (status : Status) → IsMade judge g t told → IsCertificate text told → v ≡ told.verdict → status ≡ status_of v → IsCertified judge g t status text
certified_by judge g t told text v status made is same verdict = record { told = told; made = made; is = is; verdict = verdict ∙ ap status_of same }
