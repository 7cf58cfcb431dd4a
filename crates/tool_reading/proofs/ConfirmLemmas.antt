-- What `confirm` makes of three files that were read, and why it stopped.
use Rattle.std.proofs.Common.{◌≡◌, ◌≢◌, ℕ, ◌≤◌, List, Option, Some, None, IfSome, inl, inr, refl, ◌∙◌, ap, subst, arith}
use Rattle.dm_base.specs.declared.event.Event.{Event}
use Rattle.dm_base.specs.declared.outcome.TraceEnd.{TraceEnd}
use Rattle.dm_base.specs.declared.verdict.Status.{Status}
use Rattle.dm_base.specs.declared.verdict.Status.TheVariants as statuses
use Rattle.dm_base.specs.declared.verdict.Verdict.{Verdict}
use Rattle.dm_io.specs.Store.{Files, file_at, IsMissing}
use Rattle.flow_model.specs.Graph.{Graph}
use Rattle.flow_model.specs.Verdict.{IsVerdict}
use Rattle.model_file.specs.Refusal.{IsModel}
use Rattle.trace_file.specs.Trace.{IsTraceWithin, IsTraceRefusal}
use Rattle.certify_facts.specs.declared.fact.Judge.{Judge}
use Rattle.certify_facts.specs.Confirms.{Confirms, which_of}
use Rattle.certify_facts.specs.Told.{Told}
use Rattle.certify_file.specs.CertificateText.{IsCertificateWithin}
use Rattle.certify.specs.declared.error.ConfirmError.{ConfirmError}
use Rattle.certify.specs.declared.error.ConfirmError.TheVariants as claims
use Rattle.certify.specs.Refusals.{IsRefusal}
use Rattle.tool_files.specs.Inputs.{RefusesToJudge, LacksToJudge}
use Rattle.tool_files.specs.Reading.{StopsModel, StopsTrace}
use Rattle.tool_files.proofs.InputFiles.{stops_before, stops_following}
use Rattle.tool_frame.specs.declared.stop.Stop.{Stop}
use Rattle.tool_frame.specs.declared.stop.Stop.TheVariants as stops
use Rattle.tool_frame.specs.Stop.{Stops}
use Rattle.tool_reading.specs.Confirm.{AreJudged, AreRead, IsUnconfirmed, LacksToConfirm, RefusesText, RefusesToConfirm, TellsConfirmed, confirm_refusal, confirmed_text}
use Rattle.tool_reading.specs.Stopping.{IsRecordStop, IsShown, StopsClaim}
use Rattle.tool_frame.proofs.RiseLemmas.{rises}

-- a command that stops for what a part of it stops for
pub stops_more : (Part Whole : Status → List ℕ → Type 0) (Lacked Lacking : Type 0) (stop : Stop) (before between after : ℕ) → before ≤ between
    → ((status : Status) (line : List ℕ) → Part status line → Whole status line) → (Lacked → Lacking) → Stops stop Part Lacked between after → Stops stop Whole Lacking before after
stops_more Part Whole Lacked Lacking stops.Usage before between after less more lacks why = why
stops_more Part Whole Lacked Lacking (stops.Source line) before between after less more lacks why = more statuses.SourceRefused line.items why
stops_more Part Whole Lacked Lacking (stops.Model line) before between after less more lacks why = more statuses.ModelRefused line.items why
stops_more Part Whole Lacked Lacking (stops.Record line) before between after less more lacks why = more statuses.RecordRefused line.items why
stops_more Part Whole Lacked Lacking stops.Read before between after less more lacks (inl rose) = inl (rises before between after less rose)
stops_more Part Whole Lacked Lacking stops.Read before between after less more lacks (inr lacked) = inr (lacks lacked)
stops_more Part Whole Lacked Lacking stops.Write before between after less more lacks why = why
stops_more Part Whole Lacked Lacking stops.OutOfMemory before between after less more lacks why = tt

-- the model and the trace that were read
pub judged : (told mid : Option Files) (model trace : List ℕ) (g : Graph) (t : List Event) → mid ≡ told
    → IfSome told (λ files. IsModel (file_at files model) g) → IfSome mid (λ files. (end : TraceEnd) × IsTraceWithin (file_at files trace) t end) → AreJudged told model trace
judged told mid model trace g t same is_model is_trace = of told is_model (subst (λ (f : Option Files). IfSome f (λ files. (end : TraceEnd) × IsTraceWithin (file_at files trace) t end)) same is_trace)
  where
    of : (f : Option Files) → IfSome f (λ files. IsModel (file_at files model) g) → IfSome f (λ files. (end : TraceEnd) × IsTraceWithin (file_at files trace) t end) → AreJudged f model trace
    of None is_model is_trace = tt
    of (Some files) is_model is_trace = ((g, is_model), (t, is_trace.0, is_trace.1))

-- all three files that were read
pub are_read : (told mid later : Option Files) (model trace certificate : List ℕ) (g : Graph) (t : List Event) (c : Told) → mid ≡ told → later ≡ told
    → IfSome told (λ files. IsModel (file_at files model) g) → IfSome mid (λ files. (end : TraceEnd) × IsTraceWithin (file_at files trace) t end) → IfSome later (λ files. IsCertificateWithin (file_at files certificate) c)
    → IfSome told (λ files. AreRead files model trace certificate g t c)
are_read told mid later model trace certificate g t c same too is_model is_trace is_certificate =
    of told is_model (subst (λ (f : Option Files). IfSome f (λ files. (end : TraceEnd) × IsTraceWithin (file_at files trace) t end)) same is_trace) (subst (λ (f : Option Files). IfSome f (λ files. IsCertificateWithin (file_at files certificate) c)) too is_certificate)
  where
    of : (f : Option Files) → IfSome f (λ files. IsModel (file_at files model) g) → IfSome f (λ files. (end : TraceEnd) × IsTraceWithin (file_at files trace) t end) → IfSome f (λ files. IsCertificateWithin (file_at files certificate) c) → IfSome f (λ files. AreRead files model trace certificate g t c)
    of None is_model is_trace is_certificate = tt
    of (Some files) is_model is_trace is_certificate = record { is_model = is_model; end = is_trace.0; is_trace = is_trace.1; is_certificate = is_certificate }

pub tells_confirmed : (told : Option Files) (model trace certificate text : List ℕ) (g : Graph) (t : List Event) (c : Told) → IfSome told (λ files. AreRead files model trace certificate g t c) → IsShown g t c text → IfSome told (λ files. TellsConfirmed files model trace certificate text)
tells_confirmed None model trace certificate text g t c read shown = tt
tells_confirmed (Some files) model trace certificate text g t c read shown =
    record { graph = g; events = t; told = c; read = read; confirms = shown.confirms; verdict = shown.verdict; is = shown.is }

-- why it stopped at the model, at the trace, at the text of the certificate and at its claim
module _ (told : Option Files) (model trace certificate : List ℕ) where
  abbrev StopsHere : Stop → ℕ → ℕ → Type 0
  StopsHere stop before after = Stops stop (RefusesToConfirm told model trace certificate) (LacksToConfirm told model trace certificate) before after

  of_files : (stop : Stop) (before after : ℕ) → Stops stop (RefusesToJudge told model trace) (LacksToJudge told model trace) before after → StopsHere stop before after
  of_files stop before after why =
      stops_more (RefusesToJudge told model trace) (RefusesToConfirm told model trace certificate) (LacksToJudge told model trace) (LacksToConfirm told model trace certificate)
      stop before before after (omega arith) (λ status line refuses. inl refuses) (λ lacks. inl lacks) why

  pub stops_at_model : (stop : Stop) (before after : ℕ) → StopsModel stop told model before after → StopsHere stop before after
  stops_at_model stop before after why = of_files stop before after (stops_before IsTraceRefusal told model trace stop before after why)

  pub stops_at_trace : (mid : Option Files) (g : Graph) (stop : Stop) (before between after : ℕ) → mid ≡ told → before ≤ between → IfSome told (λ files. IsModel (file_at files model) g) → StopsTrace stop mid trace between after → StopsHere stop before after
  stops_at_trace mid g stop before between after same less is_model why =
      of_files stop before after (stops_following IsTraceRefusal told model trace g stop before between after less is_model (subst (λ (f : Option Files). StopsTrace stop f trace between after) same why))

  pub stops_at_certificate : (later : Option Files) (stop : Stop) (before between after : ℕ) → later ≡ told → before ≤ between → AreJudged told model trace → Stops stop (RefusesText later certificate) (IsMissing later certificate) between after → StopsHere stop before after
  stops_at_certificate later stop before between after same less judged why =
      stops_more (RefusesText told certificate) (RefusesToConfirm told model trace certificate) (IsMissing told certificate) (LacksToConfirm told model trace certificate)
      stop before between after less (λ status line refuses. inr (inl (judged, refuses))) (λ lacks. inr (judged, lacks))
      (subst (λ (f : Option Files). Stops stop (RefusesText f certificate) (IsMissing f certificate) between after) same why)

  unconfirmed : (g : Graph) (t : List Event) (c : Told) (error : ConfirmError) → IfSome told (λ files. AreRead files model trace certificate g t c) → IsRefusal g t c error → IfSome told (λ files. IsUnconfirmed files model trace certificate error)
  unconfirmed g t c error read refusal = of told read
    where
      of : (f : Option Files) → IfSome f (λ files. AreRead files model trace certificate g t c) → IfSome f (λ files. IsUnconfirmed files model trace certificate error)
      of None read = tt
      of (Some files) read = record { graph = g; events = t; told = c; read = read; refusal = refusal }

  pub stops_at_claim : (g : Graph) (t : List Event) (c : Told) (stop : Stop) (before after : ℕ) → IfSome told (λ files. AreRead files model trace certificate g t c) → StopsClaim stop g t c → StopsHere stop before after
  stops_at_claim g t c stops.Usage before after read why = why
  stops_at_claim g t c (stops.Source line) before after read why = absurd why
  stops_at_claim g t c (stops.Model line) before after read why = absurd why
  stops_at_claim g t c (stops.Record line) before after read why = inr (inr (why.0, why.1, refl, why.2, unconfirmed g t c why.0 read why.3))
  stops_at_claim g t c stops.Read before after read why = absurd why
  stops_at_claim g t c stops.Write before after read why = why
  stops_at_claim g t c stops.OutOfMemory before after read why = tt

-- why a claim wasn't confirmed
pub stops_claim : (g : Graph) (t : List Event) (c : Told) (error : ConfirmError) (stop : Stop) → IsRefusal g t c error → IsRecordStop stop (error ≢ claims.OutOfMemory) (confirm_refusal error) → StopsClaim stop g t c
stops_claim g t c error stops.Usage refusal why = why
stops_claim g t c error (stops.Source line) refusal why = why
stops_claim g t c error (stops.Model line) refusal why = why
stops_claim g t c error (stops.Record line) refusal why = (error, why.0, why.1, refusal)
stops_claim g t c error stops.Read refusal why = why
stops_claim g t c error stops.Write refusal why = why
stops_claim g t c error stops.OutOfMemory refusal why = tt

-- the line of a verdict that was confirmed
pub shows : (g : Graph) (t : List Event) (c : Told) (judge : Judge) (v : Verdict) (text : List ℕ) → judge ≡ c.judge → v ≡ c.verdict → Confirms g t c → ((bound : ℕ) → IsVerdict (which_of c.judge) g bound t v) → text ≡ confirmed_text judge v → IsShown g t c text
shows g t c judge v text same claimed confirms verdict is = record {
  confirms = confirms;
  verdict = λ bound. subst (λ (w : Verdict). IsVerdict (which_of c.judge) g bound t w) claimed (verdict bound);
  is = is ∙ ap (λ (j : Judge). confirmed_text j v) same ∙ ap (confirmed_text c.judge) claimed;
}
