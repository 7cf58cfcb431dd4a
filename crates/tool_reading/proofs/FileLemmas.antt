-- Three files are what they are read as, or refused, and refused with one status.
use Rattle.std.proofs.Common.{◌≡◌, ◌≢◌, ℕ, List, [], Option, Some, None, inl, inr, refl, sym, ◌∙◌, subst, append-nil}
use Rattle.dm_base.specs.declared.event.Event.{Event}
use Rattle.dm_base.specs.declared.outcome.TraceEnd.{TraceEnd}
use Rattle.dm_base.specs.declared.verdict.Status.{Status}
use Rattle.dm_io.specs.Store.{Files, file_at}
use Rattle.flow_model.specs.Graph.{Graph}
use Rattle.model_file.proofs.UniqueLemmas.{one_graph}
use Rattle.trace_file.specs.Trace.{IsTrace}
use Rattle.trace_file.proofs.OneReading.{one_trace}
use Rattle.certify_facts.specs.Confirms.{Confirms}
use Rattle.certify_facts.specs.Told.{Told}
use Rattle.certify_file.proofs.FreeLemmas.{same_certificate}
use Rattle.certify_file.proofs.HeadLemmas.{not_refused}
use Rattle.certify.specs.declared.error.ConfirmError.{ConfirmError}
use Rattle.certify.specs.declared.error.ConfirmError.TheVariants.{OutOfMemory, Line, Claim}
use Rattle.certify.specs.Refusals.{IsRefusal}
use Rattle.tool_files.proofs.InputLemmas.{judge_ready, judge_status}
use Rattle.tool_reading.specs.Confirm.{AreRead, IsConfirmable, IsReadyToConfirm, RefusesToConfirm, TellsConfirmed}

-- a certificate that shows what it claims is confirmed
not_both : (g : Graph) (t : List Event) (c : Told) (error : ConfirmError) → error ≢ OutOfMemory → IsRefusal g t c error → Confirms g t c → ⊥
not_both g t c OutOfMemory named refusal confirms = named refl
not_both g t c (Line n) named refusal confirms = (refusal.2).fails (confirms.reasons refusal.0 (refusal.2).within)
not_both g t c Claim named refusal confirms = refusal.1 confirms.claim

-- a text is that of one trace
pub same_events : (text : List ℕ) (t u : List Event) (end last : TraceEnd) → IsTrace text t end → IsTrace text u last → u ≡ t
same_events text t u end last a b = (one_trace text [] t u end last a (subst (λ (w : List ℕ). IsTrace w u last) (sym (append-nil text)) b)).0

module _ (told : Files) (model trace certificate : List ℕ) where
  -- what the files hold is one model, one trace and one certificate
  moved : (g h : Graph) (t u : List Event) (c d : Told) (error : ConfirmError) → h ≡ g → u ≡ t → d ≡ c → IsRefusal h u d error → IsRefusal g t c error
  moved g h t u c d error p q r refusal =
      subst (λ (x : Told). IsRefusal g t x error) r (subst (λ (x : List Event). IsRefusal g x d error) q (subst (λ (x : Graph). IsRefusal x u d error) p refusal))

  one_reading : (g h : Graph) (t u : List Event) (c d : Told) (error : ConfirmError) → AreRead told model trace certificate g t c → AreRead told model trace certificate h u d → IsRefusal h u d error → IsRefusal g t c error
  one_reading g h t u c d error a b refusal =
      moved g h t u c d error
      (one_graph (file_at told model) (b.is_model).version (a.is_model).version h g (b.is_model).is (a.is_model).is)
      (same_events (file_at told trace) t u a.end b.end (a.is_trace).trace (b.is_trace).trace)
      (same_certificate (file_at told certificate) c d (a.is_certificate).certificate (b.is_certificate).certificate)
      refusal

  confirmable_apart : (line : List ℕ) (status : Status) → IsConfirmable told model trace certificate → RefusesToConfirm (Some told) model trace certificate status line → ⊥
  confirmable_apart line status ready (inl refuses) =
      judge_ready (Some told) model trace line status ((ready.graph, (ready.read).is_model), (ready.events, (ready.read).end, (ready.read).is_trace)) refuses
  confirmable_apart line status ready (inr (inl refuses)) =
      let text = refuses.1 in
      text.1 (not_refused text.0 (file_at told certificate) ready.told (ready.read).is_certificate text.4)
  confirmable_apart line status ready (inr (inr refuses)) =
      let found = refuses.4 in
      not_both ready.graph ready.events ready.told refuses.0 refuses.1
      (one_reading ready.graph found.graph ready.events found.events ready.told found.told refuses.0 ready.read found.read found.refusal)
      ready.confirms

  pub confirm_apart : (text line : List ℕ) (status : Status) → TellsConfirmed told model trace certificate text → RefusesToConfirm (Some told) model trace certificate status line → ⊥
  confirm_apart text line status makes refuses =
      confirmable_apart line status (record { graph = makes.graph; events = makes.events; told = makes.told; read = makes.read; confirms = makes.confirms }) refuses

  -- two refusals of the same files have one status
  pub confirm_status : (line other : List ℕ) (status later : Status) → RefusesToConfirm (Some told) model trace certificate status line → RefusesToConfirm (Some told) model trace certificate later other → status ≡ later
  confirm_status line other status later (inl a) (inl b) = judge_status told model trace line other status later a b
  confirm_status line other status later (inl a) (inr (inl b)) = absurd (judge_ready (Some told) model trace line status b.0 a)
  confirm_status line other status later (inl a) (inr (inr b)) =
      let found = b.4 in
      absurd (judge_ready (Some told) model trace line status ((found.graph, (found.read).is_model), (found.events, (found.read).end, (found.read).is_trace)) a)
  confirm_status line other status later (inr (inl a)) (inl b) = absurd (judge_ready (Some told) model trace other later a.0 b)
  confirm_status line other status later (inr (inr a)) (inl b) =
      let found = a.4 in
      absurd (judge_ready (Some told) model trace other later ((found.graph, (found.read).is_model), (found.events, (found.read).end, (found.read).is_trace)) b)
  confirm_status line other status later (inr (inl a)) (inr (inl b)) = (a.1).2 ∙ sym (b.1).2
  confirm_status line other status later (inr (inl a)) (inr (inr b)) = (a.1).2 ∙ sym b.2
  confirm_status line other status later (inr (inr a)) (inr (inl b)) = a.2 ∙ sym (b.1).2
  confirm_status line other status later (inr (inr a)) (inr (inr b)) = a.2 ∙ sym b.2

pub confirm_ready : (files : Option Files) (model trace certificate line : List ℕ) (status : Status) → IsReadyToConfirm files model trace certificate → RefusesToConfirm files model trace certificate status line → ⊥
confirm_ready None model trace certificate line status ready refuses = ready
confirm_ready (Some told) model trace certificate line status ready refuses = confirmable_apart told model trace certificate line status ready refuses
