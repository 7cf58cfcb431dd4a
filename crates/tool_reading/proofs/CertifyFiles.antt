-- Two files are a model and a trace of which a certificate is made, or they are refused, and refused with one status.
use Rattle.std.proofs.Common.{◌≡◌, ℕ, List, Option, Some, None, inl, inr, sym, ◌∙◌, subst}
use Rattle.dm_base.specs.declared.event.Event.{Event}
use Rattle.dm_base.specs.declared.verdict.Status.{Status}
use Rattle.dm_io.specs.Store.{Files, file_at}
use Rattle.flow_model.specs.Graph.{Graph}
use Rattle.model_file.proofs.UniqueLemmas.{one_graph}
use Rattle.certify_facts.specs.declared.fact.Judge.{Judge}
use Rattle.certify_making.specs.Made.{HasTooMany}
use Rattle.certify_making.proofs.MadeLemmas.{few_follow}
use Rattle.tool_files.proofs.InputLemmas.{judge_ready, judge_status}
use Rattle.tool_reading.specs.Certify.{AreJudgeable, IsCertifiable, IsReadyToCertify, RefusesToCertify, TellsCertificate}
use Rattle.tool_reading.proofs.FileLemmas.{same_events}

module _ (told : Files) (model trace : List ℕ) (judge : Judge) where
  -- what the files hold is one model and one trace
  one_reading : (g h : Graph) (t u : List Event) → AreJudgeable told model trace g t → AreJudgeable told model trace h u → HasTooMany judge h u → HasTooMany judge g t
  one_reading g h t u a b many =
      subst (λ (x : List Event). HasTooMany judge g x) (same_events (file_at told trace) t u a.end b.end (a.is_trace).trace (b.is_trace).trace)
      (subst (λ (x : Graph). HasTooMany judge x u) (one_graph (file_at told model) (b.is_model).version (a.is_model).version h g (b.is_model).is (a.is_model).is) many)

  certifiable_apart : (line : List ℕ) (status : Status) → IsCertifiable told model trace judge → RefusesToCertify (Some told) model trace judge status line → ⊥
  certifiable_apart line status ready (inl refuses) =
      judge_ready (Some told) model trace line status ((ready.graph, (ready.read).is_model), (ready.events, (ready.read).end, (ready.read).is_trace)) refuses
  certifiable_apart line status ready (inr refuses) =
      let found = refuses.2 in
      ready.few (one_reading ready.graph found.graph ready.events found.events ready.read found.read found.many)

  pub certify_apart : (text line : List ℕ) (status later : Status) → TellsCertificate told model trace judge status text → RefusesToCertify (Some told) model trace judge later line → ⊥
  certify_apart text line status later makes refuses =
      let certified = makes.certified in
      certifiable_apart line later (record { graph = makes.graph; events = makes.events; read = makes.read; few = few_follow judge makes.graph makes.events certified.told certified.made }) refuses

  -- two refusals of the same files have one status
  pub certify_status : (line other : List ℕ) (status later : Status) → RefusesToCertify (Some told) model trace judge status line → RefusesToCertify (Some told) model trace judge later other → status ≡ later
  certify_status line other status later (inl a) (inl b) = judge_status told model trace line other status later a b
  certify_status line other status later (inl a) (inr b) =
      let found = b.2 in
      absurd (judge_ready (Some told) model trace line status ((found.graph, (found.read).is_model), (found.events, (found.read).end, (found.read).is_trace)) a)
  certify_status line other status later (inr a) (inl b) =
      let found = a.2 in
      absurd (judge_ready (Some told) model trace other later ((found.graph, (found.read).is_model), (found.events, (found.read).end, (found.read).is_trace)) b)
  certify_status line other status later (inr a) (inr b) = a.0 ∙ sym b.0

pub certify_ready : (files : Option Files) (model trace line : List ℕ) (judge : Judge) (status : Status) → IsReadyToCertify files model trace judge → RefusesToCertify files model trace judge status line → ⊥
certify_ready None model trace line judge status ready refuses = ready
certify_ready (Some told) model trace line judge status ready refuses = certifiable_apart told model trace judge line status ready refuses
