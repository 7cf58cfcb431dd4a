-- What `audit` makes of its files and why it refuses them never hold both, and they are refused with one status.
use Rattle.std.proofs.Common.{◌≡◌, ℕ, ◌<◌, ◌≤◌, List, Option, Some, None, inl, inr, sym, ◌∙◌, subst, arith}
use Rattle.dm_base.specs.declared.mode.Mode.TheVariants.{Plain}
use Rattle.dm_base.specs.declared.verdict.Status.{Status}
use Rattle.dm_io.specs.Store.{Files, file_at}
use Rattle.c_rules.specs.Accepted.{IsAcceptedAs}
use Rattle.c_tree.specs.Tree.{Program}
use Rattle.c_meaning.specs.GraphOfProgram.{graph_of_program}
use Rattle.tool_steps.specs.Results.{AreSomeResults}
use Rattle.sys_table.specs.declared.results_error.ResultsError.TheVariants as errors
use Rattle.tool_audit.specs.Audit.{Audits, IsAuditStatus, RefusesToAudit, IsReadyToAudit}
use Rattle.tool_audit.proofs.Verdicts.{audit_ends}
use Rattle.null_calls_laws.specs.MarkedRuns.{marked_run}
use Rattle.tool_steps.proofs.ResultsRefused.{results_or_refused}
use Rattle.tool_steps.proofs.SourceLemmas.{accepted_once}

module _ (told : Files) (source results : List ℕ) where
  good_files : (status : Status) (line : List ℕ) (p : Program) → IsAcceptedAs (file_at told source) Plain p → (graph_of_program p).nodes ≤ 200000 → AreSomeResults told results → RefusesToAudit (Some told) source results status line → ⊥
  good_files status line p is few are (inl refuses) = (refuses.4).1 p is
  good_files status line p is few are (inr (inl refuses)) = results_or_refused told results refuses.0 are refuses.1 (refuses.4).1
  good_files status line p is few are (inr (inr refuses)) =
      let same : (refuses.2).0 ≡ p = accepted_once (file_at told source) Plain (refuses.2).0 p (refuses.2).1 is in
      let many : 200000 < (graph_of_program p).nodes = subst (λ (q : Program). 200000 < (graph_of_program q).nodes) same (refuses.2).3 in
      omega (arith, few, many)

  pub audit_apart : (turns bound : ℕ) (made : Status) (text : List ℕ) (status : Status) (line : List ℕ) → Audits told source results turns bound made text → RefusesToAudit (Some told) source results status line → ⊥
  audit_apart turns bound made text status line makes refuses = good_files status line makes.program makes.accepted makes.few (makes.records, makes.recorded) refuses

  pub audit_status : (status later : Status) (line other : List ℕ) → RefusesToAudit (Some told) source results status line → RefusesToAudit (Some told) source results later other → status ≡ later
  audit_status status later line other (inl a) (inl b) = a.2 ∙ sym b.2
  audit_status status later line other (inl a) (inr (inl b)) = absurd ((a.4).1 ((b.4).0).0 ((b.4).0).1)
  audit_status status later line other (inl a) (inr (inr b)) = a.2 ∙ sym b.0
  audit_status status later line other (inr (inl a)) (inl b) = absurd ((b.4).1 ((a.4).0).0 ((a.4).0).1)
  audit_status status later line other (inr (inl a)) (inr (inl b)) = a.2 ∙ sym b.2
  audit_status status later line other (inr (inl a)) (inr (inr b)) = absurd (results_or_refused told results a.0 (b.2).2 a.1 (a.4).1)
  audit_status status later line other (inr (inr a)) (inl b) = a.0 ∙ sym b.2
  audit_status status later line other (inr (inr a)) (inr (inl b)) = absurd (results_or_refused told results b.0 (a.2).2 b.1 (b.4).1)
  audit_status status later line other (inr (inr a)) (inr (inr b)) = a.0 ∙ sym b.0

pub audit_ready : (files : Option Files) (source results : List ℕ) (status : Status) (line : List ℕ) → IsReadyToAudit files source results → RefusesToAudit files source results status line → ⊥
audit_ready None source results status line ready refuses = ready
audit_ready (Some told) source results status line ready refuses = good_files told source results status line ready.0 ready.1 ready.2 ready.3 refuses

-- the status of an audit that was made
pub audit_made : (told : Files) (source results : List ℕ) (turns bound : ℕ) (status : Status) (text : List ℕ) → Audits told source results turns bound status text → IsAuditStatus status
audit_made told source results turns bound status text makes =
    audit_ends (graph_of_program makes.program) bound (marked_run makes.program makes.records turns) status text makes.is
