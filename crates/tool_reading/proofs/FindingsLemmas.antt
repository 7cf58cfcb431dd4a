-- The finding of one monitor, and the findings of several, one after another.
use Rattle.std.proofs.Common.{Bor, ◌≡◌, ℕ, List, [], ◌∷◌, ◌++◌, take, Option, Some, None, slice_get, refl, sym, ◌∙◌, ap, subst, append-nil, append_assoc}
use Rattle.std.specs.Prelude.{All, IfSome}
use Rattle.std.specs.List.{AllZip}
use Rattle.std.specs.Option.{option_copied}
use Rattle.std.proofs.lemmas.Option.{slice_get_within, get_or_from_slice_get}
use Rattle.dm_base.specs.declared.event.Event.{Event}
use Rattle.dm_base.specs.declared.verdict.Status.{Status}
use Rattle.dm_base.specs.declared.verdict.Verdict.{Verdict}
use Rattle.dm_base.specs.declared.verdict.Verdict.TheVariants as verdicts
use Rattle.flow_model.specs.declared.which.Which.{Which}
use Rattle.flow_model.specs.Graph.{Graph}
use Rattle.flow_model.specs.Verdict.{IsAccepted, IsVerdict}
use Rattle.report.specs.VerdictLine.{verdict_text, event_at}
use Rattle.sys_table.specs.Table.{IsRecorded}
use Rattle.expected_events.specs.Following.{IsFollowed}
use Rattle.expected_events.specs.Kept.{kept_part}
use Rattle.expected_events.specs.Next.{Next, IsNext}
use Rattle.expected_events.specs.Text.{next_text}
use Rattle.tool_frame.specs.Stop.{IsFinished}
use Rattle.tool_monitors.specs.Judged.{status_of, status_of_all, worse}
use Rattle.tool_monitors.proofs.Judgements.{worse_alone}
use Rattle.tool_monitors.proofs.Nesting.{verdicts_nested}
use Rattle.tool_monitors.proofs.PairLemmas.{zip_append, statuses_append}
use Rattle.tool_reading.specs.Expected.{Finding, IsFinding, AreExpected, finding_text, finding_lines, verdicts_of}
use Rattle.tool_files.proofs.StatusLemmas.{worse_finished}
pub use Rattle.tool_files.proofs.StatusLemmas.{status_finished}

-- each verdict ends the work

pub both_finished : (first second status : Status) → IsFinished first → IsFinished second → status ≡ worse first second → IsFinished status
both_finished first second status one other ends = subst IsFinished (sym ends) (worse_finished first second one other)

-- the event at a place of a trace is recorded, if there is one

at_recorded : (t : List Event) (i : ℕ) (e : Event) → All IsRecorded t → slice_get t i ≡ Some e → IsRecorded e
at_recorded t i e all here = subst IsRecorded (get_or_from_slice_get t i e e here) (all i e (slice_get_within t i e here))

told_recorded : (o : Option (Bor Event)) (t : List Event) (i : ℕ) → All IsRecorded t → option_copied o ≡ slice_get t i → IfSome o (λ e. IsRecorded e.now)
told_recorded None t i all is = tt
told_recorded (Some b) t i all is = at_recorded t i b.now all (sym is)

verdicts_append : (fs hs : List Finding) → verdicts_of (fs ++ hs) ≡ verdicts_of fs ++ verdicts_of hs
verdicts_append [] hs = refl
verdicts_append (f ∷ fs) hs = ap (λ (vs : List Verdict). f.verdict ∷ vs) (verdicts_append fs hs)

module _ (g : Graph) (bound : ℕ) (t : List Event) where
  -- one monitor's finding

  one_expected : (which : Which) (v : Verdict) (n : Next) (status : Status) (text : List ℕ) → IsVerdict which g bound t v → IsNext which g (kept_part t v) n → status ≡ status_of v → text ≡ verdict_text which v (event_at t v) ++ next_text g n
      → AreExpected (which ∷ []) g bound t status text
  one_expected which v n status text is may ends writes = record {
    findings = record { verdict = v; next = n } ∷ [];
    found = (record { verdict = is; next = may }, tt);
    nested = verdicts_nested g bound t (which ∷ []) (v ∷ []) (is, tt);
    ends = ends ∙ sym (worse_alone v);
    writes = writes ∙ sym (append-nil (verdict_text which v (event_at t v) ++ next_text g n));
  }

  -- the finding of a monitor that followed the trace, told by its line and by what may come next
  pub followed_expected : (Stands : List Event → Type 0) (which named : Which) (kept : ℕ) (v : Verdict) (n : Next) (event : Option (Bor Event)) (line text : List ℕ) (status : Status)
      → IsFollowed Stands which g bound t kept v
      → ((h : List Event) → Stands h → IsAccepted which g bound h → IsNext which g h n)
      → named ≡ which
      → option_copied event ≡ slice_get t kept
      → (IfSome event (λ e. IsRecorded e.now) → line ≡ verdict_text named v (option_copied event))
      → text ≡ line ++ next_text g n
      → status ≡ status_of v
      → All IsRecorded t
      → AreExpected (which ∷ []) g bound t status text
  followed_expected Stands which named kept v n event line text status followed may same here told writes ends recorded =
      let line_is : line ≡ verdict_text which v (event_at t v) =
      told (told_recorded event t kept recorded here)
      ∙ ap (λ (w : Which). verdict_text w v (option_copied event)) same
      ∙ ap (λ (o : Option Event). verdict_text which v o) (here ∙ followed.event) in
      one_expected which v n status text followed.verdict
      (subst (λ (h : List Event). IsNext which g h n) followed.part (may (take kept t) followed.stands followed.accepted))
      ends (writes ∙ ap (λ (w : List ℕ). w ++ next_text g n) line_is)

  -- the findings of some monitors, and then those of others

  are_verdicts : (ms : List Which) (fs : List Finding) → AllZip (λ which f. IsFinding which g bound t f) ms fs → AllZip (λ which v. IsVerdict which g bound t v) ms (verdicts_of fs)
  are_verdicts [] [] all = tt
  are_verdicts [] (f ∷ fs) all = absurd all
  are_verdicts (m ∷ ms) [] all = absurd all
  are_verdicts (m ∷ ms) (f ∷ fs) all = ((all.0).verdict, are_verdicts ms fs all.1)

  lines_append : (ms ns : List Which) (fs hs : List Finding) → AllZip (λ which f. IsFinding which g bound t f) ms fs → finding_lines (ms ++ ns) g t (fs ++ hs) ≡ finding_lines ms g t fs ++ finding_lines ns g t hs
  lines_append [] ns [] hs all = refl
  lines_append [] ns (f ∷ fs) hs all = absurd all
  lines_append (m ∷ ms) ns [] hs all = absurd all
  lines_append (m ∷ ms) ns (f ∷ fs) hs all =
      ap (λ (w : List ℕ). finding_text m g t f ++ w) (lines_append ms ns fs hs all.1)
      ∙ sym (append_assoc (finding_text m g t f) (finding_lines ms g t fs) (finding_lines ns g t hs))

  pub both_expected : (ms ns : List Which) (first second status : Status) (before after text : List ℕ) → AreExpected ms g bound t first before → AreExpected ns g bound t second after → status ≡ worse first second → text ≡ before ++ after
      → AreExpected (ms ++ ns) g bound t status text
  both_expected ms ns first second status before after text one other ends writes =
      let fs = one.findings in
      let hs = other.findings in
      let found : AllZip (λ which f. IsFinding which g bound t f) (ms ++ ns) (fs ++ hs) = zip_append (λ which f. IsFinding which g bound t f) ms ns fs hs one.found other.found in
      record {
        findings = fs ++ hs;
        found = found;
        nested = verdicts_nested g bound t (ms ++ ns) (verdicts_of (fs ++ hs)) (are_verdicts (ms ++ ns) (fs ++ hs) found);
        ends = ends ∙ ap (λ (s : Status). worse s second) one.ends ∙ ap (worse (status_of_all (verdicts_of fs))) other.ends
            ∙ sym (statuses_append (verdicts_of fs) (verdicts_of hs)) ∙ ap status_of_all (sym (verdicts_append fs hs));
        writes = writes ∙ ap (λ (w : List ℕ). w ++ after) one.writes ∙ ap (λ (w : List ℕ). finding_lines ms g t fs ++ w) other.writes
            ∙ sym (lines_append ms ns fs hs one.found);
      }
