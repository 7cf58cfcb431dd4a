-- The events of a run that monitors hear can be recorded, and what three monitors that heard it whole say.
use Rattle.std.proofs.Common.{◌≡◌, ℕ, List, [], ◌∷◌, ◌++◌, All, get_or, sym, ◌∙◌, ap, subst}
use Rattle.std.proofs.lemmas.List.Elements.{All-head, All-tail}
use Rattle.std.specs.List.{AllZip}
use Rattle.dm_base.specs.declared.event.Event.{Event}
use Rattle.dm_base.specs.declared.verdict.Status.{Status}
use Rattle.dm_base.specs.declared.verdict.Verdict.{Verdict}
use Rattle.flow_model.specs.declared.which.Which.TheVariants.{Callgraph, Stack, Dyck}
use Rattle.flow_model.specs.Graph.{Graph}
use Rattle.flow_model.specs.Verdict.{IsVerdict}
use Rattle.c_meaning.specs.Runs.{Run}
use Rattle.tool_monitors.specs.declared.hearing.Heard.{Heard}
use Rattle.tool_monitors.specs.Heard.{AreNextNames}
use Rattle.tool_monitors.specs.Judged.{status_of, status_of_all, verdict_lines, worse}
use Rattle.tool_monitors.proofs.Judgements.{worse_alone}
use Rattle.tool_steps.specs.Futures.{event_first}
use Rattle.tool_steps.specs.WholeRuns.{joined}
use Rattle.report.specs.Precision.{IsNext, next_text}
use Rattle.report.specs.VerdictLine.{verdict_text, event_at}
use Rattle.sys_table.specs.Table.{IsRecorded}
use Rattle.tool_audit.specs.Heard.{AreHeard, HaveHeard}
use Rattle.tool_audit.proofs.Verdicts.{regrouped}
use Rattle.tool_monitors.specs.declared.asked.Asked.TheVariants.{All as AllThree}
use Rattle.tool_monitors.specs.Monitors.{monitors_of}

comes_after : (t : List Event) (e : Event) (rest : List Event) → All IsRecorded (t ++ e ∷ rest) → IsRecorded e
comes_after [] e rest all = All-head IsRecorded e rest all
comes_after (x ∷ t) e rest all = comes_after t e rest (All-tail IsRecorded x (t ++ e ∷ rest) all)

-- the next event of a run whose events can be recorded
pub next_recorded : (whole : Run) (t : List Event) (e : Event) (rest : Run) → All IsRecorded whole.trace → whole ≡ joined t (event_first e rest) → IsRecorded e
next_recorded whole t e rest all same = comes_after t e rest.trace (subst (λ (r : Run). All IsRecorded r.trace) same all)

module _ (g : Graph) (bound : ℕ) (t : List Event) where
  said_all : (status : Status) (told text : List ℕ) (a b c : ℕ) (vs : List Verdict) (ns : List ℕ) → AllZip (λ which v. IsVerdict which g bound t v) (monitors_of AllThree) vs → status ≡ status_of_all vs → told ≡ verdict_lines (monitors_of AllThree) vs t → AreNextNames (monitors_of AllThree) g bound t ns
      → a ≡ get_or ns 0 a → b ≡ get_or ns 1 b → c ≡ get_or ns 2 c → text ≡ told ++ next_text a b c → AreHeard g bound t status text
  said_all status told text a b c [] ns judged ends writes next is_a is_b is_c wrote = absurd judged
  said_all status told text a b c (x ∷ []) ns judged ends writes next is_a is_b is_c wrote = absurd judged.1
  said_all status told text a b c (x ∷ y ∷ []) ns judged ends writes next is_a is_b is_c wrote = absurd (judged.1).1
  said_all status told text a b c (x ∷ y ∷ z ∷ w ∷ vs) ns judged ends writes next is_a is_b is_c wrote = absurd ((judged.1).1).1
  said_all status told text a b c (x ∷ y ∷ z ∷ []) [] judged ends writes next is_a is_b is_c wrote = absurd next
  said_all status told text a b c (x ∷ y ∷ z ∷ []) (i ∷ []) judged ends writes next is_a is_b is_c wrote = absurd next.1
  said_all status told text a b c (x ∷ y ∷ z ∷ []) (i ∷ j ∷ []) judged ends writes next is_a is_b is_c wrote = absurd (next.1).1
  said_all status told text a b c (x ∷ y ∷ z ∷ []) (i ∷ j ∷ k ∷ l ∷ ns) judged ends writes next is_a is_b is_c wrote = absurd ((next.1).1).1
  said_all status told text a b c (x ∷ y ∷ z ∷ []) (i ∷ j ∷ k ∷ []) judged ends writes next is_a is_b is_c wrote =
      record {
        callgraph = x;
        stack = y;
        dyck = z;
        is_callgraph = judged.0;
        is_stack = (judged.1).0;
        is_dyck = ((judged.1).1).0;
        callgraph_next = a;
        stack_next = b;
        dyck_next = c;
        next = record {
          in_callgraph = subst (λ n. IsNext Callgraph g bound t n) (sym is_a) next.0;
          in_stack = subst (λ n. IsNext Stack g bound t n) (sym is_b) (next.1).0;
          in_dyck = subst (λ n. IsNext Dyck g bound t n) (sym is_c) ((next.1).1).0;
        };
        ends = ends ∙ ap (λ (s : Status). worse (status_of x) (worse (status_of y) s)) (worse_alone z);
        writes = wrote ∙ ap (λ (w : List ℕ). w ++ next_text a b c) writes
            ∙ regrouped (verdict_text Callgraph x (event_at t x)) (verdict_text Stack y (event_at t y)) (verdict_text Dyck z (event_at t z)) (next_text a b c);
      }

  pub are_heard : (heard : Heard) (a b c : ℕ) (text : List ℕ) → a ≡ get_or heard.next.items 0 a → b ≡ get_or heard.next.items 1 b → c ≡ get_or heard.next.items 2 c → text ≡ heard.told.text.items ++ next_text a b c → HaveHeard g bound t heard → AreHeard g bound t heard.told.status text
  are_heard heard a b c text is_a is_b is_c wrote have =
      said_all heard.told.status heard.told.text.items text a b c (have.judged).verdicts heard.next.items (have.judged).judged (have.judged).ends (have.judged).writes have.next is_a is_b is_c wrote
