-- What is found of processes, one after another.
use Rattle.std.proofs.Common.{◌≡◌, ℕ, ◌+◌, ◌-◌, ◌<◌, true, nat_eq, List, [], ◌∷◌, ◌++◌, length, take, get_or, Option, refl, sym, ◌∙◌, ap, subst, append-nil, append_assoc}
use Rattle.std.specs.Prelude.{codes, decimal}
use Rattle.std.specs.List.{AllZip}
use Rattle.std.proofs.lemmas.List.{take_more, map-append}
use Rattle.std.proofs.lemmas.List.Concat.{flat_map-append}
use Rattle.std.proofs.lemmas.List.Folds.{list_any_at}
use Rattle.std.proofs.lemmas.Option.{get_or_from_slice_get, slice_get-get_or}
use Rattle.std.specs.Cmp.{nat_eq_equiv}
use Rattle.dm_base.specs.declared.event.Event.{Event}
use Rattle.dm_base.specs.declared.verdict.Status.{Status}
use Rattle.dm_base.specs.declared.verdict.Verdict.{Verdict}
use Rattle.flow_model.specs.declared.which.Which.{Which}
use Rattle.flow_model.specs.Graph.{Graph}
use Rattle.flow_model.specs.Verdict.{IsVerdict}
use Rattle.report.specs.ProcessLines.{sum_text}
use Rattle.report.specs.VerdictLine.{verdict_text, event_at}
use Rattle.trace_file.specs.declared.record.Record.{Record}
use Rattle.trace_file.specs.declared.version.TracesVersion.{TracesVersion}
use Rattle.watch.specs.Own.{is_among, firsts, has_record, own}
use Rattle.watch.proofs.WatchLemmas.{firsts_has}
use Rattle.tool_models.specs.declared.findings.Findings.{Findings}
use Rattle.tool_models.specs.Found.{AreFound}
use Rattle.tool_files.specs.Judged.{status_of, status_of_all, worse}
use Rattle.tool_models.specs.Watched.{asked_of, asked_about, window_text, process_text, process_lines, AreOwnVerdicts, AreAllWatched}
use Rattle.tool_files.proofs.Judgements.{worse_alone}
use Rattle.tool_files.proofs.PairLemmas.{statuses_append}

zip_append : {X Y : Type 0} (R : X → Y → Type 0) (xs more : List X) (ys others : List Y) → AllZip R xs ys → AllZip R more others → AllZip R (xs ++ more) (ys ++ others)
zip_append R [] more [] others all rest = rest
zip_append R [] more (y ∷ ys) others all rest = absurd all
zip_append R (x ∷ xs) more [] others all rest = absurd all
zip_append R (x ∷ xs) more (y ∷ ys) others all rest = (all.0, zip_append R xs more ys others all.1 rest)

-- an element by its place, whatever stands for one that isn't there
pub same_at : {X : Type 0} (xs : List X) (i : ℕ) (d : X) → i < length xs → get_or xs i d ≡ get_or xs i (get_or xs i d)
same_at xs i d less = sym (get_or_from_slice_get xs i (get_or xs i d) (get_or xs i d) (slice_get-get_or xs i d less))

module _ (g : Graph) (bound : ℕ) (history : ℕ → List Event) where
  lines_append : (qs more : List (ℕ × Which)) (vs others : List Verdict) → AreOwnVerdicts g bound history qs vs → process_lines history (qs ++ more) (vs ++ others) ≡ process_lines history qs vs ++ process_lines history more others
  lines_append [] more [] others all = refl
  lines_append [] more (v ∷ vs) others all = absurd all
  lines_append (q ∷ qs) more [] others all = absurd all
  lines_append (q ∷ qs) more (v ∷ vs) others all =
      ap (λ (w : List ℕ). process_text q.0 q.1 v (history q.0) ++ w) (lines_append qs more vs others all.1)
      ∙ sym (append_assoc (process_text q.0 q.1 v (history q.0)) (process_lines history qs vs) (process_lines history more others))

  -- nothing was found
  pub found_nothing : (found : Findings) → found.text.items ≡ [] → found.verdicts.items ≡ [] → AreFound g bound history [] found
  found_nothing found text verdicts = record {
    judged = subst (AreOwnVerdicts g bound history []) (sym verdicts) tt;
    writes = text ∙ ap (process_lines history []) (sym verdicts);
  }

  -- one verdict more
  pub found_more : (asked : List (ℕ × Which)) (p : ℕ) (which : Which) (v : Verdict) (old new : Findings) → AreFound g bound history asked old → IsVerdict which g bound (history p) v → new.text.items ≡ old.text.items ++ process_text p which v (history p) → new.verdicts.items ≡ old.verdicts.items ++ v ∷ [] → AreFound g bound history (asked ++ (p, which) ∷ []) new
  found_more asked p which v old new found told text verdicts =
      let one : AreOwnVerdicts g bound history ((p, which) ∷ []) (v ∷ []) = (told, tt) in
      let R : ℕ × Which → Verdict → Type 0 = λ q v. IsVerdict q.1 g bound (history q.0) v in
      record {
        judged = subst (AreOwnVerdicts g bound history (asked ++ (p, which) ∷ [])) (sym verdicts) (zip_append R asked ((p, which) ∷ []) old.verdicts.items (v ∷ []) found.judged one);
        writes = text ∙ ap (λ (w : List ℕ). w ++ process_text p which v (history p)) found.writes
            ∙ ap (λ (w : List ℕ). process_lines history asked old.verdicts.items ++ w) (sym (append-nil (process_text p which v (history p))))
            ∙ sym (lines_append asked ((p, which) ∷ []) old.verdicts.items (v ∷ []) found.judged)
            ∙ ap (process_lines history (asked ++ (p, which) ∷ [])) (sym verdicts);
      }

  -- one process and one monitor more, by its lines
  pub found_told : (asked : List (ℕ × Which)) (p : ℕ) (which : Which) (v : Verdict) (refused : Option Event) (line lines : List ℕ) (old new : Findings) → IsVerdict which g bound (history p) v → refused ≡ event_at (history p) v → line ≡ decimal p ++ codes " " ++ verdict_text which v refused → lines ≡ window_text v (history p)
      → new.text.items ≡ old.text.items ++ (line ++ lines) → new.verdicts.items ≡ old.verdicts.items ++ v ∷ [] → AreFound g bound history asked old → AreFound g bound history (asked ++ asked_of (which ∷ []) p) new
  found_told asked p which v refused line lines old new told event is window text verdicts found =
      let parts : line ++ lines ≡ process_text p which v (history p) = ap (λ (w : List ℕ). w ++ lines) is ∙ (λ i. decimal p ++ codes " " ++ verdict_text which v (event i) ++ window i) in
      found_more asked p which v old new found told (text ∙ ap (λ (w : List ℕ). old.text.items ++ w) parts) verdicts

  -- the monitors of two kinds of watches
  pub found_both : (ms ns : List Which) (asked : List (ℕ × Which)) (p : ℕ) (found : Findings) → AreFound g bound history ((asked ++ asked_of ms p) ++ asked_of ns p) found → AreFound g bound history (asked ++ asked_of (ms ++ ns) p) found
  found_both ms ns asked p found both =
      let same : (asked ++ asked_of ms p) ++ asked_of ns p ≡ asked ++ asked_of (ms ++ ns) p = append_assoc asked (asked_of ms p) (asked_of ns p) ∙ ap (λ (t : List (ℕ × Which)). asked ++ t) (sym (map-append (λ which. (p, which)) ms ns)) in
      subst (λ (t : List (ℕ × Which)). AreFound g bound history t found) same both

  -- a loop over the processes
  pub found_next : (ms : List Which) (pids : List ℕ) (i p : ℕ) (found : Findings) → i < length pids → p ≡ get_or pids i p → AreFound g bound history (asked_about ms (take i pids) ++ asked_of ms p) found → AreFound g bound history (asked_about ms (take (i + 1) pids)) found
  found_next ms pids i p found less next all =
      let same : asked_about ms (take i pids) ++ asked_of ms p ≡ asked_about ms (take (i + 1) pids) =
      ap (λ (t : List (ℕ × Which)). asked_about ms (take i pids) ++ t) (sym (append-nil (asked_of ms p)))
      ∙ sym (flat_map-append (asked_of ms) (take i pids) (p ∷ []))
      ∙ ap (asked_about ms) (ap (λ q. take i pids ++ q ∷ []) next ∙ sym (take_more pids i p less)) in
      subst (λ (t : List (ℕ × Which)). AreFound g bound history t found) same all

-- a process of the list has a record
pub has_record_at : (records : List Record) (pids : List ℕ) (i p : ℕ) → pids ≡ firsts records → i < length pids → p ≡ get_or pids i p → has_record records p ≡ true
has_record_at records pids i p are less next =
    sym (firsts_has records p) ∙ sym (ap (λ (t : List ℕ). is_among t p) are)
    ∙ list_any_at (λ q. nat_eq p q) pids i p less (ap (λ q. nat_eq p q) (sym next) ∙ nat_eq_equiv.refl p)

-- the statuses of one verdict more
pub statuses_next : (vs : List Verdict) (i : ℕ) (d : Verdict) (status one next : Status) → i < length vs → status ≡ status_of_all (take i vs) → one ≡ status_of (get_or vs i d) → next ≡ worse status one → next ≡ status_of_all (take (i + 1) vs)
statuses_next vs i d status one next less is single ends =
    ends
    ∙ (λ j. worse (is j) (single j))
    ∙ ap (worse (status_of_all (take i vs))) (sym (worse_alone (get_or vs i d)))
    ∙ sym (statuses_append (take i vs) (get_or vs i d ∷ []))
    ∙ ap status_of_all (sym (take_more vs i d less))

-- what was found of all processes, and its sum
pub all_watched : (monitors : List Which) (g : Graph) (bound : ℕ) (version : TracesVersion) (records : List Record) (found : Findings) (status : Status) (text : List ℕ) → AreFound g bound (λ p. own version p records) (asked_about monitors (firsts records)) found → status ≡ status_of_all found.verdicts.items → text ≡ found.text.items ++ sum_text found.verdicts.items → AreAllWatched monitors g bound version records status text
all_watched monitors g bound version records found status text are ends writes =
    record {
      verdicts = found.verdicts.items;
      judged = are.judged;
      ends = ends;
      writes = writes ∙ ap (λ (w : List ℕ). w ++ sum_text found.verdicts.items) are.writes;
    }
