-- What two panels tell together.
use Rattle.std.proofs.Common.{◌≡◌, ℕ, List, [], ◌∷◌, ◌++◌, Option, Result, Ok, Err, IfOk, refl, sym, ◌∙◌, ap, append_assoc}
use Rattle.std.specs.List.{AllZip}
use Rattle.dm_base.specs.declared.event.Event.{Event}
use Rattle.dm_base.specs.declared.verdict.Status.{Status}
use Rattle.dm_base.specs.declared.verdict.Status.TheVariants.{Rejected, Bound}
use Rattle.dm_base.specs.declared.verdict.Verdict.{Verdict}
use Rattle.dm_io.specs.Store.{Files}
use Rattle.flow_model.specs.declared.which.Which.{Which}
use Rattle.flow_model.specs.declared.which.Which.TheVariants.{Callgraph, Stack, Dyck}
use Rattle.flow_model.specs.Graph.{Graph}
use Rattle.flow_model.specs.Verdict.{IsVerdict}
use Rattle.report.specs.VerdictLine.{verdict_text, event_at}
use Rattle.tool_monitors.proofs.Nesting.{verdicts_nested}
use Rattle.tool_frame.specs.declared.finished.Finished.{Finished}
use Rattle.tool_monitors.specs.Judged.{AreJudged, verdict_lines, status_of, status_of_all, worse}
use Rattle.tool_monitors.specs.Told.{AreBothTold, IsTraceTold}

worse_bound : (b c : Status) → worse (worse Bound b) c ≡ worse Bound (worse b c)
worse_bound Rejected c = refl
worse_bound Bound Rejected = refl
worse_bound Bound Bound = refl
worse_bound Bound other = refl
worse_bound other c = refl

worse_assoc : (a b c : Status) → worse (worse a b) c ≡ worse a (worse b c)
worse_assoc Rejected b c = refl
worse_assoc Bound b c = worse_bound b c
worse_assoc other b c = refl

pub statuses_append : (vs ws : List Verdict) → status_of_all (vs ++ ws) ≡ worse (status_of_all vs) (status_of_all ws)
statuses_append [] ws = refl
statuses_append (v ∷ vs) ws = ap (worse (status_of v)) (statuses_append vs ws) ∙ sym (worse_assoc (status_of v) (status_of_all vs) (status_of_all ws))

-- what is said of the first monitors, and then of the others
pub zip_append : {X : Type 0} (R : Which → X → Type 0) (ms ns : List Which) (vs ws : List X) → AllZip R ms vs → AllZip R ns ws → AllZip R (ms ++ ns) (vs ++ ws)
zip_append R [] ns [] ws all more = more
zip_append R [] ns (v ∷ vs) ws all more = absurd all
zip_append R (m ∷ ms) ns [] ws all more = absurd all
zip_append R (m ∷ ms) ns (v ∷ vs) ws all more = (all.0, zip_append R ms ns vs ws all.1 more)

module _ (R : Which → Verdict → Type 0) (t : List Event) where
  lines_append : (ms ns : List Which) (vs ws : List Verdict) → AllZip R ms vs → verdict_lines (ms ++ ns) (vs ++ ws) t ≡ verdict_lines ms vs t ++ verdict_lines ns ws t
  lines_append [] ns [] ws all = refl
  lines_append [] ns (v ∷ vs) ws all = absurd all
  lines_append (m ∷ ms) ns [] ws all = absurd all
  lines_append (m ∷ ms) ns (v ∷ vs) ws all =
      ap (λ (w : List ℕ). verdict_text m v (event_at t v) ++ w) (lines_append ms ns vs ws all.1)
      ∙ sym (append_assoc (verdict_text m v (event_at t v)) (verdict_lines ms vs t) (verdict_lines ns ws t))

-- the lines of the first, and then those of the second
pub both_judged : (ms ns : List Which) (g : Graph) (bound : ℕ) (t : List Event) (status : Status) (text : List ℕ) → AreBothTold (AreJudged ms g bound t) (AreJudged ns g bound t) status text → AreJudged (ms ++ ns) g bound t status text
both_judged ms ns g bound t status text b =
    let R : Which → Verdict → Type 0 = λ which v. IsVerdict which g bound t v in
    let one = b.first in
    let other = b.second in
    record {
      verdicts = one.verdicts ++ other.verdicts;
      judged = zip_append R ms ns one.verdicts other.verdicts one.judged other.judged;
      nested = verdicts_nested g bound t (ms ++ ns) (one.verdicts ++ other.verdicts) (zip_append R ms ns one.verdicts other.verdicts one.judged other.judged);
      ends = b.ends ∙ ap (λ (s : Status). worse s b.second_status) one.ends ∙ ap (worse (status_of_all one.verdicts)) other.ends ∙ sym (statuses_append one.verdicts other.verdicts);
      writes = b.writes ∙ ap (λ (w : List ℕ). w ++ b.second_text) one.writes ∙ ap (λ (w : List ℕ). verdict_lines ms one.verdicts t ++ w) other.writes ∙ sym (lines_append R t ms ns one.verdicts other.verdicts one.judged);
    }

-- the lines of all three
all_judged : (g : Graph) (bound : ℕ) (t : List Event) (status : Status) (text : List ℕ) → AreBothTold (AreJudged (Callgraph ∷ []) g bound t) (λ s w. AreBothTold (AreJudged (Stack ∷ []) g bound t) (AreJudged (Dyck ∷ []) g bound t) s w) status text → AreJudged (Callgraph ∷ Stack ∷ Dyck ∷ []) g bound t status text
all_judged g bound t status text b =
    both_judged (Callgraph ∷ []) (Stack ∷ Dyck ∷ []) g bound t status text
    (record {
      first_status = b.first_status;
      second_status = b.second_status;
      first_text = b.first_text;
      second_text = b.second_text;
      first = b.first;
      second = both_judged (Stack ∷ []) (Dyck ∷ []) g bound t b.second_status b.second_text b.second;
      ends = b.ends;
      writes = b.writes;
    })

pub all_judged_of_file : {E : Type 0} (r : Result Finished E) (files : Option Files) (name : List ℕ) (g : Graph) (bound : ℕ)
    → IfOk r (λ done. IsTraceTold files name (λ t s w. AreBothTold (AreJudged (Callgraph ∷ []) g bound t) (λ s w. AreBothTold (AreJudged (Stack ∷ []) g bound t) (AreJudged (Dyck ∷ []) g bound t) s w) s w) done.status done.text.items)
    → IfOk r (λ done. IsTraceTold files name (AreJudged (Callgraph ∷ Stack ∷ Dyck ∷ []) g bound) done.status done.text.items)
all_judged_of_file (Err e) files name g bound told = tt
all_judged_of_file (Ok done) files name g bound told =
    record { events = told.events; is = told.is; told = all_judged g bound told.events done.status done.text.items told.told }
