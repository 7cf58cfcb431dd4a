-- What `measure` makes of two files that were read.
use Rattle.std.proofs.Common.{◌≡◌, ℕ, List, [], ◌∷◌, ◌++◌, Option, Some, None, IfSome, Result, Ok, Err, IfOk, refl, sym, ◌∙◌, ap, append-nil, append_assoc}
use Rattle.std.specs.List.{AllZip}
use Rattle.dm_base.specs.declared.event.Event.{Event}
use Rattle.dm_base.specs.declared.outcome.TraceEnd.{TraceEnd}
use Rattle.dm_base.specs.declared.verdict.Status.{Status}
use Rattle.dm_base.specs.declared.verdict.Status.TheVariants.{Done}
use Rattle.dm_io.specs.Store.{Files, file_at}
use Rattle.flow_model.specs.declared.which.Which.{Which}
use Rattle.flow_model.specs.declared.which.Which.TheVariants.{Callgraph, Stack, Dyck}
use Rattle.flow_model.specs.Graph.{Graph}
use Rattle.model_file.specs.Refusal.{IsModel}
use Rattle.report.specs.declared.precision.Precision.{Precision}
use Rattle.report.specs.Precision.{IsPrecision, precision_text}
use Rattle.trace_file.specs.Trace.{IsTraceWithin}
use Rattle.tool_frame.specs.declared.finished.Finished.{Finished}
use Rattle.tool_files.specs.Judged.{worse}
use Rattle.tool_models.specs.Measure.{AreMeasured, Measures, precision_lines}
use Rattle.tool_files.specs.Told.{AreBothTold, IsTraceTold}

-- the line of one monitor
pub one_measured : (which : Which) (p : Precision) (g : Graph) (t : List Event) (status : Status) (text : List ℕ) → IsPrecision which g t p → status ≡ Done → text ≡ precision_text which p → AreMeasured (which ∷ []) g t status text
one_measured which p g t status text is ends writes =
    record { precisions = p ∷ []; measured = (is, tt); ends = ends; writes = writes ∙ sym (append-nil (precision_text which p)) }

module _ (R : Which → Precision → Type 0) where
  lines_append : (ms ns : List Which) (ps qs : List Precision) → AllZip R ms ps → precision_lines (ms ++ ns) (ps ++ qs) ≡ precision_lines ms ps ++ precision_lines ns qs
  lines_append [] ns [] qs all = refl
  lines_append [] ns (p ∷ ps) qs all = absurd all
  lines_append (m ∷ ms) ns [] qs all = absurd all
  lines_append (m ∷ ms) ns (p ∷ ps) qs all =
      ap (λ (w : List ℕ). precision_text m p ++ w) (lines_append ms ns ps qs all.1)
      ∙ sym (append_assoc (precision_text m p) (precision_lines ms ps) (precision_lines ns qs))

  zip_append : (ms ns : List Which) (ps qs : List Precision) → AllZip R ms ps → AllZip R ns qs → AllZip R (ms ++ ns) (ps ++ qs)
  zip_append [] ns [] qs all more = more
  zip_append [] ns (p ∷ ps) qs all more = absurd all
  zip_append (m ∷ ms) ns [] qs all more = absurd all
  zip_append (m ∷ ms) ns (p ∷ ps) qs all more = (all.0, zip_append ms ns ps qs all.1 more)

-- the lines of the first, and then those of the second
both_measured : (ms ns : List Which) (g : Graph) (t : List Event) (status : Status) (text : List ℕ) → AreBothTold (AreMeasured ms g t) (AreMeasured ns g t) status text → AreMeasured (ms ++ ns) g t status text
both_measured ms ns g t status text b =
    let R : Which → Precision → Type 0 = λ which p. IsPrecision which g t p in
    let one = b.first in
    let other = b.second in
    record {
      precisions = one.precisions ++ other.precisions;
      measured = zip_append R ms ns one.precisions other.precisions one.measured other.measured;
      ends = b.ends ∙ ap (λ (s : Status). worse s b.second_status) one.ends ∙ ap (worse Done) other.ends;
      writes = b.writes ∙ ap (λ (w : List ℕ). w ++ b.second_text) one.writes ∙ ap (λ (w : List ℕ). precision_lines ms one.precisions ++ w) other.writes ∙ sym (lines_append R ms ns one.precisions other.precisions one.measured);
    }

all_measured : (g : Graph) (t : List Event) (status : Status) (text : List ℕ) → AreBothTold (AreMeasured (Callgraph ∷ []) g t) (λ s w. AreBothTold (AreMeasured (Stack ∷ []) g t) (AreMeasured (Dyck ∷ []) g t) s w) status text → AreMeasured (Callgraph ∷ Stack ∷ Dyck ∷ []) g t status text
all_measured g t status text b =
    both_measured (Callgraph ∷ []) (Stack ∷ Dyck ∷ []) g t status text
    (record {
      first_status = b.first_status;
      second_status = b.second_status;
      first_text = b.first_text;
      second_text = b.second_text;
      first = b.first;
      second = both_measured (Stack ∷ []) (Dyck ∷ []) g t b.second_status b.second_text b.second;
      ends = b.ends;
      writes = b.writes;
    })

-- the lines of all three
pub all_measured_of_file : {E : Type 0} (r : Result Finished E) (files : Option Files) (name : List ℕ) (g : Graph)
    → IfOk r (λ done. IsTraceTold files name (λ t s w. AreBothTold (AreMeasured (Callgraph ∷ []) g t) (λ s w. AreBothTold (AreMeasured (Stack ∷ []) g t) (AreMeasured (Dyck ∷ []) g t) s w) s w) done.status done.text.items)
    → IfOk r (λ done. IsTraceTold files name (AreMeasured (Callgraph ∷ Stack ∷ Dyck ∷ []) g) done.status done.text.items)
all_measured_of_file (Err e) files name g told = tt
all_measured_of_file (Ok done) files name g told =
    record { events = told.events; is = told.is; told = all_measured g told.events done.status done.text.items told.told }

pub measures : (told : Option Files) (model trace text : List ℕ) (g : Graph) (monitors : List Which) (status : Status) (events : List Event)
    → IfSome told (λ files. IsModel (file_at files model) g)
    → IfSome told (λ files. (end : TraceEnd) × IsTraceWithin (file_at files trace) events end)
    → AreMeasured monitors g events status text
    → IfSome told (λ files. Measures files model trace monitors status text)
measures None model trace text g monitors status events is_model is_trace measured = tt
measures (Some files) model trace text g monitors status events is_model is_trace measured =
    record { graph = g; events = events; end = is_trace.0; is_model = is_model; is_trace = is_trace.1; measured = measured }
