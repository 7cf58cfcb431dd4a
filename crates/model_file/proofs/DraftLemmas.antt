-- From the first line to the last.
use Rattle.std.proofs.Common.{◌≡◌, ℕ, List, [], ◌++◌, length, take, drop, Option, None, Some, refl, sym, ◌∙◌, ap, subst, arith}
use Rattle.std.specs.Prelude.{Ok, Err, IfNone, codes}
use Rattle.std.proofs.lemmas.List.{length-append, take-append-drop}
use Rattle.flow_model.specs.Built.{Records, graph_of_records}
use Rattle.flow_model.specs.Graph.{Graph}
use Rattle.model_file.specs.declared.error.ModelError.{ModelError}
use Rattle.model_file.specs.declared.lines.ModelLine.{ModelLine}
use Rattle.model_file.specs.declared.lines.ModelLine.TheVariants as lines
use Rattle.model_file.specs.declared.lines.Section.{Section}
use Rattle.model_file.specs.declared.lines.Section.TheVariants as sections
use Rattle.model_file.specs.declared.place.Place.{Place}
use Rattle.model_file.specs.declared.version.ModelVersion.{ModelVersion}
use Rattle.model_file.specs.Lines.{model_line, MayFollow}
use Rattle.model_file.specs.ModelText.{head_line, functions_line, nodes_line, IsSmall, IsSpelled}
use Rattle.model_file.specs.Progress.{Spelling, Spells, IsAt, Takes, IsMore, IsStop}
use Rattle.model_file.specs.States.{Fixed, AtCount, AtFunctions, AtEdges, AtEnd, AtLast, AfterLine, AfterEdge, IsLast, section_after, with_line, start_of, IsReadAs}
use Rattle.model_file.proofs.EdgesLemmas.{edges_step, end_step}
use Rattle.model_file.proofs.FrameLemmas.{Step, taken, stopped, stop_bad}
use Rattle.model_file.proofs.HeadLemmas.{fixed, head_step, nothing_told, count_step, nodes_step}

-- the lines up to the edges

pub version_read : {text : List ℕ} {new : Place} {v : ModelVersion} → Takes (λ (_ : ModelVersion). Unit {0}) head_line text (record { byte = 0; line = 0 }) new (Ok v) → IsAt (Fixed v (AtCount v)) text new
version_read {text} {new} {v} took = taken text (record { byte = 0; line = 0 }) new v head_step nothing_told took

pub count_read : {text : List ℕ} {old new : Place} {v : ModelVersion} {count : ℕ} → Takes (λ (_ : ModelVersion). Unit {0}) head_line text (record { byte = 0; line = 0 }) old (Ok v) → Takes IsSmall functions_line text old new (Ok count) → IsAt (Fixed v (AtFunctions v count [])) text new
count_read {text} {old} {new} {v} {count} version took = taken text old new count (fixed v (count_step v)) (version_read version) took

pub nodes_read : {text : List ℕ} {old new : Place} {v : ModelVersion} {count n : ℕ} (given : Records) → length given.functions ≡ count → IsLast (sections.Silent None) given → IsAt (Fixed v (AtFunctions v count given.functions)) text old → Takes IsSmall nodes_line text old new (Ok n) → IsAt (Fixed v (AtEdges v given n (sections.Silent None))) text new
nodes_read {text} {old} {new} {v} {count} {n} given all none told took = taken text old new n (fixed v (nodes_step v count given all none told.some.0.graph told.some.1 told.some.2.1)) told took

-- the edges

edge_at : (v : ModelVersion) (given : Records) (n : ℕ) (section : Section) (line : ModelLine) (text : List ℕ) (new : Place) → IsAt (Fixed v (AfterLine v given n line)) text new → IsAt (Fixed v (AfterEdge v (with_line line given) n (section_after section line) (start_of line))) text new
edge_at v given n section (lines.Silent e) text new at = at
edge_at v given n section line text new at = at

pub edge_stopped : (v : ModelVersion) (text : List ℕ) (old new : Place) (given : Records) (n : ℕ) (section : Section) (error : ModelError) → IsLast section given → IsAt (Fixed v (AtEdges v given n section)) text old → Takes (MayFollow v section) (model_line v) text old new (Err error) → IsStop error text
edge_stopped v text old new given n section error last told took =
    stopped text old new error (fixed v (edges_step v given n section told.some.0.graph told.some.1 last told.some.2.1)) told took

-- the line's edge is then the last one
pub last_after : (v : ModelVersion) (given : Records) (section : Section) (line : ModelLine) → IsLast section given → MayFollow v section line → start_of line ≡ None → IsLast (section_after section line) (with_line line given)
last_after v given (sections.Silent last) (lines.Silent e) is may none = ((given.silent, refl), is.1, is.2)
last_after v given (sections.Silent last) (lines.Sys e) is may none = ((given.sys, refl), is.2)
last_after v given (sections.Sys last) (lines.Sys e) is may none = ((given.sys, refl), is.1)
last_after v given section (lines.Start start) is may none = absurd (cc)
last_after v given section (lines.Call c) is may none = (given.calls, c, refl, refl)
last_after v given section line is may none = absurd may

pub last_found : (v : ModelVersion) (given : Records) (section : Section) (line : ModelLine) (built : Records) (next : Section) (found : Option ℕ) → IsLast section given → MayFollow v section line → built ≡ with_line line given → next ≡ section_after section line → found ≡ start_of line → IfNone found (IsLast next built)
last_found v given section line built next (Some start) last may is_built is_next is_found = tt
last_found v given section line built next None last may is_built is_next is_found =
    rw (is_built, is_next) (last_after v given section line last may (sym is_found))

pub edge_found : (v : ModelVersion) (text : List ℕ) (old new : Place) (given : Records) (n : ℕ) (section : Section) (line : ModelLine) (built : Records) (next : Section) (found : Option ℕ) → IsLast section given → IsAt (Fixed v (AtEdges v given n section)) text old → Takes (MayFollow v section) (model_line v) text old new (Ok line) → built ≡ with_line line given → next ≡ section_after section line → found ≡ start_of line → IsAt (Fixed v (AfterEdge v built n next found)) text new
edge_found v text old new given n section line built next found last told took is_built is_next is_found =
    rw (is_built, is_next, is_found) (edge_at v given n section line text new (taken text old new line (fixed v (edges_step v given n section told.some.0.graph told.some.1 last told.some.2.1)) told took))

-- the end

pub last_step : (text : List ℕ) (place : Place) {v : ModelVersion} {given : Records} {n start : ℕ} → IsAt (Fixed v (AtEnd v given n start)) text place → Step (Fixed v (AtEnd v given n start)) (λ (_ : Unit {0}). Unit {0}) (λ (_ : Unit {0}). codes "end\n") (λ (_ : Unit {0}). Fixed v (AtLast v given n start))
last_step text place {v} {given} {n} {start} told = let at = told.some.2.1 in fixed v (end_step v given n start (subst (IsSpelled v) at.is at.spelled))

-- no line follows
pub last_read : (v : ModelVersion) (text : List ℕ) (old : Place) (given : Records) (n start : ℕ) → IsAt (Fixed v (AtLast v given n start)) text old → drop old.byte text ≡ [] → IsReadAs text v (graph_of_records given n start)
last_read v text old given n start told none =
    let g : Graph = graph_of_records given n start in
    let m : Spelling = record { version = v; graph = g } in
    let some = told.some.2.1 in
    let whole : take old.byte text ++ [] ≡ text = ap (λ (t : List ℕ). take old.byte text ++ t) (sym none) ∙ take-append-drop old.byte text in
    record {
      spells = subst (Spells m) whole (told.back m [] (refl, record { spelled = subst (IsSpelled v) some.is some.spelled; is = refl; rest = refl }));
      only = λ other spells. (told.follows other [] (subst (Spells other) (sym whole) spells)).1.is;
    }

-- one more is bad
pub more_stopped : (v : ModelVersion) (text : List ℕ) (old new : Place) (given : Records) (n start : ℕ) (error : ModelError) → IsAt (Fixed v (AtLast v given n start)) text old → IsMore text old new error → IsStop error text
more_stopped v text old new given n start error told (line, next, is) =
    subst (λ (e : ModelError). IsStop e text) (sym is)
    (stop_bad (Fixed v (AtLast v given n start)) text old told line (drop new.byte text) next.first (λ m w at. absurd (omega (arith, ap length at.1.rest, length-append line w, next.long, next.further))))

-- a new builder with functions has no edges
pub no_edges : {before after : Records} → before ≡ record { functions = []; silent = []; sys = []; calls = [] } → after ≡ record before { functions = after.functions } → IsLast (sections.Silent None) after
no_edges fresh same = (
  ap (λ (b : Records). b.silent) same ∙ ap (λ (b : Records). b.silent) fresh,
  ap (λ (b : Records). b.sys) same ∙ ap (λ (b : Records). b.sys) fresh,
  ap (λ (b : Records). b.calls) same ∙ ap (λ (b : Records). b.calls) fresh,
)
