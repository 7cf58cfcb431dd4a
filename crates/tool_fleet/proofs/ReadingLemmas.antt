-- The files of a schedule's processes, as they are read one after another.
use Rattle.std.proofs.Common.{◌≡◌, ℕ, zero, suc, ◌+◌, ◌<◌, ◌≤◌, List, [], ◌∷◌, ◌++◌, length, take, get_or, Option, Some, None, IfSome, refl, sym, ◌∙◌, ap, subst, inl, inr, append-nil, arith, length-append, All}
use Rattle.std.specs.Prelude.{slice_get}
use Rattle.std.specs.List.{AllZip}
use Rattle.std.proofs.lemmas.List.{length-take, take_more}
use Rattle.std.proofs.lemmas.List.Elements.{All-contains, All-nil, All-push}
use Rattle.std.proofs.lemmas.Option.{get_or_from_slice_get, slice_get_within}
use Rattle.dm_base.specs.declared.mode.Mode.TheVariants.{Instrumented}
use Rattle.dm_base.specs.declared.verdict.Status.{Status}
use Rattle.dm_io.specs.Store.{Files, file_at, IsMissing}
use Rattle.c_rules.specs.Accepted.{IsAcceptedAs}
use Rattle.c_tree.specs.View.{Parts, program_of}
use Rattle.fleet.proofs.ZipLemmas.{zip_push, zip_weaker}
use Rattle.fleet.proofs.GroupLemmas.{there_left, there_last}
use Rattle.fleet_schedule.specs.declared.line.Line.{Line}
use Rattle.flow_model.specs.Graph.{Graph}
use Rattle.model_file.specs.Refusal.{IsModel}
use Rattle.sys_table.specs.declared.sys_result.SysResult.{SysResult}
use Rattle.sys_table.specs.ResultsText.{AreResultsWithin}
use Rattle.tool_files.specs.Inputs.{IsAModel, RefusesModel}
use Rattle.tool_files.specs.Reading.{StopsModel}
use Rattle.tool_fleet.specs.declared.inputs.GroupModel.{GroupModel}
use Rattle.tool_fleet.specs.declared.inputs.Inputs.{Inputs}
use Rattle.tool_fleet.specs.declared.inputs.ProcessInput.{ProcessInput}
use Rattle.tool_fleet.specs.declared.reading.Others.{Others}
use Rattle.tool_fleet.specs.Fleet.{IsAProgram, IsProcess, LacksForProcess, LacksForProcesses, RefusesProcess, RefusesProcesses, RefusesResults}
use Rattle.tool_fleet.specs.Inputs.{AreRead, HasGroup, IsGroupModel, IsRead, LacksOthers, ReadsNext, ReadsProcess, RefusesOthers}
use Rattle.tool_fleet.proofs.StopLemmas.{both_told, model_stops, stops_weaker, told_so}
use Rattle.tool_frame.specs.declared.stop.Stop.{Stop}
use Rattle.tool_frame.specs.Stop.{Stops}
use Rattle.tool_steps.specs.declared.source.Source.{Source}
use Rattle.tool_steps.specs.Sources.{IsSourceOf, RefusesSource}
use Rattle.tool_steps.proofs.SourceLemmas.{source_accepted}

-- the program of a file

pub program_accepted : (told : Option Files) (name : List ℕ) (source : Source) (program : Parts) → program ≡ source.program → IfSome told (λ files. IsSourceOf (file_at files name) Instrumented source) → IfSome told (λ files. IsAcceptedAs (file_at files name) Instrumented (program_of program))
program_accepted None name source program is read = tt
program_accepted (Some files) name source program is read = subst (λ (p : Parts). IsAcceptedAs (file_at files name) Instrumented (program_of p)) (sym is) (source_accepted (file_at files name) Instrumented source read)

-- the group of a line

model_at : (told : Option Files) (groups : List GroupModel) (place : ℕ) (g : GroupModel) → All (IsGroupModel told) groups → slice_get groups place ≡ Some g → IsGroupModel told g
model_at told groups place g models there = All-contains (IsGroupModel told) groups g models (place, slice_get_within groups place g there, get_or_from_slice_get groups place g g there)

pub group_found : (told : Option Files) (l : Line) (groups : List GroupModel) (place : ℕ) (name : List ℕ) (g : GroupModel) → name ≡ l.model → All (IsGroupModel told) groups → slice_get groups place ≡ Some g → g.name ≡ name → g.bound ≡ l.bound → HasGroup told l groups groups place
group_found told l groups place name g is models there named bound = record {
  more = [];
  grown = sym (append-nil groups);
  few = omega arith;
  models = models;
  group = g;
  there = there;
  bound = bound;
  is_model = subst (λ (n : List ℕ). IfSome told (λ files. IsModel (file_at files n) g.model)) (named ∙ is) (model_at told groups place g models there).is_model;
}

pub group_read : (told : Option Files) (l : Line) (old new : List GroupModel) (place : ℕ) (read added : List ℕ) (model : Graph) → 1 ≤ l.bound → l.bound ≤ 65535 → read ≡ l.model → added ≡ l.model → All (IsGroupModel told) old → IfSome told (λ files. IsModel (file_at files read) model) → place ≡ length old → new ≡ old ++ record { name = added; model = model; bound = l.bound } ∷ [] → HasGroup told l old new place
group_read told l old new place read added model least greatest is_read is_added models is_model number grown =
    let g : GroupModel = record { name = added; model = model; bound = l.bound } in
    let here : IfSome told (λ files. IsModel (file_at files l.model) model) = subst (λ (n : List ℕ). IfSome told (λ files. IsModel (file_at files n) model)) is_read is_model in
    let one : IsGroupModel told g = record {
      least = least;
      greatest = greatest;
      is_model = subst (λ (n : List ℕ). IfSome told (λ files. IsModel (file_at files n) model)) (sym is_added) here;
    } in
    record {
      more = g ∷ [];
      grown = grown;
      few = omega arith;
      models = subst (All (IsGroupModel told)) (sym grown) (All-push (IsGroupModel told) old g models one);
      group = g;
      there = ap (λ (gs : List GroupModel). slice_get gs place) grown ∙ ap (slice_get (old ++ g ∷ [])) number ∙ there_last old g;
      bound = refl;
      is_model = here;
    }

-- why the model was not read
pub stops_at_model : (told : Option Files) (l : Line) (name : List ℕ) (stop : Stop) (before after : ℕ) → name ≡ l.model → StopsModel stop told name before after → Stops stop (RefusesModel told l.model) (IsMissing told l.model) before after
stops_at_model told l name stop before after is why = model_stops stop told l.model before after (subst (λ (n : List ℕ). StopsModel stop told n before after) is why)

-- the model and the results of a line

has_model : (told : Option Files) (l : Line) (old new : List GroupModel) (place : ℕ) → HasGroup told l old new place → IfSome told (λ files. IsAModel files l.model)
has_model told l old new place has = told_so (λ files. IsModel (file_at files l.model) has.group.model) (λ files. IsAModel files l.model) told (λ files is. (has.group.model, is)) has.is_model

pub stops_at_group : (told : Option Files) (l : Line) (stop : Stop) (before after : ℕ) → Stops stop (RefusesModel told l.model) (IsMissing told l.model) before after → Stops stop (RefusesOthers told l) (LacksOthers told l) before after
stops_at_group told l stop before after why =
    stops_weaker stop (RefusesModel told l.model) (RefusesOthers told l) (IsMissing told l.model) (LacksOthers told l) before before after (omega arith) (λ status line refuses. inl refuses) (λ lacking. inl lacking) why

pub stops_at_results : (told mid : Option Files) (l : Line) (old new : List GroupModel) (place : ℕ) (name : List ℕ) (stop : Stop) (before between after : ℕ) → mid ≡ told → name ≡ l.results → before ≤ between → HasGroup told l old new place → Stops stop (RefusesResults mid name) (IsMissing mid name) between after → Stops stop (RefusesOthers told l) (LacksOthers told l) before after
stops_at_results told mid l old new place name stop before between after same is less has why =
    let model = has_model told l old new place has in
    stops_weaker stop (RefusesResults told l.results) (RefusesOthers told l) (IsMissing told l.results) (LacksOthers told l) before between after less (λ status line refuses. inr (model, refuses)) (λ lacking. inr (model, lacking))
    (subst (λ (n : List ℕ). Stops stop (RefusesResults told n) (IsMissing told n) between after) is
    (subst (λ (t : Option Files). Stops stop (RefusesResults t name) (IsMissing t name) between after) same why))

pub results_read : (told mid : Option Files) (l : Line) (name : List ℕ) (records : List SysResult) → mid ≡ told → name ≡ l.results → IfSome mid (λ files. AreResultsWithin (file_at files name) records) → IfSome told (λ files. AreResultsWithin (file_at files l.results) records)
results_read told mid l name records same is read =
    subst (λ (n : List ℕ). IfSome told (λ files. AreResultsWithin (file_at files n) records)) is
    (subst (λ (t : Option Files). IfSome t (λ files. AreResultsWithin (file_at files name) records)) same read)

-- the files of a line

pub models_moved : (told mid : Option Files) (groups : List GroupModel) → mid ≡ told → All (IsGroupModel told) groups → All (IsGroupModel mid) groups
models_moved told mid groups same models = subst (λ (t : Option Files). All (IsGroupModel t) groups) (sym same) models

pub stops_at_program : (told : Option Files) (l : Line) (name : List ℕ) (stop : Stop) (before after : ℕ) → name ≡ l.file → Stops stop (RefusesSource Instrumented told name) (IsMissing told name) before after → Stops stop (RefusesProcess told l) (LacksForProcess told l) before after
stops_at_program told l name stop before after is why =
    stops_weaker stop (RefusesSource Instrumented told l.file) (RefusesProcess told l) (IsMissing told l.file) (LacksForProcess told l) before before after (omega arith) (λ status line refuses. inl refuses) (λ lacking. inl lacking)
    (subst (λ (n : List ℕ). Stops stop (RefusesSource Instrumented told n) (IsMissing told n) before after) is why)

module _ (told mid : Option Files) (l : Line) (name : List ℕ) (program : Parts) (same : mid ≡ told) (is : name ≡ l.file) (accepted : IfSome told (λ files. IsAcceptedAs (file_at files name) Instrumented (program_of program))) where
  here : IfSome told (λ files. IsAcceptedAs (file_at files l.file) Instrumented (program_of program))
  here = subst (λ (n : List ℕ). IfSome told (λ files. IsAcceptedAs (file_at files n) Instrumented (program_of program))) is accepted

  some_program : IfSome told (λ files. IsAProgram files l.file)
  some_program = told_so (λ files. IsAcceptedAs (file_at files l.file) Instrumented (program_of program)) (λ files. IsAProgram files l.file) told (λ files has. (program_of program, has)) here

  others_refuse : (status : Status) (line : List ℕ) → RefusesOthers told l status line → RefusesProcess told l status line
  others_refuse status line (inl refuses) = inr (inl (some_program, refuses))
  others_refuse status line (inr refuses) = inr (inr (both_told (λ files. IsAProgram files l.file) (λ files. IsAModel files l.model) told some_program refuses.0, refuses.1))

  others_lack : LacksOthers told l → LacksForProcess told l
  others_lack (inl lacking) = inr (inl (some_program, lacking))
  others_lack (inr lacking) = inr (inr (both_told (λ files. IsAProgram files l.file) (λ files. IsAModel files l.model) told some_program lacking.0, lacking.1))

  pub stops_at_others : (stop : Stop) (before between after : ℕ) → before ≤ between → Stops stop (RefusesOthers mid l) (LacksOthers mid l) between after → Stops stop (RefusesProcess told l) (LacksForProcess told l) before after
  stops_at_others stop before between after less why =
      stops_weaker stop (RefusesOthers told l) (RefusesProcess told l) (LacksOthers told l) (LacksForProcess told l) before between after less others_refuse others_lack
      (subst (λ (t : Option Files). Stops stop (RefusesOthers t l) (LacksOthers t l) between after) same why)

  pub process_read : (old new : List GroupModel) (others : Others) (p : ProcessInput) → HasGroup mid l old new others.group → IfSome mid (λ files. AreResultsWithin (file_at files l.results) others.results.items) → p ≡ record { pid = l.pid; group = others.group; program = program; results = others.results; turns = l.turns } → ReadsProcess told l old new p
  process_read old new others p has_mid read_mid made =
      let has : HasGroup told l old new others.group = subst (λ (t : Option Files). HasGroup t l old new others.group) same has_mid in
      let read : IfSome told (λ files. AreResultsWithin (file_at files l.results) others.results.items) = subst (λ (t : Option Files). IfSome t (λ files. AreResultsWithin (file_at files l.results) others.results.items)) same read_mid in
      subst (ReadsProcess told l old new) (sym made) (record {
        more = has.more;
        grown = has.grown;
        few = has.few;
        models = has.models;
        is = record { pid = refl; turns = refl; group = has.group; there = has.there; bound = has.bound; is_model = has.is_model; accepted = here; recorded = read };
      })

-- all lines so far

read_longer : (told : Option Files) (old new more : List GroupModel) (l : Line) (p : ProcessInput) → new ≡ old ++ more → IsRead told old l p → IsRead told new l p
read_longer told old new more l p grown is =
    record {
      pid = is.pid;
      turns = is.turns;
      group = is.group;
      there = ap (λ (gs : List GroupModel). slice_get gs p.group) grown ∙ there_left old more p.group is.group is.there;
      bound = is.bound;
      is_model = is.is_model;
      accepted = is.accepted;
      recorded = is.recorded;
    }

pub nothing_read : (told : Option Files) → AreRead told [] [] []
nothing_read told = record { each = tt; models = All-nil (IsGroupModel told); few = omega arith }

pub read_more : (told mid : Option Files) (lines : List Line) (i : ℕ) (item d : Line) (old new : Inputs) → mid ≡ told → i < length lines → item ≡ get_or lines i d → AreRead told (take i lines) old.groups.items old.processes.items → ReadsNext mid item old new → AreRead told (take (i + 1) lines) new.groups.items new.processes.items
read_more told mid lines i item d old new same less is read next_mid =
    let next : ReadsNext told item old new = subst (λ (t : Option Files). ReadsNext t item old new) same next_mid in
    let line : take (i + 1) lines ≡ take i lines ++ item ∷ [] = take_more lines i d less ∙ ap (λ (l : Line). take i lines ++ l ∷ []) (sym is) in
    subst (λ (ls : List Line). AreRead told ls new.groups.items new.processes.items) (sym line) (record {
      each =
          subst (AllZip (IsRead told new.groups.items) (take i lines ++ item ∷ [])) (sym next.pushed)
          (zip_push (IsRead told new.groups.items) (take i lines) old.processes.items item next.process
          (zip_weaker (IsRead told old.groups.items) (IsRead told new.groups.items) (take i lines) old.processes.items (λ l p one. read_longer told old.groups.items new.groups.items next.reads.more l p next.reads.grown one) read.each)
          next.reads.is);
      models = next.reads.models;
      few =
          let count = read.few in
          let one = next.reads.few in
          omega (arith, ap length next.reads.grown, length-append old.groups.items next.reads.more, length-append (take i lines) (item ∷ []));
    })

pub few_read : (told : Option Files) (lines : List Line) (i : ℕ) (groups : List GroupModel) (processes : List ProcessInput) → AreRead told (take i lines) groups processes → i < length lines → length lines ≤ 64 → length groups < 64
few_read told lines i groups processes read less few = let count = read.few in omega (arith, length-take i lines)

-- a line is refused once those before it were read

is_process : (told : Option Files) (groups : List GroupModel) (l : Line) (p : ProcessInput) → IsRead told groups l p → IfSome told (λ files. IsProcess files l)
is_process None groups l p is = tt
is_process (Some files) groups l p is = record {
  program = program_of p.program;
  graph = is.group.model;
  records = p.results.items;
  accepted = is.accepted;
  is_model = is.is_model;
  recorded = is.recorded;
}

module _ (told : Option Files) (groups : List GroupModel) where
  refuses_at : (lines : List Line) (i : ℕ) (item d : Line) (processes : List ProcessInput) (status : Status) (text : List ℕ) → i < length lines → item ≡ get_or lines i d → AllZip (IsRead told groups) (take i lines) processes → RefusesProcess told item status text → RefusesProcesses told lines status text
  refuses_at [] i item d processes status text less is read refuses = absurd (omega arith)
  refuses_at (l ∷ lines) zero item d processes status text less is read refuses = inl (subst (λ (x : Line). RefusesProcess told x status text) is refuses)
  refuses_at (l ∷ lines) (suc i) item d [] status text less is read refuses = absurd read
  refuses_at (l ∷ lines) (suc i) item d (p ∷ processes) status text less is read refuses = inr (is_process told groups l p read.0, refuses_at lines i item d processes status text (omega arith) is read.1 refuses)

  lacks_at : (lines : List Line) (i : ℕ) (item d : Line) (processes : List ProcessInput) → i < length lines → item ≡ get_or lines i d → AllZip (IsRead told groups) (take i lines) processes → LacksForProcess told item → LacksForProcesses told lines
  lacks_at [] i item d processes less is read lacks = absurd (omega arith)
  lacks_at (l ∷ lines) zero item d processes less is read lacks = inl (subst (LacksForProcess told) is lacks)
  lacks_at (l ∷ lines) (suc i) item d [] less is read lacks = absurd read
  lacks_at (l ∷ lines) (suc i) item d (p ∷ processes) less is read lacks = inr (is_process told groups l p read.0, lacks_at lines i item d processes (omega arith) is read.1 lacks)

pub stops_at_line : (told mid : Option Files) (lines : List Line) (i : ℕ) (item d : Line) (groups : List GroupModel) (processes : List ProcessInput) (stop : Stop) (before between after : ℕ) → mid ≡ told → i < length lines → item ≡ get_or lines i d → before ≤ between → AreRead told (take i lines) groups processes → Stops stop (RefusesProcess mid item) (LacksForProcess mid item) between after → Stops stop (RefusesProcesses told lines) (LacksForProcesses told lines) before after
stops_at_line told mid lines i item d groups processes stop before between after same less is count read why =
    stops_weaker stop (RefusesProcess told item) (RefusesProcesses told lines) (LacksForProcess told item) (LacksForProcesses told lines) before between after count
    (λ status text refuses. refuses_at told groups lines i item d processes status text less is read.each refuses)
    (λ lacks. lacks_at told groups lines i item d processes less is read.each lacks)
    (subst (λ (t : Option Files). Stops stop (RefusesProcess t item) (LacksForProcess t item) between after) same why)
