use Rattle.std.proofs.Common.{ℕ, List, sym, subst}
use Rattle.std.proofs.lemmas.List.Elements.{All-nil}
use Rattle.sys_table.specs.Table.{IsRecorded}
use Rattle.sys_table.specs.declared.sys_result.SysResult.{SysResult}
use Rattle.c_tree.specs.Program.{IsProgram}
use Rattle.c_tree.specs.Tree.{Program}
use Rattle.c_meaning.specs.Runs.{Run, no_marks}
use Rattle.c_tree.specs.View.{program_of}
use Rattle.c_meaning.specs.ProgramLanguages.{Callgraph, Stack}
use Rattle.c_meaning.specs.Callees.{CalleesAreCandidates}
use Rattle.c_meaning.specs.Laws.{IsTypedRun, RunsBeginTyped, TypesAreKept}
use Rattle.ref_machine.specs.KeptTypes.{HasFunctionValues}
use Rattle.ref_machine.proofs.running.run.Goals as goal

pub returns-clause-no_false_alarm : goal.returns-clause-no_false_alarm
returns-clause-no_false_alarm c =
    let p = program_of c.args.program.now in
    subst (λ (r : Run). Stack p r.trace × Callgraph p r.trace) (sym c.in_ok-found.ensures)
    (c.runs_raise_no_alarm.ensures.runs p c.sites-sites.result c.sites-sites.ensures.typed c.args.results.now c.args.turns)

pub returns-clause-typed : goal.returns-clause-typed
returns-clause-typed c =
    let p = program_of c.args.program.now in
    subst IsTypedRun (sym c.in_ok-found.ensures)
    (c.values_have_kinds.ensures.runs p c.sites-sites.result c.sites-sites.ensures.typed no_marks (λ site. (All-nil IsRecorded, All-nil IsRecorded)) c.args.results.now c.args.turns)

function_values : RunsBeginTyped → TypesAreKept → CalleesAreCandidates → (p : Program) (n : ℕ) → IsProgram p n → (records : List SysResult) (turns : ℕ) → HasFunctionValues p records turns
function_values begun kept callees p n is records turns = record {
  beginning = begun p n is records turns;
  parts = λ marks recorded. kept p n is marks recorded turns;
  named = (callees p n is).0;
  pointed = (callees p n is).1;
}

pub returns-in_err-found-clause-function_values : goal.returns-in_err-found-clause-function_values
returns-in_err-found-clause-function_values c =
    function_values c.values_have_kinds.ensures.beginning c.values_have_kinds.ensures.parts c.callees_are_candidates.ensures (program_of c.args.program.now) c.sites-sites.result c.sites-sites.ensures.typed c.args.results.now c.args.turns

pub returns-clause-function_values : goal.returns-clause-function_values
returns-clause-function_values c =
    function_values c.values_have_kinds.ensures.beginning c.values_have_kinds.ensures.parts c.callees_are_candidates.ensures (program_of c.args.program.now) c.sites-sites.result c.sites-sites.ensures.typed c.args.results.now c.args.turns
