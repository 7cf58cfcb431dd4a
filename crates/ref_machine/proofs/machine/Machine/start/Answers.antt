use Rattle.std.proofs.Common.{true, subst, sym, ap, ◌∙◌, ◌<◌, length, arith, rules}
use Rattle.std.specs.Prelude.{All, map, []}
use Rattle.c_tree.specs.Program.{IsStatic}
use Rattle.c_tree.specs.View.{program_of, static_of}
use Rattle.c_values.specs.Seen.{seen}
use Rattle.std.proofs.lemmas.List.Elements.{All-nil}
use Rattle.sys_table.specs.Table.{IsRecorded}
use Rattle.c_meaning.specs.Runs.{ending, first_objects, no_marks, run}
use Rattle.ref_machine_frames.specs.Held.{enter, world}
use Rattle.ref_machine_frames.specs.declared.frames.Now.TheVariants.{Enter}
use Rattle.ref_machine_frames.specs.Frames.{place_of}
use Rattle.ref_machine.specs.Futures.{Future}
use Rattle.ref_machine.specs.Standing.{left_of, state}
use Rattle.ref_machine_frames.proofs.HeldRuns.{run_same}
use Rattle.ref_machine.proofs.Starting.{few_statics, small_statics}
use Rattle.ref_machine.proofs.Resuming.{right_alike}
use Rattle.ref_machine.proofs.Turning.{started}
use Rattle.ref_machine.proofs.machine.Machine.start.Goals as goal

pub static_objects-requires-clause-few : goal.static_objects-requires-clause-few
static_objects-requires-clause-few c =
    subst (λ ss. length ss < 4294967296) (sym c.statics.ensures) (few_statics c.args.program.now.statics 4294967296 c.sites-sites.ensures.typed.few_statics)

pub static_objects-requires-clause-small : goal.static_objects-requires-clause-small
static_objects-requires-clause-small c =
    small_statics (program_of c.args.program.now) c.statics.result.now (subst (λ ss. All (IsStatic (program_of c.args.program.now)) (map static_of ss)) (sym c.statics.ensures) c.sites-sites.ensures.typed.statics)

pub returns-clause-future : goal.returns-clause-future
returns-clause-future c records =
    let p = program_of c.args.program.now in
    started p c.args.turns c.main.result _ _ _ (state (seen c.in_ok-memory.memory) 0 records 0 c.args.turns) c.main.ensures.is c.new-2.ensures.items c.new.ensures.items (omega arith)
    ∙ (ap (λ m. ending (enter p (world p c.args.turns) true p.main [] (state m 0 records 0 c.args.turns))) (c.in_ok-memory.ensures ∙ ap (λ ss. first_objects 0 (map static_of ss)) c.statics.ensures)
    ∙ run_same p c.sites-sites.result c.sites-sites.ensures.typed records c.args.turns)

pub invariant_of-result : goal.invariant_of-result
invariant_of-result c =
    let p = program_of c.args.program.now in
    let n = c.args.turns in
    let whole : Future = λ records. run p records n in
    let new : Future = λ records. ending (left_of p n (record { here = c.before_main.result; memory = seen c.in_ok-memory.memory; entries = 0; turns = n; now = Enter true c.main.result c.new-2.result; todo = c.new.result.items }) records 0) in
    record {
      counted = c.in_ok-counts.ensures;
      bounded = omega arith;
      few = search rules;
      right = right_alike whole new (λ records. sym (started p n c.main.result (place_of c.before_main.result) c.new-2.result.items c.new.result.items (state (seen c.in_ok-memory.memory) 0 records 0 n) c.main.ensures.is c.new-2.ensures.items c.new.ensures.items (omega arith)
          ∙ (ap (λ m. ending (enter p (world p n) true p.main [] (state m 0 records 0 n))) (c.in_ok-memory.ensures ∙ ap (λ ss. first_objects 0 (map static_of ss)) c.statics.ensures)
          ∙ run_same p c.sites-sites.result c.sites-sites.ensures.typed records n)))
          (λ records. (c.values_have_kinds.ensures.runs p c.sites-sites.result c.sites-sites.ensures.typed no_marks (λ site. (All-nil IsRecorded, All-nil IsRecorded)) records n).outcome);
      called = tt;
    }
