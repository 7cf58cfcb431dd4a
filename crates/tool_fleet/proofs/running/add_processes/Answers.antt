use Rattle.std.proofs.Common.{◌≡◌, List, [], map, take, ◌∙◌, subst, arith}
use Rattle.std.proofs.lemmas.List.{take_all}
use Rattle.fleet.specs.Fleets.{StandsFor}
use Rattle.tool_fleet.specs.declared.inputs.ProcessInput.{ProcessInput}
use Rattle.tool_fleet.specs.Inputs.{member_after}
use Rattle.tool_fleet.proofs.MemberLemmas.{at_place, few_taken, fresh_pid, process_more}
use Rattle.tool_fleet.proofs.running.add_processes.Goals as goal

pub process-requires : goal.process-requires
process-requires g c =
    let (groups, empty, within) = c.requires.empty in (
      groups,
      map (member_after []) (take c.loop-one.one-index c.args.processes.now),
      c.loop-one.invariant.stands groups empty,
      within c.loop-one.one-index c.one-item.result (at_place c.args.processes.now c.loop-one.one-index c.one-item.result c.loop-one-test.true c.one-item.is),
      few_taken (member_after []) c.args.processes.now c.loop-one.one-index c.loop-one-test.true c.requires.few,
      fresh_pid c.args.processes.now c.loop-one.one-index c.one-item.result c.requires.differ c.loop-one-test.true c.one-item.is,
    )

pub loop-one-preserved : goal.loop-one-preserved
loop-one-preserved g c = record {
  stands = λ groups empty.
      process_more g.M.Monitor c.process.new.self groups c.args.processes.now c.loop-one.one-index c.one-item.result c.deref.result.now c.loop-one-test.true c.one-item.is c.deref.ensures.value
      (c.in_ok-process.ensures.stands groups (map (member_after []) (take c.loop-one.one-index c.args.processes.now)) (c.loop-one.invariant.stands groups empty));
  counted = c.in_ok-process.ensures.counted ∙ c.loop-one.invariant.counted;
}

pub returns-clause-stands : goal.returns-clause-stands
returns-clause-stands g c = λ groups empty.
    let whole : take c.loop-one.one-index c.args.processes.now ≡ c.args.processes.now = take_all c.loop-one.one-index c.args.processes.now (omega arith) in
    subst (λ (ps : List ProcessInput). StandsFor g.M.Monitor c.loop-one.fleet groups (map (member_after []) ps)) whole (c.loop-one.invariant.stands groups empty)
