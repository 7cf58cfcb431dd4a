use Rattle.std.proofs.Common.{◌≤◌, ◌∙◌, arith}
use Rattle.c_tree.specs.View.{program_of}
use Rattle.c_values.specs.Seen.{seen}
use Rattle.ref_machine.proofs.NextSteps.{no_turn_left}
use Rattle.ref_machine.proofs.stepping.go_on.Goals as goal

pub turns-init : goal.turns-init
turns-init c = record {
  same = c.in_ok-next.ensures.same c.args.entries.now c.args.turns.now;
  fewer = omega arith;
  spent = omega arith;
  rests = c.in_ok-next.ensures.rests;
}

pub turns-preserved : goal.turns-preserved
turns-preserved c = record {
  same = λ n records taken le.
      let few : c.turns.turns ≤ n = omega (arith, le, c.turns.invariant.fewer) in
      let fewer : c.costly_step.new.turns ≤ n = omega (arith, few, c.costly_step.ensures.fewer) in
      c.in_ok-next-3.ensures.same c.costly_step.new.entries c.costly_step.new.turns n records taken fewer ∙ (c.in_ok-next-2.ensures.same n records taken few ∙ c.turns.invariant.same n records taken le);
  fewer = omega (arith, c.costly_step.ensures.fewer, c.turns.invariant.fewer);
  spent = omega (arith, c.costly_step.ensures.spent, c.turns.invariant.spent);
  rests = c.in_ok-next-3.ensures.rests;
}

pub returns-then-turns-eq0-clause-same : goal.returns-then-turns-eq0-clause-same
returns-then-turns-eq0-clause-same c n records taken le =
    let few : c.turns.turns ≤ n = omega (arith, le, c.turns.invariant.fewer) in
    no_turn_left (program_of c.args.program.now) n c.turns.here (seen c.turns.memory) c.turns.entries c.turns.turns c.turns.next c.turns.todo.items records taken (c.is_costly.ensures.0 c.turns-test.true) c.if-turns-eq0.true few ∙ c.turns.invariant.same n records taken le
