use Rattle.std.proofs.Common.{◌≤◌, ap, ◌∙◌, sym, arith}
use Rattle.c_tree.specs.View.{program_of}
use Rattle.c_values.specs.Seen.{seen}
use Rattle.c_meaning.specs.Runs.{ending}
use Rattle.ref_machine.specs.Futures.{Future, future, future_at, is_waiting}
use Rattle.ref_machine.specs.Standing.{left_of}
use Rattle.ref_machine.proofs.Resuming.{ended_right, goes_alike, right_alike}
use Rattle.ref_machine.proofs.machine.Machine.go_on.Goals as goal

pub pause-requires-clause-right : goal.pause-requires-clause-right
pause-requires-clause-right c =
    let m = c.args.self.now in
    let s = c.go_on.new in
    let there : Future = λ records. ending (left_of (program_of m.program.now) m.allowed (record { here = s.here; memory = seen s.memory; entries = s.entries; turns = s.turns; now = c.in_ok-next.next; todo = s.todo.items }) records m.taken) in
    let enough : m.turns ≤ m.allowed = omega (arith, m.bounded) in
    right_alike (future m) there (λ records. ap (λ now. future_at m now records) (sym c.replace-now.ensures.value) ∙ ap ending (sym (c.in_ok-next.ensures.same m.allowed records m.taken enough))) m.right

pub pause-requires-clause-pausing : goal.pause-requires-clause-pausing
pause-requires-clause-pausing c = c.in_ok-next.ensures.pausing

pub returns-clause-goes_on : goal.returns-clause-goes_on
returns-clause-goes_on c =
    let m = c.args.self.now in
    let s = c.go_on.new in
    let there : Future = λ records. ending (left_of (program_of m.program.now) m.allowed (record { here = s.here; memory = seen s.memory; entries = s.entries; turns = s.turns; now = c.in_ok-next.next; todo = s.todo.items }) records m.taken) in
    let enough : m.turns ≤ m.allowed = omega (arith, m.bounded) in
    goes_alike (future m) there (future c.pause.new.self) c.pause.result (is_waiting c.pause.new.self) (λ records. ap (λ now. future_at m now records) (sym c.replace-now.ensures.value) ∙ ap ending (sym (c.in_ok-next.ensures.same m.allowed records m.taken enough))) c.pause.ensures.goes_on

pub invariant_of-self : goal.invariant_of-self
invariant_of-self c =
    let m = c.args.self.now in
    record {
      counted = m.counted;
      bounded = omega (arith, m.bounded, c.go_on.ensures.spent);
      few = m.few;
      right = ended_right m c.go_on.new.here (seen c.go_on.new.memory) c.go_on.new.entries c.go_on.new.turns c.replace-now.new.dest c.go_on.new.todo.items c.replace-now.ensures.after;
      called = tt;
    }
