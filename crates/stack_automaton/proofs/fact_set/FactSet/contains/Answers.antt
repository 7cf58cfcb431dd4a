use Rattle.std.proofs.Common.{rules, ◌<◌, length, Contains, subst}
use Rattle.std.specs.Prelude.{IsTrue}
use Rattle.stack_automaton.specs.Marks.{Facts}
use Rattle.stack_automaton.proofs.fact_set.FactSet.contains.Goals as goal

pub returns-then-len-gt-FEW : goal.returns-then-len-gt-FEW
returns-then-len-gt-FEW c =
    let many : 64 < length c.self.inside.list.items = search rules in
    let both = c.self.invariant many c.args.fact in
    subst (λ (s : Facts). (IsTrue c.is_in.result → Contains s.keys c.args.fact) × (Contains s.keys c.args.fact → IsTrue c.is_in.result)) c.self.view_is
    (λ holds. both.0 (c.is_in.ensures.0 holds), λ has. c.is_in.ensures.1 (both.1 has))
