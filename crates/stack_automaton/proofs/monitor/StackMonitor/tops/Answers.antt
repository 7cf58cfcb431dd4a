use Rattle.std.proofs.Common.{◌≡◌, Some, sym, subst}
use Rattle.stack_automaton.specs.Seen.{Position, edges_at}
use Rattle.stack_automaton.proofs.TopsLemmas.{tops_exact}
use Rattle.stack_automaton.proofs.monitor.StackMonitor.tops.Goals as goal

pub returns : goal.returns
returns c = λ g k h stands accepted v.
    tops_exact c.args.self.now c.args.pool.now g k h c.edges.result.now
    (λ es found. c.edges.ensures.there es (subst (λ (m : Position). edges_at c.args.pool.now m.key ≡ Some es) (sym c.self.view_is) found)) stands accepted v
