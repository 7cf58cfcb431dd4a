use Rattle.std.proofs.Common.{rules}
use Rattle.std.proofs.lemmas.List.{with_items_is}
use Rattle.flow_model.specs.Built.{graph_of_records}
use Rattle.flow_model.proofs.builder.ModelBuilder.sort.Goals as goal

pub returns-clause-same : goal.returns-clause-same
returns-clause-same c = λ nodes start.
    rw (with_items_is c.self.inside.silent c.sort_edges.new.silent (search rules), with_items_is c.self.inside.sys c.sort_edges.new.sys (search rules), with_items_is c.self.inside.calls c.sort_edges.new.calls (search rules))
    (search (rules, c.sort_edges.ensures.same (graph_of_records c.args.self.now nodes start)))

pub returns-clause-repeats : goal.returns-clause-repeats
returns-clause-repeats c = λ nodes start. search (rules, c.sort_edges.ensures.repeats (graph_of_records c.args.self.now nodes start))

pub returns-clause-order : goal.returns-clause-order
returns-clause-order c = λ nodes start new.
    rw (with_items_is c.self.inside.silent c.sort_edges.new.silent (search rules), with_items_is c.self.inside.sys c.sort_edges.new.sys (search rules), with_items_is c.self.inside.calls c.sort_edges.new.calls (search rules))
    (search (rules, c.sort_edges.ensures.order (graph_of_records c.args.self.now nodes start)))
