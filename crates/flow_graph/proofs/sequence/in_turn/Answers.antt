use Rattle.std.proofs.Common.{rules, ◌≡◌, ◌∙◌, ◌<◌, true, ap, sym, length, arith}
use Rattle.c_meaning.specs.Shape.{Seq}
use Rattle.flow_graph.specs.View.{shape_of, parts_of}
use Rattle.flow_graph.proofs.Rows.{seq_is}
use Rattle.flow_graph.proofs.SequenceLemmas.{turn_many}
use Rattle.flow_graph.proofs.sequence.in_turn.Goals as goal

pub returns : goal.returns
returns c =
    seq_is c.in_ok-first.first c.remove-first.new.self
    ∙ ap (λ t. Seq (shape_of t) (parts_of c.remove-first.new.self.items)) c.in_ok-first.ensures.ok
    ∙ turn_many c.args.parts.items c.remove-first.new.self.items c.remove-first.result (search rules) c.remove-first.ensures.value c.remove-first.ensures.items (search rules)
