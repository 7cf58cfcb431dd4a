use Rattle.std.proofs.Common.{◌∙◌, ap}
use Rattle.c_meaning.specs.Shape.{Cases}
use Rattle.c_meaning.specs.ShapeOf.{seq_two}
use Rattle.flow_graph.specs.View.{shape_of, parts_of}
use Rattle.flow_graph.proofs.Rows.{cases_is}
use Rattle.flow_graph.proofs.Trees.{same_shape}
use Rattle.flow_graph.proofs.statements.switch_of.Goals as goal

pub returns : goal.returns
returns c = same_shape c.two.result _ _ (ap (seq_two (shape_of c.args.on)) (cases_is c.args.cases c.has_default.result ∙ ap (Cases (parts_of c.args.cases.items)) c.has_default.ensures)) c.two.ensures
