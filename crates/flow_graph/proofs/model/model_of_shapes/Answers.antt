use Rattle.std.proofs.Common.{sym, subst}
use Rattle.c_tree.specs.View.{program_of}
use Rattle.c_meaning.specs.ProgramLanguages as programs
use Rattle.flow_graph.specs.View.{shapes_in}
use Rattle.flow_model.specs.declared.which.Which.TheVariants.{Callgraph, Stack, Dyck}
use Rattle.flow_model.specs.Language.{Reads}
use Rattle.flow_model.specs.Rules.{IsValid}
use Rattle.c_meaning.specs.Equal.{AreEqual}
use Rattle.flow_graph.proofs.MadeLemmas.{exact_nodes, many_nodes, few_made}
use Rattle.flow_graph.proofs.model.model_of_shapes.Goals as goal

pub returns-then-nodes-gt-MOST-clause-many : goal.returns-then-nodes-gt-MOST-clause-many
returns-then-nodes-gt-MOST-clause-many c = λ e. many_nodes (program_of c.args.program.now) (shapes_in c.args.shapes.now) c.nodes_of-nodes.result c.requires.shapes c.nodes_of-nodes.ensures c.if-nodes-gt-MOST.true

pub model_with-requires-clause-nodes : goal.model_with-requires-clause-nodes
model_with-requires-clause-nodes c = exact_nodes (shapes_in c.args.shapes.now) c.nodes_of-nodes.result c.nodes_of-nodes.ensures c.if-nodes-gt-MOST.false

pub returns-in-Ok-clause-few : goal.returns-in-Ok-clause-few
returns-in-Ok-clause-few c = few_made (program_of c.args.program.now) (shapes_in c.args.shapes.now) c.nodes_of-nodes.result c.requires.shapes (exact_nodes (shapes_in c.args.shapes.now) c.nodes_of-nodes.result c.nodes_of-nodes.ensures c.if-nodes-gt-MOST.false) c.if-nodes-gt-MOST.false

pub returns-in-Ok-clause-valid : goal.returns-in-Ok-clause-valid
returns-in-Ok-clause-valid c = subst IsValid (sym c.in-Ok.ensures) (c.program_graph_is_valid.ensures (program_of c.args.program.now) c.sites-sites.result c.sites-sites.ensures.typed (few_made (program_of c.args.program.now) (shapes_in c.args.shapes.now) c.nodes_of-nodes.result c.requires.shapes (exact_nodes (shapes_in c.args.shapes.now) c.nodes_of-nodes.result c.nodes_of-nodes.ensures c.if-nodes-gt-MOST.false) c.if-nodes-gt-MOST.false))

pub returns-in-Ok-clause-dyck : goal.returns-in-Ok-clause-dyck
returns-in-Ok-clause-dyck c = subst (λ g. AreEqual (programs.Dyck (program_of c.args.program.now)) (Reads Dyck g)) (sym c.in-Ok.ensures) (c.program_graph_has_the_words.ensures.dyck (program_of c.args.program.now) c.sites-sites.result c.sites-sites.ensures.typed)

pub returns-in-Ok-clause-stack : goal.returns-in-Ok-clause-stack
returns-in-Ok-clause-stack c = subst (λ g. AreEqual (programs.Stack (program_of c.args.program.now)) (Reads Stack g)) (sym c.in-Ok.ensures) (c.program_graph_has_the_words.ensures.stack (program_of c.args.program.now) c.sites-sites.result c.sites-sites.ensures.typed)

pub returns-in-Ok-clause-callgraph : goal.returns-in-Ok-clause-callgraph
returns-in-Ok-clause-callgraph c = subst (λ g. AreEqual (programs.Callgraph (program_of c.args.program.now)) (Reads Callgraph g)) (sym c.in-Ok.ensures) (c.program_graph_has_the_words.ensures.callgraph (program_of c.args.program.now) c.sites-sites.result c.sites-sites.ensures.typed)
