use Rattle.std.proofs.Common.{◌∙◌, sym}
use Rattle.std.proofs.lemmas.Bool.{false≢true}
use Rattle.c_tree.specs.View.{ctype_of, program_of}
use Rattle.flow_graph.proofs.TypesLemmas.{candidate_taken, candidate_not}
use Rattle.flow_graph.proofs.Members.{any_from, any_to}
use Rattle.flow_graph.proofs.types.is_candidate.Goals as goal

pub returns-then-not-contains : goal.returns-then-not-contains
returns-then-not-contains c = candidate_not (program_of c.args.program.now) c.args.f (ctype_of c.args.target.now) (λ h. false≢true (sym c.if-not-contains.true ∙ c.contains.ensures ∙ any_to c.args.taken.now.keys c.args.f ((c.requires.taken c.args.f).1 h)))

pub returns : goal.returns
returns c = candidate_taken (program_of c.args.program.now) c.args.f (ctype_of c.args.target.now) (ctype_of c.type_of.result.now) c.is_same.result ((c.requires.taken c.args.f).0 (any_from c.args.taken.now.keys c.args.f (sym c.contains.ensures ∙ c.if-not-contains.false))) c.type_of.ensures c.is_same.ensures
