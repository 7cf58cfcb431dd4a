use Rattle.std.proofs.Common.{◌∙◌, sym, ap}
use Rattle.c_tree.specs.View.{ctype_of, program_of}
use Rattle.c_meaning.specs.CallGraph.{is_typed}
use Rattle.flow_graph.proofs.TypesLemmas.{no_callees}
use Rattle.flow_graph.proofs.types.candidates_of.Goals as goal

pub returns-in-Void : goal.returns-in-Void
returns-in-Void c = c.new.ensures.items ∙ sym (no_callees (program_of c.args.program.now) (ctype_of c.args.t.now) (λ o. ap (λ t. is_typed (ctype_of t) o) c.in-Void.is))

pub returns-in-Int : goal.returns-in-Int
returns-in-Int c = c.new-in-Int.ensures.items ∙ sym (no_callees (program_of c.args.program.now) (ctype_of c.args.t.now) (λ o. ap (λ t. is_typed (ctype_of t) o) c.in-Int.is))

pub returns-in-Array : goal.returns-in-Array
returns-in-Array c = c.new-in-Array.ensures.items ∙ sym (no_callees (program_of c.args.program.now) (ctype_of c.args.t.now) (λ o. ap (λ t. is_typed (ctype_of t) o) c.in-Array.is))

pub returns-in-Struct : goal.returns-in-Struct
returns-in-Struct c = c.new-in-Struct.ensures.items ∙ sym (no_callees (program_of c.args.program.now) (ctype_of c.args.t.now) (λ o. ap (λ t. is_typed (ctype_of t) o) c.in-Struct.is))

pub returns-in-Function : goal.returns-in-Function
returns-in-Function c = c.new-in-Function.ensures.items ∙ sym (no_callees (program_of c.args.program.now) (ctype_of c.args.t.now) (λ o. ap (λ t. is_typed (ctype_of t) o) c.in-Function.is))
