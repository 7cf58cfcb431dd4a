use Rattle.std.proofs.Common.{sym, ap, ◌∙◌, Some}
use Rattle.flow_graph.proofs.CallsLemmas.{marked_function, marked_pointer}
use Rattle.flow_graph.proofs.calls.Calls.marked.Goals as goal

pub returns-then-f-self : goal.returns-then-f-self
returns-then-f-self c = λ p are. marked_function p c.args.self.now are c.args.site c.in-Some-Function.f c.contains.result (sym c.place.ensures ∙ c.in-Some-Function.is ∙ ap Some c.in-Some-Function.field-0-is) c.if-f-self.true c.contains.ensures

pub returns-in-Some : goal.returns-in-Some
returns-in-Some c = λ p are. marked_pointer p c.args.self.now are c.args.site c.in-Some-Pointer.k c.in-Some.node c.contains-in-Some.result (sym c.place.ensures ∙ c.in-Some-Pointer.is ∙ ap Some c.in-Some-Pointer.field-0-is) c.in-Some.ensures.1 c.contains-in-Some.ensures
