use Rattle.std.proofs.Common.{◌∙◌, Some, ap, length, refl, sym, arith, None}
use Rattle.std.specs.Prelude.{slice_get}
use Rattle.std.proofs.lemmas.Option.{slice_get_past, slice_get_read}
use Rattle.flow_graph.proofs.CallsLemmas.{read_at, candidates_none, candidates_function, candidates_pointer, candidates_past}
use Rattle.flow_graph.proofs.calls.Calls.candidates.Goals as goal

pub returns-in-Some-Some-Function : goal.returns-in-Some-Some-Function
returns-in-Some-Some-Function c = let a = c.in-Some-Some-Function in λ p are.
    candidates_function p c.args.self.now are c.args.site a.f c.from_ref.result.now
    (read_at c.args.self.now c.args.site c.get.result (Some a.field-0) c.deref.result.now (c.get.ensures.lookup.4 (omega arith) None) c.deref.ensures.value a.is ∙ a.field-0-is ∙ ap Some a.field-0-0-is)
    c.from_ref.ensures.value

pub returns-in-Some : goal.returns-in-Some
returns-in-Some c = let a = c.in-Some-Some-Pointer in
    let xs = c.deref-in-Some-Some-Pointer.result.now in
    let at = read_at c.args.self.now c.args.site c.get.result (Some a.field-0) c.deref.result.now (c.get.ensures.lookup.4 (omega arith) None) c.deref.ensures.value a.is ∙ a.field-0-is ∙ ap Some a.field-0-0-is in
    let there = ap (λ xs. slice_get xs a.k) (sym c.deref-in-Some-Some-Pointer.ensures.value) ∙ slice_get_read xs (length xs) a.k c.in-Some.list.now refl c.in-Some.ensures.lookup.3.0 c.in-Some.ensures.lookup.1 in
    λ p are. c.deref-in-Some.ensures.value ∙ candidates_pointer p c.args.self.now are c.args.site a.k c.in-Some.list.now at there

pub returns-in-None-get : goal.returns-in-None-get
returns-in-None-get c = let a = c.in-Some-Some-Pointer in
    let xs = c.deref-in-Some-Some-Pointer.result.now in
    let at = read_at c.args.self.now c.args.site c.get.result (Some a.field-0) c.deref.result.now (c.get.ensures.lookup.4 (omega arith) None) c.deref.ensures.value a.is ∙ a.field-0-is ∙ ap Some a.field-0-0-is in
    let past = ap (λ xs. slice_get xs a.k) (sym c.deref-in-Some-Some-Pointer.ensures.value) ∙ slice_get_past xs a.k c.in-None-get.ensures.lookup.3 in
    λ p are. candidates_past p c.args.self.now are c.args.site a.k at past

pub returns-in-Some-None : goal.returns-in-Some-None
returns-in-Some-None c = let a = c.in-Some-None in λ p are.
    candidates_none p c.args.self.now are c.args.site (read_at c.args.self.now c.args.site c.get.result (Some a.field-0) c.deref.result.now (c.get.ensures.lookup.4 (omega arith) None) c.deref.ensures.value a.is ∙ a.field-0-is)

pub returns-in-None : goal.returns-in-None
returns-in-None c = λ p are.
    candidates_none p c.args.self.now are c.args.site (read_at c.args.self.now c.args.site c.get.result None c.deref.result.now (c.get.ensures.lookup.4 (omega arith) None) c.deref.ensures.value c.in-None.is)
