use Rattle.std.proofs.Common.{◌≡◌, ◌∙◌, ◌+◌, ◌-◌, ◌<◌, ◌≤◌, ℕ, ap, get_or, arith}
use Rattle.c_tree.specs.Functions.{defined}
use Rattle.c_tree.specs.View.{program_of}
use Rattle.c_meaning.specs.ShapeOf.{taken_calls}
use Rattle.flow_graph.proofs.FunctionLemmas.{name_of_defined, name_of_taken, taken_place}
use Rattle.flow_graph.proofs.model_functions.name_at.Goals as goal

pub returns-then-place-defined : goal.returns-then-place-defined
returns-then-place-defined c =
    let p = program_of c.args.program.now in
    let below : c.args.place < defined p = omega (arith, c.if-place-defined.true, c.defined-defined.ensures) in
    name_of_defined p c.args.place c.name_of.result.now below c.name_of.ensures

pub overflow_add-defined : goal.overflow_add-defined
overflow_add-defined c =
    let r = taken_place (program_of c.args.program.now) c.sites-sites.result c.sites-sites.ensures.typed c.args.taken.now c.args.place c.defined-defined.result c.requires.taken c.requires.inside c.if-place-defined.false c.defined-defined.ensures in
    let small = r.small in
    let few = r.few in
    omega (arith, small, few)

pub name_of-requires-2 : goal.name_of-requires-2
name_of-requires-2 c =
    let r = taken_place (program_of c.args.program.now) c.sites-sites.result c.sites-sites.ensures.typed c.args.taken.now c.args.place c.defined-defined.result c.requires.taken c.requires.inside c.if-place-defined.false c.defined-defined.ensures in
    let small = r.small in
    omega (arith, small, c.defined-defined.ensures)

pub returns : goal.returns
returns c =
    let p = program_of c.args.program.now in
    let d = c.defined-defined.result in
    let r = taken_place (program_of c.args.program.now) c.sites-sites.result c.sites-sites.ensures.typed c.args.taken.now c.args.place c.defined-defined.result c.requires.taken c.requires.inside c.if-place-defined.false c.defined-defined.ensures in
    let over : defined p ≤ c.args.place = omega (arith, c.if-place-defined.false, c.defined-defined.ensures) in
    let x : ℕ = get_or c.args.taken.now (c.args.place - d) 0 in
    let at : x ≡ get_or (taken_calls p) (c.args.place - defined p) 0 = ap (λ ts. get_or ts (c.args.place - d) 0) c.requires.taken ∙ ap (λ k. get_or (taken_calls p) (c.args.place - k) 0) c.defined-defined.ensures in
    name_of_taken p c.args.place x (d + x) c.name_of-2.result.now over r.inside at (ap (λ k. k + x) c.defined-defined.ensures) c.name_of-2.ensures
