use Rattle.std.proofs.Common.{refl, ◌-◌, arith}
use Rattle.c_tree.specs.View.{ctype_of, program_of, function_of}
use Rattle.flow_graph.proofs.ReachingLemmas.{map_get}
use Rattle.flow_graph.proofs.TypesLemmas.{defined_type, call_type, call_bound}
use Rattle.flow_graph.proofs.types.type_of.Goals as goal

pub returns-then-f-defined : goal.returns-then-f-defined
returns-then-f-defined c = defined_type (program_of c.args.program.now) c.args.f (function_of c.function.result.now) (ctype_of c.function.result.now.ctype) (map_get function_of c.args.program.now.functions c.args.f c.function.result.now c.function.ensures) refl

pub bounds-calls-f : goal.bounds-calls-f
bounds-calls-f c = call_bound (program_of c.args.program.now) c.args.f c.defined-2.result c.args.calls.now c.requires.calls c.requires.known c.defined-2.ensures (omega (arith, c.if-f-defined.false, c.defined.ensures, c.defined-2.ensures))

pub returns : goal.returns
returns c = call_type (program_of c.args.program.now) c.args.f (c.args.f - c.defined-2.result) c.args.calls.now c.index-calls-f.result c.requires.calls (omega (arith, c.if-f-defined.false, c.defined.ensures, c.defined-2.ensures)) (call_bound (program_of c.args.program.now) c.args.f c.defined-2.result c.args.calls.now c.requires.calls c.requires.known c.defined-2.ensures (omega (arith, c.if-f-defined.false, c.defined.ensures, c.defined-2.ensures))) c.index-calls-f.is
