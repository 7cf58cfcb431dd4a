use Rattle.std.proofs.Common.{◌≡◌, ◌++◌, take}
use Rattle.std.specs.Prelude.{flat_map}
use Rattle.c_tree.specs.View.{function_of, static_of}
use Rattle.c_meaning.specs.Mentions.{mentions_of_function, mentions_of_static}
use Rattle.flow_graph.specs.Saying.{said}
use Rattle.flow_graph.proofs.saying.said_in.Given as goal

abbrev pub invariant-loop-f : goal.invariant-loop-f
invariant-loop-f l = said l.all.items ≡ flat_map (λ f. mentions_of_function (function_of f)) (take l.f l.program.functions)

abbrev pub invariant-loop-object : goal.invariant-loop-object
invariant-loop-object l =
    said l.all.items ≡ flat_map (λ f. mentions_of_function (function_of f)) l.program.functions ++ flat_map (λ s. mentions_of_static (static_of s)) (take l.object-index l.object-items)
