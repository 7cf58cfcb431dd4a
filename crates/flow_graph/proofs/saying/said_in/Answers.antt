use Rattle.std.proofs.Common.{[], ◌++◌, ◌∙◌, ap, sym}
use Rattle.std.specs.Prelude.{flat_map}
use Rattle.std.proofs.lemmas.Option.{slice_get_within, get_or_from_slice_get}
use Rattle.c_tree.specs.View.{function_of, static_of}
use Rattle.c_meaning.specs.Mentions.{mentions_of_function, mentions_of_static}
use Rattle.flow_graph.specs.Saying.{said}
use Rattle.flow_graph.proofs.SayingLemmas.{more_flat, all_of_flat, program_said}
use Rattle.flow_graph.proofs.saying.said_in.Goals as goal

pub loop-f-preserved : goal.loop-f-preserved
loop-f-preserved c = more_flat (λ f. mentions_of_function (function_of f)) c.args.program.now.functions c.loop-f.f c.function.result.now [] (said c.loop-f.all.items) (said c.add_function.new.into.items) (slice_get_within c.args.program.now.functions c.loop-f.f c.function.result.now c.function.ensures) (sym (get_or_from_slice_get c.args.program.now.functions c.loop-f.f c.function.result.now c.function.result.now c.function.ensures)) c.loop-f.invariant c.in_ok-add_function.ensures

pub returns : goal.returns
returns c = let fs = flat_map (λ f. mentions_of_function (function_of f)) c.args.program.now.functions in
    all_of_flat (λ s. mentions_of_static (static_of s)) c.statics-object-items.result.now c.loop-object.object-index fs (said c.loop-object.all.items) c.loop-object-test.false c.loop-object.invariant
    ∙ ap (λ ss. fs ++ flat_map (λ s. mentions_of_static (static_of s)) ss) c.statics-object-items.ensures
    ∙ program_said c.args.program.now.functions c.args.program.now.statics
