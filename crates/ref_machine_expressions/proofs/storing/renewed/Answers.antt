use Rattle.std.proofs.Common.{ap, ◌∙◌}
use Rattle.std.proofs.lemmas.Result.{MatchResult-weaker}
use Rattle.c_values.specs.Seen.{seen}
use Rattle.c_meaning.specs.Pointers.{store_place}
use Rattle.c_meaning.specs.Results.{with_memory, then_do, remembered}
use Rattle.ref_machine_frames.specs.Frames.{place_of, stack, after_value}
use Rattle.ref_machine_expressions.proofs.storing.renewed.Goals as goal

pub returns-clause-same : goal.returns-clause-same
returns-clause-same c =
    MatchResult-weaker c.stored.result c.stored.ensures.same (λ now same p h w st.
    same p h w st ∙ ap (λ v. then_do (remembered (store_place (seen c.args.memory.now) c.args.place c.args.new) v (with_memory st (seen c.args.memory.now))) (after_value p w (place_of h) (stack c.args.todo.now.items))) c.typed_value.ensures) (λ error none. none)
