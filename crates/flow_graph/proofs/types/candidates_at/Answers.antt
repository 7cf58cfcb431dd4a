use Rattle.std.proofs.Common.{◌&&◌, ◌∙◌, sym, ap, ℕ, Vec, Global}
use Rattle.c_tree.specs.Functions.{value_type}
use Rattle.c_tree.specs.Tree.{pointer}
use Rattle.c_tree.specs.View.{ctype_of, program_of}
use Rattle.c_meaning.specs.CallGraph.{is_taken, is_typed}
use Rattle.flow_graph.proofs.TypesLemmas.{passed_true, passed_false}
use Rattle.flow_graph.proofs.types.candidates_at.Goals.{then-is_candidate+in_ok-push, else-is_candidate}
use Rattle.flow_graph.proofs.types.candidates_at.Goals as goal

pub loop-f-preserved : goal.loop-f-preserved
loop-f-preserved c = let p = program_of c.args.program.now in
    let t = ctype_of c.args.target.now in
    elim c.if-is_candidate.branch [
      | then-is_candidate+in_ok-push w ↦ passed_true (λ f. is_taken p f && is_typed (pointer t) (value_type p f)) c.loop-f.found.items c.if-is_candidate.found.items c.loop-f.f (sym c.is_candidate.ensures ∙ w.if-is_candidate.true) c.loop-f.invariant (ap (λ (v : Vec ℕ Global). v.items) w.found-is ∙ w.in_ok-push.ensures.items)
      | else-is_candidate w ↦ ap (λ (v : Vec ℕ Global). v.items) w.found-is ∙ passed_false (λ f. is_taken p f && is_typed (pointer t) (value_type p f)) c.loop-f.found.items c.loop-f.f (sym c.is_candidate.ensures ∙ w.if-is_candidate.false) c.loop-f.invariant
    ]
