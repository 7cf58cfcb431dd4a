use Rattle.std.proofs.Common.{◌≡◌, ℕ, true, false, get_or}
use Rattle.std.proofs.lemmas.List.{get_or_default}
use Rattle.stack_automaton.proofs.FollowingLemmas.{none_ends, none_ends_at_all}
use Rattle.stack_automaton.proofs.follow.is_exit_of_one.Goals as goal

pub loop-function-preserved : goal.loop-function-preserved
loop-function-preserved c =
    let x : ℕ = get_or c.args.candidates.now c.loop-function.function-index 0 in
    let same : x ≡ get_or c.args.candidates.now c.loop-function.function-index x = get_or_default c.args.candidates.now c.loop-function.function-index 0 x c.loop-function-test.true in
    none_ends c.args.functions.now c.args.node c.args.candidates.now c.loop-function.function-index x c.loop-function-test.true same (λ ends. let both : false ≡ true = c.if-is_exit.ensures.1 ends in absurd cc) c.loop-function.invariant

pub returns : goal.returns
returns c = (
  λ holds. absurd cc,
  λ has. absurd (none_ends_at_all c.args.functions.now c.args.node c.args.candidates.now c.loop-function.function-index c.loop-function-test.false c.loop-function.invariant has),
)
