use Rattle.c_check_scopes.specs.Variables.{past_names}
use Rattle.c_check_counts.specs.Numbered.{next_of}
use Rattle.c_syntax.specs.SeenNames.{seen}
use Rattle.c_check_counts.proofs.NextLemmas.{one_has, others_have, past_more}
use Rattle.c_check_counts.proofs.numbers.past_all.Goals as goal

pub past-reached-requires : goal.past-reached-requires
past-reached-requires c =
    one_has c.args.names.now c.loop-name.name-index _ (next_of c.loop-name.reached) c.loop-name-test.true c.loop-name.invariant.left

pub loop-name-preserved : goal.loop-name-preserved
loop-name-preserved c =
    record {
      past = past_more c.args.names.now c.loop-name.name-index _ (next_of c.loop-name.reached) (next_of c.past-reached.result) (past_names (next_of c.args.next) (seen c.args.names.now)) c.loop-name-test.true c.past-reached.ensures c.loop-name.invariant.past;
      left = others_have c.args.names.now c.loop-name.name-index _ (next_of c.loop-name.reached) (next_of c.past-reached.result) c.loop-name-test.true c.past-reached.ensures c.loop-name.invariant.left;
    }
