use Rattle.std.proofs.Common.{arith}
use Rattle.c_check_scopes.proofs.IndexLemmas.{one_less, shorter}
use Rattle.c_check_scopes.proofs.scopes.Scopes.leave.Goals as goal

pub loop-self-smaller : goal.loop-self-smaller
loop-self-smaller c = shorter _ _ c.args.count (omega arith) c.undo.ensures

pub loop-self-preserved : goal.loop-self-preserved
loop-self-preserved c inner outer q n = let r = c.loop-self.invariant inner outer q n in one_less r.0 outer _ _ c.args.count r.1 n (omega arith) c.undo.ensures
