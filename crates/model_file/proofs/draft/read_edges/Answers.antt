use Rattle.std.proofs.lemmas.Result.{err_from_is_err_and}
use Rattle.model_file.proofs.draft.read_edges.Goals as goal

pub returns-in_err-found-clause-stopped : goal.returns-in_err-found-clause-stopped
returns-in_err-found-clause-stopped c n told =
    let p = err_from_is_err_and c.from_residual.result c.from_residual.ensures.1 in
    rw (p.1, p.2) (c.in_err-found.ensures.stopped n (c.loop-found.invariant.told n told))

pub returns-in-Some-clause-read : goal.returns-in-Some-clause-read
returns-in-Some-clause-read c n told = rw c.in-Some.is at c.in_ok-found.ensures.read n (c.loop-found.invariant.told n told)

pub loop-found-preserved : goal.loop-found-preserved
loop-found-preserved c =
    let none = c.in_default.is in
    record {
      place = c.in_ok-found.ensures.place;
      last = rw none at c.in_ok-found.ensures.last;
      told = λ n told. rw none at c.in_ok-found.ensures.read n (c.loop-found.invariant.told n told);
    }
