use Rattle.trace_file.proofs.ending.take_undefined.Goals as goal

pub returns : goal.returns
returns c = rw c.in-Some.ensures.kind c.in_ok-number.ensures
