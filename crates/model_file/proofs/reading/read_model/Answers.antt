use Rattle.model_file.proofs.ReadingLemmas.{has_our_version, model_complete, model_same}
use Rattle.model_file.proofs.reading.read_model.Goals as goal

pub returns-then-has_other_version-clause-complete : goal.returns-then-has_other_version-clause-complete
returns-then-has_other_version-clause-complete c g is = absurd (has_our_version is.version c.args.text.now g is.is (c.has_other_version.ensures.0 c.if-has_other_version.true))

pub returns-clause-complete : goal.returns-clause-complete
returns-clause-complete c g is =
    let read = c.in_ok-draft.ensures.read in
    model_complete c.args.text.now read.0 _ read.1 c.model_of.result g c.model_of.ensures.broken is

pub returns-clause-same : goal.returns-clause-same
returns-clause-same c g is =
    let read = c.in_ok-draft.ensures.read in
    model_same c.args.text.now read.0 _ read.1 c.model_of.result g c.model_of.ensures.same is
