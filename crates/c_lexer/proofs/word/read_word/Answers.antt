use Rattle.std.proofs.lemmas.Result.{err_from_is_err_and}
use Rattle.c_lexer.proofs.KindsBegin.{class_token}
use Rattle.c_lexer.proofs.KindsRuns.{word_longest}
use Rattle.c_lexer.proofs.WordLemmas.{word_class, word_refused}
use Rattle.c_lexer.proofs.word.read_word.Goals as goal

pub word_kind-requires : goal.word_kind-requires
word_kind-requires c = (word_longest c.args.text.now c.run_length-length.result c.requires c.run_length-length.ensures).is

pub returns : goal.returns
returns c =
    let taken = word_longest c.args.text.now c.run_length-length.result c.requires c.run_length-length.ensures in
    (c.run_length-length.ensures.within, class_token word_class taken c.in_ok-kind.kind c.in_ok-kind.ensures)

pub returns-in_err-kind : goal.returns-in_err-kind
returns-in_err-kind c =
    let taken = word_longest c.args.text.now c.run_length-length.result c.requires c.run_length-length.ensures in
    let p = err_from_is_err_and c.from_residual.result c.from_residual.ensures.1 in
    rw (p.1, p.2) (word_refused c.in_err-kind.field-0.0 _ _ _ taken c.in_err-kind.ensures)
