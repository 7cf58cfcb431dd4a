use Rattle.std.proofs.Common.{sym, ◌∙◌}
use Rattle.std.proofs.lemmas.Bool.{false≢true}
use Rattle.model_file.proofs.Narrowing.{reads_err}
use Rattle.model_file.proofs.CandidateLemmas.{to_miss, to_next, to_last_miss, to_last}
use Rattle.model_file.proofs.call_line.take_call_end.Goals as goal

pub returns-in_err-to : goal.returns-in_err-to
returns-in_err-to c =
    reads_err _ _ _ _ _ c.from_residual.result c.from_residual.ensures.1 (to_miss c.args.cursor.now.rest.now c.take_number.new.cursor.rest.now c.args.from c.args.site (c.has_space.ensures.0 c.if-has_space.true) c.in_err-to.field-0.0 c.in_err-to.ensures)

pub returns-in_err-candidates : goal.returns-in_err-candidates
returns-in_err-candidates c =
    let to = to_next c.args.cursor.now.rest.now c.take_number.new.cursor.rest.now c.args.from c.args.site c.in_ok-to.to (c.has_space.ensures.0 c.if-has_space.true) c.in_ok-to.ensures in
    reads_err _ _ _ _ _ c.from_residual-in_err-candidates.result c.from_residual-in_err-candidates.ensures.1 (to.err c.take_candidates.new.cursor.rest.now c.in_err-candidates.field-0.0 c.in_err-candidates.ensures)

pub returns-in_err-to-2 : goal.returns-in_err-to-2
returns-in_err-to-2 c =
    reads_err _ _ _ _ _ c.from_residual-in_err-to-2.result c.from_residual-in_err-to-2.ensures.1 (to_last_miss c.args.cursor.now.rest.now c.take_number-else-has_space.new.cursor.rest.now c.args.from c.args.site (λ space. false≢true (sym c.if-has_space.false ∙ c.has_space.ensures.1 space)) c.in_err-to-2.field-0.0 c.in_err-to-2.ensures)

pub returns-in_ok-candidates : goal.returns-in_ok-candidates
returns-in_ok-candidates c =
    let to = to_next c.args.cursor.now.rest.now c.take_number.new.cursor.rest.now c.args.from c.args.site c.in_ok-to.to (c.has_space.ensures.0 c.if-has_space.true) c.in_ok-to.ensures in
    rw c.new.ensures (to.ok c.take_candidates.new.cursor.rest.now c.in_ok-candidates.candidates.items c.in_ok-candidates.ensures)

pub returns-in_ok-to-2 : goal.returns-in_ok-to-2
returns-in_ok-to-2 c =
    rw (c.new-else-has_space-2.ensures, c.new-else-has_space.ensures.items) (to_last c.args.cursor.now.rest.now c.take_number-else-has_space.new.cursor.rest.now c.args.from c.args.site c.in_ok-to-2.to (λ space. false≢true (sym c.if-has_space.false ∙ c.has_space.ensures.1 space)) c.in_ok-to-2.ensures)
