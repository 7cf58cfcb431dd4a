use Rattle.std.proofs.Common.{arith, sym, ◌∙◌}
use Rattle.std.proofs.lemmas.Bool.{false≢true}
use Rattle.std.proofs.lemmas.Result.{err_from_is_err_and}
use Rattle.model_file.proofs.CandidateLemmas.{later_start, later_next, later_miss, last_miss, last_stands}
use Rattle.model_file.proofs.call_line.take_candidates.Goals as goal

pub loop-cursor-init : goal.loop-cursor-init
loop-cursor-init c = (later_start c.args.cursor.now.rest.now _ c.new-candidates.ensures.items, omega arith)

pub returns-in_err-number : goal.returns-in_err-number
returns-in_err-number c =
    let p = err_from_is_err_and c.from_residual.result c.from_residual.ensures.1 in
    rw (p.1, p.2) (later_miss c.args.cursor.now.rest.now c.loop-cursor.cursor.rest.now c.take_lower_number.new.cursor.rest.now c.loop-cursor.candidates.items c.loop-cursor.least c.loop-cursor.invariant.0 (c.has_space.ensures.0 c.loop-cursor-test.true) c.in_err-number.field-0.0 c.in_err-number.ensures)

pub loop-cursor-preserved : goal.loop-cursor-preserved
loop-cursor-preserved c =
    let next = later_next c.args.cursor.now.rest.now c.loop-cursor.cursor.rest.now c.take_lower_number.new.cursor.rest.now c.loop-cursor.candidates.items c.loop-cursor.least c.in_ok-number.number c.loop-cursor.invariant.0 (c.has_space.ensures.0 c.loop-cursor-test.true) c.in_ok-number.ensures in
    let most = c.in_ok-number.ensures.fits.1 in
    rw (c.in_ok-push.ensures, c.from-least.ensures) (next, omega arith)

pub returns-in_err-number-2 : goal.returns-in_err-number-2
returns-in_err-number-2 c =
    let p = err_from_is_err_and c.from_residual-in_err-number-2.result c.from_residual-in_err-number-2.ensures.1 in
    rw (p.1, p.2) (last_miss c.args.cursor.now.rest.now c.loop-cursor.cursor.rest.now c.take_number.new.cursor.rest.now c.loop-cursor.candidates.items c.loop-cursor.least c.loop-cursor.invariant.0 (λ space. false≢true (sym c.loop-cursor-test.false ∙ c.has_space.ensures.1 space)) c.in_err-number-2.field-0.0 c.in_err-number-2.ensures)

pub returns : goal.returns
returns c = rw c.in_ok-push-2.ensures (last_stands c.args.cursor.now.rest.now c.loop-cursor.cursor.rest.now c.take_number.new.cursor.rest.now c.loop-cursor.candidates.items c.loop-cursor.least c.in_ok-number-2.number c.loop-cursor.invariant.0 (λ space. false≢true (sym c.loop-cursor-test.false ∙ c.has_space.ensures.1 space)) c.in_ok-number-2.ensures)
