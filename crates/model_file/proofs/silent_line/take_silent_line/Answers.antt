use Rattle.std.proofs.Common.{refl, arith}
use Rattle.model_file.proofs.Narrowing.{leads_start, leads_on, leads_miss, whole_miss, whole_stands, reads_err}
use Rattle.model_file.proofs.SilentLemmas.{silent_word, silent_from, silent_to}
use Rattle.model_file.proofs.silent_line.take_silent_line.Goals as goal

pub returns-then-least-gt-MOST : goal.returns-then-least-gt-MOST
returns-then-least-gt-MOST c e fits agree =
    let low = c.least_from-least.ensures.below e.from (e, fits, refl) in
    let small = fits.spelled.from in
    absurd (omega (arith, c.if-least-gt-MOST.true))

pub returns-in_err-take : goal.returns-in_err-take
returns-in_err-take c =
    let word = silent_word c.args.last c.least_from-least.result c.least_from-least.ensures c.if-least-gt-MOST.false in
    reads_err _ _ _ _ _ c.from_residual.result c.from_residual.ensures.1 (leads_miss c.args.cursor.now.rest.now _ c.take.new.self.rest.now (leads_start c.args.cursor.now.rest.now) word c.in_err-take.field-0.0 c.in_err-take.ensures.reads)

pub returns-in_err-from : goal.returns-in_err-from
returns-in_err-from c =
    let word = silent_word c.args.last c.least_from-least.result c.least_from-least.ensures c.if-least-gt-MOST.false in
    let named = leads_on c.args.cursor.now.rest.now _ c.take.new.self.rest.now (leads_start c.args.cursor.now.rest.now) word tt c.in_ok-take.ensures.reads in
    let from = silent_from c.args.last c.least_from-least.result c.least_from-least.ensures in
    reads_err _ _ _ _ _ c.from_residual-in_err-from.result c.from_residual-in_err-from.ensures.1 (leads_miss c.args.cursor.now.rest.now _ c.take_number.new.cursor.rest.now named from c.in_err-from.field-0.0 c.in_err-from.ensures)

pub returns-in_err-to : goal.returns-in_err-to
returns-in_err-to c =
    let word = silent_word c.args.last c.least_from-least.result c.least_from-least.ensures c.if-least-gt-MOST.false in
    let named = leads_on c.args.cursor.now.rest.now _ c.take.new.self.rest.now (leads_start c.args.cursor.now.rest.now) word tt c.in_ok-take.ensures.reads in
    let from = silent_from c.args.last c.least_from-least.result c.least_from-least.ensures in
    let begun = leads_on c.args.cursor.now.rest.now _ c.take_number.new.cursor.rest.now named from c.in_ok-from.from c.in_ok-from.ensures in
    let to = silent_to c.args.last c.in_ok-from.from c.least_to.result c.least_to.ensures in
    reads_err _ _ _ _ _ c.from_residual-in_err-to.result c.from_residual-in_err-to.ensures.1 (begun.err c.take_number-2.new.cursor.rest.now c.in_err-to.field-0.0 (whole_miss _ c.take_number-2.new.cursor.rest.now to c.in_err-to.field-0.0 c.in_err-to.ensures))

pub returns : goal.returns
returns c =
    let word = silent_word c.args.last c.least_from-least.result c.least_from-least.ensures c.if-least-gt-MOST.false in
    let named = leads_on c.args.cursor.now.rest.now _ c.take.new.self.rest.now (leads_start c.args.cursor.now.rest.now) word tt c.in_ok-take.ensures.reads in
    let from = silent_from c.args.last c.least_from-least.result c.least_from-least.ensures in
    let begun = leads_on c.args.cursor.now.rest.now _ c.take_number.new.cursor.rest.now named from c.in_ok-from.from c.in_ok-from.ensures in
    let to = silent_to c.args.last c.in_ok-from.from c.least_to.result c.least_to.ensures in
    begun.ok c.take_number-2.new.cursor.rest.now _ (whole_stands _ c.take_number-2.new.cursor.rest.now to c.in_ok-to.to c.in_ok-to.ensures)
