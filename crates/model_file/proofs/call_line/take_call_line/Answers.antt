use Rattle.std.proofs.Common.{refl}
use Rattle.model_file.proofs.Narrowing.{leads_start, leads_on, leads_miss, leads_all, reads_same, reads_err}
use Rattle.model_file.proofs.CallLemmas.{call_word, call_from, call_site, end_of_begun, begun_of_end}
use Rattle.model_file.proofs.call_line.take_call_line.Goals as goal

pub returns-in_err-take : goal.returns-in_err-take
returns-in_err-take c =
    let word = call_word c.args.last c.least_site-least.result c.least_site-least.ensures c.if-least-gt-MOST.false in
    reads_err _ _ _ _ _ c.from_residual.result c.from_residual.ensures.1 (leads_miss c.args.cursor.now.rest.now _ c.take.new.self.rest.now (leads_start c.args.cursor.now.rest.now) word c.in_err-take.field-0.0 c.in_err-take.ensures.reads)

pub returns-in_err-from : goal.returns-in_err-from
returns-in_err-from c =
    let word = call_word c.args.last c.least_site-least.result c.least_site-least.ensures c.if-least-gt-MOST.false in
    let worded = leads_on c.args.cursor.now.rest.now _ c.take.new.self.rest.now (leads_start c.args.cursor.now.rest.now) word tt c.in_ok-take.ensures.reads in
    let from = call_from c.args.last c.least_site-least.result c.least_site-least.ensures c.if-least-gt-MOST.false in
    reads_err _ _ _ _ _ c.from_residual-in_err-from.result c.from_residual-in_err-from.ensures.1 (leads_miss c.args.cursor.now.rest.now _ c.take_number.new.cursor.rest.now worded from c.in_err-from.field-0.0 c.in_err-from.ensures)

pub returns-in_err-site : goal.returns-in_err-site
returns-in_err-site c =
    let word = call_word c.args.last c.least_site-least.result c.least_site-least.ensures c.if-least-gt-MOST.false in
    let worded = leads_on c.args.cursor.now.rest.now _ c.take.new.self.rest.now (leads_start c.args.cursor.now.rest.now) word tt c.in_ok-take.ensures.reads in
    let from = call_from c.args.last c.least_site-least.result c.least_site-least.ensures c.if-least-gt-MOST.false in
    let begun = leads_on c.args.cursor.now.rest.now _ c.take_number.new.cursor.rest.now worded from c.in_ok-from.from c.in_ok-from.ensures in
    let site = call_site c.args.last c.in_ok-from.from c.least_site-least.result c.in_ok-from.ensures.fits.1 c.least_site-least.ensures in
    reads_err _ _ _ _ _ c.from_residual-in_err-site.result c.from_residual-in_err-site.ensures.1 (leads_miss c.args.cursor.now.rest.now _ c.take_number-2.new.cursor.rest.now begun site c.in_err-site.field-0.0 c.in_err-site.ensures)

pub returns : goal.returns
returns c =
    let word = call_word c.args.last c.least_site-least.result c.least_site-least.ensures c.if-least-gt-MOST.false in
    let worded = leads_on c.args.cursor.now.rest.now _ c.take.new.self.rest.now (leads_start c.args.cursor.now.rest.now) word tt c.in_ok-take.ensures.reads in
    let from = call_from c.args.last c.least_site-least.result c.least_site-least.ensures c.if-least-gt-MOST.false in
    let begun = leads_on c.args.cursor.now.rest.now _ c.take_number.new.cursor.rest.now worded from c.in_ok-from.from c.in_ok-from.ensures in
    let site = call_site c.args.last c.in_ok-from.from c.least_site-least.result c.in_ok-from.ensures.fits.1 c.least_site-least.ensures in
    let at_site = leads_on c.args.cursor.now.rest.now _ c.take_number-2.new.cursor.rest.now begun site c.in_ok-site.site c.in_ok-site.ensures in
    let small_site = c.in_ok-site.ensures.fits.1 in
    let after = c.least_site-least.ensures.above c.in_ok-site.site c.in_ok-site.ensures.fits.0 small_site in
    leads_all c.args.cursor.now.rest.now c.take_number-2.new.cursor.rest.now c.take_call_end.new.cursor.rest.now at_site c.take_call_end.result
    (reads_same c.take_number-2.new.cursor.rest.now c.take_call_end.new.cursor.rest.now c.take_call_end.result
    (begun_of_end c.args.last c.in_ok-from.from c.in_ok-site.site c.in_ok-from.ensures.fits.1 small_site after)
    (end_of_begun c.args.last c.in_ok-from.from c.in_ok-site.site)
    (λ d fits. refl) c.take_call_end.ensures)
