use Rattle.std.proofs.Common.{◌≤◌, ◌<◌, refl, arith, subst}
use Rattle.std.specs.Prelude.{Err}
use Rattle.line_text.specs.Reading.{Reads}
use Rattle.line_text.specs.Words.{number_word}
use Rattle.model_file.proofs.Narrowing.{leads_start, leads_miss, ends_miss, whole_miss, whole_stands, reads_err}
use Rattle.model_file.proofs.Levels.{tied_number}
use Rattle.model_file.proofs.SysLemmas.{sys_word, from_part, name_part, to_part, pattern_whole, worded, begun_at, named_at, ended_at, least_in}
use Rattle.model_file.proofs.sys_line.take_sys_line.Goals as goal

pub returns-then-least-gt-MOST : goal.returns-then-least-gt-MOST
returns-then-least-gt-MOST c e fits agree =
    let low = c.least_from-least.ensures.below e.from (e, (fits.spelled, fits.after), refl) in
    let small = fits.spelled.from in
    absurd (omega (arith, c.if-least-gt-MOST.true))

pub returns-in_err-take : goal.returns-in_err-take
returns-in_err-take c =
    let word = sys_word c.args.version c.args.last.now c.least_from-least.result c.least_from-least.ensures c.if-least-gt-MOST.false in
    reads_err _ _ _ _ _ c.from_residual.result c.from_residual.ensures.1 (leads_miss c.args.cursor.now.rest.now _ c.take.new.self.rest.now (leads_start c.args.cursor.now.rest.now) word c.in_err-take.field-0.0 c.in_err-take.ensures.reads)

pub returns-in_err-from : goal.returns-in_err-from
returns-in_err-from c =
    let first = worded c.least_from-least.ensures c.if-least-gt-MOST.false c.in_ok-take.ensures.reads in
    reads_err _ _ _ _ _ c.from_residual-in_err-from.result c.from_residual-in_err-from.ensures.1 (leads_miss c.args.cursor.now.rest.now _ c.take_number.new.cursor.rest.now first (from_part c.args.version c.args.last.now c.least_from-least.result c.least_from-least.ensures) c.in_err-from.field-0.0 c.in_err-from.ensures)

pub take_call_name-requires : goal.take_call_name-requires
take_call_name-requires c =
    least_in c.args.version c.args.last.now c.with_from-begun.result c.least_from-least.result c.in_ok-from.from c.least_name.result c.least_from-least.ensures c.in_ok-from.ensures.fits (c.with_from-begun.ensures.same, c.with_from-begun.ensures.other) (c.least_name.ensures c.in_ok-from.from c.in_ok-from.ensures.fits.1)

pub returns-in_err-name : goal.returns-in_err-name
returns-in_err-name c =
    let begun = begun_at c.with_from-begun.result c.least_from-least.ensures c.if-least-gt-MOST.false c.in_ok-take.ensures.reads c.in_ok-from.ensures (c.with_from-begun.ensures.same, c.with_from-begun.ensures.other) in
    let names = c.least_name.ensures c.in_ok-from.from c.in_ok-from.ensures.fits.1 in
    reads_err _ _ _ _ _ c.from_residual-in_err-name.result c.from_residual-in_err-name.ensures.1 (leads_miss c.args.cursor.now.rest.now _ c.take_call_name.new.cursor.rest.now begun (name_part c.args.version c.in_ok-from.from c.with_from-begun.result c.least_name.result names) c.in_err-name.field-0.0 c.in_err-name.ensures.reads)

pub returns-in_err-to : goal.returns-in_err-to
returns-in_err-to c =
    let begun = begun_at c.with_from-begun.result c.least_from-least.ensures c.if-least-gt-MOST.false c.in_ok-take.ensures.reads c.in_ok-from.ensures (c.with_from-begun.ensures.same, c.with_from-begun.ensures.other) in
    let names = c.least_name.ensures c.in_ok-from.from c.in_ok-from.ensures.fits.1 in
    let named = named_at c.with_from-begun.result c.with_name-named.result begun names c.in_ok-name.ensures.reads (c.with_name-named.ensures.same, c.with_name-named.ensures.other) in
    let tos = c.least_to.ensures c.in_ok-from.from c.in_ok-name.name (tied_number (λ e. e.name) c.in_ok-name.name c.with_from-begun.result c.with_name-named.result (c.with_name-named.ensures.same, c.with_name-named.ensures.other)) c.in_ok-from.ensures.fits.1 c.in_ok-name.ensures.reads.fits.1 in
    let read = subst (λ end. Reads (λ n. (c.least_to.result ≤ n) × (n < 4294967296)) (number_word end) c.take_call_name.new.cursor.rest.now c.take_number-2.new.cursor.rest.now (Err c.in_err-to.field-0.0)) c.byte_after.ensures.value c.in_err-to.ensures in
    reads_err _ _ _ _ _ c.from_residual-in_err-to.result c.from_residual-in_err-to.ensures.1 (ends_miss c.args.cursor.now.rest.now _ c.take_number-2.new.cursor.rest.now named (to_part c.args.version c.in_ok-from.from c.in_ok-name.name c.with_name-named.result c.least_to.result tos) c.in_err-to.field-0.0 read)

pub returns-in_err-args : goal.returns-in_err-args
returns-in_err-args c =
    let begun = begun_at c.with_from-begun.result c.least_from-least.ensures c.if-least-gt-MOST.false c.in_ok-take.ensures.reads c.in_ok-from.ensures (c.with_from-begun.ensures.same, c.with_from-begun.ensures.other) in
    let names = c.least_name.ensures c.in_ok-from.from c.in_ok-from.ensures.fits.1 in
    let named = named_at c.with_from-begun.result c.with_name-named.result begun names c.in_ok-name.ensures.reads (c.with_name-named.ensures.same, c.with_name-named.ensures.other) in
    let tos = c.least_to.ensures c.in_ok-from.from c.in_ok-name.name (tied_number (λ e. e.name) c.in_ok-name.name c.with_from-begun.result c.with_name-named.result (c.with_name-named.ensures.same, c.with_name-named.ensures.other)) c.in_ok-from.ensures.fits.1 c.in_ok-name.ensures.reads.fits.1 in
    let ended = ended_at c.with_name-named.result c.with_to-ended.result named tos c.byte_after.ensures.value c.in_ok-to.ensures (c.with_to-ended.ensures.same, c.with_to-ended.ensures.other) in
    let whole = pattern_whole c.args.version c.in_ok-from.from c.in_ok-name.name c.in_ok-to.to c.with_to-ended.result c.in_ok-from.ensures.fits.1 c.in_ok-name.ensures.reads.fits.1 c.in_ok-to.ensures.fits.1 in
    reads_err _ _ _ _ _ c.from_residual-in_err-args.result c.from_residual-in_err-args.ensures.1 (ended.err c.take_pattern.new.cursor.rest.now c.in_err-args.field-0.0 (whole_miss _ c.take_pattern.new.cursor.rest.now whole c.in_err-args.field-0.0 c.in_err-args.ensures))

pub returns : goal.returns
returns c =
    let begun = begun_at c.with_from-begun.result c.least_from-least.ensures c.if-least-gt-MOST.false c.in_ok-take.ensures.reads c.in_ok-from.ensures (c.with_from-begun.ensures.same, c.with_from-begun.ensures.other) in
    let names = c.least_name.ensures c.in_ok-from.from c.in_ok-from.ensures.fits.1 in
    let named = named_at c.with_from-begun.result c.with_name-named.result begun names c.in_ok-name.ensures.reads (c.with_name-named.ensures.same, c.with_name-named.ensures.other) in
    let tos = c.least_to.ensures c.in_ok-from.from c.in_ok-name.name (tied_number (λ e. e.name) c.in_ok-name.name c.with_from-begun.result c.with_name-named.result (c.with_name-named.ensures.same, c.with_name-named.ensures.other)) c.in_ok-from.ensures.fits.1 c.in_ok-name.ensures.reads.fits.1 in
    let ended = ended_at c.with_name-named.result c.with_to-ended.result named tos c.byte_after.ensures.value c.in_ok-to.ensures (c.with_to-ended.ensures.same, c.with_to-ended.ensures.other) in
    let whole = pattern_whole c.args.version c.in_ok-from.from c.in_ok-name.name c.in_ok-to.to c.with_to-ended.result c.in_ok-from.ensures.fits.1 c.in_ok-name.ensures.reads.fits.1 c.in_ok-to.ensures.fits.1 in
    ended.ok c.take_pattern.new.cursor.rest.now _ (whole_stands _ c.take_pattern.new.cursor.rest.now whole c.in_ok-args.args c.in_ok-args.ensures)
