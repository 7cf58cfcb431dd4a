use Rattle.model_file.proofs.Narrowing.{leads_start, leads_on, leads_miss, whole_miss, whole_stands, reads_err}
use Rattle.model_file.proofs.FunctionLemmas.{function_word, function_name, function_entry, function_exit}
use Rattle.model_file.proofs.function_line.take_function_line.Goals as goal

pub returns-in_err-take : goal.returns-in_err-take
returns-in_err-take c =
    reads_err _ _ _ _ _ c.from_residual.result c.from_residual.ensures.1 (leads_miss c.args.cursor.now.rest.now _ c.take.new.self.rest.now (leads_start c.args.cursor.now.rest.now) function_word c.in_err-take.field-0.0 c.in_err-take.ensures.reads)

pub returns-in_err-name : goal.returns-in_err-name
returns-in_err-name c =
    let worded = leads_on c.args.cursor.now.rest.now _ c.take.new.self.rest.now (leads_start c.args.cursor.now.rest.now) function_word tt c.in_ok-take.ensures.reads in
    reads_err _ _ _ _ _ c.from_residual-in_err-name.result c.from_residual-in_err-name.ensures.1 (leads_miss c.args.cursor.now.rest.now _ c.take_name.new.cursor.rest.now worded function_name c.in_err-name.field-0.0 c.in_err-name.ensures)

pub returns-in_err-entry : goal.returns-in_err-entry
returns-in_err-entry c =
    let worded = leads_on c.args.cursor.now.rest.now _ c.take.new.self.rest.now (leads_start c.args.cursor.now.rest.now) function_word tt c.in_ok-take.ensures.reads in
    let named = leads_on c.args.cursor.now.rest.now _ c.take_name.new.cursor.rest.now worded function_name c.in_ok-name.name c.in_ok-name.ensures in
    reads_err _ _ _ _ _ c.from_residual-in_err-entry.result c.from_residual-in_err-entry.ensures.1 (leads_miss c.args.cursor.now.rest.now _ c.take_number.new.cursor.rest.now named (function_entry c.in_ok-name.name c.in_ok-name.ensures.fits) c.in_err-entry.field-0.0 c.in_err-entry.ensures)

pub returns-in_err-exit : goal.returns-in_err-exit
returns-in_err-exit c =
    let worded = leads_on c.args.cursor.now.rest.now _ c.take.new.self.rest.now (leads_start c.args.cursor.now.rest.now) function_word tt c.in_ok-take.ensures.reads in
    let named = leads_on c.args.cursor.now.rest.now _ c.take_name.new.cursor.rest.now worded function_name c.in_ok-name.name c.in_ok-name.ensures in
    let entered = leads_on c.args.cursor.now.rest.now _ c.take_number.new.cursor.rest.now named (function_entry c.in_ok-name.name c.in_ok-name.ensures.fits) c.in_ok-entry.entry c.in_ok-entry.ensures in
    let exit = function_exit c.in_ok-name.name c.in_ok-entry.entry c.in_ok-name.ensures.fits c.in_ok-entry.ensures.fits.1 in
    reads_err _ _ _ _ _ c.from_residual-in_err-exit.result c.from_residual-in_err-exit.ensures.1 (entered.err c.take_number-2.new.cursor.rest.now c.in_err-exit.field-0.0 (whole_miss _ c.take_number-2.new.cursor.rest.now exit c.in_err-exit.field-0.0 c.in_err-exit.ensures))

pub returns : goal.returns
returns c =
    let worded = leads_on c.args.cursor.now.rest.now _ c.take.new.self.rest.now (leads_start c.args.cursor.now.rest.now) function_word tt c.in_ok-take.ensures.reads in
    let named = leads_on c.args.cursor.now.rest.now _ c.take_name.new.cursor.rest.now worded function_name c.in_ok-name.name c.in_ok-name.ensures in
    let entered = leads_on c.args.cursor.now.rest.now _ c.take_number.new.cursor.rest.now named (function_entry c.in_ok-name.name c.in_ok-name.ensures.fits) c.in_ok-entry.entry c.in_ok-entry.ensures in
    let exit = function_exit c.in_ok-name.name c.in_ok-entry.entry c.in_ok-name.ensures.fits c.in_ok-entry.ensures.fits.1 in
    entered.ok c.take_number-2.new.cursor.rest.now _ (whole_stands _ c.take_number-2.new.cursor.rest.now exit c.in_ok-exit.exit c.in_ok-exit.ensures)
