use Rattle.std.specs.Prelude.{FitsSigned}
use Rattle.std.specs.Int.{w64}
use Rattle.std.proofs.lemmas.Int.{to_z-of_z}
use Rattle.line_text.proofs.Splits.{err_first, err_next, ok_both}
use Rattle.sys_table.proofs.ResultsLineLemmas.{with_data, value_fits}
use Rattle.sys_table.proofs.results_line.take_with_data.Goals as goal

pub returns-in-Err : goal.returns-in-Err
returns-in-Err c = err_first with_data c.args.cursor.now.rest.now c.integer.new.self.rest.now c.integer.new.self.rest.now c.in-Err.miss c.in-Err.ensures.reads

pub returns-in-Ok-hexadecimal : goal.returns-in-Ok-hexadecimal
returns-in-Ok-hexadecimal c =
    let fits : FitsSigned w64 c.in-Ok.value = value_fits c.in-Ok.value c.in-Ok.ensures.reads.fits in
    simp to_z-of_z (ok_both with_data c.args.cursor.now.rest.now c.integer.new.self.rest.now c.hexadecimal.new.self.rest.now c.in-Ok.value c.in-Ok-hexadecimal.bytes c.in-Ok.ensures.reads c.in-Ok-hexadecimal.ensures)

pub returns-in-Err-hexadecimal : goal.returns-in-Err-hexadecimal
returns-in-Err-hexadecimal c =
    err_next with_data c.args.cursor.now.rest.now c.integer.new.self.rest.now c.hexadecimal.new.self.rest.now c.in-Ok.value c.in-Ok.ensures.reads c.in-Err-hexadecimal.miss c.in-Err-hexadecimal.ensures
