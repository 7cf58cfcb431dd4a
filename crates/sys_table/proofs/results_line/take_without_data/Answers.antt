use Rattle.line_text.proofs.Splits.{err_case}
use Rattle.sys_table.proofs.ResultsLineLemmas.{without_data}
use Rattle.sys_table.proofs.results_line.take_without_data.Goals as goal

pub returns-in-Err : goal.returns-in-Err
returns-in-Err c = err_case c.args.cursor.now.rest.now c.integer.new.self.rest.now c.integer.new.self.rest.now (without_data c.args.cursor.now.rest.now) c.in-Err.miss c.in-Err.ensures.reads
