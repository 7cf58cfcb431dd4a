use Rattle.sys_table.proofs.ResultsLineLemmas.{data_read, no_data_read}
use Rattle.sys_table.proofs.results_line.take_record.Goals as goal

pub returns-then-has_data : goal.returns-then-has_data
returns-then-has_data c = data_read c.args.cursor.now.rest.now c.take_with_data.new.cursor.rest.now c.take_with_data.result c.if-has_data.ensures c.take_with_data.ensures

pub returns-else-has_data : goal.returns-else-has_data
returns-else-has_data c = no_data_read c.args.cursor.now.rest.now c.take_without_data.new.cursor.rest.now c.take_without_data.result c.if-has_data.ensures c.take_without_data.ensures
