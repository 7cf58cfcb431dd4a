use Rattle.sys_table.proofs.ResultsLineLemmas.{record_read, record_missed}
use Rattle.sys_table.proofs.results_line.read_record.Goals as goal

pub returns-in-Ok : goal.returns-in-Ok
returns-in-Ok c = record_read c.args.line.now c.take.new.self.rest.now c.take_record.new.cursor.rest.now c.take_record.result c.requires c.in-Ok.ensures.reads c.take_record.ensures

pub returns-in-Err : goal.returns-in-Err
returns-in-Err c = record_missed c.args.line.now c.take.new.self.rest.now c.in-Err.miss c.in-Err.ensures.reads
