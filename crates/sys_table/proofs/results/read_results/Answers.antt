use Rattle.std.proofs.Common.{Global, Vec}
use Rattle.sys_table.specs.declared.sys_result.SysResult.{SysResult}
use Rattle.sys_table.proofs.ResultsLemmas.{refused_at_head, not_refused, found_read, found_refused, found_complete, found_same}
use Rattle.sys_table.proofs.results.read_results.Goals as goal

pub returns-in-Err-clause-refused : goal.returns-in-Err-clause-refused
returns-in-Err-clause-refused c = refused_at_head c.in-Err.error c.args.text.now c.first_line.result.0.now c.first_line.result.1.now c.if-text-gt-LONGEST.false c.first_line.ensures c.in-Err.ensures

pub returns-in-Err-clause-complete : goal.returns-in-Err-clause-complete
returns-in-Err-clause-complete c records read = not_refused c.in-Err.error c.args.text.now records read (refused_at_head c.in-Err.error c.args.text.now c.first_line.result.0.now c.first_line.result.1.now c.if-text-gt-LONGEST.false c.first_line.ensures c.in-Err.ensures)

pub returns-in-Ok-clause-read : goal.returns-in-Ok-clause-read
returns-in-Ok-clause-read c =
    found_read (λ (v : Vec SysResult Global). v.items) c.read_records.result c.args.text.now c.first_line.result.0.now c.first_line.result.1.now c.if-text-gt-LONGEST.false c.first_line.ensures c.in-Ok.ensures c.read_records.ensures

pub returns-in-Ok-clause-refused : goal.returns-in-Ok-clause-refused
returns-in-Ok-clause-refused c =
    found_refused (λ (v : Vec SysResult Global). v.items) c.read_records.result c.args.text.now c.first_line.result.0.now c.first_line.result.1.now c.if-text-gt-LONGEST.false c.first_line.ensures c.in-Ok.ensures c.read_records.ensures

pub returns-in-Ok-clause-complete : goal.returns-in-Ok-clause-complete
returns-in-Ok-clause-complete c records read =
    found_complete c.read_records.result c.args.text.now records read
    (found_refused (λ (v : Vec SysResult Global). v.items) c.read_records.result c.args.text.now c.first_line.result.0.now c.first_line.result.1.now c.if-text-gt-LONGEST.false c.first_line.ensures c.in-Ok.ensures c.read_records.ensures)

pub returns-in-Ok-clause-same : goal.returns-in-Ok-clause-same
returns-in-Ok-clause-same c records read =
    found_same (λ (v : Vec SysResult Global). v.items) c.read_records.result c.args.text.now records read
    (found_read (λ (v : Vec SysResult Global). v.items) c.read_records.result c.args.text.now c.first_line.result.0.now c.first_line.result.1.now c.if-text-gt-LONGEST.false c.first_line.ensures c.in-Ok.ensures c.read_records.ensures)
