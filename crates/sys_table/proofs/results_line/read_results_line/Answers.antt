use Rattle.std.proofs.Common.{◌≡◌, ◌≢◌, [], get_or, Ok, arith, rules}
use Rattle.std.proofs.lemmas.List.{nil_from_length}
use Rattle.line_text.proofs.Splits.{ok_case, err_case}
use Rattle.sys_table.specs.declared.results_line.ResultsLine.TheVariants.{End}
use Rattle.sys_table.specs.ResultsLines.{IsResultsLine, results_line}
use Rattle.sys_table.proofs.ResultsLineLemmas.{empty_line, is_record_at, is_end_at, end_ends, whole_line}
use Rattle.sys_table.proofs.results_line.read_results_line.Goals as goal

pub returns-in-empty : goal.returns-in-empty
returns-in-empty c =
    let none : c.args.line.now ≡ [] = nil_from_length c.args.line.now (omega arith) in
    rw none empty_line

pub returns-in-Ok : goal.returns-in-Ok
returns-in-Ok c =
    let first : get_or c.args.line.now 0 0 ≡ 82 = search rules in
    ok_case c.args.line.now [] (is_record_at c.args.line.now c.in-82.len_at_least first) c.in-Ok.record c.in-Ok.ensures

pub returns-in-Err : goal.returns-in-Err
returns-in-Err c =
    let first : get_or c.args.line.now 0 0 ≡ 82 = search rules in
    err_case c.args.line.now [] [] (is_record_at c.args.line.now c.in-82.len_at_least first) c.in-Err.miss c.in-Err.ensures

pub returns-in-Ok-take : goal.returns-in-Ok-take
returns-in-Ok-take c =
    let other : get_or c.args.line.now 0 0 ≢ 82 = search rules in
    whole_line IsResultsLine results_line c.args.line.now c.take.new.self.rest.now (Ok End) end_ends c.requires
    (ok_case c.args.line.now c.take.new.self.rest.now (is_end_at c.args.line.now c.in_default.len_at_least other) tt c.in-Ok-take.ensures.reads)

pub returns-in-Err-take : goal.returns-in-Err-take
returns-in-Err-take c =
    let other : get_or c.args.line.now 0 0 ≢ 82 = search rules in
    err_case c.args.line.now c.take.new.self.rest.now [] (is_end_at c.args.line.now c.in_default.len_at_least other) c.in-Err-take.miss c.in-Err-take.ensures.reads
