use Rattle.trace_file.specs.Lines.{record_line, IsWrittenRecord}
use Rattle.trace_file.proofs.WrittenLists.{written_more, each_more, written_all, each_all}
use Rattle.trace_file.proofs.writing.push_records.Goals as goal

pub loop-one-preserved : goal.loop-one-preserved
loop-one-preserved c = record {
  text = written_more c.args.records.now c.loop-one.one-index c.one-item.result record_line c.args.text.now.items c.loop-one.text.items c.push_record.new.text.items c.loop-one-test.true c.one-item.is c.loop-one.invariant.text c.in_ok-push_record.ensures.text;
  written = each_more c.args.records.now c.loop-one.one-index c.one-item.result IsWrittenRecord c.loop-one-test.true c.one-item.is c.loop-one.invariant.written c.in_ok-push_record.ensures.written;
}

pub returns-clause-text : goal.returns-clause-text
returns-clause-text c = written_all c.args.records.now c.loop-one.one-index c.loop-one-test.false record_line c.args.text.now.items c.loop-one.text.items c.loop-one.invariant.text

pub returns-clause-written : goal.returns-clause-written
returns-clause-written c = each_all c.args.records.now c.loop-one.one-index c.loop-one-test.false IsWrittenRecord c.loop-one.invariant.written
