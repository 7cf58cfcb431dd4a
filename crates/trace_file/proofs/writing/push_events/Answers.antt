use Rattle.std.proofs.Common.{[], ◌∷◌, ◌++◌, ◌∙◌, ap, append_assoc}
use Rattle.trace_file.specs.EventText.{event_text, IsWritten}
use Rattle.trace_file.specs.Lines.{event_line}
use Rattle.trace_file.proofs.WrittenLists.{written_more, each_more, written_all, each_all}
use Rattle.trace_file.proofs.writing.push_events.Goals as goal

pub loop-event-preserved : goal.loop-event-preserved
loop-event-preserved c =
    let event = c.event-item.result in
    let step = c.in_ok-push_bytes.ensures ∙ ap (λ t. t ++ 10 ∷ []) c.in_ok-push_event.ensures.text ∙ append_assoc c.loop-event.text.items (event_text event) (10 ∷ []) in
    record {
      text = written_more c.args.events.now c.loop-event.event-index event event_line c.args.text.now.items c.loop-event.text.items c.push_bytes.new.text.items c.loop-event-test.true c.event-item.is c.loop-event.invariant.text step;
      written = each_more c.args.events.now c.loop-event.event-index event IsWritten c.loop-event-test.true c.event-item.is c.loop-event.invariant.written c.in_ok-push_event.ensures.written;
    }

pub returns-clause-text : goal.returns-clause-text
returns-clause-text c = written_all c.args.events.now c.loop-event.event-index c.loop-event-test.false event_line c.args.text.now.items c.loop-event.text.items c.loop-event.invariant.text

pub returns-clause-written : goal.returns-clause-written
returns-clause-written c = each_all c.args.events.now c.loop-event.event-index c.loop-event-test.false IsWritten c.loop-event.invariant.written
