use Rattle.std.proofs.Common.{rules, ◌≤◌, List, ◌++◌, length, sym, subst}
use Rattle.std.specs.Prelude.{All}
use Rattle.dm_base.specs.declared.event.Event.{Event}
use Rattle.sys_table.specs.Table.{IsRecorded}
use Rattle.trace_file.specs.Trace.{most}
use Rattle.tool_files.proofs.ReadingLemmas.{standing_few, given_recorded}
use Rattle.tool_files.proofs.trace_follower.judge_piece.Goals as goal

pub take_events-requires-clause-judged : goal.take_events-requires-clause-judged
take_events-requires-clause-judged g c =
    let k = c.requires.0 in
    let text = c.requires.1 in
    let at = c.requires.2 in
    let few = standing_few c.feed.new.self (text ++ c.args.piece.now) (at.events ++ c.in-Ok.events.items) (c.in-Ok.ensures.stands text at.events at.stands) in
    (k, at.events, at.judged, subst (λ (t : List Event). length (at.events ++ t) ≤ most) (sym c.deref.ensures.value) few)

pub take_events-requires-clause-recorded : goal.take_events-requires-clause-recorded
take_events-requires-clause-recorded g c =
    let text = c.requires.1 in
    let at = c.requires.2 in
    subst (λ (t : List Event). All IsRecorded t) (sym c.deref.ensures.value) (given_recorded c.feed.new.self (text ++ c.args.piece.now) at.events c.in-Ok.events.items (c.in-Ok.ensures.stands text at.events at.stands))

pub returns-in_ok-take_events-in-Ok : goal.returns-in_ok-take_events-in-Ok
returns-in_ok-take_events-in-Ok g c = λ k text at.
    record {
      events = at.events ++ c.in-Ok.events.items;
      stands = c.in-Ok.ensures.stands text at.events at.stands;
      judged = subst (λ (t : List Event). g.P.Panel.judged c.take_events.new.panel c.args.model.now k (at.events ++ t)) c.deref.ensures.value (c.in_ok-take_events-in-Ok.ensures k at.events at.judged);
    }

pub returns-else-eq : goal.returns-else-eq
returns-else-eq g c = λ k text at.
    record {
      named = search rules;
      shown = c.in-Err.ensures.shown text at.events at.stands;
    }
