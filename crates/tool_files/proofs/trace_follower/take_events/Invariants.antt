use Rattle.std.proofs.Common.{ℕ, List, ◌++◌, take}
use Rattle.dm_base.specs.declared.event.Event.{Event}
use Rattle.tool_files.proofs.trace_follower.take_events.Given as goal

-- the events so far have been judged after those before
abbrev pub invariant-loop-event : goal.invariant-loop-event
invariant-loop-event g l = (k : ℕ) (h : List Event) → g.P.Panel.judged l.fn.panel l.fn.model k h → g.P.Panel.judged l.panel l.model k (h ++ take l.event-index l.events)
