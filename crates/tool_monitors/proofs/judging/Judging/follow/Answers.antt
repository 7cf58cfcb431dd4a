use Rattle.std.proofs.Common.{[], ◌∷◌, ◌++◌}
use Rattle.tool_monitors.proofs.Judgements.{refusal_stays, rejected_now, bound_now, come_refused, come_kept, refused_come}
use Rattle.tool_monitors.proofs.judging.Judging.follow.Goals as goal

pub returns-in-Some : goal.returns-in-Some
returns-in-Some g c = λ k h judged.
    let which = g.M.Monitor.WHICH in
    let model = c.args.model.now in
    let at = come_refused _ which model k h c.args.self.now.kept c.args.self.now.refused c.in-Some.field-0 c.in-Some.is judged.2 in
    (judged.0, judged.1, refused_come _ which model k (h ++ c.args.event.now ∷ []) c.args.self.now.kept c.args.self.now.refused c.in-Some.field-0 c.in-Some.is (refusal_stays which model k h (c.args.event.now ∷ []) c.in-Some.field-0 at))

pub returns-in_ok-refusal-in-Rejected : goal.returns-in_ok-refusal-in-Rejected
returns-in_ok-refusal-in-Rejected g c = λ k h judged.
    let which = g.M.Monitor.WHICH in
    let model = c.args.model.now in
    let whole = come_kept _ which model k h c.args.self.now.kept c.args.self.now.refused c.in-None.is judged.2 in
    (c.feed_next.ensures.pool, c.in_ok-step.ensures.notes, rejected_now which model k h c.args.self.now.kept c.args.event.now c.in_ok-refusal-in-Rejected.field-0 whole c.requires.recorded (rw c.in-Rejected.is at (c.in_ok-step.ensures.exact k h whole.stands)) c.in_ok-refusal-in-Rejected.ensures)

pub returns-in_ok-refusal-in-Bound : goal.returns-in_ok-refusal-in-Bound
returns-in_ok-refusal-in-Bound g c = λ k h judged.
    let which = g.M.Monitor.WHICH in
    let model = c.args.model.now in
    let whole = come_kept _ which model k h c.args.self.now.kept c.args.self.now.refused c.in-None.is judged.2 in
    (c.feed_next.ensures.pool, c.in_ok-step.ensures.notes, bound_now which model k h c.args.self.now.kept c.args.event.now c.in_ok-refusal-in-Bound.field-0 whole c.requires.recorded (rw c.in-Bound.is at (c.in_ok-step.ensures.exact k h whole.stands)) c.in_ok-refusal-in-Bound.ensures)
