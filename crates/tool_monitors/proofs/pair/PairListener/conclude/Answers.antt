use Rattle.std.proofs.Common.{◌≡◌, ℕ, List, ◌++◌, sym, ◌∙◌, ap, subst}
use Rattle.report.specs.Precision.{IsNext}
use Rattle.tool_monitors.specs.Heard.{AreNextNames}
use Rattle.tool_monitors.proofs.PairLemmas.{both_judged, zip_append}
use Rattle.tool_monitors.proofs.pair.PairListener.conclude.Goals as goal

pub returns-clause-judged : goal.returns-clause-judged
returns-clause-judged g c = λ k h heard.
    both_judged g.A.Listener.monitors g.B.Listener.monitors c.args.model.now k h c.in_ok-told.told.status c.in_ok-told.told.text.items
    (record {
      first_status = c.in_ok-before.before.told.status;
      second_status = c.in_ok-after.after.told.status;
      first_text = c.in_ok-before.before.told.text.items;
      second_text = c.in_ok-after.after.told.text.items;
      first = c.in_ok-before.ensures.judged k h heard.0;
      second = c.in_ok-after.ensures.judged k h heard.1;
      ends = c.in_ok-told.ensures.status;
      writes = c.in_ok-told.ensures.text;
    })

pub returns-clause-next : goal.returns-clause-next
returns-clause-next g c = λ k h heard.
    let before = c.in_ok-before.before.next.items in
    let after = c.in_ok-after.after.next.items in
    let is : c.extend_from_slice.new.self.items ≡ before ++ after = c.in_ok-extend_from_slice.ensures.items ∙ ap (λ (w : List ℕ). before ++ w) c.deref.ensures.value in
    subst (λ (ns : List ℕ). AreNextNames (g.A.Listener.monitors ++ g.B.Listener.monitors) c.args.model.now k h ns) (sym is)
    (zip_append (λ which n. IsNext which c.args.model.now k h n) g.A.Listener.monitors g.B.Listener.monitors before after (c.in_ok-before.ensures.next k h heard.0) (c.in_ok-after.ensures.next k h heard.1))
