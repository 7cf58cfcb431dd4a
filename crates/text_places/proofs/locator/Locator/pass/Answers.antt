use Rattle.std.proofs.Common.{◌<◌, length, eq-eqb, ne_eqb, sym, subst}
use Rattle.text_places.specs.Passing.{Passage}
use Rattle.text_places.proofs.LocationLemmas.{pass_other, pass_feed}
use Rattle.text_places.proofs.locator.Locator.pass.Goals as goal

pub invariant_of-self : goal.invariant_of-self
invariant_of-self c =
    let l = c.self.inside in
    let within : l.seen < length l.text.now = subst (λ (v : Passage). v.passed < length v.text) (sym c.self.view_is) c.requires in
    pass_feed l.first.now l.text.now l.here.file.now l.here.line l.begin l.seen c.self.invariant within (record { file = c.line_behind-next.result.file.now; line = c.line_behind-next.result.line })
    (eq-eqb _ 10 c.if-self-eq10.true) c.line_behind-next.ensures.next c.line_behind-next.ensures.small

pub invariant_of-self-2 : goal.invariant_of-self-2
invariant_of-self-2 c =
    let l = c.self.inside in
    let within : l.seen < length l.text.now = subst (λ (v : Passage). v.passed < length v.text) (sym c.self.view_is) c.requires in
    pass_other l.first.now l.text.now l.here.file.now l.here.line l.begin l.seen c.self.invariant within (ne_eqb _ 10 c.if-self-eq10.false)
