use Rattle.std.proofs.Common.{◌≡◌, refl, subst}
use Rattle.std.proofs.lemmas.Bool.{iff_false}
use Rattle.dm_base.proofs.AddingLemmas.{adds_nothing}
use Rattle.expected_events.specs.Marked.{OwnsOne}
use Rattle.expected_events.proofs.RisingLemmas.{adds_pushed, rise_pushed}
use Rattle.expected_events.proofs.finding.push_function.Goals as goal

pub returns-then-not-owns_one-clause-added : goal.returns-then-not-owns_one-clause-added
returns-then-not-owns_one-clause-added c =
    adds_nothing c.args.functions.now.items (λ f. (f ≡ c.args.function) × OwnsOne c.args.model.now c.args.at.now f) (λ f is. iff_false c.owns_one.ensures c.if-not-owns_one.true (subst (OwnsOne c.args.model.now c.args.at.now) is.0 is.1))

pub returns-clause-added : goal.returns-clause-added
returns-clause-added c =
    adds_pushed c.args.functions.now.items c.push.new.self.items c.args.function (λ f. (f ≡ c.args.function) × OwnsOne c.args.model.now c.args.at.now f) c.in_ok-push.ensures.items
    (refl, c.owns_one.ensures.0 c.if-not-owns_one.false) (λ f is. is.0)

pub returns-clause-rise : goal.returns-clause-rise
returns-clause-rise c = rise_pushed c.args.functions.now.items c.push.new.self.items c.args.function c.args.function c.in_ok-push.ensures.items refl
