use Rattle.std.proofs.Common.{◌≡◌, ℕ}
use Rattle.stack_automaton.specs.declared.place.Link.{Link}
use Rattle.stack_automaton.specs.Following.{IsCalled}
use Rattle.dm_base.proofs.AddingLemmas.{adds_init, adds_step_at, adds_end}
use Rattle.stack_automaton.proofs.LinksLemmas.{links_init, links_step_at, links_end}
use Rattle.stack_automaton.proofs.follow.call_each.Goals as goal

pub loop-function-init : goal.loop-function-init
loop-function-init c = (adds_init c.args.facts.now.keys (λ f y. IsCalled c.args.functions.now c.args.ended.now.keys c.args.link f y), links_init (λ (h : ℕ) (f : ℕ) (k : Link). (f ≡ h) × (k ≡ c.args.link)) c.args.links.now)

pub loop-function-preserved : goal.loop-function-preserved
loop-function-preserved c = (
  adds_step_at c.args.facts.now.keys c.loop-function.facts.keys c.call_one.new.facts.keys (λ f y. IsCalled c.args.functions.now c.args.ended.now.keys c.args.link f y) c.args.candidates.now c.loop-function.function-index 0 c.loop-function-test.true c.loop-function.invariant.0 c.in_ok-call_one.ensures.facts,
  links_step_at (λ (h : ℕ) (f : ℕ) (k : Link). (f ≡ h) × (k ≡ c.args.link)) c.args.links.now c.loop-function.links c.call_one.new.links c.args.candidates.now c.loop-function.function-index 0 c.loop-function-test.true c.loop-function.invariant.1 c.in_ok-call_one.ensures.links,
)

pub returns-clause-facts : goal.returns-clause-facts
returns-clause-facts c = adds_end c.args.facts.now.keys c.loop-function.facts.keys (λ f y. IsCalled c.args.functions.now c.args.ended.now.keys c.args.link f y) c.args.candidates.now c.loop-function.function-index c.loop-function-test.false c.loop-function.invariant.0

pub returns-clause-links : goal.returns-clause-links
returns-clause-links c = links_end (λ (h : ℕ) (f : ℕ) (k : Link). (f ≡ h) × (k ≡ c.args.link)) c.args.links.now c.loop-function.links c.args.candidates.now c.loop-function.function-index c.loop-function-test.false c.loop-function.invariant.1
