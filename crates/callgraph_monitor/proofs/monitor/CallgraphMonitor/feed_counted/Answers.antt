use Rattle.std.proofs.Common.{ℕ, List, [], ◌∷◌, ◌++◌, refl, sym, subst}
use Rattle.dm_base.specs.declared.event.Event.{Event}
use Rattle.dm_base.specs.declared.event.Event.TheVariants.{Pre, Post}
use Rattle.callgraph_monitor.specs.Ahead.{IsAnswer}
use Rattle.callgraph_monitor.specs.Standing.{StandsFor}
use Rattle.callgraph_monitor.proofs.Stands.{answered, stands_null}
use Rattle.callgraph_monitor.proofs.monitor.CallgraphMonitor.feed_counted.Given.{Over}
use Rattle.callgraph_monitor.proofs.monitor.CallgraphMonitor.feed_counted.Goals as goal
use Rattle.callgraph_monitor.proofs.monitor.CallgraphMonitor.feed_counted.Goals.{After-go_on, After-answer, After-answer-in-Post}

-- a system call
moved : (g : Over) (c : After-go_on g) (k : ℕ) (h : List Event) → StandsFor c.args.self.now c.args.model.now k h → StandsFor c.go_on.new.set c.args.model.now k (h ++ c.args.event.now ∷ [])
moved g c k h stands = c.go_on.ensures.stands k h (subst (λ s. StandsFor s c.args.model.now k h) (sym c.self.view_is) stands)

pub returns-in-Sys-clause-stands : goal.returns-in-Sys-clause-stands
returns-in-Sys-clause-stands g c = moved g c

pub returns-in-Sys-clause-exact : goal.returns-in-Sys-clause-exact
returns-in-Sys-clause-exact g c = λ k h stands. answered c.args.model.now k (h ++ c.args.event.now ∷ []) c.go_on.new.set (moved g c k h stands) c.go_on.result c.go_on.ensures.answer

-- a null call
pre : (g : Over) (c : After-answer g) (k : ℕ) (h : List Event) → StandsFor c.args.self.now c.args.model.now k h → StandsFor c.args.self.now c.args.model.now k (h ++ c.args.event.now ∷ [])
pre g c k h stands = subst (λ e. StandsFor c.args.self.now c.args.model.now k (h ++ e ∷ [])) (sym c.in-Pre.is) (stands_null c.args.model.now k h c.args.self.now stands (Pre c.in-Pre.field-0) refl)

post : (g : Over) (c : After-answer-in-Post g) (k : ℕ) (h : List Event) → StandsFor c.args.self.now c.args.model.now k h → StandsFor c.args.self.now c.args.model.now k (h ++ c.args.event.now ∷ [])
post g c k h stands = subst (λ e. StandsFor c.args.self.now c.args.model.now k (h ++ e ∷ [])) (sym c.in-Post.is) (stands_null c.args.model.now k h c.args.self.now stands (Post c.in-Post.field-0) refl)

pub returns-in-Pre-clause-stands : goal.returns-in-Pre-clause-stands
returns-in-Pre-clause-stands g c = pre g c

pub returns-in-Pre-clause-exact : goal.returns-in-Pre-clause-exact
returns-in-Pre-clause-exact g c = λ k h stands. answered c.args.model.now k (h ++ c.args.event.now ∷ []) c.args.self.now (pre g c k h stands) c.answer.result (subst (λ s. IsAnswer s c.answer.result) c.self.view_is c.answer.ensures)

pub returns-in-Post-clause-stands : goal.returns-in-Post-clause-stands
returns-in-Post-clause-stands g c = post g c

pub returns-in-Post-clause-exact : goal.returns-in-Post-clause-exact
returns-in-Post-clause-exact g c = λ k h stands. answered c.args.model.now k (h ++ c.args.event.now ∷ []) c.args.self.now (post g c k h stands) c.answer-in-Post.result (subst (λ s. IsAnswer s c.answer-in-Post.result) c.self.view_is c.answer-in-Post.ensures)
