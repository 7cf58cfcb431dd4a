use Rattle.std.proofs.Common.{◌≡◌, ◌<◌, ◌++◌, ◌∷◌, [], true, if◌then◌else◌, Contains, ap, sym, ◌∙◌, subst, arith}
use Rattle.std.specs.Prelude.{is_ok}
use Rattle.std.proofs.lemmas.Bool.{false≢true}
use Rattle.dm_sets.specs.Nodes.{Nodes, Has}
use Rattle.flow_model.specs.Found.{Found}
use Rattle.flow_model.specs.Members.{IsSetOf}
use Rattle.flow_model.proofs.FoundLemmas.{set_of_more, set_of_same, has_unless_new, room_for}
use Rattle.flow_model.proofs.scratch.Scratch.add.Goals as goal
use Rattle.flow_model.proofs.scratch.Scratch.add.Goals.{Then-not-insert, After-is_ok}

-- the node was found before
there : (c : Then-not-insert) → Contains c.self.inside.found.items c.args.node
there c = c.self.invariant.0.listed c.args.node (has_unless_new c.self.inside.members c.args.node c.insert.result c.insert.ensures.new.1 c.if-not-insert.true)

pub invariant_of-self : goal.invariant_of-self
invariant_of-self c = (
  subst (λ s. IsSetOf s c.self.inside.found.items) (sym c.insert.ensures.added) (set_of_same c.self.inside.members c.self.inside.found.items c.args.node c.self.invariant.0 (there c)),
  omega (arith, ap (λ (s : Nodes). s.size) c.insert.ensures.added, c.self.invariant.1),
)

pub returns-then-not-insert-clause-new : goal.returns-then-not-insert-clause-new
returns-then-not-insert-clause-new c = (λ off. absurd (false≢true off), λ none. absurd (none (subst (λ (f : Found). Contains f.nodes c.args.node) c.self.view_is (there c))))

pub returns-then-not-insert-clause-had : goal.returns-then-not-insert-clause-had
returns-then-not-insert-clause-had c = λ _. subst (λ (f : Found). Contains f.nodes c.args.node) c.self.view_is (there c)

pub returns-then-not-insert-clause-same : goal.returns-then-not-insert-clause-same
returns-then-not-insert-clause-same c = λ _. ap (λ n. record { size = n; nodes = c.self.inside.found.items }) (ap (λ (s : Nodes). s.size) c.insert.ensures.added) ∙ c.self.view_is

-- the node is new
is_new : (c : After-is_ok) → Has c.self.inside.members c.args.node → ⊥
is_new c = c.insert.ensures.new.0 c.if-not-insert.false

node_below : (c : After-is_ok) → c.args.node < c.self.inside.members.size
node_below c = omega (arith, ap (λ (f : Found). f.size) c.self.view_is, c.requires)

was_pushed : (c : After-is_ok) → is_ok c.push.result ≡ true
was_pushed c = c.push.ensures.succeeds (omega (arith, room_for c.self.inside.members c.self.inside.found.items c.args.node c.self.invariant.0 (node_below c) (is_new c), c.self.invariant.1, c.self.inside.found.ok.0))

pushed : (c : After-is_ok) → c.push.new.self.items ≡ c.self.inside.found.items ++ c.args.node ∷ []
pushed c = c.push.ensures.items ∙ ap (λ b. if b then c.self.inside.found.items ++ c.args.node ∷ [] else c.self.inside.found.items) (was_pushed c)

pub invariant_of-self-2 : goal.invariant_of-self-2
invariant_of-self-2 c = (
  subst (IsSetOf c.insert.new.self) (sym (pushed c)) (subst (λ s. IsSetOf s (c.self.inside.found.items ++ c.args.node ∷ [])) (sym c.insert.ensures.added) (set_of_more c.self.inside.members c.self.inside.found.items c.args.node c.self.invariant.0 (node_below c) (is_new c))),
  omega (arith, ap (λ (s : Nodes). s.size) c.insert.ensures.added, c.self.invariant.1, c.push.ensures.capacity),
)

pub returns-clause-new : goal.returns-clause-new
returns-clause-new c = (
  λ _ in_list. is_new c (c.self.invariant.0.has c.args.node (subst (λ (f : Found). Contains f.nodes c.args.node) (sym c.self.view_is) in_list)),
  λ _. c.is_ok.ensures.value ∙ was_pushed c,
)

pub returns-clause-had : goal.returns-clause-had
returns-clause-had c = λ off. absurd (off (c.is_ok.ensures.value ∙ was_pushed c))
