use Rattle.std.proofs.Common.{◌≡◌, ◌<◌, ◌≤◌, sym, subst, inl, inr, arith}
use Rattle.std.proofs.Math.Nat.{le-max_left}
use Rattle.std.proofs.lemmas.Bool.{cases_lt}
use Rattle.dm_sets.specs.Bits.{bit}
use Rattle.dm_sets.proofs.Members.{has_bit_of, has_of_bit, none_of_bit, size_is, between}
use Rattle.dm_sets.proofs.node_set.NodeSet.next.Goals as goal

pub returns-in-Some-clause-some : goal.returns-in-Some-clause-some
returns-in-Some-clause-some c =
    let words = c.self.inside.words.items in
    let n = c.self.inside.limit in
    let found = c.in-Some.ensures.some in
    let size = size_is words n c.args.self.now c.self.view_is in
    let up : c.args.from ≤ c.max.result = subst (λ k. c.args.from ≤ k) (sym c.max.ensures) (le-max_left c.args.from c.self.inside.low) in (
      omega (arith, up, found.0),
      subst (λ m. c.in-Some.node < m) (sym size) c.if-node-limit.true,
      has_of_bit words n c.args.self.now c.self.view_is c.in-Some.node c.if-node-limit.true (subst (λ ws. bit ws c.in-Some.node ≡ 1) c.deref.ensures.value found.1),
    )

pub returns-in-Some-clause-least : goal.returns-in-Some-clause-least
returns-in-Some-clause-least c = λ j from has.
    elim (cases_lt j c.in-Some.node) [
      | inl below ↦ absurd (none_of_bit c.self.inside.words.items c.self.inside.limit c.args.self.now c.self.view_is j (subst (λ ws. bit ws j ≡ 0) c.deref.ensures.value (c.in-Some.ensures.least j ((between c.self.inside.words.items c.self.inside.limit c.args.self.now c.self.view_is c.self.inside.low c.self.inside.high c.args.from c.max.result c.self.invariant.2 c.max.ensures j from has).0) below)) has)
      | inr above ↦ above
    ]

pub returns-in_default-clause-none : goal.returns-in_default-clause-none
returns-in_default-clause-none c = λ j from has.
    let there = has_bit_of c.self.inside.words.items c.self.inside.limit c.args.self.now c.self.view_is j has in
    let below : j < c.in-Some.node = omega (arith, there.0) in
    none_of_bit c.self.inside.words.items c.self.inside.limit c.args.self.now c.self.view_is j (subst (λ ws. bit ws j ≡ 0) c.deref.ensures.value (c.in-Some.ensures.least j ((between c.self.inside.words.items c.self.inside.limit c.args.self.now c.self.view_is c.self.inside.low c.self.inside.high c.args.from c.max.result c.self.invariant.2 c.max.ensures j from has).0) below)) has

pub returns-in_default-2-clause-none : goal.returns-in_default-2-clause-none
returns-in_default-2-clause-none c = λ j from has.
    let within = between c.self.inside.words.items c.self.inside.limit c.args.self.now c.self.view_is c.self.inside.low c.self.inside.high c.args.from c.max.result c.self.invariant.2 c.max.ensures j from has in
    none_of_bit c.self.inside.words.items c.self.inside.limit c.args.self.now c.self.view_is j (subst (λ ws. bit ws j ≡ 0) c.deref.ensures.value (c.in_default.ensures.none j within.0 within.1)) has
