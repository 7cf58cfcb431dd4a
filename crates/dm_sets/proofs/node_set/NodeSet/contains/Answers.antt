use Rattle.std.proofs.Common.{◌≡◌, subst, sym, arith}
use Rattle.std.proofs.lemmas.Bool.{ltb-true}
use Rattle.dm_sets.specs.Bits.{bit}
use Rattle.dm_sets.proofs.Members.{has_bit_of, has_of_bit}
use Rattle.dm_sets.proofs.node_set.NodeSet.contains.Goals as goal

pub returns-then-node-self : goal.returns-then-node-self
returns-then-node-self c =
    let words = c.self.inside.words.items in
    let is : c.deref.result.now ≡ words = c.deref.ensures.value in (
      λ on. has_of_bit words c.self.inside.limit c.args.self.now c.self.view_is c.args.node c.if-node-self.true (subst (λ ws. bit ws c.args.node ≡ 1) is (c.has_bit.ensures.0 on)),
      λ has. c.has_bit.ensures.1 (subst (λ ws. bit ws c.args.node ≡ 1) (sym is) ((has_bit_of words c.self.inside.limit c.args.self.now c.self.view_is c.args.node has).1)),
    )

pub returns-else-node-self : goal.returns-else-node-self
returns-else-node-self c = (
  λ on. absurd (omega (arith, ltb-true c.args.node c.self.inside.limit on)),
  λ has. absurd (let both = has_bit_of c.self.inside.words.items c.self.inside.limit c.args.self.now c.self.view_is c.args.node has in omega (arith, both.0)),
)
