use Rattle.std.proofs.Common.{◌≡◌, ◌<◌, sym, subst, ◌∙◌, ap, length}
use Rattle.std.proofs.lemmas.List.{with_items_is}
use Rattle.std.specs.FinSet.{insert}
use Rattle.dm_sets.specs.Bits.{bit, members_below}
use Rattle.dm_sets.proofs.Members.{members-set, none_of_bit, bit_of_none, size_is}
use Rattle.dm_sets.proofs.node_set.NodeSet.insert.Goals as goal

pub returns-clause-added : goal.returns-clause-added
returns-clause-added c =
    let words = c.self.inside.words.items in
    let n = c.self.inside.limit in
    let is : c.deref_mut.result.now ≡ words = c.deref_mut.ensures.value in
    let lt : c.args.node < n = subst (λ m. c.args.node < m) (size_is words n c.args.self.now c.self.view_is) c.requires in
    let long : length c.set_bit.new.words ≡ c.self.inside.words.len = c.set_bit.auto.words ∙ c.deref_mut.ensures.len in
    ap (λ ws. record { size = n; members = members_below ws n }) (with_items_is c.self.inside.words c.set_bit.new.words long)
    ∙ ap (λ s. record { size = n; members = s }) (members-set words c.set_bit.new.words n c.args.node lt c.set_bit.ensures.here (λ j differ. c.set_bit.ensures.others j differ ∙ ap (λ ws. bit ws j) is))
    ∙ ap (λ s. record { size = s.size; members = insert s.members c.args.node }) c.self.view_is

pub returns-clause-new : goal.returns-clause-new
returns-clause-new c =
    let words = c.self.inside.words.items in
    let n = c.self.inside.limit in
    let is : c.deref_mut.result.now ≡ words = c.deref_mut.ensures.value in
    let lt : c.args.node < n = subst (λ m. c.args.node < m) (size_is words n c.args.self.now c.self.view_is) c.requires in (
      λ on. none_of_bit words n c.args.self.now c.self.view_is c.args.node (subst (λ ws. bit ws c.args.node ≡ 0) is (c.set_bit.ensures.new.0 on)),
      λ none. c.set_bit.ensures.new.1 (subst (λ ws. bit ws c.args.node ≡ 0) (sym is) (bit_of_none words n c.args.self.now c.self.view_is c.args.node lt none)),
    )
