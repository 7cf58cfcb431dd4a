use Rattle.std.proofs.Common.{◌≡◌, ap, ◌∙◌, length}
use Rattle.std.proofs.lemmas.List.{with_items_is}
use Rattle.std.specs.FinSet.{empty}
use Rattle.dm_sets.specs.Bits.{members_below}
use Rattle.dm_sets.proofs.Members.{no_members}
use Rattle.dm_sets.proofs.node_set.NodeSet.clear.Goals as goal

pub returns : goal.returns
returns c =
    let n = c.self.inside.limit in
    let long : length c.clear_between.new.words ≡ c.self.inside.words.len = c.clear_between.auto.words ∙ c.deref_mut.ensures.len in
    ap (λ ws. record { size = n; members = members_below ws n }) (with_items_is c.self.inside.words c.clear_between.new.words long)
    ∙ ap (λ s. record { size = n; members = s }) (no_members c.clear_between.new.words n c.clear_between.ensures)
    ∙ ap (λ s. record { size = s.size; members = empty }) c.self.view_is
