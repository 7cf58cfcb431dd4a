use Rattle.std.proofs.Common.{◌≡◌, ◌∙◌, sym, subst}
use Rattle.std.proofs.lemmas.Bool.{false≢true}
use Rattle.dm_sets.specs.Nodes.{Has}
use Rattle.inline_model.specs.Within.{Within}
use Rattle.inline_model.specs.Saturating.{IsWithin}
use Rattle.inline_model.proofs.EntryLemmas.{adds_no_call, adds_call}
use Rattle.inline_model.proofs.table.add_call.Goals as goal

pub owner_of-requires : goal.owner_of-requires
owner_of-requires c =
    let has : Has c.args.within.now c.from.result = c.contains.ensures.0 c.if-not-contains.false in
    subst (IsWithin c.args.model.now) (c.from.ensures ∙ sym c.from-2.ensures) ((c.requires c.from.result).0 has)

pub returns : goal.returns
returns c =
    adds_call c.args.model.now c.nodes-nodes.ensures.valid c.args.place c.args.call.now c.owner_of.result c.args.entries.now.items c.add_candidates.new.entries.items
    (subst (Within c.args.model.now c.owner_of.result) c.from-2.ensures c.owner_of.ensures) c.in_ok-add_candidates.ensures

pub returns-then-not-contains : goal.returns-then-not-contains
returns-then-not-contains c = adds_no_call c.args.model.now c.args.place c.args.call.now c.args.entries.now.items (λ inside. false≢true (sym c.if-not-contains.true ∙ c.contains.ensures.1 ((c.requires c.from.result).1 (subst (IsWithin c.args.model.now) (sym c.from.ensures) inside))))
