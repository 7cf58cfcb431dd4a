use Rattle.std.proofs.Common.{ap, sym, ◌∙◌, Some, rules}
use Rattle.std.specs.HashMap.{get}
use Rattle.c_values.specs.Seen.{same_key, as_object, seen}
use Rattle.c_values.specs.Held.{held_object}
use Rattle.c_values.proofs.SeenLemmas.{updated, stores, refuses}
use Rattle.c_values.proofs.memory.Memory.store.Goals as goal

pub store-requires-clause-inside : goal.store-requires-clause-inside
store-requires-clause-inside c =
    c.requires.inside (held_object c.in-Some.held.now) (ap as_object (ap (get same_key c.args.self.now.objects) (sym c.key.ensures) ∙ sym c.in-Some.ensures.value))

pub returns-in-Some-clause-answer : goal.returns-in-Some-clause-answer
returns-in-Some-clause-answer c =
    stores c.store.result (seen c.args.self.now) _ c.args.at.now c.args.cell c.args.value (held_object c.in-Some.held.now) (held_object c.store.new.self)
    (ap as_object (ap (get same_key c.args.self.now.objects) (sym c.key.ensures) ∙ sym c.in-Some.ensures.value))
    (updated c.args.self.now.objects (c.get_mut.follows.lender c.store.new.self) c.args.at.now.name c.key.result (Some c.store.new.self) c.key.ensures ((c.get_mut.follows.holds c.store.new.self).3 (search rules)).0)
    c.store.ensures.answer

pub returns-in-Some-clause-refused : goal.returns-in-Some-clause-refused
returns-in-Some-clause-refused c =
    refuses c.store.result (seen c.args.self.now) _ c.args.at.now.name (held_object c.in-Some.held.now) (held_object c.store.new.self)
    (ap as_object (ap (get same_key c.args.self.now.objects) (sym c.key.ensures) ∙ sym c.in-Some.ensures.value))
    (updated c.args.self.now.objects (c.get_mut.follows.lender c.store.new.self) c.args.at.now.name c.key.result (Some c.store.new.self) c.key.ensures ((c.get_mut.follows.holds c.store.new.self).3 (search rules)).0)
    c.store.ensures.refused
