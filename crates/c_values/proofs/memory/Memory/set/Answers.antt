use Rattle.std.proofs.Common.{ap, sym, ◌∙◌, subst, Some, rules}
use Rattle.std.specs.HashMap.{get}
use Rattle.c_values.specs.Memory.{changed}
use Rattle.c_values.specs.Cells.{with_cell, HasCell}
use Rattle.c_values.specs.Seen.{same_key, as_object, seen}
use Rattle.c_values.proofs.SeenLemmas.{updated}
use Rattle.c_values.proofs.memory.Memory.set.Goals as goal

pub put-requires : goal.put-requires
put-requires c =
    subst (λ o. HasCell o c.args.cell) (ap as_object (ap (get same_key c.args.self.now.objects) (sym c.key.ensures) ∙ sym c.in-Some.ensures.value)) c.requires

pub returns-in-Some : goal.returns-in-Some
returns-in-Some c =
    updated c.args.self.now.objects (c.get_mut.follows.lender c.put.new.self) c.args.name c.key.result (Some c.put.new.self) c.key.ensures ((c.get_mut.follows.holds c.put.new.self).3 (search rules)).0
    ∙ ap (λ o. changed (seen c.args.self.now) c.args.name o) (c.put.ensures ∙ ap (λ o. with_cell c.args.cell c.args.value (as_object o)) (c.in-Some.ensures.value ∙ ap (get same_key c.args.self.now.objects) c.key.ensures))
