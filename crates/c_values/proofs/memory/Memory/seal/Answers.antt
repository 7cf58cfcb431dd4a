use Rattle.std.proofs.Common.{ap, ◌∙◌, Some, true, rules}
use Rattle.std.specs.HashMap.{get}
use Rattle.c_values.specs.declared.held.Held.{Held}
use Rattle.c_values.specs.Memory.{changed, marked}
use Rattle.c_values.specs.Seen.{same_key, as_object, seen}
use Rattle.c_values.proofs.SeenLemmas.{updated}
use Rattle.c_values.proofs.memory.Memory.seal.Goals as goal

pub returns-in-Some : goal.returns-in-Some
returns-in-Some c =
    let w : Held = record { cells = c.in-Some.held.now.cells; string = true } in
    updated c.args.self.now.objects (c.get_mut.follows.lender w) c.args.name c.key.result (Some w) c.key.ensures ((c.get_mut.follows.holds w).3 (search rules)).0
    ∙ ap (λ o. changed (seen c.args.self.now) c.args.name (marked (as_object o))) (c.in-Some.ensures.value ∙ ap (get same_key c.args.self.now.objects) c.key.ensures)
