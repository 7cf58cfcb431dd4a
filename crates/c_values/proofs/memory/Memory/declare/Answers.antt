use Rattle.std.proofs.Common.{ap, ◌∙◌, Some, false}
use Rattle.c_values.specs.Memory.{changed}
use Rattle.c_values.specs.Seen.{seen}
use Rattle.c_values.proofs.SeenLemmas.{updated}
use Rattle.c_values.proofs.memory.Memory.declare.Goals as goal

pub returns-clause-declared : goal.returns-clause-declared
returns-clause-declared c =
    updated c.args.self.now.objects c.insert.new.self c.args.name c.key.result (Some (record { cells = c.in_ok-cells.cells; string = false })) c.key.ensures c.in_ok-insert.ensures.updates.0
    ∙ ap (λ xs. changed (seen c.args.self.now) c.args.name (Some (record { cells = xs; string = false }))) (c.in_ok-cells.ensures.items_if_clones_equal (λ y h. h))
