use Rattle.std.proofs.Common.{length, false, ap, sym, ◌∙◌, subst, rules}
use Rattle.std.specs.Prelude.{replicate, IsSome}
use Rattle.c_tree.specs.declared.value.Value.TheVariants.{Indeterminate}
use Rattle.c_values.specs.Memory.{changed}
use Rattle.c_values.specs.Seen.{seen}
use Rattle.ref_machine_steps.proofs.ObjectLemmas.{object_of, changed_there, added, added_string}
use Rattle.ref_machine_steps.proofs.objects.add_object.Goals as goal

pub set_cells-requires : goal.set_cells-requires
set_cells-requires c =
    ap (λ n. n c.args.name) c.in_ok-declare.ensures.declared ∙ changed_there (seen c.args.memory.now) c.args.name (object_of (replicate (length c.args.cells.now) Indeterminate) false)

pub seal-requires : goal.seal-requires
seal-requires c =
    subst (λ o. IsSome o) (sym (ap (λ n. n c.args.name) c.set_cells.ensures ∙ changed_there (seen c.declare.new.self) c.args.name (object_of c.args.cells.now false))) (search rules)

pub returns-then-string : goal.returns-then-string
returns-then-string c =
    added_string (seen c.args.memory.now) (seen c.set_cells.new.memory) (seen c.seal.new.self) c.args.name c.args.cells.now (added (seen c.args.memory.now) (seen c.declare.new.self) (seen c.set_cells.new.memory) c.args.name c.args.cells.now c.in_ok-declare.ensures.declared c.set_cells.ensures) c.seal.ensures
    ∙ ap (λ s. changed (seen c.args.memory.now) c.args.name (object_of c.args.cells.now s)) (sym c.if-string.true)

pub returns : goal.returns
returns c =
    added (seen c.args.memory.now) (seen c.declare.new.self) (seen c.set_cells.new.memory) c.args.name c.args.cells.now c.in_ok-declare.ensures.declared c.set_cells.ensures
    ∙ ap (λ s. changed (seen c.args.memory.now) c.args.name (object_of c.args.cells.now s)) (sym c.if-string.false)
