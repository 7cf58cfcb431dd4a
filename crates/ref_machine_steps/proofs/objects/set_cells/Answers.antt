use Rattle.std.proofs.Common.{◌<◌, length, false, ap, sym, ◌∙◌, subst, drop-cons, arith}
use Rattle.c_values.specs.Memory.{changed}
use Rattle.c_values.specs.Cells.{HasCell}
use Rattle.c_values.specs.Seen.{seen}
use Rattle.c_values.proofs.SeenLemmas.{changed_same}
use Rattle.ref_machine_steps.proofs.ObjectLemmas.{partly, object_of, partly_none, partly_length, partly_all, changed_there, cell_more}
use Rattle.ref_machine_steps.proofs.objects.set_cells.Goals as goal

pub loop-i-init : goal.loop-i-init
loop-i-init c =
    sym (changed_same (seen c.args.memory.now) c.args.name (object_of (partly 0 c.args.cells.now) false) (c.requires ∙ ap (λ vs. object_of vs false) (partly_none c.args.cells.now)))

pub set-requires : goal.set-requires
set-requires c =
    let within : c.loop-i.i < length (partly c.loop-i.i c.args.cells.now) = omega (arith, partly_length c.loop-i.i c.args.cells.now, c.loop-i-test.true) in
    subst (λ o. HasCell o c.loop-i.i) (sym (ap (λ n. n c.args.name) c.loop-i.invariant ∙ changed_there (seen c.args.memory.now) c.args.name (object_of (partly c.loop-i.i c.args.cells.now) false))) within

pub loop-i-preserved : goal.loop-i-preserved
loop-i-preserved c =
    c.set.ensures ∙ cell_more (seen c.args.memory.now) (seen c.loop-i.memory) c.args.name c.loop-i.i c.args.cells.now _ _ c.loop-i.invariant (drop-cons c.args.cells.now c.loop-i.i _ c.loop-i-test.true)

pub returns : goal.returns
returns c =
    c.loop-i.invariant ∙ ap (λ vs. changed (seen c.args.memory.now) c.args.name (object_of vs false)) (partly_all c.loop-i.i c.args.cells.now (omega (arith, c.loop-i-test.false)))
