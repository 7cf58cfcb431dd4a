use Rattle.std.proofs.Common.{◌≡◌, length, refl, sym, ◌∙◌, arith}
use Rattle.ref_machine_frames.proofs.CellLemmas.{round_step, rounds_done, rounds_settled}
use Rattle.ref_machine_frames.proofs.cells.struct_cells.Goals as goal

pub loop-depth-preserved : goal.loop-depth-preserved
loop-depth-preserved c =
    round_step c.structs-structs.result.now c.structs-structs.result.now c.loop-depth.counts.items c.deref.result.now c.in_ok-next.next.items c.loop-depth._depth refl c.deref.ensures.value c.in_ok-next.ensures c.loop-depth.invariant

pub returns-then-are_same : goal.returns-then-are_same
returns-then-are_same c =
    rounds_settled c.structs-structs.result.now c.args.program.now.structs c.loop-depth.counts.items c.deref.result.now c.in_ok-next.next.items c.loop-depth._depth c.structs-structs.ensures c.deref.ensures.value (sym c.deref-in-loop-depth.ensures.value ∙ (c.are_same.ensures.0 c.if-are_same.true ∙ c.deref-in-loop-depth-2.ensures.value)) (omega (arith, c.loop-depth-test.true)) c.in_ok-next.ensures c.loop-depth.invariant

pub returns : goal.returns
returns c =
    let all : c.loop-depth._depth ≡ length c.structs-structs.result.now = omega (arith, c.loop-depth-test.false) in
    rounds_done c.structs-structs.result.now c.args.program.now.structs c.loop-depth.counts.items c.loop-depth._depth c.structs-structs.ensures all c.loop-depth.invariant
