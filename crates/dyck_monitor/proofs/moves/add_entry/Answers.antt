use Rattle.std.proofs.Common.{◌≡◌, ℕ, List, get_or, subst, arith}
use Rattle.flow_model.specs.declared.records.ModelFunction.{ModelFunction}
use Rattle.flow_model.specs.Graph.{HasFunction}
use Rattle.dyck_monitor.proofs.Adding.{adds_as}
use Rattle.dyck_monitor.proofs.Edges.{entry_below, entry_of_function}
use Rattle.dyck_monitor.proofs.moves.add_entry.Goals as goal

pub note-requires : goal.note-requires
note-requires c =
    let one = c.index-functions-function.result in
    let is = subst (λ (fs : List ModelFunction). one ≡ get_or fs c.args.function one) c.functions.ensures c.index-functions-function.is in
    omega (arith, c.requires.size, entry_below c.args.model.now c.requires.valid c.args.function one c.requires.function is)

pub returns : goal.returns
returns c =
    let one = c.index-functions-function.result in
    let is = subst (λ (fs : List ModelFunction). one ≡ get_or fs c.args.function one) c.functions.ensures c.index-functions-function.is in
    adds_as (λ b. one.entry ≡ b) (λ b. (exit : ℕ) × HasFunction c.args.model.now c.args.function b exit) c.args.pool.now c.note.new.pool
    (entry_of_function c.args.model.now c.args.function one c.requires.function is) c.note.ensures
