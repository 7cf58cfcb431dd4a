use Rattle.std.proofs.Common.{◌≡◌, ℕ, ◌+◌, ◌≤◌, length, take, sym, ap, ◌∙◌, subst, arith}
use Rattle.flow_model.specs.declared.records.ModelFunction.{ModelFunction}
use Rattle.flow_model.specs.Growth.{Adds, HasOne}
use Rattle.flow_model.proofs.Grown.{adds-start, adds-more, adds-end, adds-add}
use Rattle.inline_model.proofs.Saturating.{begun}
use Rattle.inline_model.proofs.within.add_entries.Goals as goal

abbrev Begins : ModelFunction → ℕ → Type 0
Begins f b = f.entry ≡ b

pub loop-one-preserved : goal.loop-one-preserved
loop-one-preserved c =
    subst (λ xs. Adds c.args.pool.now c.add.new.self (HasOne Begins (take (c.loop-one.one-index + 1) xs))) c.functions-one-items.ensures
    (adds-more Begins c.functions-one-items.result.now c.args.pool.now c.loop-one.pool c.add.new.self c.loop-one.one-index c.one-item.result c.loop-one-test.true c.one-item.is
    (subst (λ xs. Adds c.args.pool.now c.loop-one.pool (HasOne Begins (take c.loop-one.one-index xs))) (sym c.functions-one-items.ensures) c.loop-one.invariant)
    (adds-add c.loop-one.pool c.add.new.self c.one-item.result.entry c.add.result c.add.ensures.added c.add.ensures.had c.add.ensures.same))

pub returns : goal.returns
returns c =
    let over : length c.args.model.now.functions ≤ c.loop-one.one-index = omega (arith, c.loop-one-test.false, ap length c.functions-one-items.ensures) in
    begun c.args.model.now c.args.pool.now c.loop-one.pool c.requires.fresh c.requires.pool
    (adds-end Begins c.args.model.now.functions c.args.pool.now c.loop-one.pool c.loop-one.one-index over c.loop-one.invariant)
