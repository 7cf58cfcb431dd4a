use Rattle.std.proofs.Common.{[], ◌∷◌, true, sym, ap, ◌∙◌, subst, arith}
use Rattle.inline_model.specs.Copying.{IsCopying}
use Rattle.inline_model.proofs.CopyingLemmas.{copying_begins, copying_ends}
use Rattle.inline_model.proofs.copying.copies.Goals as goal

pub loop-next-init : goal.loop-next-init
loop-next-init c = record {
  copying =
      subst (λ xs. IsCopying c.args.model.now xs c.push.new.self 0) (sym c.new-copies.ensures.items)
      (subst (λ ws. IsCopying c.args.model.now [] ws 0) (sym (c.in_ok-push.ensures ∙ ap (λ ws. record { function = c.start.result; root = true; parent = 0; place = 0 } ∷ ws) c.new-stack.ensures))
      (copying_begins c.args.model.now c.start.result c.start.ensures.start));
  few = omega arith;
}

pub returns-clause-ok : goal.returns-clause-ok
returns-clause-ok c = copying_ends c.args.model.now c.loop-next.copies.items c.loop-next.count (subst (λ ws. IsCopying c.args.model.now c.loop-next.copies.items ws c.loop-next.count) c.in_default.ensures.none c.loop-next.invariant.copying)
