use Rattle.std.proofs.Common.{[], ◌∷◌, ◌++◌, ◌∙◌, refl, ap, arith}
use Rattle.std.proofs.lemmas.List.{append-nil}
use Rattle.c_syntax.specs.declared.tree.BlockItem.TheVariants.{Statement}
use Rattle.c_syntax.specs.Tree.{block_stmt, no_block_items}
use Rattle.c_syntax.specs.WritesUnit.{block_items_of}
use Rattle.null_calls_expressions.proofs.Turns.{node}
use Rattle.null_calls.proofs.units.alone.Goals as goal

pub returns : goal.returns
returns c =
    node c.in_ok-one.ensures (λ z. block_stmt z no_block_items) refl (ap block_items_of (c.in_ok-push.ensures.items ∙ ap (λ xs. xs ++ Statement c.in_ok-one.one ∷ []) c.new-made.ensures.items)) refl (append-nil _) (omega arith)
