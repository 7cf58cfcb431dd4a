use Rattle.c_syntax_printing.proofs.BlockForms.{fails_item, fails_items}
use Rattle.c_syntax_printing.proofs.refusals.a_block_fails_where_an_item_fails.Goals as goal

pub returns : goal.returns
returns g = record {
  next = λ b i r f a. fails_item b f a;
  later = λ b c i j r f a x. fails_items b c f a x;
}
