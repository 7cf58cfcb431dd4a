use Rattle.c_syntax_printing.proofs.Counting.{rises}
use Rattle.c_syntax_printing.proofs.token_lengths.add.Goals as goal

pub returns : goal.returns
returns c = rises _ _ _ c.saturating_add.ensures
