use Rattle.std.proofs.Common.{sym, ◌∙◌}
use Rattle.std.proofs.lemmas.Bool.{false≢true}
use Rattle.dm_base.proofs.Decimals.{decimal-plain, decimal-text, decimal-read, decimal-unread}
use Rattle.dm_base.proofs.decimal.read_u64.Goals as goal

pub returns-then-not-begins_plainly-clause-none : goal.returns-then-not-begins_plainly-clause-none
returns-then-not-begins_plainly-clause-none c = λ n small is.
    false≢true (sym c.if-not-begins_plainly.true ∙ c.begins_plainly.ensures.1 (decimal-plain c.args.text.now n small is))

pub returns-in-Ok-clause-some : goal.returns-in-Ok-clause-some
returns-in-Ok-clause-some c =
    rw c.ok.ensures.value (decimal-read c.args.text.now c.parse.result (c.begins_plainly.ensures.0 c.if-not-begins_plainly.false) (rw c.in-Ok.ensures.cases.0 at c.parse.ensures.value.0))

pub returns-in-Ok-clause-none : goal.returns-in-Ok-clause-none
returns-in-Ok-clause-none c =
    rw c.ok.ensures.value (decimal-unread c.args.text.now c.parse.result (rw c.in-Ok.ensures.cases.0 at c.parse.ensures.value.0))

pub returns-in-Err-clause-none : goal.returns-in-Err-clause-none
returns-in-Err-clause-none c = λ n small is. c.in-Err.ensures.cases.0 (decimal-text c.args.text.now n small is)
