use Rattle.std.proofs.Common.{inl, inr}
use Rattle.c_lexer.proofs.NumberParts.{unsuffixed_with, last_split}
use Rattle.c_lexer.proofs.number.without_suffix.Goals as goal
use Rattle.c_lexer.proofs.number.without_suffix.Goals.{then-last-eq117-via-then-last-eq117, then-last-eq117-via-else-last-eq117+then-last-eq85}

pub returns-then-last-eq117 : goal.returns-then-last-eq117
returns-then-last-eq117 c =
    let split = last_split c.args.number.now c.in-len1-up.len_at_least in
    elim c.then-last-eq117.branch [
      | then-last-eq117-via-then-last-eq117 w ↦ unsuffixed_with _ _ _ split (inl w.if-last-eq117.true)
      | then-last-eq117-via-else-last-eq117+then-last-eq85 w ↦ unsuffixed_with _ _ _ split (inr w.if-last-eq85.true)
    ]
