use Rattle.std.proofs.Common.{◌≡◌, ◌+◌, ◌-◌, get_or, sym, subst, arith}
use Rattle.c_lexer.proofs.white.end_of_comment.Goals as goal
use Rattle.c_lexer.proofs.WhiteReads.{IsCommentEnd-from_reads}

pub returns-then-text-i-eq47 : goal.returns-then-text-i-eq47
returns-then-text-i-eq47 c =
    let next : c.loop-i.i - 1 + 1 ≡ c.loop-i.i = omega arith in
    IsCommentEnd-from_reads c.args.text.now _ (record {
      within = omega arith;
      star = c.if-text-i-eq42.true;
      slash = subst (λ k. get_or c.args.text.now k 0 ≡ 47) (sym next) c.if-text-i-eq47.true;
    }) c.loop-i.invariant
