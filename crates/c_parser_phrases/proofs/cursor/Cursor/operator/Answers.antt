use Rattle.std.proofs.Common.{◌-◌, ap, arith}
use Rattle.c_syntax_printing.specs.Ranks.{rank}
use Rattle.c_parser_phrases.proofs.Known.{empty_rank, rank_at, infix_at}
use Rattle.c_parser_phrases.proofs.cursor.Cursor.operator.Goals as goal

pub returns-in_default : goal.returns-in_default
returns-in_default c = record { stands = λ l. omega (arith, empty_rank _ c.in_default.ensures.cases, c.requires); some = tt }

pub returns-in_default-code_of : goal.returns-in_default-code_of
returns-in_default-code_of c = record {
  stands = λ l. let r = ap rank c.in-Some.ensures.cases.0 in omega (arith, r, c.in_default-code_of.ensures.0 (omega (arith, r, l)), c.requires);
  some = tt;
}

pub returns-then-rank-lt2 : goal.returns-then-rank-lt2
returns-then-rank-lt2 c = record {
  stands = λ l. omega (arith, l, rank_at c.in-Some.ensures.cases.0 c.in-Some-code_of.ensures, c.code_rank-rank.ensures, c.if-rank-lt2.true);
  some = tt;
}

pub returns-then-most-rank : goal.returns-then-most-rank
returns-then-most-rank c = record {
  stands = λ l. omega (arith, l, rank_at c.in-Some.ensures.cases.0 c.in-Some-code_of.ensures, c.code_rank-rank.ensures, c.if-most-rank.true);
  some = tt;
}

pub returns-clause-stands : goal.returns-clause-stands
returns-clause-stands c =
    let q = c.in-Some.ensures.cases.0 in
    let w = infix_at _ (c.code_rank-rank.result - 1) _ c.in-Some-code_of.ensures (omega (arith, rank_at q c.in-Some-code_of.ensures, ap rank q, c.code_rank-rank.ensures, c.if-rank-lt2.false)) (omega (arith, c.if-rank-lt2.false)) (omega (arith, c.if-most-rank.false, c.requires)) in
    rw c.between_with.ensures (_, _, q, w.0, w.1, omega (arith, c.if-most-rank.false))
