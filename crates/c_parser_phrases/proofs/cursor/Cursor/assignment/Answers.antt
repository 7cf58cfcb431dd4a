use Rattle.std.proofs.Common.{ap, sym, ◌∙◌, arith}
use Rattle.c_syntax_printing.specs.Ranks.{rank}
use Rattle.c_parser_phrases.proofs.Known.{empty_rank, rank_at, assignment_of}
use Rattle.c_parser_phrases.proofs.cursor.Cursor.assignment.Goals as goal

pub returns-in_default : goal.returns-in_default
returns-in_default c = record { stands = λ l. omega (arith, empty_rank _ c.in_default.ensures.cases); some = tt }

pub returns-in_default-code_of : goal.returns-in_default-code_of
returns-in_default-code_of c = record {
  stands = λ l. let r = ap rank c.in-Some.ensures.cases.0 in omega (arith, r, c.in_default-code_of.ensures.0 (omega (arith, r, l)));
  some = tt;
}

pub returns-then-code_rank-ne13 : goal.returns-then-code_rank-ne13
returns-then-code_rank-ne13 c = record {
  stands = λ l. omega (arith, l, rank_at c.in-Some.ensures.cases.0 c.in-Some-code_of.ensures, c.code_rank.ensures, c.if-code_rank-ne13.true);
  some = tt;
}

pub returns-clause-stands : goal.returns-clause-stands
returns-clause-stands c =
    let q = c.in-Some.ensures.cases.0 in
    (_, _, q, record { kind = c.in-Some-code_of.ensures }, assignment_of _ _ c.in-Some-code_of.ensures (sym (ap rank q) ∙ rank_at q c.in-Some-code_of.ensures ∙ sym c.code_rank.ensures ∙ c.if-code_rank-ne13.false))
