-- What ties the ranks of tokens to the operators.
use Rattle.std.proofs.Common.{◌≡◌, ◌≤◌, ℕ, ◌+◌, refl, arith}
use Rattle.c_syntax.specs.Tree.{Infix, and, or, operator}
use Rattle.c_syntax.specs.Tokens.{IsUnary, takes_address, code_of_infix}
use Rattle.c_syntax.specs.Tokens.{IsAssignment, assigns}
use Rattle.c_syntax.specs.Tokens.{IsInfix, multiplies, ands, ors}
use Rattle.c_syntax_printing.specs.Ranks.{rank_of_code}

-- an operator of the level n has the rank n + 1
pub infix_rank : {o : Infix} {n : ℕ} → IsInfix o n → rank_of_code (code_of_infix o) ≡ n + 1
infix_rank multiplies = refl
infix_rank o = refl

-- && and || alone have the levels 9 and 10
pub operator_low : {code n : ℕ} → IsInfix (operator code) n → n ≤ 8
operator_low multiplies = omega arith
operator_low o = omega arith

pub and_level : {n : ℕ} → IsInfix and n → n ≡ 9
and_level ands = refl

pub or_level : {n : ℕ} → IsInfix or n → n ≡ 10
or_level ors = refl

pub assignment_rank : {code : ℕ} → IsAssignment code → rank_of_code code ≡ 13
assignment_rank assigns = refl
assignment_rank o = refl

-- the unary operators have the numbers from 10 to 15
pub unary_low : {code : ℕ} → IsUnary code → 10 ≤ code
unary_low takes_address = omega arith
unary_low u = omega arith
