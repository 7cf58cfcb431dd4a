use Rattle.std.proofs.Common.{ℕ, sym, subst, arith}
use Rattle.c_lexer.specs.Literals.{IsSimple}
use Rattle.c_lexer.specs.Literals.IsSimple.{single_quote, double_quote, question, backslash, alert, backspace, form_feed, new_line, carriage_return, horizontal_tab, vertical_tab}
use Rattle.c_lexer.proofs.escape.simple_value.Goals as goal

pub returns-in-39 : goal.returns-in-39
returns-in-39 c = (subst (λ (x : ℕ). IsSimple x 39) (sym c.in-39.is) single_quote, omega arith)

pub returns-in-34 : goal.returns-in-34
returns-in-34 c = (subst (λ (x : ℕ). IsSimple x 34) (sym c.in-34.is) double_quote, omega arith)

pub returns-in-63 : goal.returns-in-63
returns-in-63 c = (subst (λ (x : ℕ). IsSimple x 63) (sym c.in-63.is) question, omega arith)

pub returns-in-92 : goal.returns-in-92
returns-in-92 c = (subst (λ (x : ℕ). IsSimple x 92) (sym c.in-92.is) backslash, omega arith)

pub returns-in-97 : goal.returns-in-97
returns-in-97 c = (subst (λ (x : ℕ). IsSimple x 7) (sym c.in-97.is) alert, omega arith)

pub returns-in-98 : goal.returns-in-98
returns-in-98 c = (subst (λ (x : ℕ). IsSimple x 8) (sym c.in-98.is) backspace, omega arith)

pub returns-in-102 : goal.returns-in-102
returns-in-102 c = (subst (λ (x : ℕ). IsSimple x 12) (sym c.in-102.is) form_feed, omega arith)

pub returns-in-110 : goal.returns-in-110
returns-in-110 c = (subst (λ (x : ℕ). IsSimple x 10) (sym c.in-110.is) new_line, omega arith)

pub returns-in-114 : goal.returns-in-114
returns-in-114 c = (subst (λ (x : ℕ). IsSimple x 13) (sym c.in-114.is) carriage_return, omega arith)

pub returns-in-116 : goal.returns-in-116
returns-in-116 c = (subst (λ (x : ℕ). IsSimple x 9) (sym c.in-116.is) horizontal_tab, omega arith)

pub returns-in-118 : goal.returns-in-118
returns-in-118 c = (subst (λ (x : ℕ). IsSimple x 11) (sym c.in-118.is) vertical_tab, omega arith)
