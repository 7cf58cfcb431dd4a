-- Where a list of initialisers is followed by what goes on with an expression.
use Rattle.std.proofs.Common.{◌≡◌, ◌≤◌, ℕ, List, drop, ap, arith}
use Rattle.c_lexer.specs.declared.token.Token.{Token}
use Rattle.c_lexer.specs.declared.punctuator.TheConstants.{LEFT_BRACE}
use Rattle.c_syntax.specs.Tree.{Init, Inits, list}
use Rattle.c_syntax.specs.Tokens.{Is}
use Rattle.c_syntax.specs.Statements.{ReadsInit, an_expression, a_list, a_list_with_comma}
use Rattle.c_syntax_printing.specs.Ranks.{rank}
use Rattle.c_syntax_printing.proofs.Ranks.{heads}
use Rattle.c_syntax_printing.specs.Heads.{head}
use Rattle.c_syntax_printing.proofs.Heads.{headed, expression_head}
use Rattle.c_syntax_printing.proofs.OneDecl.{brace_ends, comma_ends, same_inits}
use Rattle.c_syntax_printing.proofs.FrameStatements.{init_on}
use Rattle.c_syntax_printing.specs.Fails.{Fails}
use Rattle.c_syntax_printing.specs.Phrases.{Bound, AnInit}
use Rattle.c_syntax_printing.proofs.Combine.{fails_at, fails_beside}
use Rattle.c_syntax_printing.proofs.Fixed.{rank_alike}
use Rattle.c_parser_phrases.specs.declared.room.Room.{Room}
use Rattle.c_parser_phrases.specs.Lists.{HasList}
use Rattle.c_parser_phrases.specs.Standing.{IsAt}
use Rattle.c_parser_phrases.proofs.Exits.{taken_at}

list_end : {d x at : ℕ} {is : Inits} {b : Init} {i j k : List Token} → ReadsInit d (list at is) i j → ReadsInit x b i k → j ≡ k
list_end (a_list h r c) (an_expression v q) = absurd (omega (arith, expression_head v, headed h))
list_end (a_list_with_comma h r c e) (an_expression v q) = absurd (omega (arith, expression_head v, headed h))
list_end (a_list h r c) (a_list o v b) = (heads (same_inits r v (brace_ends c) (brace_ends b)).1).1
list_end (a_list h r c) (a_list_with_comma o v b e) = let y = (same_inits r v (brace_ends c) (comma_ends b e)).1 in absurd (omega (arith, ap head y, headed c, headed b))
list_end (a_list_with_comma h r c e) (a_list o v b) = let y = (same_inits r v (comma_ends c e) (brace_ends b)).1 in absurd (omega (arith, ap head y, headed c, headed b))
list_end (a_list_with_comma h r c e) (a_list_with_comma o v b l) = (heads (heads (same_inits r v (comma_ends c e) (comma_ends b l)).1).1).1

list_followed_here : {d at : ℕ} {is : Inits} {i j : List Token} → ReadsInit d (list at is) i j → rank j ≤ 13 → (b : Bound) → Fails (AnInit b) i j
list_followed_here {d} {at} {is} r q b =
    fails_beside {R = ReadsInit d (list at is)} (λ k m. init_on r k)
    (λ h k l m v a. let e = list_end v a.reads in omega (arith, a.stops, q, rank_alike m, ap rank e))

pub list_followed :
    {room : Room} {is : Inits} {i k m : List Token}
    → IsAt LEFT_BRACE i → k ≡ drop 1 i → ((t : Token) → Is LEFT_BRACE t → HasList room is t k m) → rank m ≤ 13 → (b : Bound) → Fails (AnInit b) i m
list_followed {i = i} {k = k} h e g l b = let t = taken_at LEFT_BRACE i k h e in fails_at t.2 (list_followed_here (g t.0 t.1).reads l b)
