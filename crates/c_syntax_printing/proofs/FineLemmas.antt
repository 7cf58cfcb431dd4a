-- What is read is fine.
use Rattle.std.proofs.Common.{ℕ, suc, ◌≤◌, List, arith}
use Rattle.c_lexer.specs.declared.token.Token.{Token}
use Rattle.c_syntax.specs.Tree.{Expr, Exprs, more_exprs, Maybe, TypeName, Declarator, Params}
use Rattle.c_syntax.specs.Grammar.{Level, binary_level}
use Rattle.c_syntax.specs.Grammar.{Reads, in_parentheses, with_suffixes, no_prefix, a_prefix, a_unary, a_sizeof_type, no_cast, a_cast, no_chain, a_chain, no_choice, a_choice, no_assignment, an_assignment, no_comma, a_comma}
use Rattle.c_syntax.specs.Grammar.{ReadsList, last_expr, next_expr, Suffixes, no_suffix, an_index, an_empty_call, a_call, a_member, a_postfix, Chain, no_operator, an_operator}
use Rattle.c_syntax.specs.Grammar.{ReadsSize, no_size, a_size, ReadsType, a_type, Declares, a_pointer, a_direct, ReadsCore, declarator_in_parentheses, Lengthens, no_more, an_array, a_function, ReadsParams, are_none, are_some, ReadsEach, last_param, next_param}
use Rattle.c_syntax_printing.specs.Fine.{AreSeveral, IsFine, AreFine, IsFineMaybe, IsFineType, IsFineDeclarator, AreFineParams, IsParameterList}

-- the levels of the operators are at most 10
abbrev IsLow : Level → Type 0
IsLow (binary_level n) = n ≤ 10
IsLow l = Unit {0}

several : {d : ℕ} {e : Exprs} {i j : List Token} (a : Expr) → ReadsList d e i j → AreSeveral (more_exprs a e)
several a (last_expr r) = tt
several a (next_expr r h f) = tt

mutual
  pub fine : {d : ℕ} {l : Level} {e : Expr} {i j : List Token} → Reads d l e i j → IsLow l → IsFine e
  fine (in_parentheses o r c) w = fine r tt
  fine (with_suffixes p r c) w = fine_suffixes c (fine r tt)
  fine (no_prefix r) w = fine r tt
  fine (a_prefix h r) w = fine r tt
  fine (a_unary h q r) w = (q, fine r tt)
  fine (a_sizeof_type h p r q) w = fine_type r
  fine (no_cast r) w = fine r tt
  fine (a_cast o r c f) w = (fine_type r, fine f tt)
  fine (no_chain r) w = fine r tt
  fine (a_chain p r c) w = fine_chain c w (fine r (omega arith))
  fine (no_choice r) w = fine r (omega arith)
  fine (a_choice p r o f c g) w = (fine r (omega arith), fine f tt, fine g tt)
  fine (no_assignment r) w = fine r tt
  fine (an_assignment p r h q f) w = (q, fine r tt, fine f tt)
  fine (no_comma r) w = fine r tt
  fine (a_comma {a = a} p r h f) w = (several a f, (fine r tt, fine_list f))
  fine x w = tt

  pub fine_list : {d : ℕ} {e : Exprs} {i j : List Token} → ReadsList d e i j → AreFine e
  fine_list (last_expr r) = (fine r tt, tt)
  fine_list (next_expr r h f) = (fine r tt, fine_list f)

  fine_suffixes : {d at : ℕ} {a e : Expr} {i j : List Token} → Suffixes d at a e i j → IsFine a → IsFine e
  fine_suffixes no_suffix g = g
  fine_suffixes (an_index h r c f) g = fine_suffixes f (g, fine r tt)
  fine_suffixes (an_empty_call h c f) g = fine_suffixes f (g, tt)
  fine_suffixes (a_call h r c f) g = fine_suffixes f (g, fine_list r)
  fine_suffixes (a_member h n f) g = fine_suffixes f g
  fine_suffixes (a_postfix h f) g = fine_suffixes f g

  fine_chain : {d n at : ℕ} {a e : Expr} {i j : List Token} → Chain d n at a e i j → suc n ≤ 10 → IsFine a → IsFine e
  fine_chain no_operator w g = g
  fine_chain {n = n} (an_operator q h r f) w g = fine_chain f w (record { level = n; low = omega arith; is = q }, g, fine r (omega arith))

  pub fine_size : {d : ℕ} {e : Maybe} {i j : List Token} → ReadsSize d e i j → IsFineMaybe e
  fine_size no_size = tt
  fine_size (a_size r) = fine r tt

  pub fine_type : {d : ℕ} {n : TypeName} {i j : List Token} → ReadsType d n i j → IsFineType n
  fine_type (a_type p s e h) = (h, fine_declarator e)

  pub fine_declarator : {d : ℕ} {e : Declarator} {i j : List Token} → Declares d e i j → IsFineDeclarator e
  fine_declarator (a_pointer h c r) = fine_declarator r
  fine_declarator (a_direct p r f) = fine_lengthens f (fine_core r)

  fine_core : {d : ℕ} {e : Declarator} {i j : List Token} → ReadsCore d e i j → IsFineDeclarator e
  fine_core (declarator_in_parentheses o r h c) = fine_declarator r
  fine_core a = tt

  fine_lengthens : {d at : ℕ} {a e : Declarator} {i j : List Token} → Lengthens d at a e i j → IsFineDeclarator a → IsFineDeclarator e
  fine_lengthens no_more g = g
  fine_lengthens (an_array h r c f) g = fine_lengthens f (g, fine_size r)
  fine_lengthens (a_function h r c f) g = fine_lengthens f (g, is_list r, fine_params r)

  is_list : {d : ℕ} {ps : Params} {i j : List Token} → ReadsParams d ps i j → IsParameterList ps
  is_list (are_none s) = tt
  is_list (are_some (last_param p s e) h) = h
  is_list (are_some (next_param p s e c f) h) = h

  fine_params : {d : ℕ} {ps : Params} {i j : List Token} → ReadsParams d ps i j → AreFineParams ps
  fine_params (are_none s) = tt
  fine_params (are_some r h) = fine_each r

  fine_each : {d : ℕ} {ps : Params} {i j : List Token} → ReadsEach d ps i j → AreFineParams ps
  fine_each (last_param p s e) = (fine_declarator e, tt)
  fine_each (next_param p s e h f) = (fine_declarator e, fine_each f)
