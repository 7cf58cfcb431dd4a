-- What is read within some number of pairs of parentheses is read within any greater one.
use Rattle.std.proofs.Common.{ℕ, zero, suc, ◌≤◌, List, arith}
use Rattle.c_lexer.specs.declared.token.Token.{Token}
use Rattle.c_syntax.specs.Tree.{Expr, Exprs, Maybe, TypeName, Declarator, Params}
use Rattle.c_syntax.specs.Grammar.{Level}
use Rattle.c_syntax.specs.Grammar.{Reads, is_name, is_int, is_char, are_strings, in_parentheses, with_suffixes, no_prefix, a_prefix, a_unary, a_sizeof_type, no_cast, a_cast, no_chain, a_chain, no_choice, a_choice, no_assignment, an_assignment, no_comma, a_comma}
use Rattle.c_syntax.specs.Grammar.{ReadsList, last_expr, next_expr, Suffixes, no_suffix, an_index, an_empty_call, a_call, a_member, a_postfix, Chain, no_operator, an_operator}
use Rattle.c_syntax.specs.Grammar.{ReadsSize, no_size, a_size, ReadsType, a_type, Declares, a_pointer, a_direct, ReadsCore, a_declared, declarator_in_parentheses, no_core, Lengthens, no_more, an_array, a_function, ReadsParams, are_none, are_some, ReadsEach, last_param, next_param}

mutual
  pub wide : {d x : ℕ} {l : Level} {e : Expr} {i j : List Token} → Reads d l e i j → d ≤ x → Reads x l e i j
  wide (is_name h) w = is_name h
  wide (is_int h) w = is_int h
  wide (is_char h) w = is_char h
  wide (are_strings p r) w = are_strings p r
  wide {x = zero} (in_parentheses o r c) w = absurd (omega arith)
  wide {x = suc x} (in_parentheses o r c) w = in_parentheses o (wide r (omega arith)) c
  wide (with_suffixes p r c) w = with_suffixes p (wide r w) (wide_suffixes c w)
  wide (no_prefix r) w = no_prefix (wide r w)
  wide (a_prefix h r) w = a_prefix h (wide r w)
  wide (a_unary h q r) w = a_unary h q (wide r w)
  wide (a_sizeof_type h p r q) w = a_sizeof_type h p (wide_type r w) q
  wide (no_cast r) w = no_cast (wide r w)
  wide (a_cast o r c f) w = a_cast o (wide_type r w) c (wide f w)
  wide (no_chain r) w = no_chain (wide r w)
  wide (a_chain p r c) w = a_chain p (wide r w) (wide_chain c w)
  wide (no_choice r) w = no_choice (wide r w)
  wide (a_choice p r o f c g) w = a_choice p (wide r w) o (wide f w) c (wide g w)
  wide (no_assignment r) w = no_assignment (wide r w)
  wide (an_assignment p r h q f) w = an_assignment p (wide r w) h q (wide f w)
  wide (no_comma r) w = no_comma (wide r w)
  wide (a_comma p r h f) w = a_comma p (wide r w) h (wide_list f w)

  pub wide_list : {d x : ℕ} {e : Exprs} {i j : List Token} → ReadsList d e i j → d ≤ x → ReadsList x e i j
  wide_list (last_expr r) w = last_expr (wide r w)
  wide_list (next_expr r h f) w = next_expr (wide r w) h (wide_list f w)

  pub wide_suffixes : {d x at : ℕ} {a e : Expr} {i j : List Token} → Suffixes d at a e i j → d ≤ x → Suffixes x at a e i j
  wide_suffixes no_suffix w = no_suffix
  wide_suffixes (an_index h r c f) w = an_index h (wide r w) c (wide_suffixes f w)
  wide_suffixes (an_empty_call h c f) w = an_empty_call h c (wide_suffixes f w)
  wide_suffixes (a_call h r c f) w = a_call h (wide_list r w) c (wide_suffixes f w)
  wide_suffixes (a_member h n f) w = a_member h n (wide_suffixes f w)
  wide_suffixes (a_postfix h f) w = a_postfix h (wide_suffixes f w)

  pub wide_chain : {d x n at : ℕ} {a e : Expr} {i j : List Token} → Chain d n at a e i j → d ≤ x → Chain x n at a e i j
  wide_chain no_operator w = no_operator
  wide_chain (an_operator q h r f) w = an_operator q h (wide r w) (wide_chain f w)

  pub wide_size : {d x : ℕ} {e : Maybe} {i j : List Token} → ReadsSize d e i j → d ≤ x → ReadsSize x e i j
  wide_size no_size w = no_size
  wide_size (a_size r) w = a_size (wide r w)

  pub wide_type : {d x : ℕ} {n : TypeName} {i j : List Token} → ReadsType d n i j → d ≤ x → ReadsType x n i j
  wide_type (a_type p s e h) w = a_type p s (wide_declarator e w) h

  pub wide_declarator : {d x : ℕ} {e : Declarator} {i j : List Token} → Declares d e i j → d ≤ x → Declares x e i j
  wide_declarator (a_pointer h c r) w = a_pointer h c (wide_declarator r w)
  wide_declarator (a_direct p r f) w = a_direct p (wide_core r w) (wide_lengthens f w)

  pub wide_core : {d x : ℕ} {e : Declarator} {i j : List Token} → ReadsCore d e i j → d ≤ x → ReadsCore x e i j
  wide_core (a_declared n) w = a_declared n
  wide_core {x = zero} (declarator_in_parentheses o r h c) w = absurd (omega arith)
  wide_core {x = suc x} (declarator_in_parentheses o r h c) w = declarator_in_parentheses o (wide_declarator r (omega arith)) h c
  wide_core no_core w = no_core

  pub wide_lengthens : {d x at : ℕ} {a e : Declarator} {i j : List Token} → Lengthens d at a e i j → d ≤ x → Lengthens x at a e i j
  wide_lengthens no_more w = no_more
  wide_lengthens (an_array h r c f) w = an_array h (wide_size r w) c (wide_lengthens f w)
  wide_lengthens (a_function h r c f) w = a_function h (wide_params r w) c (wide_lengthens f w)

  pub wide_params : {d x : ℕ} {ps : Params} {i j : List Token} → ReadsParams d ps i j → d ≤ x → ReadsParams x ps i j
  wide_params (are_none s) w = are_none s
  wide_params (are_some r h) w = are_some (wide_each r w) h

  pub wide_each : {d x : ℕ} {ps : Params} {i j : List Token} → ReadsEach d ps i j → d ≤ x → ReadsEach x ps i j
  wide_each (last_param p s e) w = last_param p s (wide_declarator e w)
  wide_each (next_param p s e h f) w = next_param p s (wide_declarator e w) h (wide_each f w)
