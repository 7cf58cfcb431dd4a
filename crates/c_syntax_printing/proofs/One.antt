-- No tokens spell two expressions, type names, declarators or lists of parameters.
use Rattle.std.proofs.Common.{◌≡◌, ℕ, List, arith}
use Rattle.c_lexer.specs.declared.token.Token.{Token}
use Rattle.c_syntax_printing.proofs.Begins.{list_begins, declares_ends_spec, direct_begins, suffixed_begins}
use Rattle.c_syntax_printing.specs.Ranks.{Stops}
use Rattle.c_syntax_printing.proofs.Precedence.{assignment_rank}
use Rattle.c_syntax.specs.Tree.{Expr, Exprs, Maybe, TypeName, Declarator, Params}
use Rattle.c_syntax.specs.Grammar.{Level, binary_level, expression_level}
use Rattle.c_syntax.specs.Grammar.{Reads, is_name, is_int, is_char, are_strings, in_parentheses, with_suffixes, no_prefix, a_prefix, a_unary, a_sizeof_type, no_cast, a_cast, no_chain, a_chain}
use Rattle.c_syntax.specs.Grammar.{no_choice, a_choice, no_assignment, an_assignment, no_comma, a_comma, ReadsList, last_expr, next_expr}
use Rattle.c_syntax.specs.Grammar.{Suffixes, no_suffix, an_index, an_empty_call, a_call, a_member, a_postfix, Chain, no_operator, an_operator, ReadsSize, no_size, a_size, ReadsType, a_type}
use Rattle.c_syntax.specs.Grammar.{Declares, a_pointer, a_direct, ReadsCore, a_declared, declarator_in_parentheses, no_core, Lengthens, no_more, an_array, a_function, ReadsParams, are_none, are_some, ReadsEach, last_param, next_param}
use Rattle.c_syntax_printing.proofs.Ranks.{ranked}
use Rattle.c_syntax_printing.specs.Starts.{EndsDeclarator}
use Rattle.c_syntax_printing.proofs.Ends.{parenthesis_ends_declarator, comma_ends_declarator}
use Rattle.c_syntax_printing.proofs.Only.{Closes, Only, OnlyList, PassesSuffixes, PassesChain, OnlySize, OnlyType, OnlyDeclarator, OnlyCore, PassesLengthens, OnlyParams, OnlyEach}
use Rattle.c_syntax_printing.proofs.OneOperand.{at_name, at_int, at_char, at_strings, at_parentheses, suffix_stops, at_suffixed, at_index, at_empty_call, at_call, at_member, at_postfix}
use Rattle.c_syntax_printing.proofs.OnePrefix.{at_no_prefix, only_prefix, at_unary, at_sizeof_type, at_no_cast, at_cast}
use Rattle.c_syntax_printing.proofs.OneChain.{chain_stops, stops_before, at_operator, at_no_chain, at_chain, at_no_choice, at_choice, at_no_assignment, at_assignment, at_no_comma, at_comma, at_last, at_next}
use Rattle.c_syntax_printing.proofs.OneDeclarator.{closed_end, bracket_closes, parenthesis_closes, at_no_size, at_size, at_type, at_pointer, at_direct, only_declared, only_brackets, at_no_core, at_array, at_function, at_none, at_some, at_last_param, at_next_param}
pub use Rattle.c_syntax_printing.proofs.Begins.{named_ends_spec}
pub use Rattle.c_syntax_printing.proofs.OneSpecifier.{same_storage, same_spec, spec_ends_storage}

mutual
  pub only : {d : ℕ} {l : Level} {e : Expr} {i j : List Token} → Reads d l e i j → Stops l j → Only l e i j
  only (is_name h) s = record { is = λ x f k v z. at_name h v }
  only (is_int h) s = record { is = λ x f k v z. at_int h v }
  only (is_char h) s = record { is = λ x f k v z. at_char h v }
  only (are_strings p r) s = record { is = λ x f k v z. at_strings p r s v z }
  only (in_parentheses o r c) s = record { is = λ x f k v z. at_parentheses o (only r (omega (arith, ranked c))) v }
  only (with_suffixes p r c) s = record { is = λ x f k v z. at_suffixed p (only r (suffix_stops c s)) (suffixes_pass c) s v z }
  only (no_prefix r) s = record { is = λ x f k v z. at_no_prefix (suffixed_begins r).0 (only r s) v z }
  only (a_prefix h r) s = only_prefix h r (only r s)
  only (a_unary h u r) s = record { is = λ x f k v z. at_unary h u (only r s) v z }
  only (a_sizeof_type h o r c) s = record { is = λ x f k v z. at_sizeof_type h o r (only_name_of_type r (parenthesis_ends_declarator c)) v }
  only (no_cast r) s = record { is = λ x f k v z. at_no_cast r (only r s) v z }
  only (a_cast o n c r) s = record { is = λ x f k v z. at_cast o n (only_name_of_type n (parenthesis_ends_declarator c)) (only r s) v z }
  only (no_chain r) s = record { is = λ x f k v z. at_no_chain (only r s) v z }
  only (a_chain p r c) s = record { is = λ x f k v z. at_chain p (only r (chain_stops c s)) (chain_passes c (omega (arith, s))) s v z }
  only (no_choice r) s = record { is = λ x f k v z. at_no_choice s (only r (omega arith)) v z }
  only (a_choice p r q b c g) s = record { is = λ x f k v z. at_choice p q (only r (omega (arith, ranked q))) (only b (omega (arith, ranked c))) (only g s) v z }
  only (no_assignment r) s = record { is = λ x f k v z. at_no_assignment s (only r (omega arith)) v z }
  only (an_assignment p r o u b) s = record { is = λ x f k v z. at_assignment p r o u (only r (omega (arith, ranked o, assignment_rank u))) (only b s) v z }
  only (no_comma r) s = record { is = λ x f k v z. at_no_comma s (only r (omega arith)) v z }
  only (a_comma p r o b) s = record { is = λ x f k v z. at_comma p o (only r (omega (arith, ranked o))) (only_list b s) v z }

  pub only_list : {d : ℕ} {es : Exprs} {i j : List Token} → ReadsList d es i j → Stops expression_level j → OnlyList es i j
  only_list (last_expr r) s = record { is = λ x f k v z. at_last s (only r (omega arith)) v z }
  only_list (next_expr r o b) s = record { is = λ x f k v z. at_next o (only r (omega (arith, ranked o))) (only_list b s) v z }

  pub suffixes_pass : {d at : ℕ} {a e : Expr} {j k : List Token} → Suffixes d at a e j k → PassesSuffixes at a e j k
  suffixes_pass no_suffix = record { is = λ x f k v z. v }
  suffixes_pass (an_index o r c w) = record { is = λ x f k v z. at_index o (only r (omega (arith, ranked c))) (suffixes_pass w) v z }
  suffixes_pass (an_empty_call o c w) = record { is = λ x f k v z. at_empty_call o c (suffixes_pass w) v z }
  suffixes_pass (a_call o r c w) = record { is = λ x f k v z. at_call o (list_begins r).0 (only_list r (omega (arith, ranked c))) (suffixes_pass w) v z }
  suffixes_pass (a_member h n w) = record { is = λ x f k v z. at_member h n (suffixes_pass w) v z }
  suffixes_pass (a_postfix h w) = record { is = λ x f k v z. at_postfix h (suffixes_pass w) v z }

  pub chain_passes : {d n at : ℕ} {a e : Expr} {j k : List Token} → Chain d n at a e j k → Stops (binary_level n) k → PassesChain n at a e j k
  chain_passes no_operator s = record { is = λ x f k v z. v }
  chain_passes (an_operator l h r c) s = record { is = λ x f k v z. at_operator l h (only r (stops_before c s)) (chain_passes c s) v z }

  pub only_sizes : {d : ℕ} {m : Maybe} {i j : List Token} → ReadsSize d m i j → Closes j → OnlySize m i j
  only_sizes no_size s = record { is = λ x f k v z. at_no_size s v }
  only_sizes (a_size r) s = record { is = λ x f k v z. at_size r (only r (omega (arith, s.high))) v z }

  pub only_name_of_type : {d : ℕ} {n : TypeName} {i j : List Token} → ReadsType d n i j → EndsDeclarator j → OnlyType n i j
  only_name_of_type (a_type p r e h) s = record { is = λ x f k v z. at_type p r (declares_ends_spec e s) (only_declarator e s) v z }

  pub only_declarator : {d : ℕ} {e : Declarator} {i j : List Token} → Declares d e i j → EndsDeclarator j → OnlyDeclarator e i j
  only_declarator (a_pointer o c r) s = record { is = λ x f k v z. at_pointer o c (declares_ends_spec r s) (only_declarator r s) v z }
  only_declarator (a_direct p c l) s = record { is = λ x f k v z. at_direct p (direct_begins c l s).1 (only_core c l s) (lengthens_pass l) s v z }

  pub only_core : {d at : ℕ} {a e : Declarator} {i j k : List Token} → ReadsCore d a i j → Lengthens d at a e j k → EndsDeclarator k → OnlyCore a i j
  only_core (a_declared n) l s = only_declared n
  only_core (declarator_in_parentheses o r h c) l s = only_brackets o r h (only_declarator r (parenthesis_ends_declarator c))
  only_core no_core l s = record { is = λ x y t f k m v a z. at_no_core l s v }

  pub lengthens_pass : {d at : ℕ} {a e : Declarator} {j k : List Token} → Lengthens d at a e j k → PassesLengthens at a e j k
  lengthens_pass no_more = record { is = λ x f k v z. v }
  lengthens_pass (an_array o r c l) = record { is = λ x f k v z. at_array o (only_sizes r (bracket_closes _ c)) (lengthens_pass l) v z }
  lengthens_pass (a_function o r c l) = record { is = λ x f k v z. at_function o (only_params r (parenthesis_closes _ c)) (lengthens_pass l) v z }

  pub only_params : {d : ℕ} {ps : Params} {i j : List Token} → ReadsParams d ps i j → Closes j → OnlyParams ps i j
  only_params (are_none r) s = record { is = λ x f k v z. at_none r s v z }
  only_params (are_some r n) s = record { is = λ x f k v z. at_some r n s (only_each r s) v z }

  pub only_each : {d : ℕ} {ps : Params} {i j : List Token} → ReadsEach d ps i j → Closes j → OnlyEach ps i j
  only_each (last_param p r e) s = record { is = λ x f k v z. at_last_param p r (declares_ends_spec e (closed_end s)) s (only_declarator e (omega (arith, s.none))) v z }
  only_each (next_param p r e o b) s = record { is = λ x f k v z. at_next_param p r (declares_ends_spec e (comma_ends_declarator o)) o (only_declarator e (comma_ends_declarator o)) (only_each b s) v z }

-- no tokens spell two expressions
pub same : {d x : ℕ} {l : Level} {e f : Expr} {i j k : List Token} → Reads d l e i j → Reads x l f i k → Stops l j → Stops l k → (e ≡ f) × (j ≡ k)
same r w s z = (only r s).is _ _ _ w z

-- no tokens spell two declarators
pub same_declarator : {d x : ℕ} {e f : Declarator} {i j k : List Token} → Declares d e i j → Declares x f i k → EndsDeclarator j → EndsDeclarator k → (e ≡ f) × (j ≡ k)
same_declarator r w s z = (only_declarator r s).is _ _ _ w z

-- no tokens spell two type names
pub same_type : {d x : ℕ} {m n : TypeName} {i j k : List Token} → ReadsType d m i j → ReadsType x n i k → EndsDeclarator j → EndsDeclarator k → (m ≡ n) × (j ≡ k)
same_type r w s z = (only_name_of_type r s).is _ _ _ w z
