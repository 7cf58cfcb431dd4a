-- Expressions, type names and declarators (C99 6.5, 6.7.5, 6.7.6), by one case for each form. A phrase is a part of the list of
-- tokens: from i, where it begins, to j, which follows it. The number d says in how many pairs of parentheses that make no
-- node a token of the phrase may stand.
use Rattle.std.specs.Prelude.{◌≡◌, ℕ, ℤ, Bool, zero, suc, List, ◌∷◌, ◌++◌}
use Rattle.c_lexer.specs.declared.token.Token.{Token}
use Rattle.c_lexer.specs.declared.punctuator.TheConstants.{LEFT_BRACKET, RIGHT_BRACKET, LEFT_PARENTHESIS, RIGHT_PARENTHESIS, ASTERISK, QUESTION, COLON, COMMA}
use Rattle.c_lexer.specs.declared.keyword.TheConstants.{SIZEOF}
use Rattle.c_syntax.specs.Tree.{Ident, Spec, void, Postfix, Prefix, Access, Infix}
use Rattle.c_syntax.specs.Tree.{Expr, a_name, an_int, a_char, a_str, comma, sizeof_type, cast, call, member, postfix, prefix, unary, index, binary, assign, conditional}
use Rattle.c_syntax.specs.Tree.{Exprs, no_exprs, more_exprs, Maybe, absent, there, TypeName, type_name}
use Rattle.c_syntax.specs.Tree.{Declarator, nothing, named, pointer, array, function, Params, no_params, more_params}
use Rattle.c_syntax.specs.Tokens.{Is, IsKeyword, IsNameToken, IsInt, IsChar, IsStr, place, IsInfix, code_of_infix, IsAssignment, IsUnary, IsPostfix, IsPrefix, IsAccess}
use Rattle.c_syntax.specs.Specifiers.{Names, Consts, ReadsSpec}

-- The levels of precedence: primary, postfix, unary and cast expressions; binary_level n has the binary operators of the levels
-- 1 to n; then conditional and assignment expressions, and those with commas.
pub data Level : Type 0 where
  primary_level postfix_level unary_level cast_level : Level
  binary_level : ℕ → Level
  conditional_level assignment_level expression_level : Level

-- a name, or what is made of one, stands in the declarator
abbrev pub IsThere : Declarator → Type 0
IsThere nothing = ⊥
IsThere (named at ident) = Unit {0}
IsThere (pointer at e) = Unit {0}
IsThere (array at e size) = Unit {0}
IsThere (function at e ps) = Unit {0}

-- the declarator declares a name
abbrev pub HasName : Declarator → Type 0
HasName nothing = ⊥
HasName (named at ident) = Unit {0}
HasName (pointer at e) = HasName e
HasName (array at e size) = HasName e
HasName (function at e ps) = HasName e

-- the declarator has no name, as in the name of a type
abbrev pub HasNoName : Declarator → Type 0
HasNoName nothing = Unit {0}
HasNoName (named at ident) = ⊥
HasNoName (pointer at e) = HasNoName e
HasNoName (array at e size) = HasNoName e
HasNoName (function at e ps) = HasNoName e

-- the parameters are not `void` alone, which is the list of none (6.7.5.3 paragraph 10)
abbrev pub AreSome : Params → Type 0
AreSome no_params = ⊥
AreSome (more_params at void nothing no_params) = ⊥
AreSome (more_params at s e rest) = Unit {0}

-- string literals that stand side by side are one (6.4.5 paragraph 4)
pub data ReadsStrings : List ℕ → List Token → List Token → Type 0 where
  last_string : {bytes : List ℕ} {t : Token} {i : List Token} → IsStr bytes t → ReadsStrings bytes (t ∷ i) i
  next_string : {front rest bytes : List ℕ} {t : Token} {i j : List Token} → IsStr front t → ReadsStrings rest i j → bytes ≡ front ++ rest → ReadsStrings bytes (t ∷ i) j

mutual
  -- at the level, the tokens from i to j spell the expression
  pub data Reads : ℕ → Level → Expr → List Token → List Token → Type 0 where
    -- primary expressions (6.5.1)
    is_name : {d : ℕ} {name : List ℕ} {t : Token} {i : List Token} → IsNameToken name t → Reads d primary_level (a_name t.from name) (t ∷ i) i
    is_int : {d value : ℕ} {unsigned : Bool} {t : Token} {i : List Token} → IsInt value unsigned t → Reads d primary_level (an_int t.from value unsigned) (t ∷ i) i
    is_char : {d : ℕ} {c : ℤ} {t : Token} {i : List Token} → IsChar c t → Reads d primary_level (a_char t.from c) (t ∷ i) i
    are_strings : {d at : ℕ} {bytes : List ℕ} {i j : List Token} → at ≡ place i → ReadsStrings bytes i j → Reads d primary_level (a_str at bytes) i j
    in_parentheses : {d : ℕ} {e : Expr} {t u : Token} {i j : List Token} → Is LEFT_PARENTHESIS t → Reads d expression_level e i (u ∷ j) → Is RIGHT_PARENTHESIS u → Reads (suc d) primary_level e (t ∷ i) j
    -- postfix expressions (6.5.2)
    with_suffixes : {d at : ℕ} {a e : Expr} {i j k : List Token} → at ≡ place i → Reads d primary_level a i j → Suffixes d at a e j k → Reads d postfix_level e i k
    -- unary expressions (6.5.3)
    no_prefix : {d : ℕ} {e : Expr} {i j : List Token} → Reads d postfix_level e i j → Reads d unary_level e i j
    a_prefix : {d : ℕ} {p : Prefix} {e : Expr} {t : Token} {i j : List Token} → IsPrefix p t → Reads d unary_level e i j → Reads d unary_level (prefix t.from p e) (t ∷ i) j
    a_unary : {d op : ℕ} {e : Expr} {t : Token} {i j : List Token} → Is op t → IsUnary op → Reads d cast_level e i j → Reads d unary_level (unary t.from op e) (t ∷ i) j
    a_sizeof_type : {d : ℕ} {n : TypeName} {t o c : Token} {i j : List Token} → IsKeyword SIZEOF t → Is LEFT_PARENTHESIS o → ReadsType d n i (c ∷ j) → Is RIGHT_PARENTHESIS c → Reads d unary_level (sizeof_type t.from n) (t ∷ o ∷ i) j
    -- cast expressions (6.5.4)
    no_cast : {d : ℕ} {e : Expr} {i j : List Token} → Reads d unary_level e i j → Reads d cast_level e i j
    a_cast : {d : ℕ} {n : TypeName} {e : Expr} {t u : Token} {i j k : List Token} → Is LEFT_PARENTHESIS t → ReadsType d n i (u ∷ j) → Is RIGHT_PARENTHESIS u → Reads d cast_level e j k → Reads d cast_level (cast t.from n e) (t ∷ i) k
    -- binary operators (6.5.5 to 6.5.14)
    no_chain : {d : ℕ} {e : Expr} {i j : List Token} → Reads d cast_level e i j → Reads d (binary_level zero) e i j
    a_chain : {d n at : ℕ} {a e : Expr} {i j k : List Token} → at ≡ place i → Reads d (binary_level n) a i j → Chain d n at a e j k → Reads d (binary_level (suc n)) e i k
    -- conditional expressions (6.5.15)
    no_choice : {d : ℕ} {e : Expr} {i j : List Token} → Reads d (binary_level 10) e i j → Reads d conditional_level e i j
    a_choice : {d at : ℕ} {a b c : Expr} {t u : Token} {i j k m : List Token} → at ≡ place i → Reads d (binary_level 10) a i (t ∷ j) → Is QUESTION t → Reads d expression_level b j (u ∷ k) → Is COLON u → Reads d conditional_level c k m → Reads d conditional_level (conditional at a b c) i m
    -- assignment expressions (6.5.16)
    no_assignment : {d : ℕ} {e : Expr} {i j : List Token} → Reads d conditional_level e i j → Reads d assignment_level e i j
    an_assignment : {d at op : ℕ} {a b : Expr} {t : Token} {i j k : List Token} → at ≡ place i → Reads d unary_level a i (t ∷ j) → Is op t → IsAssignment op → Reads d assignment_level b j k → Reads d assignment_level (assign at op a b) i k
    -- expressions with commas (6.5.17)
    no_comma : {d : ℕ} {e : Expr} {i j : List Token} → Reads d assignment_level e i j → Reads d expression_level e i j
    a_comma : {d at : ℕ} {a : Expr} {rest : Exprs} {t : Token} {i j k : List Token} → at ≡ place i → Reads d assignment_level a i (t ∷ j) → Is COMMA t → ReadsList d rest j k → Reads d expression_level (comma at (more_exprs a rest)) i k

  -- one or more, with commas between
  pub data ReadsList : ℕ → Exprs → List Token → List Token → Type 0 where
    last_expr : {d : ℕ} {a : Expr} {i j : List Token} → Reads d assignment_level a i j → ReadsList d (more_exprs a no_exprs) i j
    next_expr : {d : ℕ} {a : Expr} {rest : Exprs} {t : Token} {i j k : List Token} → Reads d assignment_level a i (t ∷ j) → Is COMMA t → ReadsList d rest j k → ReadsList d (more_exprs a rest) i k

  -- the indices, calls, members and steps from j to k make e of a, which begins at the place
  pub data Suffixes : ℕ → ℕ → Expr → Expr → List Token → List Token → Type 0 where
    no_suffix : {d at : ℕ} {a : Expr} {j : List Token} → Suffixes d at a a j j
    an_index : {d at : ℕ} {a b e : Expr} {t u : Token} {i j k : List Token} → Is LEFT_BRACKET t → Reads d expression_level b i (u ∷ j) → Is RIGHT_BRACKET u → Suffixes d at (index at a b) e j k → Suffixes d at a e (t ∷ i) k
    an_empty_call : {d at : ℕ} {a e : Expr} {t u : Token} {i k : List Token} → Is LEFT_PARENTHESIS t → Is RIGHT_PARENTHESIS u → Suffixes d at (call at a no_exprs) e i k → Suffixes d at a e (t ∷ u ∷ i) k
    a_call : {d at : ℕ} {a e : Expr} {bs : Exprs} {t u : Token} {i j k : List Token} → Is LEFT_PARENTHESIS t → ReadsList d bs i (u ∷ j) → Is RIGHT_PARENTHESIS u → Suffixes d at (call at a bs) e j k → Suffixes d at a e (t ∷ i) k
    a_member : {d at : ℕ} {access : Access} {ident : Ident} {a e : Expr} {t u : Token} {i k : List Token} → IsAccess access t → Names ident u → Suffixes d at (member at access a ident) e i k → Suffixes d at a e (t ∷ u ∷ i) k
    a_postfix : {d at : ℕ} {p : Postfix} {a e : Expr} {t : Token} {i k : List Token} → IsPostfix p t → Suffixes d at (postfix at p a) e i k → Suffixes d at a e (t ∷ i) k

  -- the operators of the level n + 1 and their right operands from j to k make e of a, which begins at the place
  pub data Chain : ℕ → ℕ → ℕ → Expr → Expr → List Token → List Token → Type 0 where
    no_operator : {d n at : ℕ} {a : Expr} {j : List Token} → Chain d n at a a j j
    an_operator : {d n at : ℕ} {o : Infix} {a b e : Expr} {t : Token} {i j k : List Token} → IsInfix o (suc n) → Is (code_of_infix o) t → Reads d (binary_level n) b i j → Chain d n at (binary at o a b) e j k → Chain d n at a e (t ∷ i) k

  -- an expression, or nothing
  pub data ReadsSize : ℕ → Maybe → List Token → List Token → Type 0 where
    no_size : {d : ℕ} {i : List Token} → ReadsSize d absent i i
    a_size : {d : ℕ} {e : Expr} {i j : List Token} → Reads d conditional_level e i j → ReadsSize d (there e) i j

  -- the tokens from i to j are the name of a type (6.7.6)
  pub data ReadsType : ℕ → TypeName → List Token → List Token → Type 0 where
    a_type : {d at : ℕ} {s : Spec} {e : Declarator} {i j k : List Token} → at ≡ place i → ReadsSpec s i j → Declares d e j k → HasNoName e → ReadsType d (type_name at s e) i k

  -- the tokens from i to j are the declarator (6.7.5, 6.7.6)
  pub data Declares : ℕ → Declarator → List Token → List Token → Type 0 where
    a_pointer : {d : ℕ} {e : Declarator} {t : Token} {i j k : List Token} → Is ASTERISK t → Consts i j → Declares d e j k → Declares d (pointer t.from e) (t ∷ i) k
    a_direct : {d at : ℕ} {a e : Declarator} {i j k : List Token} → at ≡ place i → ReadsCore d a i j → Lengthens d at a e j k → Declares d e i k

  -- a name, a declarator in parentheses, or nothing
  pub data ReadsCore : ℕ → Declarator → List Token → List Token → Type 0 where
    a_declared : {d : ℕ} {ident : Ident} {t : Token} {i : List Token} → Names ident t → ReadsCore d (named t.from ident) (t ∷ i) i
    declarator_in_parentheses : {d : ℕ} {e : Declarator} {t u : Token} {i j : List Token} → Is LEFT_PARENTHESIS t → Declares d e i (u ∷ j) → IsThere e → Is RIGHT_PARENTHESIS u → ReadsCore (suc d) e (t ∷ i) j
    no_core : {d : ℕ} {i : List Token} → ReadsCore d nothing i i

  -- the array sizes and parameters from j to k make e of a, which begins at the place
  pub data Lengthens : ℕ → ℕ → Declarator → Declarator → List Token → List Token → Type 0 where
    no_more : {d at : ℕ} {a : Declarator} {j : List Token} → Lengthens d at a a j j
    an_array : {d at : ℕ} {size : Maybe} {a e : Declarator} {t u : Token} {i j k : List Token} → Is LEFT_BRACKET t → ReadsSize d size i (u ∷ j) → Is RIGHT_BRACKET u → Lengthens d at (array at a size) e j k → Lengthens d at a e (t ∷ i) k
    a_function : {d at : ℕ} {params : Params} {a e : Declarator} {t u : Token} {i j k : List Token} → Is LEFT_PARENTHESIS t → ReadsParams d params i (u ∷ j) → Is RIGHT_PARENTHESIS u → Lengthens d at (function at a params) e j k → Lengthens d at a e (t ∷ i) k

  -- `void` for none, or a list of parameters (6.7.5.3)
  pub data ReadsParams : ℕ → Params → List Token → List Token → Type 0 where
    are_none : {d : ℕ} {i j : List Token} → ReadsSpec void i j → ReadsParams d no_params i j
    are_some : {d : ℕ} {params : Params} {i j : List Token} → ReadsEach d params i j → AreSome params → ReadsParams d params i j

  -- one or more, with commas between
  pub data ReadsEach : ℕ → Params → List Token → List Token → Type 0 where
    last_param : {d at : ℕ} {s : Spec} {e : Declarator} {i j k : List Token} → at ≡ place i → ReadsSpec s i j → Declares d e j k → ReadsEach d (more_params at s e no_params) i k
    next_param : {d at : ℕ} {s : Spec} {e : Declarator} {rest : Params} {t : Token} {i j k m : List Token} → at ≡ place i → ReadsSpec s i j → Declares d e j (t ∷ k) → Is COMMA t → ReadsEach d rest k m → ReadsEach d (more_params at s e rest) i m
