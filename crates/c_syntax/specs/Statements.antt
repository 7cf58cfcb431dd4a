-- Initialisers, declarations, statements and units (C99 6.7, 6.7.8, 6.8, 6.9), by one case for each form.
use Rattle.std.specs.Prelude.{◌≡◌, ℕ, List, ◌∷◌}
use Rattle.c_lexer.specs.declared.token.Token.{Token}
use Rattle.c_lexer.specs.declared.punctuator.TheConstants.{LEFT_PARENTHESIS, RIGHT_PARENTHESIS, LEFT_BRACE, RIGHT_BRACE, COLON, SEMICOLON, ASSIGN, COMMA}
use Rattle.c_lexer.specs.declared.keyword.TheConstants.{BREAK, CASE, CONTINUE, DEFAULT, DO, ELSE, ENUM, FOR, IF, RETURN, STRUCT, SWITCH, WHILE}
use Rattle.c_syntax.specs.Tree.{Ident, Storage, no_storage, Spec}
use Rattle.c_syntax.specs.Tree.{Expr, a_name, an_int, a_char, a_str, comma, sizeof_type, cast, call, member, postfix, prefix, unary, index, binary, assign, conditional, Maybe, absent, there}
use Rattle.c_syntax.specs.Tree.{Declarator, Init, one, list, Inits, no_inits, more_inits, MaybeInit, no_init, an_init, Parts, no_parts, more_parts, Decl, decl}
use Rattle.c_syntax.specs.Tree.{First, first_absent, first_expr, first_decl, Labels, no_labels, case_label, default_label}
use Rattle.c_syntax.specs.Tree.{Stmt, block, empty, evaluate, only_if, if_else, while_loop, do_loop, for_loop, switch_on, break_off, continue_on, return_from, BlockItems, no_block_items, block_decl, block_stmt, Stmts, no_stmts, more_stmts, Groups, no_groups, more_groups}
use Rattle.c_syntax.specs.Tree.{Declarators, no_declarators, more_declarators, Members, no_members, more_members, Enumerators, no_enumerators, more_enumerators, Tag, no_tag, tag, Item, struct_item, enum_item, tag_item, decl_item, function_item, Items, no_items, more_items}
use Rattle.c_syntax.specs.Tokens.{Is, IsKeyword, place}
use Rattle.c_syntax.specs.Specifiers.{Names, ReadsStorage, ReadsSpec}
use Rattle.c_syntax.specs.Grammar.{conditional_level, assignment_level, expression_level, Reads, Declares, HasName}

-- the place of an expression, parentheses round it left out
abbrev pub place_of : Expr → ℕ
place_of (a_name at name) = at
place_of (an_int at number unsigned) = at
place_of (a_char at c) = at
place_of (a_str at bytes) = at
place_of (comma at es) = at
place_of (sizeof_type at n) = at
place_of (cast at n a) = at
place_of (call at a es) = at
place_of (member at access a ident) = at
place_of (postfix at p a) = at
place_of (prefix at p a) = at
place_of (unary at op a) = at
place_of (index at a b) = at
place_of (binary at o a b) = at
place_of (assign at op a b) = at
place_of (conditional at a b c) = at

mutual
  -- an initialiser (6.7.8)
  pub data ReadsInit : ℕ → Init → List Token → List Token → Type 0 where
    an_expression : {d at : ℕ} {e : Expr} {i j : List Token} → Reads d assignment_level e i j → at ≡ place_of e → ReadsInit d (one at e) i j
    a_list : {d : ℕ} {is : Inits} {t u : Token} {i j : List Token} → Is LEFT_BRACE t → ReadsInits d is i (u ∷ j) → Is RIGHT_BRACE u → ReadsInit d (list t.from is) (t ∷ i) j
    a_list_with_comma : {d : ℕ} {is : Inits} {t c u : Token} {i j : List Token} → Is LEFT_BRACE t → ReadsInits d is i (c ∷ u ∷ j) → Is COMMA c → Is RIGHT_BRACE u → ReadsInit d (list t.from is) (t ∷ i) j

  -- one or more, with commas between
  pub data ReadsInits : ℕ → Inits → List Token → List Token → Type 0 where
    last_init : {d : ℕ} {a : Init} {i j : List Token} → ReadsInit d a i j → ReadsInits d (more_inits a no_inits) i j
    next_init : {d : ℕ} {a : Init} {rest : Inits} {t : Token} {i j k : List Token} → ReadsInit d a i (t ∷ j) → Is COMMA t → ReadsInits d rest j k → ReadsInits d (more_inits a rest) i k

pub data ReadsMaybeInit : ℕ → MaybeInit → List Token → List Token → Type 0 where
  no_initialiser : {d : ℕ} {i : List Token} → ReadsMaybeInit d no_init i i
  an_initialiser : {d : ℕ} {a : Init} {t : Token} {i j : List Token} → Is ASSIGN t → ReadsInit d a i j → ReadsMaybeInit d (an_init a) (t ∷ i) j

-- one or more declarators with their initialisers, with commas between
pub data ReadsParts : ℕ → Parts → List Token → List Token → Type 0 where
  last_part : {d : ℕ} {e : Declarator} {v : MaybeInit} {i j k : List Token} → Declares d e i j → HasName e → ReadsMaybeInit d v j k → ReadsParts d (more_parts e v no_parts) i k
  next_part : {d : ℕ} {e : Declarator} {v : MaybeInit} {rest : Parts} {t : Token} {i j k m : List Token} → Declares d e i j → HasName e → ReadsMaybeInit d v j (t ∷ k) → Is COMMA t → ReadsParts d rest k m → ReadsParts d (more_parts e v rest) i m

-- a declaration (6.7)
pub data ReadsDecl : ℕ → Decl → List Token → List Token → Type 0 where
  a_declaration : {d at : ℕ} {st : Storage} {s : Spec} {ps : Parts} {t : Token} {i j k m : List Token} → at ≡ place i → ReadsStorage st i j → ReadsSpec s j k → ReadsParts d ps k (t ∷ m) → Is SEMICOLON t → ReadsDecl d (decl at st s ps) i m

-- a declaration without a storage class, as in a block
abbrev pub IsPlainDecl : Decl → Type 0
IsPlainDecl (decl at st s ps) = st ≡ no_storage

-- an expression before the token, or nothing
pub data ReadsMaybe : ℕ → Maybe → List Token → List Token → Type 0 where
  no_expression_stands : {d : ℕ} {i : List Token} → ReadsMaybe d absent i i
  an_expression_stands : {d : ℕ} {e : Expr} {i j : List Token} → Reads d expression_level e i j → ReadsMaybe d (there e) i j

-- what stands first in the head of a for, with the semicolon after it (6.8.5)
pub data ReadsFirst : ℕ → First → List Token → List Token → Type 0 where
  first_nothing : {d : ℕ} {t : Token} {i : List Token} → Is SEMICOLON t → ReadsFirst d first_absent (t ∷ i) i
  first_expression : {d : ℕ} {e : Expr} {t : Token} {i j : List Token} → Reads d expression_level e i (t ∷ j) → Is SEMICOLON t → ReadsFirst d (first_expr e) i j
  first_declaration : {d : ℕ} {x : Decl} {i j : List Token} → ReadsDecl d x i j → IsPlainDecl x → ReadsFirst d (first_decl x) i j

-- one or more labels of a switch (6.8.1)
pub data ReadsLabels : ℕ → Labels → List Token → List Token → Type 0 where
  last_case : {d : ℕ} {e : Expr} {t u : Token} {i j : List Token} → IsKeyword CASE t → Reads d conditional_level e i (u ∷ j) → Is COLON u → ReadsLabels d (case_label t.from e no_labels) (t ∷ i) j
  last_default : {d : ℕ} {t u : Token} {i : List Token} → IsKeyword DEFAULT t → Is COLON u → ReadsLabels d (default_label t.from no_labels) (t ∷ u ∷ i) i
  next_case : {d : ℕ} {e : Expr} {rest : Labels} {t u : Token} {i j k : List Token} → IsKeyword CASE t → Reads d conditional_level e i (u ∷ j) → Is COLON u → ReadsLabels d rest j k → ReadsLabels d (case_label t.from e rest) (t ∷ i) k
  next_default : {d : ℕ} {rest : Labels} {t u : Token} {i k : List Token} → IsKeyword DEFAULT t → Is COLON u → ReadsLabels d rest i k → ReadsLabels d (default_label t.from rest) (t ∷ u ∷ i) k

-- The statement ends in no if without else, so that an else after it would belong to an if round it (6.8.4.1 paragraph 3).
abbrev pub IsClosed : Stmt → Type 0
IsClosed (block at items) = Unit {0}
IsClosed (empty at) = Unit {0}
IsClosed (evaluate at e) = Unit {0}
IsClosed (only_if at e s) = ⊥
IsClosed (if_else at e s r) = IsClosed r
IsClosed (while_loop at e s) = IsClosed s
IsClosed (do_loop at s e) = Unit {0}
IsClosed (for_loop at first test step s) = IsClosed s
IsClosed (switch_on at e gs) = Unit {0}
IsClosed (break_off at) = Unit {0}
IsClosed (continue_on at) = Unit {0}
IsClosed (return_from at e) = Unit {0}

mutual
  -- a statement (6.8)
  pub data ReadsStmt : ℕ → Stmt → List Token → List Token → Type 0 where
    a_block : {d : ℕ} {items : BlockItems} {t u : Token} {i j : List Token} → Is LEFT_BRACE t → ReadsBlockItems d items i (u ∷ j) → Is RIGHT_BRACE u → ReadsStmt d (block t.from items) (t ∷ i) j
    an_empty : {d : ℕ} {t : Token} {i : List Token} → Is SEMICOLON t → ReadsStmt d (empty t.from) (t ∷ i) i
    an_evaluation : {d at : ℕ} {e : Expr} {t : Token} {i j : List Token} → at ≡ place i → Reads d expression_level e i (t ∷ j) → Is SEMICOLON t → ReadsStmt d (evaluate at e) i j
    an_if : {d : ℕ} {e : Expr} {s : Stmt} {t o c : Token} {i j k : List Token} → IsKeyword IF t → Is LEFT_PARENTHESIS o → Reads d expression_level e i (c ∷ j) → Is RIGHT_PARENTHESIS c → ReadsStmt d s j k → ReadsStmt d (only_if t.from e s) (t ∷ o ∷ i) k
    an_if_else : {d : ℕ} {e : Expr} {s r : Stmt} {t o c u : Token} {i j k m : List Token} → IsKeyword IF t → Is LEFT_PARENTHESIS o → Reads d expression_level e i (c ∷ j) → Is RIGHT_PARENTHESIS c → ReadsStmt d s j (u ∷ k) → IsClosed s → IsKeyword ELSE u → ReadsStmt d r k m → ReadsStmt d (if_else t.from e s r) (t ∷ o ∷ i) m
    a_while : {d : ℕ} {e : Expr} {s : Stmt} {t o c : Token} {i j k : List Token} → IsKeyword WHILE t → Is LEFT_PARENTHESIS o → Reads d expression_level e i (c ∷ j) → Is RIGHT_PARENTHESIS c → ReadsStmt d s j k → ReadsStmt d (while_loop t.from e s) (t ∷ o ∷ i) k
    a_do : {d : ℕ} {e : Expr} {s : Stmt} {t w o c u : Token} {i j k : List Token} → IsKeyword DO t → ReadsStmt d s i (w ∷ o ∷ j) → IsKeyword WHILE w → Is LEFT_PARENTHESIS o → Reads d expression_level e j (c ∷ u ∷ k) → Is RIGHT_PARENTHESIS c → Is SEMICOLON u → ReadsStmt d (do_loop t.from s e) (t ∷ i) k
    a_for : {d : ℕ} {first : First} {test step : Maybe} {s : Stmt} {t o u c : Token} {i j k m n : List Token} → IsKeyword FOR t → Is LEFT_PARENTHESIS o → ReadsFirst d first i j → ReadsMaybe d test j (u ∷ k) → Is SEMICOLON u → ReadsMaybe d step k (c ∷ m) → Is RIGHT_PARENTHESIS c → ReadsStmt d s m n → ReadsStmt d (for_loop t.from first test step s) (t ∷ o ∷ i) n
    a_switch : {d : ℕ} {e : Expr} {groups : Groups} {t o c l r : Token} {i j k : List Token} → IsKeyword SWITCH t → Is LEFT_PARENTHESIS o → Reads d expression_level e i (c ∷ l ∷ j) → Is RIGHT_PARENTHESIS c → Is LEFT_BRACE l → ReadsGroups d groups j (r ∷ k) → Is RIGHT_BRACE r → ReadsStmt d (switch_on t.from e groups) (t ∷ o ∷ i) k
    a_break : {d : ℕ} {t u : Token} {i : List Token} → IsKeyword BREAK t → Is SEMICOLON u → ReadsStmt d (break_off t.from) (t ∷ u ∷ i) i
    a_continue : {d : ℕ} {t u : Token} {i : List Token} → IsKeyword CONTINUE t → Is SEMICOLON u → ReadsStmt d (continue_on t.from) (t ∷ u ∷ i) i
    a_return : {d : ℕ} {e : Maybe} {t u : Token} {i j : List Token} → IsKeyword RETURN t → ReadsMaybe d e i (u ∷ j) → Is SEMICOLON u → ReadsStmt d (return_from t.from e) (t ∷ i) j

  -- declarations and statements of a block (6.8.2)
  pub data ReadsBlockItems : ℕ → BlockItems → List Token → List Token → Type 0 where
    no_block_item : {d : ℕ} {i : List Token} → ReadsBlockItems d no_block_items i i
    a_block_decl : {d : ℕ} {x : Decl} {rest : BlockItems} {i j k : List Token} → ReadsDecl d x i j → IsPlainDecl x → ReadsBlockItems d rest j k → ReadsBlockItems d (block_decl x rest) i k
    a_block_stmt : {d : ℕ} {s : Stmt} {rest : BlockItems} {i j k : List Token} → ReadsStmt d s i j → ReadsBlockItems d rest j k → ReadsBlockItems d (block_stmt s rest) i k

  -- one or more statements
  pub data ReadsStmts : ℕ → Stmts → List Token → List Token → Type 0 where
    last_stmt : {d : ℕ} {s : Stmt} {i j : List Token} → ReadsStmt d s i j → ReadsStmts d (more_stmts s no_stmts) i j
    next_stmt : {d : ℕ} {s : Stmt} {rest : Stmts} {i j k : List Token} → ReadsStmt d s i j → ReadsStmts d rest j k → ReadsStmts d (more_stmts s rest) i k

  -- groups of labels and statements (6.8.4.2)
  pub data ReadsGroups : ℕ → Groups → List Token → List Token → Type 0 where
    no_group : {d : ℕ} {i : List Token} → ReadsGroups d no_groups i i
    a_group : {d : ℕ} {ls : Labels} {ss : Stmts} {rest : Groups} {i j k m : List Token} → ReadsLabels d ls i j → ReadsStmts d ss j k → ReadsGroups d rest k m → ReadsGroups d (more_groups ls ss rest) i m

-- one or more declarators with names, with commas between
pub data ReadsDeclarators : ℕ → Declarators → List Token → List Token → Type 0 where
  last_declarator : {d : ℕ} {e : Declarator} {i j : List Token} → Declares d e i j → HasName e → ReadsDeclarators d (more_declarators e no_declarators) i j
  next_declarator : {d : ℕ} {e : Declarator} {rest : Declarators} {t : Token} {i j k : List Token} → Declares d e i (t ∷ j) → HasName e → Is COMMA t → ReadsDeclarators d rest j k → ReadsDeclarators d (more_declarators e rest) i k

-- one or more members of a struct (6.7.2.1)
pub data ReadsMembers : ℕ → Members → List Token → List Token → Type 0 where
  last_member : {d at : ℕ} {s : Spec} {es : Declarators} {t : Token} {i j k : List Token} → at ≡ place i → ReadsSpec s i j → ReadsDeclarators d es j (t ∷ k) → Is SEMICOLON t → ReadsMembers d (more_members at s es no_members) i k
  next_member : {d at : ℕ} {s : Spec} {es : Declarators} {rest : Members} {t : Token} {i j k m : List Token} → at ≡ place i → ReadsSpec s i j → ReadsDeclarators d es j (t ∷ k) → Is SEMICOLON t → ReadsMembers d rest k m → ReadsMembers d (more_members at s es rest) i m

-- the value of an enumerator, where one stands
pub data ReadsEnumeratorValue : ℕ → Maybe → List Token → List Token → Type 0 where
  no_enumerator_value : {d : ℕ} {i : List Token} → ReadsEnumeratorValue d absent i i
  an_enumerator_value : {d : ℕ} {e : Expr} {t : Token} {i j : List Token} → Is ASSIGN t → Reads d conditional_level e i j → ReadsEnumeratorValue d (there e) (t ∷ i) j

-- one or more enumerators, with commas between (6.7.2.2)
pub data ReadsEnumerators : ℕ → Enumerators → List Token → List Token → Type 0 where
  last_enumerator : {d : ℕ} {ident : Ident} {e : Maybe} {t : Token} {i j : List Token} → Names ident t → ReadsEnumeratorValue d e i j → ReadsEnumerators d (more_enumerators ident e no_enumerators) (t ∷ i) j
  next_enumerator : {d : ℕ} {ident : Ident} {e : Maybe} {rest : Enumerators} {t u : Token} {i j k : List Token} → Names ident t → ReadsEnumeratorValue d e i (u ∷ j) → Is COMMA u → ReadsEnumerators d rest j k → ReadsEnumerators d (more_enumerators ident e rest) (t ∷ i) k

pub data ReadsTag : Tag → List Token → List Token → Type 0 where
  no_name : {i : List Token} → ReadsTag no_tag i i
  a_tag : {ident : Ident} {t : Token} {i : List Token} → Names ident t → ReadsTag (tag ident) (t ∷ i) i

-- what stands at file scope (6.9): a struct, an enum, a tag alone, a declaration or a function
pub data ReadsItem : ℕ → Item → List Token → List Token → Type 0 where
  a_struct : {d : ℕ} {ident : Ident} {ms : Members} {t n l r u : Token} {i j : List Token} → IsKeyword STRUCT t → Names ident n → Is LEFT_BRACE l → ReadsMembers d ms i (r ∷ u ∷ j) → Is RIGHT_BRACE r → Is SEMICOLON u → ReadsItem d (struct_item t.from ident ms) (t ∷ n ∷ l ∷ i) j
  an_enum : {d : ℕ} {g : Tag} {es : Enumerators} {t l r u : Token} {i j k : List Token} → IsKeyword ENUM t → ReadsTag g i (l ∷ j) → Is LEFT_BRACE l → ReadsEnumerators d es j (r ∷ u ∷ k) → Is RIGHT_BRACE r → Is SEMICOLON u → ReadsItem d (enum_item t.from g es) (t ∷ i) k
  an_enum_with_comma : {d : ℕ} {g : Tag} {es : Enumerators} {t l c r u : Token} {i j k : List Token} → IsKeyword ENUM t → ReadsTag g i (l ∷ j) → Is LEFT_BRACE l → ReadsEnumerators d es j (c ∷ r ∷ u ∷ k) → Is COMMA c → Is RIGHT_BRACE r → Is SEMICOLON u → ReadsItem d (enum_item t.from g es) (t ∷ i) k
  a_tag_alone : {d : ℕ} {ident : Ident} {t n u : Token} {i : List Token} → IsKeyword STRUCT t → Names ident n → Is SEMICOLON u → ReadsItem d (tag_item t.from ident) (t ∷ n ∷ u ∷ i) i
  an_item_declaration : {d at : ℕ} {x : Decl} {i j : List Token} → at ≡ place i → ReadsDecl d x i j → ReadsItem d (decl_item at x) i j
  a_definition : {d at : ℕ} {st : Storage} {s : Spec} {e : Declarator} {items : BlockItems} {t u : Token} {i j k m n : List Token} → at ≡ place i → ReadsStorage st i j → ReadsSpec s j k → Declares d e k (t ∷ m) → HasName e → Is LEFT_BRACE t → ReadsBlockItems d items m (u ∷ n) → Is RIGHT_BRACE u → ReadsItem d (function_item at st s e (block t.from items)) i n

-- one or more
pub data ReadsItems : ℕ → Items → List Token → List Token → Type 0 where
  last_item : {d : ℕ} {a : Item} {i j : List Token} → ReadsItem d a i j → ReadsItems d (more_items a no_items) i j
  next_item : {d : ℕ} {a : Item} {rest : Items} {i j k : List Token} → ReadsItem d a i j → ReadsItems d rest j k → ReadsItems d (more_items a rest) i k
