-- The grammar tried on phrases that no tokens spell, or that these tokens don't spell.
use Rattle.std.proofs.Common.{ℕ, List, [], ◌∷◌, arith}
use Rattle.c_lexer.specs.declared.token.Token.{Token}
use Rattle.c_lexer.specs.declared.punctuator.TheConstants as p
use Rattle.c_lexer.specs.declared.keyword.TheConstants as w
use Rattle.c_syntax.specs.Tree.{Spec, Expr, Exprs, TypeName, Declarator, Params, Inits, Decl, Parts, Item, Stmt, only_if, if_else, Stmts, Members, Enumerators, Items, static, decl}
use Rattle.c_syntax.specs.Tokens.{Is, IsKeyword}
use Rattle.c_syntax.specs.Specifiers.{no_storage_stands, static_stands, extern_stands}
use Rattle.c_syntax.specs.Grammar.{ReadsList, ReadsType, ReadsParams, Declares, HasName}
use Rattle.c_syntax.specs.Statements.{an_expression, a_list, a_list_with_comma, ReadsInits, last_init, next_init, ReadsDecl, a_declaration, IsPlainDecl}
use Rattle.c_syntax.specs.Statements.{ReadsStmt, an_if_else, ReadsStmts, ReadsMembers, last_member, next_member, ReadsEnumerators, last_enumerator, next_enumerator, ReadsItems, last_item, next_item, ReadsItem, an_item_declaration, a_definition}
use Rattle.c_syntax_printing.proofs.Heads.{headed, worded, expression_head, spec_head, declarator_head, name_head}
use Rattle.c_syntax_printing.proofs.Ends.{started}
use Rattle.c_syntax_printing.proofs.Begins.{type_begins, params_begin, list_begins}
use Rattle.c_syntax_printing.proofs.StmtCases.{stmt_head, stmts_head}

-- f ( ) as a declarator: a list of parameters is never empty
no_empty_parameters : {d : ℕ} {ps : Params} {t : Token} {i j : List Token} → ReadsParams d ps (t ∷ i) j → Is p.RIGHT_PARENTHESIS t → ⊥
no_empty_parameters r h = omega (arith, (params_begin r).0, started h)

-- ( ) a as a cast: the name of a type is never empty
no_empty_type : {d : ℕ} {n : TypeName} {t : Token} {i j : List Token} → ReadsType d n (t ∷ i) j → Is p.RIGHT_PARENTHESIS t → ⊥
no_empty_type r h = omega (arith, (type_begins r).0, started h)

-- f ( a , ): an argument follows each comma
no_missing_argument : {d : ℕ} {es : Exprs} {t : Token} {i j : List Token} → ReadsList d es (t ∷ i) j → Is p.RIGHT_PARENTHESIS t → ⊥
no_missing_argument r h = omega (arith, (list_begins r).0, started h)

-- { } as an initialiser: a list in braces is never empty
no_empty_list : {d : ℕ} {is : Inits} {t : Token} {i j : List Token} → ReadsInits d is (t ∷ i) j → Is p.RIGHT_BRACE t → ⊥
no_empty_list (last_init (an_expression r q)) h = omega (arith, expression_head r, headed h)
no_empty_list (last_init (a_list o r c)) h = omega (arith, headed o, headed h)
no_empty_list (last_init (a_list_with_comma o r m c)) h = omega (arith, headed o, headed h)
no_empty_list (next_init (an_expression r q) m f) h = omega (arith, expression_head r, headed h)
no_empty_list (next_init (a_list o r c) m f) h = omega (arith, headed o, headed h)
no_empty_list (next_init (a_list_with_comma o r e c) m f) h = omega (arith, headed o, headed h)

-- switch ( a ) { case 1 : int x ; }: no declaration stands in the body of a switch
no_declaration_in_switch : {d : ℕ} {ss : Stmts} {t : Token} {i j : List Token} → ReadsStmts d ss (t ∷ i) j → IsKeyword w.INT t → ⊥
no_declaration_in_switch r h = omega (arith, stmts_head r, worded h)

-- switch ( a ) { case 1 : }: a statement follows each label
no_label_alone : {d : ℕ} {ss : Stmts} {t : Token} {i j : List Token} → ReadsStmts d ss (t ∷ i) j → Is p.RIGHT_BRACE t → ⊥
no_label_alone r h = omega (arith, stmts_head r, headed h)

-- if ( a ) case 1 : ;: no label stands inside another statement
no_label_inside : {d : ℕ} {s : Stmt} {t : Token} {i j : List Token} → ReadsStmt d s (t ∷ i) j → IsKeyword w.CASE t → ⊥
no_label_inside r h = omega (arith, stmt_head r, worded h)

-- static extern int x ;: one storage class stands at most
no_two_classes : {d : ℕ} {x : Decl} {t u : Token} {i j : List Token} → ReadsDecl d x (t ∷ u ∷ i) j → IsKeyword w.STATIC t → IsKeyword w.EXTERN u → ⊥
no_two_classes (a_declaration q no_storage_stands s r c) h g = omega (arith, spec_head s, worded h)
no_two_classes (a_declaration q (static_stands f) s r c) h g = omega (arith, spec_head s, worded g)
no_two_classes (a_declaration q (extern_stands f) s r c) h g = omega (arith, spec_head s, worded g)

-- { static int x ; }: no storage class stands in a block
no_class_in_block : (at : ℕ) (s : Spec) (ps : Parts) → IsPlainDecl (decl at static s ps) → ⊥
no_class_in_block at s ps h = cc

-- if ( a ) if ( b ) c ; else d ;: the else never belongs to the outer if
no_outer_else : {d at at' : ℕ} {a b : Expr} {c e : Stmt} {i j : List Token} → ReadsStmt d (if_else at a (only_if at' b c) e) i j → ⊥
no_outer_else (an_if_else h o r q f z u g) = z

-- struct s { } ;: a struct has members
no_empty_struct : {d : ℕ} {ms : Members} {t : Token} {i j : List Token} → ReadsMembers d ms (t ∷ i) j → Is p.RIGHT_BRACE t → ⊥
no_empty_struct (last_member q s e c) h = omega (arith, spec_head s, headed h)
no_empty_struct (next_member q s e c f) h = omega (arith, spec_head s, headed h)

-- enum e { } ;: an enum has enumerators
no_empty_enum : {d : ℕ} {es : Enumerators} {t : Token} {i j : List Token} → ReadsEnumerators d es (t ∷ i) j → Is p.RIGHT_BRACE t → ⊥
no_empty_enum (last_enumerator n r) h = omega (arith, name_head n, headed h)
no_empty_enum (next_enumerator n r c f) h = omega (arith, name_head n, headed h)

-- char unsigned x ;: after the words of a specifier stands what is declared
no_word_after : {d : ℕ} {e : Declarator} {t : Token} {i j : List Token} → Declares d e (t ∷ i) j → HasName e → IsKeyword w.UNSIGNED t → ⊥
no_word_after r n h = omega (arith, declarator_head r n, worded h)

-- the empty text: a unit has items
no_empty_item : {d : ℕ} {a : Item} {j : List Token} → ReadsItem d a [] j → ⊥
no_empty_item (an_item_declaration q (a_declaration g no_storage_stands s r c)) = omega (arith, spec_head s)
no_empty_item (a_definition q no_storage_stands s e n o f c) = omega (arith, spec_head s)

no_empty_unit : {d : ℕ} {u : Items} {j : List Token} → ReadsItems d u [] j → ⊥
no_empty_unit (last_item r) = no_empty_item r
no_empty_unit (next_item r f) = no_empty_item r
