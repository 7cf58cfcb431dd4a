-- Where counted nodes stand: statements, expressions, declarators and initialisers in braces. A node begins at the place and is the
-- n-th of those that stand in each other, the outermost being the first.
use Rattle.std.specs.Prelude.{◌≡◌, suc, ℕ}
use Rattle.c_syntax.specs.Tree.{Ident, Spec, Storage, Tag, Postfix, Prefix, Access, Infix}
use Rattle.c_syntax.specs.Tree.{Expr, comma, sizeof_type, cast, call, member, postfix, prefix, unary, index, binary, assign, conditional}
use Rattle.c_syntax.specs.Tree.{Exprs, more_exprs, Maybe, there, TypeName, type_name, Declarator, nothing, named, pointer, array, function, Params, more_params}
use Rattle.c_syntax.specs.Tree.{Init, one, list, Inits, more_inits, MaybeInit, an_init, Parts, more_parts, Decl, decl}
use Rattle.c_syntax.specs.Tree.{First, first_expr, first_decl, Labels, case_label, default_label}
use Rattle.c_syntax.specs.Tree.{Stmt, block, empty, evaluate, only_if, if_else, while_loop, do_loop, for_loop, switch_on, break_off, continue_on, return_from, BlockItems, block_decl, block_stmt, Stmts, more_stmts, Groups, more_groups}
use Rattle.c_syntax.specs.Tree.{Declarators, more_declarators, Members, more_members, Enumerators, more_enumerators, Item, struct_item, enum_item, decl_item, function_item, Items, more_items}
use Rattle.c_syntax.specs.Grammar.{IsThere}
use Rattle.c_syntax.specs.Statements.{place_of}

-- the place of a declarator that is more than nothing
abbrev pub place_of_declarator : Declarator → ℕ
place_of_declarator nothing = 0
place_of_declarator (named at ident) = at
place_of_declarator (pointer at e) = at
place_of_declarator (array at e size) = at
place_of_declarator (function at e ps) = at

abbrev pub place_of_stmt : Stmt → ℕ
place_of_stmt (block at items) = at
place_of_stmt (empty at) = at
place_of_stmt (evaluate at e) = at
place_of_stmt (only_if at e s) = at
place_of_stmt (if_else at e s r) = at
place_of_stmt (while_loop at e s) = at
place_of_stmt (do_loop at s e) = at
place_of_stmt (for_loop at first test step s) = at
place_of_stmt (switch_on at e gs) = at
place_of_stmt (break_off at) = at
place_of_stmt (continue_on at) = at
place_of_stmt (return_from at e) = at

mutual
  pub data InExpr (at : ℕ) : ℕ → Expr → Type 0 where
    expr_here : {e : Expr} → at ≡ place_of e → InExpr at 1 e
    in_comma : {n p : ℕ} {es : Exprs} → InExprs at n es → InExpr at (suc n) (comma p es)
    in_sizeof : {n p : ℕ} {t : TypeName} → InType at n t → InExpr at (suc n) (sizeof_type p t)
    in_cast_type : {n p : ℕ} {t : TypeName} {a : Expr} → InType at n t → InExpr at (suc n) (cast p t a)
    in_cast : {n p : ℕ} {t : TypeName} {a : Expr} → InExpr at n a → InExpr at (suc n) (cast p t a)
    in_called : {n p : ℕ} {a : Expr} {es : Exprs} → InExpr at n a → InExpr at (suc n) (call p a es)
    in_arguments : {n p : ℕ} {a : Expr} {es : Exprs} → InExprs at n es → InExpr at (suc n) (call p a es)
    in_member : {n p : ℕ} {access : Access} {a : Expr} {ident : Ident} → InExpr at n a → InExpr at (suc n) (member p access a ident)
    in_postfix : {n p : ℕ} {s : Postfix} {a : Expr} → InExpr at n a → InExpr at (suc n) (postfix p s a)
    in_prefix : {n p : ℕ} {s : Prefix} {a : Expr} → InExpr at n a → InExpr at (suc n) (prefix p s a)
    in_unary : {n p op : ℕ} {a : Expr} → InExpr at n a → InExpr at (suc n) (unary p op a)
    in_indexed : {n p : ℕ} {a b : Expr} → InExpr at n a → InExpr at (suc n) (index p a b)
    in_index : {n p : ℕ} {a b : Expr} → InExpr at n b → InExpr at (suc n) (index p a b)
    in_left : {n p : ℕ} {o : Infix} {a b : Expr} → InExpr at n a → InExpr at (suc n) (binary p o a b)
    in_right : {n p : ℕ} {o : Infix} {a b : Expr} → InExpr at n b → InExpr at (suc n) (binary p o a b)
    in_assigned : {n p op : ℕ} {a b : Expr} → InExpr at n a → InExpr at (suc n) (assign p op a b)
    in_value : {n p op : ℕ} {a b : Expr} → InExpr at n b → InExpr at (suc n) (assign p op a b)
    in_test : {n p : ℕ} {a b c : Expr} → InExpr at n a → InExpr at (suc n) (conditional p a b c)
    in_yes : {n p : ℕ} {a b c : Expr} → InExpr at n b → InExpr at (suc n) (conditional p a b c)
    in_no : {n p : ℕ} {a b c : Expr} → InExpr at n c → InExpr at (suc n) (conditional p a b c)

  pub data InExprs (at : ℕ) : ℕ → Exprs → Type 0 where
    in_first_expr : {n : ℕ} {a : Expr} {rest : Exprs} → InExpr at n a → InExprs at n (more_exprs a rest)
    in_later_expr : {n : ℕ} {a : Expr} {rest : Exprs} → InExprs at n rest → InExprs at n (more_exprs a rest)

  pub data InMaybe (at : ℕ) : ℕ → Maybe → Type 0 where
    in_there : {n : ℕ} {e : Expr} → InExpr at n e → InMaybe at n (there e)

  pub data InType (at : ℕ) : ℕ → TypeName → Type 0 where
    in_type : {n p : ℕ} {s : Spec} {e : Declarator} → InDeclarator at n e → InType at n (type_name p s e)

  pub data InDeclarator (at : ℕ) : ℕ → Declarator → Type 0 where
    declarator_here : {e : Declarator} → IsThere e → at ≡ place_of_declarator e → InDeclarator at 1 e
    in_pointer : {n p : ℕ} {e : Declarator} → InDeclarator at n e → InDeclarator at (suc n) (pointer p e)
    in_array : {n p : ℕ} {e : Declarator} {size : Maybe} → InDeclarator at n e → InDeclarator at (suc n) (array p e size)
    in_size : {n p : ℕ} {e : Declarator} {size : Maybe} → InMaybe at n size → InDeclarator at (suc n) (array p e size)
    in_function : {n p : ℕ} {e : Declarator} {ps : Params} → InDeclarator at n e → InDeclarator at (suc n) (function p e ps)
    in_params : {n p : ℕ} {e : Declarator} {ps : Params} → InParams at n ps → InDeclarator at (suc n) (function p e ps)

  pub data InParams (at : ℕ) : ℕ → Params → Type 0 where
    in_first_param : {n p : ℕ} {s : Spec} {e : Declarator} {rest : Params} → InDeclarator at n e → InParams at n (more_params p s e rest)
    in_later_param : {n p : ℕ} {s : Spec} {e : Declarator} {rest : Params} → InParams at n rest → InParams at n (more_params p s e rest)

mutual
  pub data InInit (at : ℕ) : ℕ → Init → Type 0 where
    in_one : {n p : ℕ} {e : Expr} → InExpr at n e → InInit at n (one p e)
    list_here : {is : Inits} → InInit at 1 (list at is)
    in_list : {n p : ℕ} {is : Inits} → InInits at n is → InInit at (suc n) (list p is)

  pub data InInits (at : ℕ) : ℕ → Inits → Type 0 where
    in_first_init : {n : ℕ} {a : Init} {rest : Inits} → InInit at n a → InInits at n (more_inits a rest)
    in_later_init : {n : ℕ} {a : Init} {rest : Inits} → InInits at n rest → InInits at n (more_inits a rest)

pub data InMaybeInit (at : ℕ) : ℕ → MaybeInit → Type 0 where
  in_an_init : {n : ℕ} {a : Init} → InInit at n a → InMaybeInit at n (an_init a)

pub data InParts (at : ℕ) : ℕ → Parts → Type 0 where
  in_part_declarator : {n : ℕ} {e : Declarator} {v : MaybeInit} {rest : Parts} → InDeclarator at n e → InParts at n (more_parts e v rest)
  in_part_init : {n : ℕ} {e : Declarator} {v : MaybeInit} {rest : Parts} → InMaybeInit at n v → InParts at n (more_parts e v rest)
  in_later_part : {n : ℕ} {e : Declarator} {v : MaybeInit} {rest : Parts} → InParts at n rest → InParts at n (more_parts e v rest)

pub data InDecl (at : ℕ) : ℕ → Decl → Type 0 where
  in_decl : {n p : ℕ} {st : Storage} {s : Spec} {ps : Parts} → InParts at n ps → InDecl at n (decl p st s ps)

pub data InFirst (at : ℕ) : ℕ → First → Type 0 where
  in_first_expression : {n : ℕ} {e : Expr} → InExpr at n e → InFirst at n (first_expr e)
  in_first_declaration : {n : ℕ} {x : Decl} → InDecl at n x → InFirst at n (first_decl x)

pub data InLabels (at : ℕ) : ℕ → Labels → Type 0 where
  in_case : {n p : ℕ} {e : Expr} {rest : Labels} → InExpr at n e → InLabels at n (case_label p e rest)
  after_case : {n p : ℕ} {e : Expr} {rest : Labels} → InLabels at n rest → InLabels at n (case_label p e rest)
  after_default : {n p : ℕ} {rest : Labels} → InLabels at n rest → InLabels at n (default_label p rest)

mutual
  pub data InStmt (at : ℕ) : ℕ → Stmt → Type 0 where
    stmt_here : {s : Stmt} → at ≡ place_of_stmt s → InStmt at 1 s
    in_block : {n p : ℕ} {items : BlockItems} → InBlockItems at n items → InStmt at (suc n) (block p items)
    in_evaluation : {n p : ℕ} {e : Expr} → InExpr at n e → InStmt at (suc n) (evaluate p e)
    in_if_test : {n p : ℕ} {e : Expr} {s : Stmt} → InExpr at n e → InStmt at (suc n) (only_if p e s)
    in_if : {n p : ℕ} {e : Expr} {s : Stmt} → InStmt at n s → InStmt at (suc n) (only_if p e s)
    in_choice_test : {n p : ℕ} {e : Expr} {s r : Stmt} → InExpr at n e → InStmt at (suc n) (if_else p e s r)
    in_then : {n p : ℕ} {e : Expr} {s r : Stmt} → InStmt at n s → InStmt at (suc n) (if_else p e s r)
    in_else : {n p : ℕ} {e : Expr} {s r : Stmt} → InStmt at n r → InStmt at (suc n) (if_else p e s r)
    in_while_test : {n p : ℕ} {e : Expr} {s : Stmt} → InExpr at n e → InStmt at (suc n) (while_loop p e s)
    in_while : {n p : ℕ} {e : Expr} {s : Stmt} → InStmt at n s → InStmt at (suc n) (while_loop p e s)
    in_do : {n p : ℕ} {s : Stmt} {e : Expr} → InStmt at n s → InStmt at (suc n) (do_loop p s e)
    in_do_test : {n p : ℕ} {s : Stmt} {e : Expr} → InExpr at n e → InStmt at (suc n) (do_loop p s e)
    in_for_first : {n p : ℕ} {first : First} {test step : Maybe} {s : Stmt} → InFirst at n first → InStmt at (suc n) (for_loop p first test step s)
    in_for_test : {n p : ℕ} {first : First} {test step : Maybe} {s : Stmt} → InMaybe at n test → InStmt at (suc n) (for_loop p first test step s)
    in_for_step : {n p : ℕ} {first : First} {test step : Maybe} {s : Stmt} → InMaybe at n step → InStmt at (suc n) (for_loop p first test step s)
    in_for : {n p : ℕ} {first : First} {test step : Maybe} {s : Stmt} → InStmt at n s → InStmt at (suc n) (for_loop p first test step s)
    in_switch_test : {n p : ℕ} {e : Expr} {gs : Groups} → InExpr at n e → InStmt at (suc n) (switch_on p e gs)
    in_switch : {n p : ℕ} {e : Expr} {gs : Groups} → InGroups at n gs → InStmt at (suc n) (switch_on p e gs)
    in_return : {n p : ℕ} {e : Maybe} → InMaybe at n e → InStmt at (suc n) (return_from p e)

  pub data InBlockItems (at : ℕ) : ℕ → BlockItems → Type 0 where
    in_block_decl : {n : ℕ} {x : Decl} {rest : BlockItems} → InDecl at n x → InBlockItems at n (block_decl x rest)
    after_block_decl : {n : ℕ} {x : Decl} {rest : BlockItems} → InBlockItems at n rest → InBlockItems at n (block_decl x rest)
    in_block_stmt : {n : ℕ} {s : Stmt} {rest : BlockItems} → InStmt at n s → InBlockItems at n (block_stmt s rest)
    after_block_stmt : {n : ℕ} {s : Stmt} {rest : BlockItems} → InBlockItems at n rest → InBlockItems at n (block_stmt s rest)

  pub data InStmts (at : ℕ) : ℕ → Stmts → Type 0 where
    in_first_stmt : {n : ℕ} {s : Stmt} {rest : Stmts} → InStmt at n s → InStmts at n (more_stmts s rest)
    in_later_stmt : {n : ℕ} {s : Stmt} {rest : Stmts} → InStmts at n rest → InStmts at n (more_stmts s rest)

  pub data InGroups (at : ℕ) : ℕ → Groups → Type 0 where
    in_group_labels : {n : ℕ} {ls : Labels} {ss : Stmts} {rest : Groups} → InLabels at n ls → InGroups at n (more_groups ls ss rest)
    in_group_stmts : {n : ℕ} {ls : Labels} {ss : Stmts} {rest : Groups} → InStmts at n ss → InGroups at n (more_groups ls ss rest)
    in_later_group : {n : ℕ} {ls : Labels} {ss : Stmts} {rest : Groups} → InGroups at n rest → InGroups at n (more_groups ls ss rest)

pub data InDeclarators (at : ℕ) : ℕ → Declarators → Type 0 where
  in_first_declarator : {n : ℕ} {e : Declarator} {rest : Declarators} → InDeclarator at n e → InDeclarators at n (more_declarators e rest)
  in_later_declarator : {n : ℕ} {e : Declarator} {rest : Declarators} → InDeclarators at n rest → InDeclarators at n (more_declarators e rest)

pub data InMembers (at : ℕ) : ℕ → Members → Type 0 where
  in_first_member : {n p : ℕ} {s : Spec} {es : Declarators} {rest : Members} → InDeclarators at n es → InMembers at n (more_members p s es rest)
  in_later_member : {n p : ℕ} {s : Spec} {es : Declarators} {rest : Members} → InMembers at n rest → InMembers at n (more_members p s es rest)

pub data InEnumerators (at : ℕ) : ℕ → Enumerators → Type 0 where
  in_first_enumerator : {n : ℕ} {ident : Ident} {e : Maybe} {rest : Enumerators} → InMaybe at n e → InEnumerators at n (more_enumerators ident e rest)
  in_later_enumerator : {n : ℕ} {ident : Ident} {e : Maybe} {rest : Enumerators} → InEnumerators at n rest → InEnumerators at n (more_enumerators ident e rest)

pub data InItem (at : ℕ) : ℕ → Item → Type 0 where
  in_struct_item : {n p : ℕ} {ident : Ident} {ms : Members} → InMembers at n ms → InItem at n (struct_item p ident ms)
  in_enum_item : {n p : ℕ} {g : Tag} {es : Enumerators} → InEnumerators at n es → InItem at n (enum_item p g es)
  in_decl_item : {n p : ℕ} {x : Decl} → InDecl at n x → InItem at n (decl_item p x)
  in_function_declarator : {n p : ℕ} {st : Storage} {s : Spec} {e : Declarator} {b : Stmt} → InDeclarator at n e → InItem at n (function_item p st s e b)
  in_function_body : {n p : ℕ} {st : Storage} {s : Spec} {e : Declarator} {b : Stmt} → InStmt at n b → InItem at n (function_item p st s e b)

pub data InUnit (at : ℕ) : ℕ → Items → Type 0 where
  in_first_item : {n : ℕ} {a : Item} {rest : Items} → InItem at n a → InUnit at n (more_items a rest)
  in_later_item : {n : ℕ} {a : Item} {rest : Items} → InUnit at n rest → InUnit at n (more_items a rest)
