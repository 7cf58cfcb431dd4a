-- Where pairs of parentheses that make no node stand in what is read: at the place a pair opens that stands inside n others.
use Rattle.std.specs.Prelude.{◌≡◌, ◌⊎◌, suc, List, ℕ}
use Rattle.c_lexer.specs.declared.token.Token.{Token}
use Rattle.c_syntax.specs.Tree.{Expr, Exprs, Maybe, TypeName, Declarator, Params, Init, Inits, MaybeInit, Parts, Decl, First, Labels, Stmt, BlockItems, Stmts, Groups, Declarators, Members, Enumerators, Item, Items}
use Rattle.c_syntax.specs.Grammar.{Level, Reads, is_name, is_int, is_char, are_strings, in_parentheses, with_suffixes, no_prefix, a_prefix, a_unary, a_sizeof_type, no_cast, a_cast, no_chain, a_chain, no_choice, a_choice, no_assignment, an_assignment, no_comma, a_comma}
use Rattle.c_syntax.specs.Grammar.{ReadsList, last_expr, next_expr, Suffixes, no_suffix, an_index, an_empty_call, a_call, a_member, a_postfix, Chain, no_operator, an_operator, ReadsSize, no_size, a_size, ReadsType, a_type}
use Rattle.c_syntax.specs.Grammar.{Declares, a_pointer, a_direct, ReadsCore, a_declared, declarator_in_parentheses, no_core, Lengthens, no_more, an_array, a_function, ReadsParams, are_none, are_some, ReadsEach, last_param, next_param}
use Rattle.c_syntax.specs.Statements.{ReadsInit, an_expression, a_list, a_list_with_comma, ReadsInits, last_init, next_init, ReadsMaybeInit, no_initialiser, an_initialiser, ReadsParts, last_part, next_part, ReadsDecl, a_declaration}
use Rattle.c_syntax.specs.Statements.{ReadsMaybe, no_expression_stands, an_expression_stands, ReadsFirst, first_nothing, first_expression, first_declaration, ReadsLabels, last_case, last_default, next_case, next_default}
use Rattle.c_syntax.specs.Statements.{ReadsStmt, a_block, an_empty, an_evaluation, an_if, an_if_else, a_while, a_do, a_for, a_switch, a_break, a_continue, a_return, ReadsBlockItems, no_block_item, a_block_decl, a_block_stmt, ReadsStmts, last_stmt, next_stmt, ReadsGroups, no_group, a_group}
use Rattle.c_syntax.specs.Statements.{ReadsDeclarators, last_declarator, next_declarator, ReadsMembers, last_member, next_member, ReadsEnumeratorValue, no_enumerator_value, an_enumerator_value, ReadsEnumerators, last_enumerator, next_enumerator}
use Rattle.c_syntax.specs.Statements.{ReadsItem, a_struct, an_enum, an_enum_with_comma, a_tag_alone, an_item_declaration, a_definition, ReadsItems, last_item, next_item}

-- the pair itself, which opens at the place, or one inside it
abbrev pub OpensOr : (at n : ℕ) → Token → (ℕ → Type 0) → Type 0
OpensOr at n t inside = ((n ≡ 0) × (at ≡ t.from)) ⊎ ((m : ℕ) × (n ≡ suc m) × inside m)

abbrev mutual
  pub PairIn : (at : ℕ) {d : ℕ} {l : Level} {e : Expr} {i j : List Token} → Reads d l e i j → ℕ → Type 0
  PairIn at (is_name h) n = ⊥
  PairIn at (is_int h) n = ⊥
  PairIn at (is_char h) n = ⊥
  PairIn at (are_strings p r) n = ⊥
  PairIn at (in_parentheses {t = t} o r c) n = OpensOr at n t (PairIn at r)
  PairIn at (with_suffixes p r c) n = PairIn at r n ⊎ PairInSuffixes at c n
  PairIn at (no_prefix r) n = PairIn at r n
  PairIn at (a_prefix h r) n = PairIn at r n
  PairIn at (a_unary h u r) n = PairIn at r n
  PairIn at (a_sizeof_type w o r c) n = PairInType at r n
  PairIn at (no_cast r) n = PairIn at r n
  PairIn at (a_cast o t c r) n = PairInType at t n ⊎ PairIn at r n
  PairIn at (no_chain r) n = PairIn at r n
  PairIn at (a_chain p r c) n = PairIn at r n ⊎ PairInChain at c n
  PairIn at (no_choice r) n = PairIn at r n
  PairIn at (a_choice p r q v c w) n = PairIn at r n ⊎ PairIn at v n ⊎ PairIn at w n
  PairIn at (no_assignment r) n = PairIn at r n
  PairIn at (an_assignment p r o q v) n = PairIn at r n ⊎ PairIn at v n
  PairIn at (no_comma r) n = PairIn at r n
  PairIn at (a_comma p r c w) n = PairIn at r n ⊎ PairInList at w n

  pub PairInList : (at : ℕ) {d : ℕ} {es : Exprs} {i j : List Token} → ReadsList d es i j → ℕ → Type 0
  PairInList at (last_expr r) n = PairIn at r n
  PairInList at (next_expr r c w) n = PairIn at r n ⊎ PairInList at w n

  pub PairInSuffixes : (at : ℕ) {d p : ℕ} {a e : Expr} {i j : List Token} → Suffixes d p a e i j → ℕ → Type 0
  PairInSuffixes at no_suffix n = ⊥
  PairInSuffixes at (an_index o r c w) n = PairIn at r n ⊎ PairInSuffixes at w n
  PairInSuffixes at (an_empty_call o c w) n = PairInSuffixes at w n
  PairInSuffixes at (a_call o r c w) n = PairInList at r n ⊎ PairInSuffixes at w n
  PairInSuffixes at (a_member h m w) n = PairInSuffixes at w n
  PairInSuffixes at (a_postfix h w) n = PairInSuffixes at w n

  pub PairInChain : (at : ℕ) {d m p : ℕ} {a e : Expr} {i j : List Token} → Chain d m p a e i j → ℕ → Type 0
  PairInChain at no_operator n = ⊥
  PairInChain at (an_operator h c r w) n = PairIn at r n ⊎ PairInChain at w n

  pub PairInSize : (at : ℕ) {d : ℕ} {m : Maybe} {i j : List Token} → ReadsSize d m i j → ℕ → Type 0
  PairInSize at no_size n = ⊥
  PairInSize at (a_size r) n = PairIn at r n

  pub PairInType : (at : ℕ) {d : ℕ} {t : TypeName} {i j : List Token} → ReadsType d t i j → ℕ → Type 0
  PairInType at (a_type p s e h) n = PairInDeclarator at e n

  pub PairInDeclarator : (at : ℕ) {d : ℕ} {e : Declarator} {i j : List Token} → Declares d e i j → ℕ → Type 0
  PairInDeclarator at (a_pointer h c r) n = PairInDeclarator at r n
  PairInDeclarator at (a_direct p c w) n = PairInCore at c n ⊎ PairInLengthens at w n

  pub PairInCore : (at : ℕ) {d : ℕ} {e : Declarator} {i j : List Token} → ReadsCore d e i j → ℕ → Type 0
  PairInCore at (a_declared x) n = ⊥
  PairInCore at (declarator_in_parentheses {t = t} o r h c) n = OpensOr at n t (PairInDeclarator at r)
  PairInCore at no_core n = ⊥

  pub PairInLengthens : (at : ℕ) {d p : ℕ} {a e : Declarator} {i j : List Token} → Lengthens d p a e i j → ℕ → Type 0
  PairInLengthens at no_more n = ⊥
  PairInLengthens at (an_array o s c w) n = PairInSize at s n ⊎ PairInLengthens at w n
  PairInLengthens at (a_function o s c w) n = PairInParams at s n ⊎ PairInLengthens at w n

  pub PairInParams : (at : ℕ) {d : ℕ} {ps : Params} {i j : List Token} → ReadsParams d ps i j → ℕ → Type 0
  PairInParams at (are_none s) n = ⊥
  PairInParams at (are_some r h) n = PairInEach at r n

  pub PairInEach : (at : ℕ) {d : ℕ} {ps : Params} {i j : List Token} → ReadsEach d ps i j → ℕ → Type 0
  PairInEach at (last_param p s e) n = PairInDeclarator at e n
  PairInEach at (next_param p s e c w) n = PairInDeclarator at e n ⊎ PairInEach at w n

abbrev mutual
  pub PairInInit : (at : ℕ) {d : ℕ} {v : Init} {i j : List Token} → ReadsInit d v i j → ℕ → Type 0
  PairInInit at (an_expression r p) n = PairIn at r n
  PairInInit at (a_list o r c) n = PairInInits at r n
  PairInInit at (a_list_with_comma o r c u) n = PairInInits at r n

  pub PairInInits : (at : ℕ) {d : ℕ} {is : Inits} {i j : List Token} → ReadsInits d is i j → ℕ → Type 0
  PairInInits at (last_init r) n = PairInInit at r n
  PairInInits at (next_init r c w) n = PairInInit at r n ⊎ PairInInits at w n

abbrev pub PairInMaybeInit : (at : ℕ) {d : ℕ} {v : MaybeInit} {i j : List Token} → ReadsMaybeInit d v i j → ℕ → Type 0
PairInMaybeInit at no_initialiser n = ⊥
PairInMaybeInit at (an_initialiser o r) n = PairInInit at r n

abbrev pub PairInParts : (at : ℕ) {d : ℕ} {ps : Parts} {i j : List Token} → ReadsParts d ps i j → ℕ → Type 0
PairInParts at (last_part e h v) n = PairInDeclarator at e n ⊎ PairInMaybeInit at v n
PairInParts at (next_part e h v c w) n = PairInDeclarator at e n ⊎ PairInMaybeInit at v n ⊎ PairInParts at w n

abbrev pub PairInDecl : (at : ℕ) {d : ℕ} {x : Decl} {i j : List Token} → ReadsDecl d x i j → ℕ → Type 0
PairInDecl at (a_declaration p st s ps h) n = PairInParts at ps n

abbrev pub PairInMaybe : (at : ℕ) {d : ℕ} {m : Maybe} {i j : List Token} → ReadsMaybe d m i j → ℕ → Type 0
PairInMaybe at no_expression_stands n = ⊥
PairInMaybe at (an_expression_stands r) n = PairIn at r n

abbrev pub PairInFirst : (at : ℕ) {d : ℕ} {x : First} {i j : List Token} → ReadsFirst d x i j → ℕ → Type 0
PairInFirst at (first_nothing h) n = ⊥
PairInFirst at (first_expression r c) n = PairIn at r n
PairInFirst at (first_declaration r p) n = PairInDecl at r n

abbrev pub PairInLabels : (at : ℕ) {d : ℕ} {ls : Labels} {i j : List Token} → ReadsLabels d ls i j → ℕ → Type 0
PairInLabels at (last_case w r c) n = PairIn at r n
PairInLabels at (last_default w c) n = ⊥
PairInLabels at (next_case w r c l) n = PairIn at r n ⊎ PairInLabels at l n
PairInLabels at (next_default w c l) n = PairInLabels at l n

abbrev mutual
  pub PairInStmt : (at : ℕ) {d : ℕ} {s : Stmt} {i j : List Token} → ReadsStmt d s i j → ℕ → Type 0
  PairInStmt at (a_block h r c) n = PairInBlockItems at r n
  PairInStmt at (an_empty h) n = ⊥
  PairInStmt at (an_evaluation p r c) n = PairIn at r n
  PairInStmt at (an_if w o r c s) n = PairIn at r n ⊎ PairInStmt at s n
  PairInStmt at (an_if_else w o r c s l e q) n = PairIn at r n ⊎ PairInStmt at s n ⊎ PairInStmt at q n
  PairInStmt at (a_while w o r c s) n = PairIn at r n ⊎ PairInStmt at s n
  PairInStmt at (a_do w s h o r c e) n = PairInStmt at s n ⊎ PairIn at r n
  PairInStmt at (a_for w o h x e y c s) n = PairInFirst at h n ⊎ PairInMaybe at x n ⊎ PairInMaybe at y n ⊎ PairInStmt at s n
  PairInStmt at (a_switch w o r c l q e) n = PairIn at r n ⊎ PairInGroups at q n
  PairInStmt at (a_break w e) n = ⊥
  PairInStmt at (a_continue w e) n = ⊥
  PairInStmt at (a_return w r e) n = PairInMaybe at r n

  pub PairInBlockItems : (at : ℕ) {d : ℕ} {items : BlockItems} {i j : List Token} → ReadsBlockItems d items i j → ℕ → Type 0
  PairInBlockItems at no_block_item n = ⊥
  PairInBlockItems at (a_block_decl r p w) n = PairInDecl at r n ⊎ PairInBlockItems at w n
  PairInBlockItems at (a_block_stmt r w) n = PairInStmt at r n ⊎ PairInBlockItems at w n

  pub PairInStmts : (at : ℕ) {d : ℕ} {ss : Stmts} {i j : List Token} → ReadsStmts d ss i j → ℕ → Type 0
  PairInStmts at (last_stmt r) n = PairInStmt at r n
  PairInStmts at (next_stmt r w) n = PairInStmt at r n ⊎ PairInStmts at w n

  pub PairInGroups : (at : ℕ) {d : ℕ} {gs : Groups} {i j : List Token} → ReadsGroups d gs i j → ℕ → Type 0
  PairInGroups at no_group n = ⊥
  PairInGroups at (a_group l r w) n = PairInLabels at l n ⊎ PairInStmts at r n ⊎ PairInGroups at w n

abbrev pub PairInDeclarators : (at : ℕ) {d : ℕ} {es : Declarators} {i j : List Token} → ReadsDeclarators d es i j → ℕ → Type 0
PairInDeclarators at (last_declarator e h) n = PairInDeclarator at e n
PairInDeclarators at (next_declarator e h c w) n = PairInDeclarator at e n ⊎ PairInDeclarators at w n

abbrev pub PairInMembers : (at : ℕ) {d : ℕ} {ms : Members} {i j : List Token} → ReadsMembers d ms i j → ℕ → Type 0
PairInMembers at (last_member p s es h) n = PairInDeclarators at es n
PairInMembers at (next_member p s es h w) n = PairInDeclarators at es n ⊎ PairInMembers at w n

abbrev pub PairInValue : (at : ℕ) {d : ℕ} {m : Maybe} {i j : List Token} → ReadsEnumeratorValue d m i j → ℕ → Type 0
PairInValue at no_enumerator_value n = ⊥
PairInValue at (an_enumerator_value o r) n = PairIn at r n

abbrev pub PairInEnumerators : (at : ℕ) {d : ℕ} {es : Enumerators} {i j : List Token} → ReadsEnumerators d es i j → ℕ → Type 0
PairInEnumerators at (last_enumerator x v) n = PairInValue at v n
PairInEnumerators at (next_enumerator x v c w) n = PairInValue at v n ⊎ PairInEnumerators at w n

abbrev pub PairInItem : (at : ℕ) {d : ℕ} {x : Item} {i j : List Token} → ReadsItem d x i j → ℕ → Type 0
PairInItem at (a_struct w n l ms c u) m = PairInMembers at ms m
PairInItem at (an_enum w g l es c u) m = PairInEnumerators at es m
PairInItem at (an_enum_with_comma w g l es e c u) m = PairInEnumerators at es m
PairInItem at (a_tag_alone w n u) m = ⊥
PairInItem at (an_item_declaration p r) m = PairInDecl at r m
PairInItem at (a_definition p st s e h o items c) m = PairInDeclarator at e m ⊎ PairInBlockItems at items m

abbrev pub PairInUnit : (at : ℕ) {d : ℕ} {u : Items} {i j : List Token} → ReadsItems d u i j → ℕ → Type 0
PairInUnit at (last_item r) n = PairInItem at r n
PairInUnit at (next_item r w) n = PairInItem at r n ⊎ PairInUnit at w n
