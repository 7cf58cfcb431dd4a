-- The tags of structs that stand in a writable unit are names (C99 6.4.2.1, 6.7.2.3). The casts of one that tokens spell name types by
-- abstract declarators, and its declarations declare something.
use Rattle.std.proofs.Common.{◌≡◌, ℕ, suc, Bool, true, false, if◌then◌else◌, List, [], ◌∷◌, ◌++◌, Option, Some, None, refl, subst, true≢false, sym}
use Rattle.std.specs.Prelude.{bytes_eq, is_some, option_map}
use Rattle.std.proofs.lemmas.Slice.Eq.{bytes_eq-Decides}
use Rattle.dm_base.specs.Name.{IsName}
use Rattle.dm_base.specs.declared.mode.Mode.{Mode}
use Rattle.c_lexer.specs.declared.token.Token.{Token}
use Rattle.c_syntax.specs.Grammar.{HasNoName}
use Rattle.c_syntax.specs.Spelling.{SpellsUnit}
use Rattle.c_syntax.specs.Tree.{Spec, struct}
use Rattle.c_syntax.specs.Tree.{Expr, comma, sizeof_type, cast, call, member, postfix, prefix, unary, index, binary, assign, conditional, Exprs, no_exprs, more_exprs, Maybe, absent, there}
use Rattle.c_syntax.specs.Tree.{TypeName, type_name, Declarator, nothing, named, pointer, array, function, Params, no_params, more_params}
use Rattle.c_syntax.specs.Tree.{Init, one, list, Inits, no_inits, more_inits, MaybeInit, no_init, an_init, Parts, no_parts, more_parts, Decl, decl, First, first_absent, first_expr, first_decl, Labels, no_labels, case_label, default_label}
use Rattle.c_syntax.specs.Tree.{Stmt, block, evaluate, only_if, if_else, while_loop, do_loop, for_loop, switch_on, return_from, BlockItems, no_block_items, block_decl, block_stmt, Stmts, no_stmts, more_stmts, Groups, no_groups, more_groups}
use Rattle.c_syntax.specs.Tree.{Declarators, no_declarators, more_declarators, Members, no_members, more_members, Enumerators, no_enumerators, more_enumerators, Item, struct_item, enum_item, tag_item, decl_item, function_item, Items, no_items, more_items}
use Rattle.c_rules.specs.Declarators.{name_of}
use Rattle.c_rules.specs.Names.{Name, number_among, is_among}
use Rattle.c_rules.specs.Tags.{tags_of_spec, tags_of_expr, tags_of_exprs, tags_of_maybe, tags_of_type, tags_of_declarator, tags_of_params, tags_of_init, tags_of_inits, tags_of_maybe_init, tags_of_parts, tags_of_decl, tags_of_first, tags_of_labels, tags_of_stmt, tags_of_block, tags_of_stmts, tags_of_groups, tags_of_declarators, tags_of_members, tags_of_enumerators, tags_of_item}
use Rattle.c_syntax_printing.specs.Writable.{IsWritableSpec, IsWritable, AreWritable, IsWritableMaybe, IsWritableType, IsWritableDeclarator, AreWritableParams, IsWritableInit, AreWritableInits, IsWritableMaybeInit, AreWritableParts, IsWritableDecl, IsWritableFirst, AreWritableLabels, IsWritableStmt, AreWritableBlockItems, AreWritableStmts, AreWritableGroups, AreWritableDeclarators, AreWritableMembers, AreWritableEnumerators, IsWritableItem, AreWritableItems}
use Rattle.c_syntax_printing.specs.Fine.{IsFine, AreFine, IsFineMaybe, IsFineType}
use Rattle.c_syntax_printing.specs.FineUnits.{IsFineInit, AreSomeInits, AreFineInits, IsFineMaybeInit, AreFineParts, AreSomeParts, IsFineDecl, IsFineFirst, IsFineStmt, AreFineBlockItems, AreFineStmts, AreSomeStmts, AreFineGroups, IsFineBody, IsFineItem, AreFineItems, AreSomeItems}
use Rattle.c_syntax_printing.proofs.FineUnitLemmas.{fine_unit}
use Rattle.c_syntax_printing.proofs.WritableReadBack.{spelled_writable}
use Rattle.c_rules_laws.proofs.Holding.{Each, each_both}
use Rattle.null_calls_laws.specs.Tabled.{IsAbstract}
use Rattle.null_calls_laws.specs.AbstractCasts.{AreThere, NamesNoType, NameNoTypes, MaybeNamesNoType, InitNamesNoType, InitsNameNoType, MaybeInitNamesNoType, PartsNameNoType, DeclNamesNoType, FirstNamesNoType, StmtNamesNoType, BlockNamesNoType, StmtsNameNoType, GroupsNameNoType, ItemNamesNoType, UnitNamesNoType}

-- each of them is a name
abbrev pub AllNames : List Name → Type 0
AllNames = Each IsName

pub names_both : (xs ys : List Name) → AllNames xs → AllNames ys → AllNames (xs ++ ys)
names_both = each_both IsName

-- so is each that stands among them
pub among_named : (xs : List Name) (y : Name) → AllNames xs → is_among xs y ≡ true → IsName y
among_named [] y h e = absurd (true≢false (sym e))
among_named (x ∷ xs) y h e = by_test (bytes_eq x y) refl (number_among xs y) e (λ k. among_named xs y h.1 k)
  where
    by_test : (t : Bool) → bytes_eq x y ≡ t → (o : Option ℕ) → is_some (if t then Some 0 else option_map suc o) ≡ true → (is_some o ≡ true → IsName y) → IsName y
    by_test true q o k rest = subst IsName ((bytes_eq-Decides x y).0 q) h.0
    by_test false q (Some n) k rest = rest refl
    by_test false q None k rest = absurd (true≢false (sym k))

spec : (s : Spec) → IsWritableSpec s → AllNames (tags_of_spec s)
spec (struct x) w = (w, tt)
spec s w = tt

-- two parts, one behind the other
both : {F G A B : Type 0} (xs ys : List Name) → AllNames xs × (F → A) → AllNames ys × (G → B) → AllNames (xs ++ ys) × (F × G → A × B)
both xs ys h k = (names_both xs ys h.0 k.0, λ f. (h.1 f.0, k.1 f.1))

no_name : (e : Declarator) → HasNoName e → name_of e ≡ None
no_name nothing h = refl
no_name (named at x) h = absurd h
no_name (pointer at e) h = no_name e h
no_name (array at e size) h = no_name e h
no_name (function at e ps) h = no_name e h

is_abstract : (t : TypeName) → IsFineType t → IsAbstract t
is_abstract (type_name at s e) f = no_name e f.0

-- the tags that stand in an expression, and where it has the forms of the grammar, its casts
mutual
  expr : (e : Expr) → IsWritable e → AllNames (tags_of_expr e) × (IsFine e → NamesNoType e)
  expr (comma at es) w = (let h = exprs es w in (h.0, λ f. h.1 f.1))
  expr (sizeof_type at t) w = (type_is t w, λ _. tt)
  expr (cast at t e) w = (let h = expr e w.1 in (names_both (tags_of_type t) (tags_of_expr e) (type_is t w.0) h.0, λ f. (is_abstract t f.0, h.1 f.1)))
  expr (call at d es) w = both (tags_of_expr d) (tags_of_exprs es) (expr d w.0) (exprs es w.1)
  expr (member at how e x) w = expr e w.0
  expr (postfix at op e) w = expr e w
  expr (prefix at op e) w = expr e w
  expr (unary at op e) w = (let h = expr e w.1 in (h.0, λ f. h.1 f.1))
  expr (index at e f) w = both (tags_of_expr e) (tags_of_expr f) (expr e w.0) (expr f w.1)
  expr (binary at op e f) w = (let h = both (tags_of_expr e) (tags_of_expr f) (expr e w.1) (expr f w.2) in (h.0, λ g. h.1 (g.1, g.2)))
  expr (assign at op e f) w = (let h = both (tags_of_expr e) (tags_of_expr f) (expr e w.1) (expr f w.2) in (h.0, λ g. h.1 (g.1, g.2)))
  expr (conditional at c e f) w =
      let h = expr c w.0 in
      let k = both (tags_of_expr e) (tags_of_expr f) (expr e w.1) (expr f w.2) in
      (names_both (tags_of_expr c) (tags_of_expr e ++ tags_of_expr f) h.0 k.0, λ g. (let i = k.1 (g.1, g.2) in (h.1 g.0, i.0, i.1)))
  expr e w = (tt, λ _. tt)

  exprs : (es : Exprs) → AreWritable es → AllNames (tags_of_exprs es) × (AreFine es → NameNoTypes es)
  exprs no_exprs w = (tt, λ _. tt)
  exprs (more_exprs e es) w = both (tags_of_expr e) (tags_of_exprs es) (expr e w.0) (exprs es w.1)

  maybe : (m : Maybe) → IsWritableMaybe m → AllNames (tags_of_maybe m) × (IsFineMaybe m → MaybeNamesNoType m)
  maybe absent w = (tt, λ _. tt)
  maybe (there e) w = expr e w

  type_is : (t : TypeName) → IsWritableType t → AllNames (tags_of_type t)
  type_is (type_name at s d) w = names_both (tags_of_spec s) (tags_of_declarator d) (spec s w.0) (declarator d w.1)

  declarator : (d : Declarator) → IsWritableDeclarator d → AllNames (tags_of_declarator d)
  declarator (pointer at d) w = declarator d w
  declarator (array at d size) w = names_both (tags_of_declarator d) (tags_of_maybe size) (declarator d w.0) ((maybe size w.1).0)
  declarator (function at d ps) w = names_both (tags_of_declarator d) (tags_of_params ps) (declarator d w.0) (params ps w.1)
  declarator d w = tt

  params : (ps : Params) → AreWritableParams ps → AllNames (tags_of_params ps)
  params no_params w = tt
  params (more_params at s d ps) w = names_both (tags_of_spec s) (tags_of_declarator d ++ tags_of_params ps) (spec s w.0) (names_both (tags_of_declarator d) (tags_of_params ps) (declarator d w.1) (params ps w.2))

some_inits : (is : Inits) → AreSomeInits is → AreFineInits is
some_inits no_inits f = absurd f
some_inits is f = f

mutual
  init : (i : Init) → IsWritableInit i → AllNames (tags_of_init i) × (IsFineInit i → InitNamesNoType i)
  init (one at e) w = expr e w
  init (list at is) w = (let h = inits is w in (h.0, λ f. h.1 (some_inits is f)))

  inits : (is : Inits) → AreWritableInits is → AllNames (tags_of_inits is) × (AreFineInits is → InitsNameNoType is)
  inits no_inits w = (tt, λ _. tt)
  inits (more_inits i is) w = both (tags_of_init i) (tags_of_inits is) (init i w.0) (inits is w.1)

maybe_init : (m : MaybeInit) → IsWritableMaybeInit m → AllNames (tags_of_maybe_init m) × (IsFineMaybeInit m → MaybeInitNamesNoType m)
maybe_init no_init w = (tt, λ _. tt)
maybe_init (an_init i) w = init i w

parts : (ps : Parts) → AreWritableParts ps → AllNames (tags_of_parts ps) × (AreFineParts ps → PartsNameNoType ps)
parts no_parts w = (tt, λ _. tt)
parts (more_parts d m ps) w =
    let h = maybe_init m w.1 in
    let k = parts ps w.2 in
    (names_both (tags_of_declarator d) (tags_of_maybe_init m ++ tags_of_parts ps) (declarator d w.0) (names_both (tags_of_maybe_init m) (tags_of_parts ps) h.0 k.0), λ f. (h.1 f.2, k.1 f.3))

some_parts : (ps : Parts) → AreSomeParts ps → AreThere ps × AreFineParts ps
some_parts no_parts f = absurd f
some_parts (more_parts d m ps) f = (tt, f)

declaration : (d : Decl) → IsWritableDecl d → AllNames (tags_of_decl false d) × (IsFineDecl d → DeclNamesNoType d)
declaration (decl at class s ps) w = (let h = parts ps w.1 in (names_both (tags_of_spec s) (tags_of_parts ps) (spec s w.0) h.0, λ f. (let g = some_parts ps f in (g.0, h.1 g.1))))

first : (f : First) → IsWritableFirst f → AllNames (tags_of_first false f) × (IsFineFirst f → FirstNamesNoType f)
first first_absent w = (tt, λ _. tt)
first (first_expr e) w = expr e w
first (first_decl d) w = (let h = declaration d w in (h.0, λ f. h.1 f.0))

labels : (ls : Labels) → AreWritableLabels ls → AllNames (tags_of_labels ls)
labels no_labels w = tt
labels (case_label at e ls) w = names_both (tags_of_expr e) (tags_of_labels ls) ((expr e w.0).0) (labels ls w.1)
labels (default_label at ls) w = labels ls w

some_stmts : (ss : Stmts) → AreSomeStmts ss → AreFineStmts ss
some_stmts no_stmts f = absurd f
some_stmts ss f = f

mutual
  stmt : (s : Stmt) → IsWritableStmt s → AllNames (tags_of_stmt false s) × (IsFineStmt s → StmtNamesNoType s)
  stmt (block at is) w = block_items is w
  stmt (evaluate at e) w = expr e w
  stmt (only_if at e s) w = both (tags_of_expr e) (tags_of_stmt false s) (expr e w.0) (stmt s w.1)
  stmt (if_else at e s t) w =
      let h = expr e w.0 in
      let k = stmt s w.1 in
      let i = stmt t w.2 in
      (names_both (tags_of_expr e) (tags_of_stmt false s ++ tags_of_stmt false t) h.0 (names_both (tags_of_stmt false s) (tags_of_stmt false t) k.0 i.0), λ f. (h.1 f.0, k.1 f.1, i.1 f.3))
  stmt (while_loop at e s) w = both (tags_of_expr e) (tags_of_stmt false s) (expr e w.0) (stmt s w.1)
  stmt (do_loop at s e) w = both (tags_of_stmt false s) (tags_of_expr e) (stmt s w.0) (expr e w.1)
  stmt (for_loop at f test step s) w =
      let h = first f w.0 in
      let k = maybe test w.1 in
      let i = maybe step w.2 in
      let j = stmt s w.3 in
      (names_both (tags_of_first false f) (tags_of_maybe test ++ (tags_of_maybe step ++ tags_of_stmt false s)) h.0 (names_both (tags_of_maybe test) (tags_of_maybe step ++ tags_of_stmt false s) k.0 (names_both (tags_of_maybe step) (tags_of_stmt false s) i.0 j.0)), λ g. (h.1 g.0, k.1 g.1, i.1 g.2, j.1 g.3))
  stmt (switch_on at e gs) w = both (tags_of_expr e) (tags_of_groups false gs) (expr e w.0) (groups gs w.1)
  stmt (return_from at m) w = maybe m w
  stmt s w = (tt, λ _. tt)

  block_items : (is : BlockItems) → AreWritableBlockItems is → AllNames (tags_of_block false is) × (AreFineBlockItems is → BlockNamesNoType is)
  block_items no_block_items w = (tt, λ _. tt)
  block_items (block_decl d is) w = (let h = both (tags_of_decl false d) (tags_of_block false is) (declaration d w.0) (block_items is w.1) in (h.0, λ f. h.1 (f.0, f.2)))
  block_items (block_stmt s is) w = both (tags_of_stmt false s) (tags_of_block false is) (stmt s w.0) (block_items is w.1)

  stmts : (ss : Stmts) → AreWritableStmts ss → AllNames (tags_of_stmts false ss) × (AreFineStmts ss → StmtsNameNoType ss)
  stmts no_stmts w = (tt, λ _. tt)
  stmts (more_stmts s ss) w = both (tags_of_stmt false s) (tags_of_stmts false ss) (stmt s w.0) (stmts ss w.1)

  groups : (gs : Groups) → AreWritableGroups gs → AllNames (tags_of_groups false gs) × (AreFineGroups gs → GroupsNameNoType gs)
  groups no_groups w = (tt, λ _. tt)
  groups (more_groups ls ss gs) w =
      let h = both (tags_of_stmts false ss) (tags_of_groups false gs) (stmts ss w.1) (groups gs w.2) in
      (names_both (tags_of_labels ls) (tags_of_stmts false ss ++ tags_of_groups false gs) (labels ls w.0) h.0, λ f. h.1 (some_stmts ss f.1, f.2))

declarators : (ds : Declarators) → AreWritableDeclarators ds → AllNames (tags_of_declarators ds)
declarators no_declarators w = tt
declarators (more_declarators d ds) w = names_both (tags_of_declarator d) (tags_of_declarators ds) (declarator d w.0) (declarators ds w.1)

members : (ms : Members) → AreWritableMembers ms → AllNames (tags_of_members ms)
members no_members w = tt
members (more_members at s ds ms) w = names_both (tags_of_spec s) (tags_of_declarators ds ++ tags_of_members ms) (spec s w.0) (names_both (tags_of_declarators ds) (tags_of_members ms) (declarators ds w.1) (members ms w.2))

enumerators : (es : Enumerators) → AreWritableEnumerators es → AllNames (tags_of_enumerators es)
enumerators no_enumerators w = tt
enumerators (more_enumerators x m es) w = names_both (tags_of_maybe m) (tags_of_enumerators es) ((maybe m w.1).0) (enumerators es w.2)

fine_body : (s : Stmt) → IsFineBody s → IsFineStmt s
fine_body (block at is) f = f
fine_body s f = absurd f

item_is : (i : Item) → IsWritableItem i → AllNames (tags_of_item false i) × (IsFineItem i → ItemNamesNoType i)
item_is (struct_item at x ms) w = ((w.0, members ms w.1), λ _. tt)
item_is (enum_item at x es) w = (enumerators es w.1, λ _. tt)
item_is (tag_item at x) w = ((w, tt), λ _. tt)
item_is (decl_item at d) w = declaration d w
item_is (function_item at class s d body) w =
    let h = stmt body w.2 in
    (names_both (tags_of_spec s) (tags_of_declarator d ++ tags_of_stmt false body) (spec s w.0) (names_both (tags_of_declarator d) (tags_of_stmt false body) (declarator d w.1) h.0), λ f. h.1 (fine_body body f.2))

pub item_tags_named : (i : Item) → IsWritableItem i → AllNames (tags_of_item false i)
item_tags_named i w = (item_is i w).0

unit_names : (is : Items) → AreFineItems is → AreWritableItems is → UnitNamesNoType is
unit_names no_items f w = tt
unit_names (more_items i is) f w = ((item_is i w.0).1 f.0, unit_names is f.1 w.1)

pub some_fine : (is : Items) → AreSomeItems is → AreFineItems is
some_fine no_items f = absurd f
some_fine is f = f

pub spelled_names : {u : Items} {tokens : List Token} {m : Mode} → SpellsUnit u tokens m → UnitNamesNoType u
spelled_names {u = u} {tokens = tokens} {m = m} h = unit_names u (some_fine u (fine_unit h.reads)) (spelled_writable u tokens m h)
