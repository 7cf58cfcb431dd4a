-- What is counted in statements without their places: names of variables, calls and tags; and the tags that stand in a unit. As many call
-- expressions stand in a statement as the rules count calls in it.
use Rattle.std.proofs.Common.{◌≡◌, ◌+◌, Bool, ◌&&◌, if◌then◌else◌, List, [], ◌∷◌, ◌++◌, length, Option, Some, None, refl, ap, ap₂, ◌∙◌}
use Rattle.c_syntax.specs.Tree.{Ident, Declarator, Maybe, absent, there, Parts, no_parts, more_parts, Decl, decl, First, first_absent, first_expr, first_decl, Labels, no_labels, case_label, default_label}
use Rattle.c_syntax.specs.Tree.{Stmt, block, evaluate, only_if, if_else, while_loop, do_loop, for_loop, switch_on, return_from}
use Rattle.c_syntax.specs.Tree.{BlockItems, no_block_items, block_decl, block_stmt, Stmts, no_stmts, more_stmts, Groups, no_groups, more_groups}
use Rattle.c_syntax.specs.Tree.{Declarators, no_declarators, more_declarators, Members, no_members, more_members, Enumerators, no_enumerators, more_enumerators, Item, struct_item, enum_item, tag_item, decl_item, function_item, Items, no_items, more_items}
use Rattle.c_syntax.specs.Same.{unplaced_declarator, unplaced_maybe, unplaced_parts, unplaced_decl, unplaced_first, unplaced_labels, unplaced_stmt, unplaced_block_items, unplaced_stmts, unplaced_groups, unplaced_declarators, unplaced_members, unplaced_enumerators, unplaced_item, unplaced_unit}
use Rattle.c_rules.specs.Counts.{calls_of_maybe, strings_of_maybe}
use Rattle.c_rules.specs.Declarators.{name_of}
use Rattle.c_rules.specs.Names.{Name}
use Rattle.c_rules.specs.PlacesOfCalls.{places, places_of_maybe, places_of_maybe_init, places_of_parts, places_of_decl, places_of_first, places_of_stmt, places_of_block, places_of_stmts, places_of_groups}
use Rattle.c_rules.specs.Tags.{tags_of_parts, declares_added, are_added, tags_of_decl, tags_of_first, tags_of_labels, tags_of_stmt, tags_of_block, tags_of_stmts, tags_of_groups, tags_of_declarators, tags_of_members, tags_of_enumerators, tags_of_item, tags_of_items}
use Rattle.c_rules.specs.Variables.{name_or_empty, names_of_parts, names_of_decl, names_of_first, names_of_stmt, names_of_block, names_of_stmts, names_of_groups, Next, past_name, past_names, calls_of_parts, calls_of_decl, calls_of_first, calls_of_stmt, calls_of_block, calls_of_stmts, calls_of_groups}
use Rattle.c_rules_laws.proofs.Declared.{unplaced_name, name_same}
use Rattle.c_rules_laws.proofs.Expressions.{joins, long_both, spec_tags, maybe_tags, declarator_tags, expr_tags, expr_counted, calls_same, strings_same}
use Rattle.c_rules_laws.proofs.Initialisers.{maybe_init_counts}

pub maybe_calls_same : (m : Maybe) → calls_of_maybe (unplaced_maybe m) ≡ calls_of_maybe m
maybe_calls_same absent = refl
maybe_calls_same (there e) = calls_same e

pub maybe_strings_same : (m : Maybe) → strings_of_maybe (unplaced_maybe m) ≡ strings_of_maybe m
maybe_strings_same absent = refl
maybe_strings_same (there e) = strings_same e

maybe_counted : (m : Maybe) → length (places_of_maybe m) ≡ calls_of_maybe m
maybe_counted absent = refl
maybe_counted (there e) = expr_counted e

-- ## Names

same_or_empty : (n : Option Ident) → name_or_empty (unplaced_name n) ≡ name_or_empty n
same_or_empty None = refl
same_or_empty (Some x) = refl

pub declared_name_same : (d : Declarator) → name_or_empty (name_of (unplaced_declarator d)) ≡ name_or_empty (name_of d)
declared_name_same d = ap name_or_empty (name_same d) ∙ same_or_empty (name_of d)

added_name : (n : Option Ident) → declares_added (unplaced_name n) ≡ declares_added n
added_name None = refl
added_name (Some x) = refl

-- names, calls, tags, and whether all names are the instrumenter's; and the calls are those of the call expressions
parts_same : (ps : Parts) → (names_of_parts (unplaced_parts ps) ≡ names_of_parts ps) × (calls_of_parts (unplaced_parts ps) ≡ calls_of_parts ps) × (tags_of_parts (unplaced_parts ps) ≡ tags_of_parts ps) × (are_added (unplaced_parts ps) ≡ are_added ps) × (length (places_of_parts ps) ≡ calls_of_parts ps)
parts_same no_parts = (refl, refl, refl, refl, refl)
parts_same (more_parts d m ps) =
    let c = maybe_init_counts m in
    let h = parts_same ps in (
      ap₂ (λ (x : Name) (xs : List Name). x ∷ xs) (declared_name_same d) h.0,
      ap₂ (λ v w. v + w) c.0 h.1,
      joins (declarator_tags d) (joins c.1 h.2),
      ap₂ (λ a b. a && b) (ap declares_added (name_same d) ∙ added_name (name_of d)) h.3,
      long_both (places_of_maybe_init m) (places_of_parts ps) c.2 h.4,
    )

pub decl_names_same : (d : Decl) → names_of_decl (unplaced_decl d) ≡ names_of_decl d
decl_names_same (decl at class s ps) = (parts_same ps).0

pub first_names_same : (f : First) → names_of_first (unplaced_first f) ≡ names_of_first f
first_names_same (first_decl d) = decl_names_same d
first_names_same f = refl

-- numbers of variables behind names that are the same
pub past_names_same : (n m : Next) (xs ys : List Name) → m ≡ n → ys ≡ xs → past_names m ys ≡ past_names n xs
past_names_same n m xs ys e f = ap₂ past_names e f

pub past_name_same : (n m : Next) (d : Declarator) → m ≡ n → past_name m (name_or_empty (name_of (unplaced_declarator d))) ≡ past_name n (name_or_empty (name_of d))
past_name_same n m d e = ap₂ past_name e (declared_name_same d)

-- ## Calls

pub decl_calls_same : (d : Decl) → calls_of_decl (unplaced_decl d) ≡ calls_of_decl d
decl_calls_same (decl at class s ps) = (parts_same ps).1

pub first_calls_same : (f : First) → calls_of_first (unplaced_first f) ≡ calls_of_first f
first_calls_same first_absent = refl
first_calls_same (first_expr e) = calls_same e
first_calls_same (first_decl d) = decl_calls_same d

decl_counted : (d : Decl) → length (places_of_decl d) ≡ calls_of_decl d
decl_counted (decl at class s ps) = (parts_same ps).4

first_counted : (f : First) → length (places_of_first f) ≡ calls_of_first f
first_counted first_absent = refl
first_counted (first_expr e) = expr_counted e
first_counted (first_decl d) = decl_counted d

-- ## Tags

decl_tags : (aside : Bool) (d : Decl) → tags_of_decl aside (unplaced_decl d) ≡ tags_of_decl aside d
decl_tags aside (decl at class s ps) = ap₂ (λ (b : Bool) (w : List Name). if aside && b then [] else w) ((parts_same ps).3) (joins (spec_tags s) ((parts_same ps).2))

first_tags : (aside : Bool) (f : First) → tags_of_first aside (unplaced_first f) ≡ tags_of_first aside f
first_tags aside first_absent = refl
first_tags aside (first_expr e) = expr_tags e
first_tags aside (first_decl d) = decl_tags aside d

labels_tags : (ls : Labels) → tags_of_labels (unplaced_labels ls) ≡ tags_of_labels ls
labels_tags no_labels = refl
labels_tags (case_label at e ls) = joins (expr_tags e) (labels_tags ls)
labels_tags (default_label at ls) = labels_tags ls

-- ## Statements

-- the calls, the names and the tags in statements, and the call expressions
mutual
  pub stmt_same : (s : Stmt) → (calls_of_stmt (unplaced_stmt s) ≡ calls_of_stmt s) × (names_of_stmt (unplaced_stmt s) ≡ names_of_stmt s) × ((aside : Bool) → tags_of_stmt aside (unplaced_stmt s) ≡ tags_of_stmt aside s) × (length (places_of_stmt s) ≡ calls_of_stmt s)
  stmt_same (block at is) = block_same is
  stmt_same (evaluate at e) = (calls_same e, refl, λ _. expr_tags e, expr_counted e)
  stmt_same (only_if at e s) = (let h = stmt_same s in (ap₂ (λ v w. v + w) (calls_same e) h.0, h.1, λ a. joins (expr_tags e) (h.2 a), long_both (places e) (places_of_stmt s) (expr_counted e) h.3))
  stmt_same (if_else at e s t) =
      let h = stmt_same s in
      let g = stmt_same t in
      (ap₂ (λ v w. v + w) (calls_same e) (ap₂ (λ v w. v + w) h.0 g.0), joins h.1 g.1, λ a. joins (expr_tags e) (joins (h.2 a) (g.2 a)), long_both (places e) (places_of_stmt s ++ places_of_stmt t) (expr_counted e) (long_both (places_of_stmt s) (places_of_stmt t) h.3 g.3))
  stmt_same (while_loop at e s) = (let h = stmt_same s in (ap₂ (λ v w. v + w) (calls_same e) h.0, h.1, λ a. joins (expr_tags e) (h.2 a), long_both (places e) (places_of_stmt s) (expr_counted e) h.3))
  stmt_same (do_loop at s e) = (let h = stmt_same s in (ap₂ (λ v w. v + w) h.0 (calls_same e), h.1, λ a. joins (h.2 a) (expr_tags e), long_both (places_of_stmt s) (places e) h.3 (expr_counted e)))
  stmt_same (for_loop at first test step s) =
      let h = stmt_same s in (
        ap₂ (λ v w. v + w) (first_calls_same first) (ap₂ (λ v w. v + w) (maybe_calls_same test) (ap₂ (λ v w. v + w) (maybe_calls_same step) h.0)),
        joins (first_names_same first) h.1,
        λ a. joins (first_tags a first) (joins (maybe_tags test) (joins (maybe_tags step) (h.2 a))),
        long_both (places_of_first first) (places_of_maybe test ++ (places_of_maybe step ++ places_of_stmt s)) (first_counted first)
            (long_both (places_of_maybe test) (places_of_maybe step ++ places_of_stmt s) (maybe_counted test) (long_both (places_of_maybe step) (places_of_stmt s) (maybe_counted step) h.3)),
      )
  stmt_same (switch_on at e gs) = (let h = groups_same gs in (ap₂ (λ v w. v + w) (calls_same e) h.0, h.1, λ a. joins (expr_tags e) (h.2 a), long_both (places e) (places_of_groups gs) (expr_counted e) h.3))
  stmt_same (return_from at m) = (maybe_calls_same m, refl, λ _. maybe_tags m, maybe_counted m)
  stmt_same s = (refl, refl, λ _. refl, refl)

  pub block_same : (is : BlockItems) → (calls_of_block (unplaced_block_items is) ≡ calls_of_block is) × (names_of_block (unplaced_block_items is) ≡ names_of_block is) × ((aside : Bool) → tags_of_block aside (unplaced_block_items is) ≡ tags_of_block aside is) × (length (places_of_block is) ≡ calls_of_block is)
  block_same no_block_items = (refl, refl, λ _. refl, refl)
  block_same (block_decl d is) = (let g = block_same is in (ap₂ (λ v w. v + w) (decl_calls_same d) g.0, joins (decl_names_same d) g.1, λ a. joins (decl_tags a d) (g.2 a), long_both (places_of_decl d) (places_of_block is) (decl_counted d) g.3))
  block_same (block_stmt s is) = (let h = stmt_same s in let g = block_same is in (ap₂ (λ v w. v + w) h.0 g.0, joins h.1 g.1, λ a. joins (h.2 a) (g.2 a), long_both (places_of_stmt s) (places_of_block is) h.3 g.3))

  pub stmts_same : (ss : Stmts) → (calls_of_stmts (unplaced_stmts ss) ≡ calls_of_stmts ss) × (names_of_stmts (unplaced_stmts ss) ≡ names_of_stmts ss) × ((aside : Bool) → tags_of_stmts aside (unplaced_stmts ss) ≡ tags_of_stmts aside ss) × (length (places_of_stmts ss) ≡ calls_of_stmts ss)
  stmts_same no_stmts = (refl, refl, λ _. refl, refl)
  stmts_same (more_stmts s ss) = (let h = stmt_same s in let g = stmts_same ss in (ap₂ (λ v w. v + w) h.0 g.0, joins h.1 g.1, λ a. joins (h.2 a) (g.2 a), long_both (places_of_stmt s) (places_of_stmts ss) h.3 g.3))

  groups_same : (gs : Groups) → (calls_of_groups (unplaced_groups gs) ≡ calls_of_groups gs) × (names_of_groups (unplaced_groups gs) ≡ names_of_groups gs) × ((aside : Bool) → tags_of_groups aside (unplaced_groups gs) ≡ tags_of_groups aside gs) × (length (places_of_groups gs) ≡ calls_of_groups gs)
  groups_same no_groups = (refl, refl, λ _. refl, refl)
  groups_same (more_groups ls ss gs) = (let h = stmts_same ss in let g = groups_same gs in (ap₂ (λ v w. v + w) h.0 g.0, joins h.1 g.1, λ a. joins (labels_tags ls) (joins (h.2 a) (g.2 a)), long_both (places_of_stmts ss) (places_of_groups gs) h.3 g.3))

pub stmt_counted : (s : Stmt) → length (places_of_stmt s) ≡ calls_of_stmt s
stmt_counted s = (stmt_same s).3

pub block_counted : (is : BlockItems) → length (places_of_block is) ≡ calls_of_block is
block_counted is = (block_same is).3

-- ## Items

declarators_tags : (ds : Declarators) → tags_of_declarators (unplaced_declarators ds) ≡ tags_of_declarators ds
declarators_tags no_declarators = refl
declarators_tags (more_declarators d ds) = joins (declarator_tags d) (declarators_tags ds)

members_tags : (ms : Members) → tags_of_members (unplaced_members ms) ≡ tags_of_members ms
members_tags no_members = refl
members_tags (more_members at s ds ms) = joins (spec_tags s) (joins (declarators_tags ds) (members_tags ms))

enumerators_tags : (es : Enumerators) → tags_of_enumerators (unplaced_enumerators es) ≡ tags_of_enumerators es
enumerators_tags no_enumerators = refl
enumerators_tags (more_enumerators x m es) = joins (maybe_tags m) (enumerators_tags es)

pub item_tags : (aside : Bool) (i : Item) → tags_of_item aside (unplaced_item i) ≡ tags_of_item aside i
item_tags aside (struct_item at x ms) = ap (λ (w : List Name). x.name ∷ w) (members_tags ms)
item_tags aside (enum_item at x es) = enumerators_tags es
item_tags aside (tag_item at x) = refl
item_tags aside (decl_item at d) = decl_tags aside d
item_tags aside (function_item at class s d body) = joins (spec_tags s) (joins (declarator_tags d) ((stmt_same body).2 aside))

pub items_tags : (aside : Bool) (is : Items) → tags_of_items aside (unplaced_unit is) ≡ tags_of_items aside is
items_tags aside no_items = refl
items_tags aside (more_items i is) = joins (item_tags aside i) (items_tags aside is)
