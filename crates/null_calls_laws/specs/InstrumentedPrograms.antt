-- The program that an instrumented unit is typed as, from the one that the plain unit is typed as: each marked call stands between
-- its null calls, what it takes and gives is kept in temporaries, and these are numbered after the function's other variables.
-- The sites are left aside: they are all 0 here.
use Rattle.std.specs.Prelude.{ℕ, suc, ◌+◌, Bool, true, false, List, [], ◌∷◌, ◌++◌, map, length, Option, None, Some, if◌then◌else◌}
use Rattle.c_meaning.specs.Value.TheVariants.{Uint}
use Rattle.c_meaning.specs.Tree.{CType, void, pointer, function, list_of}
use Rattle.c_meaning.specs.Tree.{Expr, constant, function_name, string_place, variable, dereference, load, address_of, decay, discard, field, unary_operation, conversion, arithmetic, comparison, pointer_add, pointer_diff, and, or, assign, update, conditional, comma, call, call_through, type_of}
use Rattle.c_meaning.specs.Tree.{Exprs, no_exprs, more_exprs, Maybe, absent, there, Inits, no_inits, more_inits}
use Rattle.c_meaning.specs.Tree.{Stmt, block, empty, evaluate, declare, if_else, while_loop, do_loop, for_loop, switch_on, break_off, continue_on, return_void, return_value, Stmts, no_stmts, more_stmts, Groups, no_groups, more_groups}
use Rattle.c_meaning.specs.Tree.{Function, Program}
use Rattle.c_meaning.specs.Functions.{defined, unsigned_int, called_type}
use Rattle.c_meaning.specs.Mentions.{Direct, Through}
use Rattle.c_meaning.specs.CallGraph.{is_marked}
use Rattle.null_calls_laws.specs.Temporaries.{is_kept}

-- ## Temporaries

-- the types of the parameters of a function
abbrev pub parameters_in : CType → List CType
parameters_in (function t ts) = list_of ts
parameters_in t = []

abbrev pub parameters_where : Option CType → List CType
parameters_where None = []
parameters_where (Some t) = parameters_in t

abbrev pub parameters_behind : CType → List CType
parameters_behind (pointer t) = parameters_in t
parameters_behind t = []

-- the temporary of a result
abbrev pub of_result : (wanted : Bool) → CType → List CType
of_result wanted t = if is_kept wanted t then t ∷ [] else []

-- the types of the temporaries of a direct call, where it is marked: those of the arguments and of the result
abbrev pub of_direct : Program → (wanted : Bool) → CType → ℕ → List CType
of_direct p wanted t f =
    if is_marked p (Direct f) then parameters_where (called_type p f) ++ of_result wanted t else []

-- those of a call through a pointer: of the designator, the arguments and the result
abbrev pub of_through : Program → (wanted : Bool) → (result designator : CType) → List CType
of_through p wanted t u =
    if is_marked p (Through u) then u ∷ (parameters_behind u ++ of_result wanted t) else []

-- the variable with this number, as a place and as a value
abbrev pub temporary : CType → ℕ → Expr
temporary t k = variable t false k

abbrev pub kept_value : CType → ℕ → Expr
kept_value t k = load t (temporary t k)

abbrev pub keep : CType → ℕ → Expr → Expr
keep t k e = assign t (temporary t k) e

-- the arguments are kept in temporaries of these types, before other members of a comma expression
abbrev pub keep_all : ℕ → List CType → Exprs → Exprs → Exprs
keep_all k [] es rest = rest
keep_all k (t ∷ ts) no_exprs rest = rest
keep_all k (t ∷ ts) (more_exprs e es) rest = more_exprs (keep t k e) (keep_all (suc k) ts es rest)

abbrev pub kept_values : ℕ → List CType → Exprs
kept_values k [] = no_exprs
kept_values k (t ∷ ts) = more_exprs (kept_value t k) (kept_values (suc k) ts)

-- ## A marked call

-- a call of a null call of the program, told by its function's number
abbrev pub null_call : (number site : ℕ) → Expr
null_call number site = call void 0 number (more_exprs (constant unsigned_int (Uint site)) no_exprs)

-- the type of the comma expression: that of its last member
abbrev pub marked_type : (kept : Bool) → CType → CType
marked_type true t = t
marked_type false t = void

-- the call, the null call after it, and the result where it is kept
abbrev pub call_and_post : (number site : ℕ) → (kept : Bool) → CType → (k : ℕ) → Expr → Exprs
call_and_post number site false t k e = more_exprs e (more_exprs (null_call number site) no_exprs)
call_and_post number site true t k e =
    more_exprs (keep t k e) (more_exprs (null_call number site) (more_exprs (kept_value t k) no_exprs))

module _ (p : Program) where
  abbrev pub pre_number : ℕ
  pre_number = defined p + 24

  abbrev pub post_number : ℕ
  post_number = defined p + 25

  -- what stands behind the designator: the arguments are kept in temporaries from k on, whose types are ts
  abbrev pub marked_members : (site : ℕ) → (wanted : Bool) → CType → (k : ℕ) → List CType → Exprs → (Exprs → Expr) → Exprs
  marked_members site wanted t k ts es the_call =
      keep_all k ts es (more_exprs (null_call pre_number site)
      (call_and_post post_number site (is_kept wanted t) t (k + length ts) (the_call (kept_values k ts))))

  abbrev pub marked_direct : (site : ℕ) → (wanted : Bool) → CType → (f k : ℕ) → Exprs → Expr
  marked_direct site wanted t f k es =
      comma (marked_type (is_kept wanted t) t) (marked_members site wanted t k (parameters_where (called_type p f)) es (λ vs. call t 0 f vs))

  abbrev pub marked_through : (site : ℕ) → (wanted : Bool) → CType → (k : ℕ) → Expr → Exprs → Expr
  marked_through site wanted t k d es =
      comma (marked_type (is_kept wanted t) t)
      (more_exprs (keep (type_of d) k d)
      (marked_members site wanted t (suc k) (parameters_behind (type_of d)) es (λ vs. call_through t 0 (kept_value (type_of d) k) vs)))

  -- ## Expressions

  -- the types of the temporaries of an expression's marked calls, by their sites
  abbrev mutual
    pub kept : (wanted : Bool) → Expr → List CType
    kept wanted (constant t v) = []
    kept wanted (function_name t f) = []
    kept wanted (string_place t n) = []
    kept wanted (variable t s n) = []
    kept wanted (dereference t a) = kept true a
    kept wanted (load t a) = kept true a
    kept wanted (address_of t a) = kept true a
    kept wanted (decay t a) = kept true a
    kept wanted (discard t a) = kept false a
    kept wanted (field t first a) = kept true a
    kept wanted (unary_operation t op a) = kept true a
    kept wanted (conversion t to a) = kept true a
    kept wanted (arithmetic t op a b) = kept true a ++ kept true b
    kept wanted (comparison t op a b) = kept true a ++ kept true b
    kept wanted (pointer_add t first subtracted a b) = kept true a ++ kept true b
    kept wanted (pointer_diff t a b) = kept true a ++ kept true b
    kept wanted (and t a b) = kept true a ++ kept true b
    kept wanted (or t a b) = kept true a ++ kept true b
    kept wanted (assign t a b) = kept true a ++ kept true b
    kept wanted (update t op old a b) = kept true a ++ kept true b
    kept wanted (conditional t c a b) = kept true c ++ (kept true a ++ kept true b)
    kept wanted (comma t es) = kept_of_members wanted es
    kept wanted (call t site f es) = of_direct p wanted t f ++ kept_of_all es
    kept wanted (call_through t site d es) = kept true d ++ (of_through p wanted t (type_of d) ++ kept_of_all es)

    pub kept_of_all : Exprs → List CType
    kept_of_all no_exprs = []
    kept_of_all (more_exprs e es) = kept true e ++ kept_of_all es

    pub kept_of_members : (wanted : Bool) → Exprs → List CType
    kept_of_members wanted no_exprs = []
    kept_of_members wanted (more_exprs e no_exprs) = kept wanted e
    kept_of_members wanted (more_exprs e (more_exprs f es)) = kept false e ++ kept_of_members wanted (more_exprs f es)

  -- An expression whose temporaries have the numbers from k on; whether its value is wanted.
  abbrev mutual
    pub expr : (k : ℕ) → (wanted : Bool) → Expr → Expr
    expr k wanted (constant t v) = constant t v
    expr k wanted (function_name t f) = function_name t f
    expr k wanted (string_place t n) = string_place t n
    expr k wanted (variable t s n) = variable t s n
    expr k wanted (dereference t a) = dereference t (expr k true a)
    expr k wanted (load t a) = load t (expr k true a)
    expr k wanted (address_of t a) = address_of t (expr k true a)
    expr k wanted (decay t a) = decay t (expr k true a)
    expr k wanted (discard t a) = discard t (expr k false a)
    expr k wanted (field t first a) = field t first (expr k true a)
    expr k wanted (unary_operation t op a) = unary_operation t op (expr k true a)
    expr k wanted (conversion t to a) = conversion t to (expr k true a)
    expr k wanted (arithmetic t op a b) = arithmetic t op (expr k true a) (expr (k + length (kept true a)) true b)
    expr k wanted (comparison t op a b) = comparison t op (expr k true a) (expr (k + length (kept true a)) true b)
    expr k wanted (pointer_add t first subtracted a b) =
        pointer_add t first subtracted (expr k true a) (expr (k + length (kept true a)) true b)
    expr k wanted (pointer_diff t a b) = pointer_diff t (expr k true a) (expr (k + length (kept true a)) true b)
    expr k wanted (and t a b) = and t (expr k true a) (expr (k + length (kept true a)) true b)
    expr k wanted (or t a b) = or t (expr k true a) (expr (k + length (kept true a)) true b)
    expr k wanted (assign t a b) = assign t (expr k true a) (expr (k + length (kept true a)) true b)
    expr k wanted (update t op old a b) = update t op old (expr k true a) (expr (k + length (kept true a)) true b)
    expr k wanted (conditional t c a b) =
        conditional t (expr k true c) (expr (k + length (kept true c)) true a) (expr (k + length (kept true c) + length (kept true a)) true b)
    expr k wanted (comma t es) = comma (type_of_members wanted t es) (members k wanted es)
    expr k wanted (call t site f es) =
        if is_marked p (Direct f)
        then marked_direct site wanted t f k (arguments (k + length (of_direct p wanted t f)) es)
        else call t 0 f (arguments k es)
    expr k wanted (call_through t site d es) =
        if is_marked p (Through (type_of d))
        then marked_through site wanted t (k + length (kept true d)) (expr k true d)
        (arguments (k + length (kept true d) + length (of_through p wanted t (type_of d))) es)
        else call_through t 0 (expr k true d) (arguments (k + length (kept true d)) es)

    pub arguments : (k : ℕ) → Exprs → Exprs
    arguments k no_exprs = no_exprs
    arguments k (more_exprs e es) = more_exprs (expr k true e) (arguments (k + length (kept true e)) es)

    pub members : (k : ℕ) → (wanted : Bool) → Exprs → Exprs
    members k wanted no_exprs = no_exprs
    members k wanted (more_exprs e no_exprs) = more_exprs (expr k wanted e) no_exprs
    members k wanted (more_exprs e (more_exprs f es)) =
        more_exprs (expr k false e) (members (k + length (kept false e)) wanted (more_exprs f es))

    -- the type of a comma expression is that of its last member, and a marked call whose value isn't wanted has none
    pub type_of_members : (wanted : Bool) → CType → Exprs → CType
    type_of_members wanted t no_exprs = t
    type_of_members wanted t (more_exprs e no_exprs) = type_of (expr 0 wanted e)
    type_of_members wanted t (more_exprs e (more_exprs f es)) = type_of_members wanted t (more_exprs f es)

  abbrev pub maybe : (k : ℕ) → (wanted : Bool) → Maybe → Maybe
  maybe k wanted absent = absent
  maybe k wanted (there e) = there (expr k wanted e)

  abbrev pub kept_of_maybe : (wanted : Bool) → Maybe → List CType
  kept_of_maybe wanted absent = []
  kept_of_maybe wanted (there e) = kept wanted e

  abbrev pub inits : (k : ℕ) → Inits → Inits
  inits k no_inits = no_inits
  inits k (more_inits cell e is) = more_inits cell (expr k true e) (inits (k + length (kept true e)) is)

  abbrev pub kept_of_inits : Inits → List CType
  kept_of_inits no_inits = []
  kept_of_inits (more_inits cell e is) = kept true e ++ kept_of_inits is

  -- ## Statements

  -- the types of the temporaries of a statement's marked calls
  abbrev mutual
    pub kept_of_stmt : Stmt → List CType
    kept_of_stmt (block ss) = kept_of_stmts ss
    kept_of_stmt empty = []
    kept_of_stmt (evaluate e) = kept false e
    kept_of_stmt (declare x is) = kept_of_inits is
    kept_of_stmt (if_else e s t) = kept true e ++ (kept_of_stmt s ++ kept_of_stmt t)
    kept_of_stmt (while_loop e s) = kept true e ++ kept_of_stmt s
    kept_of_stmt (do_loop s e) = kept_of_stmt s ++ kept true e
    kept_of_stmt (for_loop first test step s) =
        kept_of_stmts first ++ (kept_of_maybe true test ++ (kept_of_maybe false step ++ kept_of_stmt s))
    kept_of_stmt (switch_on e gs) = kept true e ++ kept_of_groups gs
    kept_of_stmt break_off = []
    kept_of_stmt continue_on = []
    kept_of_stmt return_void = []
    kept_of_stmt (return_value e) = kept true e

    pub kept_of_stmts : Stmts → List CType
    kept_of_stmts no_stmts = []
    kept_of_stmts (more_stmts s ss) = kept_of_stmt s ++ kept_of_stmts ss

    pub kept_of_groups : Groups → List CType
    kept_of_groups no_groups = []
    kept_of_groups (more_groups ls ss gs) = kept_of_stmts ss ++ kept_of_groups gs

  abbrev mutual
    pub stmt : (k : ℕ) → Stmt → Stmt
    stmt k (block ss) = block (stmts k ss)
    stmt k empty = empty
    stmt k (evaluate e) = evaluate (expr k false e)
    stmt k (declare x is) = declare x (inits k is)
    stmt k (if_else e s t) =
        if_else (expr k true e) (stmt (k + length (kept true e)) s) (stmt (k + length (kept true e) + length (kept_of_stmt s)) t)
    stmt k (while_loop e s) = while_loop (expr k true e) (stmt (k + length (kept true e)) s)
    stmt k (do_loop s e) = do_loop (stmt k s) (expr (k + length (kept_of_stmt s)) true e)
    stmt k (for_loop first test step s) =
        for_loop (stmts k first) (maybe (k + length (kept_of_stmts first)) true test)
        (maybe (k + length (kept_of_stmts first) + length (kept_of_maybe true test)) false step)
        (stmt (k + length (kept_of_stmts first) + length (kept_of_maybe true test) + length (kept_of_maybe false step)) s)
    stmt k (switch_on e gs) = switch_on (expr k true e) (groups (k + length (kept true e)) gs)
    stmt k break_off = break_off
    stmt k continue_on = continue_on
    stmt k return_void = return_void
    stmt k (return_value e) = return_value (expr k true e)

    pub stmts : (k : ℕ) → Stmts → Stmts
    stmts k no_stmts = no_stmts
    stmts k (more_stmts s ss) = more_stmts (stmt k s) (stmts (k + length (kept_of_stmt s)) ss)

    pub groups : (k : ℕ) → Groups → Groups
    groups k no_groups = no_groups
    groups k (more_groups ls ss gs) = more_groups ls (stmts k ss) (groups (k + length (kept_of_stmts ss)) gs)

  -- ## Functions

  -- declarations of the temporaries, which begin the body
  abbrev pub declared_from : (k : ℕ) → List CType → Stmts → Stmts
  declared_from k [] ss = ss
  declared_from k (t ∷ ts) ss = more_stmts (declare k no_inits) (declared_from (suc k) ts ss)

  abbrev pub items_of : Stmt → Stmts
  items_of (block ss) = ss
  items_of s = more_stmts s no_stmts

  abbrev pub body_from : (k : ℕ) → Stmts → Stmt
  body_from k ss = block (declared_from k (kept_of_stmts ss) (stmts k ss))

  abbrev pub instrumented_function : Function → Function
  instrumented_function f = record {
    name = f.name;
    ctype = f.ctype;
    variables = f.variables ++ kept_of_stmt f.body;
    body = body_from (length f.variables) (items_of f.body);
  }

  abbrev pub instrumented_program : Program
  instrumented_program = record p { functions = map instrumented_function p.functions }
