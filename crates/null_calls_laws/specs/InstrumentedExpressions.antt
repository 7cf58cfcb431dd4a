-- Expressions with null calls round their marked calls. Sites are numbered as the rules number them: that of a call is the number of
-- calls whose opening parentheses stand before its own.
use Rattle.std.specs.Prelude.{ℕ, suc, ◌+◌, nat_eq, Bool, true, false, ◌&&◌, List, [], ◌++◌, Option, None, Some, if◌then◌else◌}
use Rattle.c_lexer.specs.declared.punctuator.TheConstants as punctuators
use Rattle.c_meaning.specs.Tree.{CType}
use Rattle.c_rules.specs.Tree.{Expr, a_name, an_int, a_char, a_str, comma, sizeof_type, cast, call, member, postfix, prefix, unary, index, binary, assign, conditional, Exprs, no_exprs, more_exprs, Maybe, absent, there}
use Rattle.c_rules.specs.Tree.{TypeName, type_name, nothing, void}
use Rattle.c_rules.specs.Names.{Name}
use Rattle.c_rules.specs.Counts.{calls, unless_sizeof}
use Rattle.null_calls_laws.specs.MarkedCalls.{Called, Sites}
use Rattle.null_calls_laws.specs.Temporaries.{pre_name, post_name, designator_name, argument_name, result_name, is_kept, Temporary, temporaries_where}

-- the type name of a cast to void (6.5.4), whose operand's value isn't wanted
abbrev pub is_void_type : TypeName → Bool
is_void_type (type_name at void nothing) = true
is_void_type t = false

-- `& * e`, which is e, as if neither operator stood there (6.5.3.2 paragraph 3)
abbrev pub is_address_of_indirection : (op inner : ℕ) → Bool
is_address_of_indirection op inner = nat_eq op punctuators.AMPERSAND && nat_eq inner punctuators.ASTERISK

-- ## A marked call

-- `x = e`
abbrev pub kept_in : (at : ℕ) → Name → Expr → Expr
kept_in at x e = assign at punctuators.ASSIGN (a_name at x) e

-- `x ( siteu )`: a null call
abbrev pub null_call : (at : ℕ) → Name → (site : ℕ) → Expr
null_call at x site = call at (a_name at x) (more_exprs (an_int at site true) no_exprs)

-- the designator is kept where there is a pointer
abbrev pub keep_designator : (at site : ℕ) → Option CType → Expr → Exprs → Exprs
keep_designator at site None d es = es
keep_designator at site (Some t) d es = more_exprs (kept_in at (designator_name site) d) es

-- each argument is kept, from the left to the right
abbrev pub keep_arguments : (at site i : ℕ) → Exprs → Exprs → Exprs
keep_arguments at site i no_exprs es = es
keep_arguments at site i (more_exprs a rest) es =
    more_exprs (kept_in at (argument_name site i) a) (keep_arguments at site (suc i) rest es)

-- the temporaries of the arguments
abbrev pub kept_arguments : (at site i : ℕ) → Exprs → Exprs
kept_arguments at site i no_exprs = no_exprs
kept_arguments at site i (more_exprs a rest) = more_exprs (a_name at (argument_name site i)) (kept_arguments at site (suc i) rest)

-- what is called: the function by its name, or the pointer that was kept
abbrev pub kept_designator : (at site : ℕ) → Option CType → Expr → Expr
kept_designator at site None d = d
kept_designator at site (Some t) d = a_name at (designator_name site)

-- the call, whose result is kept where it is wanted; the null call after it; and then the result
abbrev pub call_and_post : (at site : ℕ) → (kept : Bool) → Expr → Exprs
call_and_post at site false e = more_exprs e (more_exprs (null_call at post_name site) no_exprs)
call_and_post at site true e =
    more_exprs (kept_in at (result_name site) e) (more_exprs (null_call at post_name site) (more_exprs (a_name at (result_name site)) no_exprs))

-- A marked call as a comma expression: the designator and the arguments are kept, then come the null call before it, the call, and the null
-- call after it (Giffin, Jha and Miller 2004).
abbrev pub marked_call : (at site : ℕ) → (wanted : Bool) → Called → Expr → Exprs → Expr
marked_call at site wanted c d es =
    comma at (keep_designator at site c.pointer_type d (keep_arguments at site 0 es (more_exprs (null_call at pre_name site)
    (call_and_post at site (is_kept wanted c.returns) (call at (kept_designator at site c.pointer_type d) (kept_arguments at site 0 es))))))

abbrev pub call_where : (at site : ℕ) → (wanted : Bool) → Option Called → Expr → Exprs → Expr
call_where at site wanted None d es = call at d es
call_where at site wanted (Some c) d es = marked_call at site wanted c d es

-- ## Expressions

-- An expression before which so many calls stand in the unit, and whether its value is wanted: that of a member of a comma expression
-- but the last is not, nor that of the operand of a cast to void, nor that of e in `& * e` where that of the whole is not: both
-- operators are left out there. An operand of sizeof isn't evaluated, and stays.
module _ (sites : Sites) where
  abbrev mutual
    pub expr : (before : ℕ) → (wanted : Bool) → Expr → Expr
    expr b wanted (a_name at x) = a_name at x
    expr b wanted (an_int at n u) = an_int at n u
    expr b wanted (a_char at c) = a_char at c
    expr b wanted (a_str at w) = a_str at w
    expr b wanted (comma at es) = comma at (members b wanted es)
    expr b wanted (sizeof_type at t) = sizeof_type at t
    expr b wanted (cast at t e) = cast at t (if is_void_type t then expr b false e else expr b true e)
    expr b wanted (call at d es) =
        call_where at (b + calls d) wanted (sites (b + calls d)) (expr b true d) (arguments (suc (b + calls d)) es)
    expr b wanted (member at how e x) = member at how (expr b true e) x
    expr b wanted (postfix at op e) = postfix at op (expr b true e)
    expr b wanted (prefix at op e) = prefix at op (unless_sizeof op (expr b true e) e)
    expr b false (unary at op (unary place inner e)) =
        if is_address_of_indirection op inner then expr b false e else unary at op (unary place inner (expr b true e))
    expr b wanted (unary at op e) = unary at op (expr b true e)
    expr b wanted (index at e f) = index at (expr b true e) (expr (b + calls e) true f)
    expr b wanted (binary at op e f) = binary at op (expr b true e) (expr (b + calls e) true f)
    expr b wanted (assign at op e f) = assign at op (expr b true e) (expr (b + calls e) true f)
    expr b wanted (conditional at c e f) =
        conditional at (expr b true c) (expr (b + calls c) true e) (expr (b + calls c + calls e) true f)

    pub arguments : (before : ℕ) → Exprs → Exprs
    arguments b no_exprs = no_exprs
    arguments b (more_exprs e es) = more_exprs (expr b true e) (arguments (b + calls e) es)

    pub members : (before : ℕ) → (wanted : Bool) → Exprs → Exprs
    members b wanted no_exprs = no_exprs
    members b wanted (more_exprs e no_exprs) = more_exprs (expr b wanted e) no_exprs
    members b wanted (more_exprs e (more_exprs f es)) =
        more_exprs (expr b false e) (members (b + calls e) wanted (more_exprs f es))

  abbrev pub maybe : (before : ℕ) → (wanted : Bool) → Maybe → Maybe
  maybe b wanted absent = absent
  maybe b wanted (there e) = there (expr b wanted e)

  -- the temporaries of an expression's marked calls, by their sites
  abbrev mutual
    pub kept : (before : ℕ) → (wanted : Bool) → Expr → List Temporary
    kept b wanted (a_name at x) = []
    kept b wanted (an_int at n u) = []
    kept b wanted (a_char at c) = []
    kept b wanted (a_str at w) = []
    kept b wanted (comma at es) = kept_of_members b wanted es
    kept b wanted (sizeof_type at t) = []
    kept b wanted (cast at t e) = if is_void_type t then kept b false e else kept b true e
    kept b wanted (call at d es) =
        kept b true d ++ (temporaries_where (b + calls d) wanted (sites (b + calls d)) ++ kept_of_arguments (suc (b + calls d)) es)
    kept b wanted (member at how e x) = kept b true e
    kept b wanted (postfix at op e) = kept b true e
    kept b wanted (prefix at op e) = unless_sizeof op (kept b true e) []
    kept b false (unary at op (unary place inner e)) = if is_address_of_indirection op inner then kept b false e else kept b true e
    kept b wanted (unary at op e) = kept b true e
    kept b wanted (index at e f) = kept b true e ++ kept (b + calls e) true f
    kept b wanted (binary at op e f) = kept b true e ++ kept (b + calls e) true f
    kept b wanted (assign at op e f) = kept b true e ++ kept (b + calls e) true f
    kept b wanted (conditional at c e f) =
        kept b true c ++ (kept (b + calls c) true e ++ kept (b + calls c + calls e) true f)

    pub kept_of_arguments : (before : ℕ) → Exprs → List Temporary
    kept_of_arguments b no_exprs = []
    kept_of_arguments b (more_exprs e es) = kept b true e ++ kept_of_arguments (b + calls e) es

    pub kept_of_members : (before : ℕ) → (wanted : Bool) → Exprs → List Temporary
    kept_of_members b wanted no_exprs = []
    kept_of_members b wanted (more_exprs e no_exprs) = kept b wanted e
    kept_of_members b wanted (more_exprs e (more_exprs f es)) =
        kept b false e ++ kept_of_members (b + calls e) wanted (more_exprs f es)

  abbrev pub kept_of_maybe : (before : ℕ) → (wanted : Bool) → Maybe → List Temporary
  kept_of_maybe b wanted absent = []
  kept_of_maybe b wanted (there e) = kept b wanted e
