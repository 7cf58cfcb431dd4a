-- What is known of the calls and of the temporaries of an expression where null calls are to stand round its marked calls.
use Rattle.std.specs.Prelude.{◌≡◌, ℕ, suc, ◌+◌, Bool, List, [], ◌∷◌, Option, None, Some, if◌then◌else◌}
use Rattle.c_tree.specs.Tree.{CType, void, pointer, function, CTypes, Program, type_of}
use Rattle.c_tree.specs.Functions.{unsigned_int, of_one, called_type}
use Rattle.c_tree.specs.Operands.{IsResult}
use Rattle.c_meaning.specs.Mentions.{Direct, Through}
use Rattle.c_meaning.specs.CallGraph.{is_marked}
use Rattle.c_syntax.specs.Tree.{Expr, a_name, an_int, a_char, a_str, comma, sizeof_type, cast, call, member, postfix, prefix, unary, index, binary, assign, conditional, Exprs, no_exprs, more_exprs, TypeName, type_name}
use Rattle.c_syntax.specs.Tree.{pre_increment, pre_decrement, sizeof}
use Rattle.c_rules.specs.Checked.{fine}
use Rattle.c_rules.specs.Names.{Name}
use Rattle.c_rules.specs.Scopes.{Env, Binding, a_local, a_function, lookup, Before}
use Rattle.c_rules.specs.Counts.{place_of, calls, after, after_designator}
use Rattle.c_rules.specs.PostfixExpressions.{Designator, direct, through, Callee}
use Rattle.c_rules.specs.Declarators.{name_of}
use Rattle.c_rules.specs.Expressions.{value_at, callee, tree}
use Rattle.null_calls_laws.specs.MarkedCalls.{Called, Sites}
use Rattle.null_calls_laws.specs.Temporaries.{pre_name, post_name, Temporary}

-- ## Calls

-- what the instrumenter has to know of a call
abbrev pub called_by : Program → Designator → CType → CTypes → Option Called
called_by p (direct f) t ts = if is_marked p (Direct f) then Some (record { pointer_type = None; returns = t; parameters = ts }) else None
called_by p (through e) t ts = if is_marked p (Through (type_of e)) then Some (record { pointer_type = Some (type_of e); returns = t; parameters = ts }) else None

-- what is called has these types in the program
abbrev pub HasTypes : Program → Designator → CType → CTypes → Type 0
HasTypes p (direct f) t ts = called_type p f ≡ Some (function t ts)
HasTypes p (through e) t ts = type_of e ≡ pointer (function t ts)

-- at the site stands a call of what is called there
pub record IsCalledAt (p : Program) (sites : Sites) (site : ℕ) (f : Callee) : Type 0 where
  pub entry : sites site ≡ called_by p f.designator f.returns f.parameters
  pub types : HasTypes p f.designator f.returns f.parameters
  pub result : IsResult f.returns

-- ## Expressions

-- the name of a type declares no name
abbrev pub IsAbstract : TypeName → Type 0
IsAbstract (type_name at s d) = name_of d ≡ None

-- each call stands at its site
module _ (p : Program) (sites : Sites) (env : Env) where
  abbrev mutual
    pub AreTabled : Before → Expr → Type 0
    AreTabled b (a_name at x) = Unit {0}
    AreTabled b (an_int at n u) = Unit {0}
    AreTabled b (a_char at c) = Unit {0}
    AreTabled b (a_str at w) = Unit {0}
    AreTabled b (comma at es) = AllTabled b es
    AreTabled b (sizeof_type at t) = Unit {0}
    AreTabled b (cast at t e) = IsAbstract t × AreTabled b e
    AreTabled b (call at d es) =
        ((f : Callee) → callee env at d (value_at env (place_of d) (tree env b d)) ≡ fine f → IsCalledAt p sites (b.sites + calls d) f) × AreTabled b d × AllTabled (after_designator b d) es
    AreTabled b (member at how e x) = AreTabled b e
    AreTabled b (postfix at op e) = AreTabled b e
    AreTabled b (prefix at pre_increment e) = AreTabled b e
    AreTabled b (prefix at pre_decrement e) = AreTabled b e
    AreTabled b (prefix at sizeof e) = Unit {0}
    AreTabled b (unary at op e) = AreTabled b e
    AreTabled b (index at e f) = AreTabled b e × AreTabled (after b e) f
    AreTabled b (binary at op e f) = AreTabled b e × AreTabled (after b e) f
    AreTabled b (assign at op e f) = AreTabled b e × AreTabled (after b e) f
    AreTabled b (conditional at c e f) = AreTabled b c × AreTabled (after b c) e × AreTabled (after (after b c) e) f

    pub AllTabled : Before → Exprs → Type 0
    AllTabled b no_exprs = Unit {0}
    AllTabled b (more_exprs e es) = AreTabled b e × AllTabled (after b e) es

-- ## Temporaries and null calls in scope

-- the temporaries are variables with the numbers from k on
abbrev pub AreFound : List Binding → (k : ℕ) → List Temporary → Type 0
AreFound names k [] = Unit {0}
AreFound names k (x ∷ xs) = ((b : Binding) × (lookup names x.name ≡ Some b) × (b.means ≡ a_local k x.ctype x.ctype)) × AreFound names (suc k) xs

-- a null call is a function of its type
abbrev pub IsNullCall : List Binding → Name → Type 0
IsNullCall names x = (b : Binding) × (d : Bool) × (lookup names x ≡ Some b) × (b.means ≡ a_function (of_one void unsigned_int) d)

pub record AreNullCalls (names : List Binding) : Type 0 where
  pub before : IsNullCall names pre_name
  pub behind : IsNullCall names post_name
