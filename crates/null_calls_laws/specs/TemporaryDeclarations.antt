-- The declarations of temporaries that begin a block (C99 6.7).
use Rattle.std.specs.Prelude.{◌≡◌, ℕ, suc, ◌+◌, true, List, [], ◌∷◌, ◌++◌, map, length}
use Rattle.c_tree.specs.Tree.{CType, Stmts, Program}
use Rattle.c_syntax.specs.Tree.{BlockItems}
use Rattle.c_rules.specs.Names.{is_added}
use Rattle.c_rules.specs.Types.{is_scalar}
use Rattle.c_rules.specs.Scopes.{Env, a_local, with_name, Before}
use Rattle.c_rules.specs.Checked.{fine, on, met}
use Rattle.c_rules.specs.Declarators.{new_name}
use Rattle.c_rules.specs.Blocks.{StatementTree}
use Rattle.c_rules.specs.Statements.{Around, items_of_block}
use Rattle.null_calls_laws.specs.Temporaries.{Temporary, declared_before}
use Rattle.null_calls_laws.specs.InstrumentedPrograms.{declared_from}
use Rattle.null_calls_laws.specs.Spelled.{IsSpelled}

abbrev pub type_of_temporary : Temporary → CType
type_of_temporary x = x.ctype

-- the scope behind temporaries whose numbers begin with k
abbrev pub with_temporaries : Env → (k : ℕ) → List Temporary → Env
with_temporaries env k [] = env
with_temporaries env k (x ∷ xs) = with_temporaries (with_name env x.name (a_local k x.ctype x.ctype)) (suc k) xs

-- each has a scalar type that its spelling gives, and a name of the instrumenter that is new where it is declared
abbrev pub AreNew : Env → (at k : ℕ) → List Temporary → Type 0
AreNew env at k [] = Unit {0}
AreNew env at k (x ∷ xs) =
    (is_scalar x.ctype ≡ true) × IsSpelled env.enums env.whole.tags x.ctype × (is_added x.name ≡ true) × (new_name env (record { name = x.name; at = at }) ≡ fine met) × AreNew (with_name env x.name (a_local k x.ctype x.ctype)) at (suc k) xs

-- what stands behind the declarations, with them before it
abbrev pub behind_declarations : Program → (k : ℕ) → List CType → StatementTree Stmts → StatementTree Stmts
behind_declarations p k ts q = record { tree = declared_from p k ts q.tree; plain = q.plain; added = ts ++ q.added }

-- A block that begins with declarations of temporaries gives what its other items give in the scope behind them, where the temporaries
-- are declared before them and their types stand first among those of the instrumenter's variables.
abbrev pub TemporariesAreDeclared : Type 0
TemporariesAreDeclared =
    (p : Program) (env : Env) (a : Around) (b : Before) (at plain k : ℕ) (xs : List Temporary) (is : BlockItems) → AreNew env at k xs → items_of_block env a b (record { plain = plain; added = k }) (declared_before env.whole.tags at xs is) ≡ on (items_of_block (with_temporaries env k xs) a b (record { plain = plain; added = k + length xs }) is) (λ q. fine (behind_declarations p k (map type_of_temporary xs) q))
