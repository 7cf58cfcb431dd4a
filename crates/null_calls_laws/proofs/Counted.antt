-- Declarations of temporaries count nothing but them.
use Rattle.std.proofs.Common.{◌≡◌, ℕ, suc, ◌+◌, true, List, [], ◌∷◌, ◌++◌, length, Some, if◌then◌else◌, refl, ap, ◌∙◌, arith, append-nil, map}
use Rattle.std.proofs.lemmas.Bool.{false≢true}
use Rattle.c_tree.specs.Tree.{CType, integer, Program}
use Rattle.c_tree.specs.Tree as typed
use Rattle.c_syntax.specs.Tree.{Ident, Spec, Declarator, named, no_init, Decl, BlockItems}
use Rattle.c_rules.specs.Checked.{fine, on, met, gives, Checked, both, fails_with, faulty}
use Rattle.c_rules.specs.Names.{Name, is_added}
use Rattle.c_rules.specs.Types.{is_scalar}
use Rattle.c_rules.specs.Scopes.{Env, a_local, with_name, meaning_or_unknown, Before}
use Rattle.c_rules.specs.Declarators.{name_of, place_or, new_name}
use Rattle.c_rules.specs.Objects.{Object, object_of, object_declared}
use Rattle.c_rules.specs.Variables.{name_or_empty, Next, number_in, past_names, names_of_decl, names_of_block, calls_of_block}
use Rattle.c_rules.specs.Blocks.{behind_named, behind_decl, held_by_object, held_by_named, held_by_decl, held_by_block, within_local, after_decl, StatementTree, bare, one_more, laid_variable, local_of, local_named, local_decl, is_given, some_more}
use Rattle.null_calls_laws.specs.SpelledTypes.{spec_of, declarator_of}
use Rattle.null_calls_laws.specs.Temporaries.{Temporary, declaration_of, declared_before}
use Rattle.null_calls_laws.specs.Spelled.{IsSpelled}
use Rattle.null_calls_laws.specs.TemporaryDeclarations.{with_temporaries, AreNew, type_of_temporary, behind_declarations, TemporariesAreDeclared}
use Rattle.null_calls_laws.proofs.Spellings.{scalar_bare, spelled_name, spelled}
use Rattle.null_calls_laws.proofs.Temporaries.{AllFree}
use Rattle.c_rules.specs.Counts.{past}
use Rattle.c_rules.specs.Expressions.{type_declared}
use Rattle.c_rules.specs.Statements.{items_of_block}

pub scalar_object : (env : Env) (place name : ℕ) (t : CType) → is_scalar t ≡ true → object_of env place name no_init t ≡ fine (record { seen = t; whole = t })
scalar_object env place name (integer i) h = refl
scalar_object env place name (typed.pointer t) h = refl
scalar_object env place name t h = absurd (false≢true h)

past_none : (b : Before) → past b 0 [] ≡ b
past_none b =
    let e : b.sites + 0 ≡ b.sites = omega arith in
    let f : b.cells + 0 ≡ b.cells = omega arith in
    λ i. record { sites = e i; strings = append-nil b.strings i; cells = f i }

module _ (env : Env) (plain k at : ℕ) (x : Temporary) (scalar : is_scalar x.ctype ≡ true) (is : IsSpelled env.enums env.whole.tags x.ctype) (added : is_added x.name ≡ true) (new : new_name env (record { name = x.name; at = at }) ≡ fine met) where
  abbrev ident : Ident
  ident = record { name = x.name; at = at }

  abbrev the_spec : Spec
  the_spec = spec_of env.whole.tags at x.ctype

  abbrev the_declarator : Declarator
  the_declarator = declarator_of env.whole.tags at x.ctype (named at (record { name = x.name; at = at }))

  abbrev next : Next
  next = record { plain = plain; added = k }

  abbrev object : Object
  object = record { seen = x.ctype; whole = x.ctype }

  abbrev declaration : Decl
  declaration = declaration_of env.whole.tags at x

  name : name_of the_declarator ≡ Some ident
  name = spelled_name env.whole.tags at x.ctype (named at ident)

  is_object : object_declared env at the_spec the_declarator ident no_init ≡ fine object
  is_object =
      ap (λ r. on r (object_of env (place_or at the_declarator) at no_init)) (spelled env at x.ctype (named at ident) (scalar_bare x.ctype scalar) is) ∙ scalar_object env (place_or at the_declarator) at x.ctype scalar

  pub behind : behind_decl env next declaration ≡ with_name env x.name (a_local k x.ctype x.ctype)
  behind =
      ap (λ o. behind_named env next at the_spec the_declarator no_init o) name ∙ (ap (λ r. with_name env x.name (meaning_or_unknown (on r (λ o. gives (new_name env ident) (λ _. a_local (number_in next x.name) o.whole o.whole))))) is_object ∙ (ap (λ n. with_name env x.name (meaning_or_unknown (gives n (λ _. a_local (number_in next x.name) x.ctype x.ctype)))) new ∙ ap (λ c. with_name env x.name (a_local (if c then k else plain) x.ctype x.ctype)) added))

  pub numbered : past_names next (names_of_decl declaration) ≡ record { plain = plain; added = suc k }
  numbered =
      ap (λ o. past_names next (name_or_empty o ∷ [])) name ∙ ap (λ c. if c then record { plain = plain; added = suc k } else record { plain = suc plain; added = k }) added

  holds_none : held_by_decl env next declaration ≡ []
  holds_none =
      ap (λ o. held_by_named env at the_spec the_declarator no_init o ++ []) name ∙ ap (λ r. held_by_object env no_init r ++ []) is_object

  abbrev alone : Checked (StatementTree typed.Stmt) → Checked (StatementTree typed.Stmt)
  alone r = fails_with (is_given env x.name (type_declared env at the_spec the_declarator)) 3 (place_or at the_declarator) r

  pub declares : (b : Before) → local_decl env b next declaration ≡ fine (record { tree = typed.more_stmts (typed.declare k typed.no_inits) typed.no_stmts; plain = []; added = x.ctype ∷ [] })
  declares b =
      ap (λ o. both (local_named env b next at the_spec the_declarator no_init o) (fine (bare typed.no_stmts)) (λ p q. fine (one_more p q))) name ∙ (ap (λ r. both (alone (both (new_name env ident) (on r (local_of (within_local env next ident r) b next ident no_init)) (λ _ p. fine p))) (fine (bare typed.no_stmts)) (λ p q. fine (one_more p q))) is_object ∙ (ap (λ n. both (alone (both n (fine (laid_variable x.name (number_in next x.name) x.ctype [])) (λ _ p. fine p))) (fine (bare typed.no_stmts)) (λ p q. fine (one_more p q))) new ∙ ap (λ c. fine (one_more (if c then record { tree = typed.declare (if c then k else plain) typed.no_inits; plain = []; added = x.ctype ∷ [] } else record { tree = typed.declare (if c then k else plain) typed.no_inits; plain = x.ctype ∷ []; added = [] }) (bare typed.no_stmts))) added))

  pub counts_none : (b : Before) → after_decl env b next declaration ≡ b
  counts_none b = ap (past b 0) holds_none ∙ past_none b

-- the strings that a body holds
pub held_behind : (env : Env) (at plain k : ℕ) (xs : List Temporary) (is : BlockItems) → AreNew env at k xs
    → held_by_block env (record { plain = plain; added = k }) (declared_before env.whole.tags at xs is) ≡ held_by_block (with_temporaries env k xs) (record { plain = plain; added = k + length xs }) is
held_behind env at plain k [] is h =
    let e : k ≡ k + 0 = omega arith in
    ap (λ m. held_by_block env (record { plain = plain; added = m }) is) e
held_behind env at plain k (x ∷ xs) is h =
    let inner : Env = with_name env x.name (a_local k x.ctype x.ctype) in
    let rest : BlockItems = declared_before env.whole.tags at xs is in
    let d : Decl = declaration_of env.whole.tags at x in
    let next : Next = record { plain = plain; added = k } in
    let e : suc k + length xs ≡ k + suc (length xs) = omega arith in
    ap (λ ws. ws ++ held_by_block (behind_decl env next d) (past_names next (names_of_decl d)) rest) (holds_none env plain k at x h.0 h.1 h.2 h.3)
    ∙ (ap (λ v. held_by_block v (past_names next (names_of_decl d)) rest) (behind env plain k at x h.0 h.1 h.2 h.3)
    ∙ (ap (λ n. held_by_block inner n rest) (numbered env plain k at x h.0 h.1 h.2 h.3)
    ∙ (held_behind inner at plain (suc k) xs is h.4
    ∙ ap (λ m. held_by_block (with_temporaries inner (suc k) xs) (record { plain = plain; added = m }) is) e)))

-- the names that it declares
pub names_long : (tags : List Name) (at : ℕ) (xs : List Temporary) (is : BlockItems) → length (names_of_block (declared_before tags at xs is)) ≡ length xs + length (names_of_block is)
names_long tags at [] is = (let e : length (names_of_block is) ≡ 0 + length (names_of_block is) = omega arith in e)
names_long tags at (x ∷ xs) is =
    (let rest = names_long tags at xs is in
    let e : suc (length (names_of_block (declared_before tags at xs is))) ≡ suc (length xs) + length (names_of_block is) = omega (arith, rest) in e)

-- its calls
pub calls_behind : (tags : List Name) (at : ℕ) (xs : List Temporary) (is : BlockItems) → calls_of_block (declared_before tags at xs is) ≡ calls_of_block is
calls_behind tags at [] is = refl
calls_behind tags at (x ∷ xs) is = (let e : 0 + calls_of_block (declared_before tags at xs is) ≡ calls_of_block (declared_before tags at xs is) = omega arith in e ∙ calls_behind tags at xs is)

-- and how many of its variables are no temporaries
pub plain_behind : (tags : List Name) (at a b : ℕ) (xs : List Temporary) (is : BlockItems) → AllFree xs → ((n : ℕ) → (past_names (record { plain = a; added = n }) (names_of_block is)).plain ≡ (past_names (record { plain = a; added = b }) (names_of_block is)).plain)
    → (n : ℕ) → (past_names (record { plain = a; added = n }) (names_of_block (declared_before tags at xs is))).plain ≡ (past_names (record { plain = a; added = b }) (names_of_block is)).plain
plain_behind tags at a b [] is f h n = h n
plain_behind tags at a b (x ∷ xs) is f h n =
    let rest : List Name = names_of_block (declared_before tags at xs is) in
    ap (λ o. (past_names (record { plain = a; added = n }) (name_or_empty o ∷ rest)).plain) (spelled_name tags at x.ctype (named at (record { name = x.name; at = at })))
    ∙ (ap (λ c. (past_names (if c then record { plain = a; added = suc n } else record { plain = suc a; added = n }) rest).plain) f.0.added
    ∙ plain_behind tags at a b xs is f.1 h (suc n))

on_same : {A : Type 0} (r : Checked A) → r ≡ on r (λ q. fine q)
on_same (fine a) = refl
on_same (faulty f fs) = refl

put_before : (p : Program) (k : ℕ) (t : CType) (ts : List CType) (r : Checked (StatementTree typed.Stmts)) → both (fine (record { tree = typed.more_stmts (typed.declare k typed.no_inits) typed.no_stmts; plain = []; added = t ∷ [] })) (on r (λ q. fine (behind_declarations p (suc k) ts q))) (λ p q. fine (some_more p q)) ≡ on r (λ q. fine (behind_declarations p k (t ∷ ts) q))
put_before p k t ts (fine q) = refl
put_before p k t ts (faulty f fs) = refl

pub temporaries_are_declared : TemporariesAreDeclared
temporaries_are_declared p env a b at plain k [] is h =
    let e : k ≡ k + 0 = omega arith in
    ap (λ m. items_of_block env a b (record { plain = plain; added = m }) is) e ∙ on_same {A = StatementTree typed.Stmts} (items_of_block env a b (record { plain = plain; added = k + 0 }) is)
temporaries_are_declared p env a b at plain k (x ∷ xs) is h =
    let inner = with_name env x.name (a_local k x.ctype x.ctype) in
    let rest = declared_before env.whole.tags at xs is in
    let first : StatementTree typed.Stmts = record { tree = typed.more_stmts (typed.declare k typed.no_inits) typed.no_stmts; plain = []; added = x.ctype ∷ [] } in
    let after = after_decl env b (record { plain = plain; added = k }) (declaration_of env.whole.tags at x) in
    let past = past_names (record { plain = plain; added = k }) (names_of_decl (declaration_of env.whole.tags at x)) in
    let e : suc k + length xs ≡ k + suc (length xs) = omega arith in
    ap (λ d. both d (items_of_block (behind_decl env (record { plain = plain; added = k }) (declaration_of env.whole.tags at x)) a after past rest) (λ p q. fine (some_more p q))) (declares env plain k at x h.0 h.1 h.2 h.3 b) ∙ (ap (λ v. both (fine first) (items_of_block v a after past rest) (λ p q. fine (some_more p q))) (behind env plain k at x h.0 h.1 h.2 h.3) ∙ (ap (λ c. both (fine first) (items_of_block inner a c past rest) (λ p q. fine (some_more p q))) (counts_none env plain k at x h.0 h.1 h.2 h.3 b) ∙ (ap (λ m. both (fine first) (items_of_block inner a b m rest) (λ p q. fine (some_more p q))) (numbered env plain k at x h.0 h.1 h.2 h.3) ∙ (ap (λ r. both (fine first) r (λ p q. fine (some_more p q))) (temporaries_are_declared p inner a b at plain (suc k) xs is h.4) ∙ (put_before p k x.ctype (map type_of_temporary xs) (items_of_block (with_temporaries inner (suc k) xs) a b (record { plain = plain; added = suc k + length xs }) is) ∙ ap (λ m. on (items_of_block (with_temporaries inner (suc k) xs) a b (record { plain = plain; added = m }) is) (λ q. fine (behind_declarations p k (x.ctype ∷ map type_of_temporary xs) q))) e)))))
