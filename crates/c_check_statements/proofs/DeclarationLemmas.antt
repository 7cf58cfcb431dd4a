-- Declarations in blocks, one after another.
use Rattle.std.proofs.Common.{◌≡◌, ℕ, zero, suc, ◌+◌, ◌<◌, Bool, true, false, not, List, [], ◌∷◌, ◌++◌, length, drop, get_or, Option, Some, None, Result, slice_get, refl, ap, sym, subst, ◌∙◌}
use Rattle.std.specs.Prelude.{is_some, is_none}
use Rattle.std.proofs.lemmas.List.{drop_more}
use Rattle.c_check_declarations.specs.CheckError.{CheckError}
use Rattle.c_check_declarations.specs.Agreement.{Names, AgreesWith}
use Rattle.c_check_declarations.proofs.Parts.{names_on, names_first, names_second}
use Rattle.c_check_bodies.specs.declared.statement_tree.StatementTree.{StatementTree as StatementTreeOfCode}
use Rattle.c_check_bodies.specs.StatementTreeView.{statement_tree_of}
use Rattle.c_check_statements.specs.Ruled.{given_seen, local_as}
use Rattle.c_rules.specs.Blocks.{StatementTree, after_part, alone, behind_local, behind_part, held_by_part, held_by_parts, given_at, is_given, local, local_named, local_of, local_part, local_parts, one_more, past_part, some_more, within_local}
use Rattle.c_rules.specs.Checked.{Checked, fine, faulty, faults, both, gives, on, demand, and_also, fails_with, Met, met}
use Rattle.c_rules.specs.Codes.{C2, C3, C11, C12}
use Rattle.c_rules.specs.Counts.{past}
use Rattle.c_rules.specs.Declarators.{new_name, place_or}
use Rattle.c_rules.specs.Expressions.{type_declared}
use Rattle.c_rules.specs.Initialisers.{Slots, copies, each, calls_of_maybe_init, held, held_by, held_in_turn, slots}
use Rattle.c_rules.specs.Names.{Name, number_among, is_among, given_names, given_types, is_given_type, may_be_declared}
use Rattle.c_rules.specs.Objects.{Object, object_declared, object_of}
use Rattle.c_rules.specs.Scopes.{Env, Before, Meaning, a_local, meaning_or_unknown, with_name, declared_here}
use Rattle.c_rules.specs.Variables.{Next, calls_of_parts, number_in}
use Rattle.c_check_expressions.proofs.NodeLemmas.{past_past}
use Rattle.c_check_expressions.proofs.Turns.{next_fine, next_fails}
use Rattle.c_check_statements.proofs.StatementLemmas.{onto_laid, more_assoc}
use Rattle.c_syntax.specs.declared.tree.DeclPart.{DeclPart}
use Rattle.c_syntax.specs.Tree as syntax
use Rattle.c_syntax.specs.Tree.{Ident, Init, one, list, MaybeInit, no_init, an_init, Parts, more_parts, Spec, Declarator}
use Rattle.c_syntax.specs.UnitView.{maybe_init_of, parts_of}
use Rattle.c_syntax.specs.View.{declarator_of}
use Rattle.c_tree.specs.Tree as typed
use Rattle.c_tree.specs.Tree.{CType, void, integer, pointer, array, struct, function}
use Rattle.c_rules.proofs.Modes.{first_fine}

-- ## Strings that an initialiser holds, where further names are declared

slots_named : (env : Env) (x : Name) (m : Meaning) (t : CType) → slots (with_name env x m) t ≡ slots env t
slots_named env x m void = refl
slots_named env x m (integer i) = refl
slots_named env x m (pointer t) = refl
slots_named env x m (array t n) = refl
slots_named env x m (struct s) = refl
slots_named env x m (function t ts) = refl

mutual
  held_named : (env : Env) (x : Name) (m : Meaning) (t : CType) (i : Init) → held (with_name env x m) t i ≡ held env t i
  held_named env x m t (one at e) = refl
  held_named env x m t (list at is) = ap (λ s. held_in_turn (with_name env x m) s is) (slots_named env x m t) ∙ turns_named env x m (slots env t) is

  turns_named : (env : Env) (x : Name) (m : Meaning) (s : Slots) (is : syntax.Inits) → held_in_turn (with_name env x m) s is ≡ held_in_turn env s is
  turns_named env x m (copies zero t) syntax.no_inits = refl
  turns_named env x m (copies (suc n) t) syntax.no_inits = refl
  turns_named env x m (each []) syntax.no_inits = refl
  turns_named env x m (each (t ∷ ts)) syntax.no_inits = refl
  turns_named env x m (copies zero t) (syntax.more_inits i is) = refl
  turns_named env x m (copies (suc n) t) (syntax.more_inits i is) = λ j. held_named env x m t i j ++ turns_named env x m (copies n t) is j
  turns_named env x m (each []) (syntax.more_inits i is) = refl
  turns_named env x m (each (t ∷ ts)) (syntax.more_inits i is) = λ j. held_named env x m t i j ++ turns_named env x m (each ts) is j

pub held_within : (env : Env) (x : Name) (m : Meaning) (t : CType) (i : MaybeInit) → held_by (with_name env x m) t i ≡ held_by env t i
held_within env x m t no_init = refl
held_within env x m t (an_init i) = held_named env x m t i

-- ## Declarators

pub parts_at : (ps : List DeclPart) (i : ℕ) (p : DeclPart) → i < length ps → p ≡ get_or ps i p → parts_of (drop i ps) ≡ more_parts (declarator_of p.declarator) (maybe_init_of p.init) (parts_of (drop (i + 1) ps))
parts_at ps i p lt at =
    ap parts_of (drop_more ps i p lt) ∙ ap (λ q. more_parts (declarator_of q.declarator) (maybe_init_of q.init) (parts_of (drop (i + 1) ps))) (sym at)

module _ (at : ℕ) (s : Spec) (ps : List DeclPart) (i : ℕ) (p : DeclPart) where
  -- one more of them
  pub part_more : (env env' : Env) (b b' : Before) (next next' : Next) (d new : StatementTree typed.Stmts) (single : StatementTree typed.Stmt) (all : Checked (StatementTree typed.Stmts)) → i < length ps → p ≡ get_or ps i p
      → all ≡ onto_laid d (local_parts env b next at s (parts_of (drop i ps))) → local_part env b next at s (declarator_of p.declarator) (maybe_init_of p.init) ≡ fine single
      → env' ≡ behind_part env next at s (declarator_of p.declarator) (maybe_init_of p.init) → b' ≡ after_part env b at s (declarator_of p.declarator) (maybe_init_of p.init) → next' ≡ past_part next (declarator_of p.declarator) → new ≡ some_more d (alone single)
      → all ≡ onto_laid new (local_parts env' b' next' at s (parts_of (drop (i + 1) ps)))
  part_more env env' b b' next next' d new single all lt is before given meant counted numbered grown =
      let rest : Parts = parts_of (drop (i + 1) ps) in
      let behind : Checked (StatementTree typed.Stmts) = local_parts (behind_part env next at s (declarator_of p.declarator) (maybe_init_of p.init)) (after_part env b at s (declarator_of p.declarator) (maybe_init_of p.init)) (past_part next (declarator_of p.declarator)) at s rest in
      next_fine all (local_parts env b next at s (parts_of (drop i ps))) (local_part env b next at s (declarator_of p.declarator) (maybe_init_of p.init)) behind (λ u q. fine (one_more u q)) (λ q. fine (some_more d q)) before
      (ap (λ r. local_parts env b next at s r) (parts_at ps i p lt is)) single (λ q. fine (some_more (some_more d (alone single)) q)) given (λ q. ap fine (sym (more_assoc d (alone single) q)))
      ∙ (λ j. onto_laid (sym grown j) (local_parts (sym meant j) (sym counted j) (sym numbered j) at s rest))

  -- a demand that fails in the next one
  pub part_fails : (e : CheckError) (env : Env) (b : Before) (next : Next) (d : StatementTree typed.Stmts) (all : Checked (StatementTree typed.Stmts)) → i < length ps → p ≡ get_or ps i p
      → all ≡ onto_laid d (local_parts env b next at s (parts_of (drop i ps))) → Names e (faults (local_part env b next at s (declarator_of p.declarator) (maybe_init_of p.init))) → Names e (faults all)
  part_fails e env b next d all lt is before n =
      let rest : Parts = parts_of (drop (i + 1) ps) in
      let behind : Checked (StatementTree typed.Stmts) = local_parts (behind_part env next at s (declarator_of p.declarator) (maybe_init_of p.init)) (after_part env b at s (declarator_of p.declarator) (maybe_init_of p.init)) (past_part next (declarator_of p.declarator)) at s rest in
      next_fails all (local_parts env b next at s (parts_of (drop i ps))) (local_part env b next at s (declarator_of p.declarator) (maybe_init_of p.init)) behind (λ u q. fine (one_more u q)) (λ q. fine (some_more d q)) before (ap (λ r. local_parts env b next at s r) (parts_at ps i p lt is)) e n

  pub part_counted : (env env' : Env) (b b' whole : Before) (next next' : Next) → i < length ps → p ≡ get_or ps i p
      → whole ≡ past b (calls_of_parts (parts_of (drop i ps))) (held_by_parts env next at s (parts_of (drop i ps)))
      → env' ≡ behind_part env next at s (declarator_of p.declarator) (maybe_init_of p.init) → b' ≡ after_part env b at s (declarator_of p.declarator) (maybe_init_of p.init) → next' ≡ past_part next (declarator_of p.declarator)
      → whole ≡ past b' (calls_of_parts (parts_of (drop (i + 1) ps))) (held_by_parts env' next' at s (parts_of (drop (i + 1) ps)))
  part_counted env env' b b' whole next next' lt is before meant counted numbered =
      let rest : Parts = parts_of (drop (i + 1) ps) in
      let d = declarator_of p.declarator in
      let m = maybe_init_of p.init in
      before
      ∙ (ap (λ r. past b (calls_of_parts r) (held_by_parts env next at s r)) (parts_at ps i p lt is)
      ∙ (sym (past_past b (calls_of_maybe_init m) (calls_of_parts rest) (held_by_part env at s d m) (held_by_parts (behind_part env next at s d m) (past_part next d) at s rest))
      ∙ (λ j. past (sym counted j) (calls_of_parts rest) (held_by_parts (sym meant j) (sym numbered j) at s rest))))

-- ## Demands on one variable

module _ (e : CheckError) (env : Env) (b : Before) (next : Next) (x : Ident) (m : MaybeInit) (r : Checked Object) where
  abbrev within : Object → Checked (StatementTree typed.Stmt)
  within = local_of (within_local env next x r) b next x m

  pub name_fails : Names e (faults (new_name env x)) → Names e (faults (local env b next x m r))
  name_fails h = names_first e (new_name env x) (on r within) (λ _ p. fine p) h

  pub object_fails : Names e (faults r) → Names e (faults (local env b next x m r))
  object_fails h = names_second e (new_name env x) (on r within) (λ _ p. fine p) (names_on e r within h)

-- one that is fine, with its object
module _ (env : Env) (next : Next) (x : Ident) (number : ℕ) (o : Object) (r : Checked Object) (u : Met) (free : new_name env x ≡ fine u) (is : r ≡ fine o) (same : number ≡ number_in next x.name) where
  itself : (p : Checked (StatementTree typed.Stmt)) → both (fine u) p (λ _ q. fine q) ≡ p
  itself (fine q) = refl
  itself (faulty f fs) = refl

  pub local_is : (b : Before) (m : MaybeInit) → local_as env b number x m o ≡ local env b next x m r
  local_is b m =
      ap (λ n. local_as env b n x m o) same
      ∙ (sym (itself (local_as env b (number_in next x.name) x m o))
      ∙ (λ i. both (sym free i) (on (sym is i) (local_of (with_name env x.name (meaning_or_unknown (on (sym is i) (λ p. gives (sym free i) (λ _. a_local (number_in next x.name) p.seen p.whole))))) b next x m)) (λ _ q. fine q)))

  pub behind_is : with_name env x.name (a_local number o.whole o.whole) ≡ behind_local env next x r
  behind_is =
      ap (λ n. with_name env x.name (a_local n o.whole o.whole)) same
      ∙ (λ i. with_name env x.name (meaning_or_unknown (on (sym is i) (λ p. gives (sym free i) (λ _. a_local (number_in next x.name) p.whole p.whole)))))

-- ## Functions that are declared as they are given

module _ (env : Env) (x : Ident) where
  abbrev number : Option ℕ
  number = number_among (given_names env.whole.mode) x.name

  same_answer : (a b : Bool) → fine a ≡ fine b → a ≡ b
  same_answer a b e = cc

  pub seen_given : (r : Checked CType) (g : Bool) → given_seen env r number ≡ fine g → g ≡ is_given env x.name r
  seen_given r g h = by_number number refl r h
    where
      by_number : (n : Option ℕ) → number ≡ n → (r : Checked CType) → given_seen env r n ≡ fine g → g ≡ is_given env x.name r
      by_number None e (fine t) q = sym (same_answer false g q) ∙ sym (ap (λ o. given_at env.whole.mode o t) e)
      by_number None e (faulty f fs) q = sym (same_answer false g q)
      by_number (Some i) e (fine t) q = sym (same_answer (is_given_type (slice_get (given_types env.whole.mode) i) t) g q) ∙ sym (ap (λ o. given_at env.whole.mode o t) e)
      by_number (Some i) e (faulty f fs) q = absurd (cc)

  pub seen_fails : (e : CheckError) (r : Checked CType) → Names e (faults (given_seen env r number)) → Names e (faults r)
  seen_fails e r h = by_number number r h
    where
      by_number : (n : Option ℕ) (r : Checked CType) → Names e (faults (given_seen env r n)) → Names e (faults r)
      by_number None r q = names_on e (fine false) (λ _. r) q
      by_number (Some i) (fine t) q = q
      by_number (Some i) (faulty f fs) q = q

  -- its name is no variable's
  name_taken : (n : Option ℕ) (t : CType) → given_at env.whole.mode n t ≡ true → is_some n ≡ true
  name_taken None t h = h
  name_taken (Some i) t h = refl

  abbrev taken : Bool
  taken = is_among (given_names env.whole.mode) x.name

  not_free : taken ≡ true → (m : Met) → new_name env x ≡ fine m → ⊥
  not_free h m e = no (demand (may_be_declared env.whole.mode x.name) C12 x.at met) (demand (is_none (declared_here env x.name)) C2 x.at met) (subst (λ t. and_also (and_also (demand (may_be_declared env.whole.mode x.name) C12 x.at met) (demand (not t) C11 x.at met)) (demand (is_none (declared_here env x.name)) C2 x.at met) ≡ fine m) h e)
    where
      no : (p q : Checked Met) → and_also (and_also p (demand false C11 x.at met)) q ≡ fine m → ⊥
      no (fine a) (fine b) e = absurd (cc)
      no (fine a) (faulty f fs) e = absurd (cc)
      no (faulty g gs) q e = absurd (cc)

  module _ (b : Before) (next : Next) (at : ℕ) (s : Spec) (d : Declarator) (m : MaybeInit) where
    abbrev typed_as : Checked CType
    typed_as = type_declared env at s d

    abbrev variable : Checked (StatementTree typed.Stmt)
    variable = local env b next x m (object_declared env at s d x m)

    -- such a declaration fails with one demand alone
    pub given_fails : true ≡ is_given env x.name typed_as → faults (local_named env b next at s d m (Some x)) ≡ record { code = 3; at = place_or at d } ∷ []
    given_fails g = by_given (is_given env x.name typed_as) variable (sym g) (fails typed_as g)
      where
        fails : (r : Checked CType) → true ≡ is_given env x.name r → (p : StatementTree typed.Stmt) → variable ≡ fine p → ⊥
        fails (fine t) h p e =
            let k : taken ≡ true = name_taken number t (sym h) in
            let f = first_fine (new_name env x) (on (object_declared env at s d x m) (local_of (within_local env next x (object_declared env at s d x m)) b next x m)) (λ _ q. fine q) p e in
            not_free k f.0 f.2
        fails (faulty f fs) h p e = absurd (let no : true ≡ false = h in cc)

        by_given : (t : Bool) (v : Checked (StatementTree typed.Stmt)) → t ≡ true → ((p : StatementTree typed.Stmt) → v ≡ fine p → ⊥) → faults (fails_with t C3 (place_or at d) v) ≡ record { code = 3; at = place_or at d } ∷ []
        by_given true (fine p) h never = absurd (never p refl)
        by_given true (faulty f fs) h never = refl
        by_given false v h never = absurd (let bad : false ≡ true = h in cc)

    -- any other one fails as a variable does
    pub variable_fails : (e : CheckError) → Names e (faults typed_as) → Names e (faults (local_named env b next at s d m (Some x)))
    variable_fails e h = by_type typed_as refl h
      where
        by_given : (v : Checked (StatementTree typed.Stmt)) → Names e (faults v) → Names e (faults (fails_with false C3 (place_or at d) v))
        by_given (fine p) n = n
        by_given (faulty f fs) n = n

        by_type : (r : Checked CType) → typed_as ≡ r → Names e (faults r) → Names e (faults (local_named env b next at s d m (Some x)))
        by_type (fine t) q n = names_on e (fine t) (λ _. local_named env b next at s d m (Some x)) n
        by_type (faulty f fs) q n =
            subst (λ t. Names e (faults (fails_with t C3 (place_or at d) variable))) (sym (ap (is_given env x.name) q))
            (by_given variable (object_fails e env b next x m (object_declared env at s d x m) (names_on e typed_as (object_of env (place_or at d) x.at m) (subst (λ r. Names e (faults r)) (sym q) n))))

    pub other_judged : (result : Result StatementTreeOfCode CheckError) → false ≡ is_given env x.name typed_as → AgreesWith statement_tree_of result variable → AgreesWith statement_tree_of result (local_named env b next at s d m (Some x))
    other_judged result g h = subst (λ t. AgreesWith statement_tree_of result (fails_with t C3 (place_or at d) variable)) g (by_given result variable h)
      where
        by_given : (o : Result StatementTreeOfCode CheckError) (v : Checked (StatementTree typed.Stmt)) → AgreesWith statement_tree_of o v → AgreesWith statement_tree_of o (fails_with false C3 (place_or at d) v)
        by_given o (fine p) n = n
        by_given o (faulty f fs) n = n
