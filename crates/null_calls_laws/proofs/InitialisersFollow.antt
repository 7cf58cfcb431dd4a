-- Initialisers of variables follow.
use Rattle.std.proofs.Common.{◌≡◌, ℕ, suc, ◌+◌, ◌*◌, ◌≤◌, true, false, ◌&&◌, if◌then◌else◌, List, [], ◌∷◌, ◌++◌, Option, Some, None, refl, ap, ap₂, sym, subst, arith, is_some}
use Rattle.std.proofs.lemmas.Bool.{leb-true}
use Rattle.c_tree.specs.Tree.{CType, Program}
use Rattle.c_syntax.specs.Tree.{Expr, a_str, call, Exprs, Init, one, list, Inits, no_inits, more_inits, an_init, no_parts, more_parts, decl, no_storage, nothing, no_block_items, block_decl}
use Rattle.c_syntax.specs.Tree as syntax
use Rattle.c_rules.specs.Scopes.{Env, Before, layout_of}
use Rattle.c_rules.specs.Counts.{calls, string_cells, past}
use Rattle.c_rules.specs.Expressions.{value}
use Rattle.c_rules.specs.Initialisers.{Slots, copies, each, slots, capacity, takes_list, count_inits, text_of, is_char_array, held, held_in_turn, calls_of_init, after_init, cells_of_one, cells_of_list, initialised, in_turn}
use Rattle.null_calls_laws.specs.MarkedCalls.{Called, Sites}
use Rattle.null_calls_laws.specs.Temporaries.{Temporary}
use Rattle.null_calls_laws.specs.InstrumentedExpressions.{call_where, expr, arguments, kept}
use Rattle.null_calls_laws.specs.InstrumentedStatements.{init, inits, kept_of_init, kept_of_inits}
use Rattle.null_calls_laws.specs.TypedAlike.{More, plain_scope, instrumented_scope}
use Rattle.null_calls_laws.specs.Counts.{Near}
use Rattle.null_calls_laws.specs.CountedStatements.{InitNamed, InitsNamed}
use Rattle.null_calls_laws.proofs.ExpressionCounts.{counts_stay}
use Rattle.null_calls_laws.proofs.StatementCounts.{blocks_stay}
use Rattle.null_calls_laws.specs.Tabled.{AreFound}
use Rattle.null_calls_laws.specs.Follow.{types_of, Goes}
use Rattle.null_calls_laws.proofs.Forms.{types_both, found_first, found_rest, value_goes}
use Rattle.null_calls_laws.proofs.AllCalls.{all_expressions_go}
use Rattle.null_calls_laws.specs.Standing.{stand_beside}
use Rattle.null_calls_laws.specs.Initialisers.{InitTabled, InitsTabled, InitialisersGo}
use Rattle.null_calls_laws.proofs.Cells.{CellsGo, both_go, cells_follow, zeros_go, expression_goes, list_goes}
use Rattle.null_calls_laws.proofs.Reserved.{AreReserved, reserved_both, found_stay, expr_reserved}

-- ## What the syntax alone tells

text_of_call : (at site : ℕ) (o : Option Called) (d : Expr) (es : Exprs) → text_of (call_where at site true o d es) ≡ None
text_of_call at site None d es = refl
text_of_call at site (Some c) d es = refl

module _ (sites : Sites) where
  pub text_same : (x : Expr) (b : ℕ) → text_of (expr sites b true x) ≡ text_of x
  text_same (call at d es) b = text_of_call at (b + calls d) (sites (b + calls d)) (expr sites b true d) (arguments sites (suc (b + calls d)) es)
  text_same d b = refl

  -- a string has no temporaries
  string_alone : (x : Expr) (b : ℕ) (w : List ℕ) → text_of x ≡ Some w → types_of (kept sites b true x) ≡ []
  string_alone (a_str at v) b w h = refl
  string_alone y b w h = cc

  pub count_same : (is : Inits) (b : ℕ) → count_inits (inits sites b is) ≡ count_inits is
  count_same no_inits b = refl
  count_same (more_inits i is) b = ap suc (count_same is (b + calls_of_init i))

  -- at most three times as many calls
  pub init_few : (i : Init) (b : ℕ) → InitNamed sites b i → calls_of_init (init sites b i) ≤ 3 * calls_of_init i
  init_few i b h = (let r = (blocks_stay sites b (block_decl (decl 0 no_storage syntax.void (more_parts nothing (an_init i) no_parts)) no_block_items) ((h, tt), tt)).calls_most in omega (arith, r))

  mutual
    pub init_reserved : (i : Init) (b : ℕ) → AreReserved (kept_of_init sites b i)
    init_reserved (one at e) b = expr_reserved sites e b true
    init_reserved (list at is) b = inits_reserved is b

    inits_reserved : (is : Inits) (b : ℕ) → AreReserved (kept_of_inits sites b is)
    inits_reserved no_inits b = tt
    inits_reserved (more_inits i is) b = reserved_both (kept_of_init sites b i) (kept_of_inits sites (b + calls_of_init i) is) (init_reserved i b) (inits_reserved is (b + calls_of_init i))

-- so much stands before what follows these calls and strings in both
pub near_past : (b b' : Before) (c c' : ℕ) (ws vs : List (List ℕ)) → Near b b' → c' ≤ 3 * c → vs ≡ ws → Near (past b c ws) (past b' c' vs)
near_past b b' c c' ws vs n few h = record {
  sites = (let l = n.sites in omega (arith, few, l));
  strings = ap₂ (λ xs ys. xs ++ ys) n.strings h;
  cells = ap₂ (λ i xs. i + string_cells xs) n.cells h;
}

module _ (sites : Sites) (env : Env) (w : More) where
  -- ## Strings

  mutual
    pub held_same : (i : Init) (t : CType) (b : ℕ) → InitNamed sites b i → held (instrumented_scope env w) t (init sites b i) ≡ held (plain_scope env) t i
    held_same (one at e) t b h = ap₂ (λ o ws. if is_char_array t && is_some o then [] else ws) (text_same sites e b) (counts_stay sites b true e h).strings_same
    held_same (list at is) t b h = held_in_turn_same is (slots (plain_scope env) t) b h

    held_in_turn_same : (is : Inits) (s : Slots) (b : ℕ) → InitsNamed sites b is → held_in_turn (instrumented_scope env w) s (inits sites b is) ≡ held_in_turn (plain_scope env) s is
    held_in_turn_same no_inits s b h = refl
    held_in_turn_same (more_inits i is) (copies (suc n) t) b h = ap₂ (λ ws vs. ws ++ vs) (held_same i t b h.0) (held_in_turn_same is (copies n t) (b + calls_of_init i) h.1)
    held_in_turn_same (more_inits i is) (each (t ∷ ts)) b h = ap₂ (λ ws vs. ws ++ vs) (held_same i t b h.0) (held_in_turn_same is (each ts) (b + calls_of_init i) h.1)
    held_in_turn_same (more_inits i is) x b h = refl

  near_init : (i : Init) (t : CType) (b b' : Before) → InitNamed sites b.sites i → Near b b' → Near (after_init (plain_scope env) b t i) (after_init (instrumented_scope env w) b' t (init sites b.sites i))
  near_init i t b b' h n = near_past b b' _ _ _ _ n (init_few sites i b.sites h) (held_same i t b.sites h)

-- ## Initialisers

module _ (p : Program) (sites : Sites) (env : Env) (w : More) (goes : (x : Expr) → Goes p sites env w x) where
  mutual
    init_goes : (i : Init) (t : CType) (b b' : Before) (k : ℕ) → InitNamed sites b.sites i → InitTabled p sites (plain_scope env) b t i → AreFound w.names k (kept_of_init sites b.sites i) → Near b b' → CellsGo p k (types_of (kept_of_init sites b.sites i)) (initialised (plain_scope env) b false t i) (initialised (instrumented_scope env w) b' false t (init sites b.sites i))
    init_goes (one at e) t b b' k n c f r =
        let ts : List CType = types_of (kept sites b.sites true e) in
        subst (λ o. CellsGo p k ts (initialised (plain_scope env) b false t (one at e)) (cells_of_one false at t o (value (instrumented_scope env w) b' (expr sites b.sites true e)))) (sym (text_same sites e b.sites))
        (expression_goes p k ts at t (text_of e) (value (plain_scope env) b e) (value (instrumented_scope env w) b' (expr sites b.sites true e)) (string_alone sites e b.sites) (value_goes p sites env w e (goes e).wanted b b' k n c f r))
    init_goes (list at is) t b b' k n c f r =
        let ts : List CType = types_of (kept_of_inits sites b.sites is) in
        subst (λ m. CellsGo p k ts (initialised (plain_scope env) b false t (list at is)) (cells_of_list (takes_list t) at (capacity (slots (plain_scope env) t)) m (in_turn (instrumented_scope env w) b' false (slots (plain_scope env) t) (inits sites b.sites is)))) (sym (count_same sites is b.sites))
        (list_goes p k ts (takes_list t) at (capacity (slots (plain_scope env) t)) (count_inits is) (in_turn (plain_scope env) b false (slots (plain_scope env) t) is) (in_turn (instrumented_scope env w) b' false (slots (plain_scope env) t) (inits sites b.sites is)) (λ e. inits_go is (slots (plain_scope env) t) b b' k n c f r (leb-true (count_inits is) (capacity (slots (plain_scope env) t)) e)))

    inits_go : (is : Inits) (s : Slots) (b b' : Before) (k : ℕ) → InitsNamed sites b.sites is → InitsTabled p sites (plain_scope env) b s is → AreFound w.names k (kept_of_inits sites b.sites is) → Near b b' → count_inits is ≤ capacity s → CellsGo p k (types_of (kept_of_inits sites b.sites is)) (in_turn (plain_scope env) b false s is) (in_turn (instrumented_scope env w) b' false s (inits sites b.sites is))
    inits_go no_inits s b b' k n c f r few = zeros_go p k (layout_of (plain_scope env)) s
    inits_go (more_inits i is) (copies (suc m) t) b b' k n c f r few =
        let xs : List Temporary = kept_of_init sites b.sites i in
        let ys : List Temporary = kept_of_inits sites (b.sites + calls_of_init i) is in
        both_go p k _ _ _ (sym (types_both xs ys)) _ _ _ _ (init_goes i t b b' k n.0 c.0 (found_first w.names k xs ys f) r) (inits_go is (copies m t) _ _ _ n.1 c.1 (found_rest w.names k xs ys f) (near_init sites env w i t b b' n.0 r) (omega (arith, few)))
    inits_go (more_inits i is) (each (t ∷ ts)) b b' k n c f r few =
        let xs : List Temporary = kept_of_init sites b.sites i in
        let ys : List Temporary = kept_of_inits sites (b.sites + calls_of_init i) is in
        both_go p k _ _ _ (sym (types_both xs ys)) _ _ _ _ (init_goes i t b b' k n.0 c.0 (found_first w.names k xs ys f) r) (inits_go is (each ts) _ _ _ n.1 c.1 (found_rest w.names k xs ys f) (near_init sites env w i t b b' n.0 r) (omega (arith, few)))
    inits_go (more_inits i is) x b b' k n c f r few = absurd (omega (arith, few))

pub initialisers_go : InitialisersGo
initialisers_go p sites names e f (stand_beside env w u m n s) b b' k t i named tabled found near =
    record {
      cells = cells_follow p k (types_of (kept_of_init sites b.sites i)) (initialised (plain_scope env) b false t i) (initialised (instrumented_scope env w) b' false t (init sites b.sites i))
          (init_goes p sites env w (all_expressions_go p sites env w u m n) i t b b' k named tabled (found_stay names w.names s k (kept_of_init sites b.sites i) (init_reserved sites i b.sites) found) near);
      near = near_init sites env w i t b b' named near;
    }
