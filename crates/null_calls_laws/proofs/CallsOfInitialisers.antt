-- The calls of initialisers that are fine stand at their sites.
use Rattle.std.proofs.Common.{append-nil, ℕ, suc, ◌+◌, ◌≤◌, Bool, true, false, List, [], ◌∷◌, ◌++◌, length, nat_le, refl, sym, subst, ◌∙◌, arith}
use Rattle.std.proofs.lemmas.Bool.{leb-true}
use Rattle.c_tree.specs.declared.value.IntType.TheVariants.{Char}
use Rattle.c_tree.specs.Tree.{CType, integer, pointer, array, Program}
use Rattle.c_meaning.specs.Mentions.{Mention}
use Rattle.c_syntax.specs.Tree.{Expr, a_str, Init, one, list, MaybeInit, no_init, an_init}
use Rattle.c_syntax.specs.Tree as syntax
use Rattle.c_rules.specs.Checked.{Checked, fine, on}
use Rattle.c_rules.specs.Names.{Name}
use Rattle.c_rules.specs.Scopes.{Env, Before, layout_of}
use Rattle.c_rules.specs.TypedExpression.{TypedExpression, tree_of}
use Rattle.c_rules.specs.Conversions.{as_if_assigned}
use Rattle.c_rules.specs.Expressions.{value}
use Rattle.c_rules.specs.Initialisers.{Slots, copies, each, slots, capacity, takes_list, count_inits, text_of, zeros, chars, cell_of, scalar_cell, array_cells, cells_of_list, after_init, calls_of_init, calls_of_inits, calls_of_maybe_init, initialised, in_turn, initialised_local, text_fits}
use Rattle.null_calls_laws.specs.MarkedCalls.{sites_of}
use Rattle.null_calls_laws.specs.Temporaries.{Temporary}
use Rattle.null_calls_laws.specs.InstrumentedStatements.{kept_of_init, kept_of_inits, kept_of_maybe_init}
use Rattle.null_calls_laws.specs.CountedStatements.{InitNamed, InitsNamed, MaybeInitNamed}
use Rattle.null_calls_laws.specs.Initialisers.{InitTabled, InitsTabled, MaybeInitTabled}
use Rattle.c_rules_laws.proofs.Holding.{Holds, holds_map, on_holds, both_hold, demand_holds, behind_demand, after_part}
use Rattle.null_calls_laws.specs.CallsIn.{calls_in, all_calls}
use Rattle.null_calls_laws.specs.AbstractCasts.{InitNamesNoType, InitsNameNoType, MaybeInitNamesNoType}
use Rattle.null_calls_laws.specs.Scopes.{IsWrittenScope, AreTemporaries}
use Rattle.null_calls_laws.proofs.Kept.{none_kept, good_both, kept_good}
use Rattle.null_calls_laws.proofs.Tables.{Table as CallTable, InTable, in_first, in_rest}
use Rattle.null_calls_laws.proofs.CallsOfExpressions.{Tells, Passes, T, value_passes}
use Rattle.c_rules_laws.proofs.GatheredOfTypedExpressions.{Gathers, AllGather, lists_gathered, all_silent, zero_silent, as_if_gathered}
use Rattle.c_rules_laws.proofs.KnownCells.{slots_each, chars_each}

-- ## Cells

one_given : (xs : List Mention) (g : TypedExpression) → Gathers all_calls xs g → AllGather all_calls xs (g ∷ [])
one_given xs g h = (xs, [], h, refl, sym (append-nil xs))

module _ (p : Program) (enums tags stood : List Name) where
  abbrev Good : (lo n : ℕ) → List Temporary → Type 0
  Good = AreTemporaries enums tags stood

  abbrev Scope : Env → Type 0
  Scope = IsWrittenScope p enums tags stood

  abbrev Table : CallTable
  Table = T p enums tags stood

  -- cells whose calls stand in the table tell the fact
  abbrev pub CellsTell : Type 0 → List TypedExpression → Type 0
  CellsTell X gs = (xs : List Mention) × AllGather all_calls xs gs × (InTable Table xs → X)

  abbrev pub InitPasses : Env → Before → CType → Init → Type 0
  InitPasses env b t i = InitTabled p (sites_of p) env b t i × InitNamed (sites_of p) b.sites i × Good b.sites (calls_of_init i) (kept_of_init (sites_of p) b.sites i)

  abbrev InitsPass : Env → Before → Slots → syntax.Inits → Type 0
  InitsPass env b s is = InitsTabled p (sites_of p) env b s is × InitsNamed (sites_of p) b.sites is × Good b.sites (calls_of_inits is) (kept_of_inits (sites_of p) b.sites is)

  abbrev pub MaybeInitPasses : Env → Before → CType → MaybeInit → Type 0
  MaybeInitPasses env b t i = MaybeInitTabled p (sites_of p) env b t i × MaybeInitNamed (sites_of p) b.sites i × Good b.sites (calls_of_maybe_init i) (kept_of_maybe_init (sites_of p) b.sites i)

  -- an expression
  one_passes : (env : Env) (b : Before) (t : CType) (at : ℕ) (x : Expr) → Passes p enums tags stood env b x → InitPasses env b t (one at x)
  one_passes env b t at x h = (h.0, h.1, kept_good enums tags stood (sites_of p) x b.sites true h.2)

  scalar_passes : (env : Env) → Scope env → (b : Before) (at : ℕ) (t : CType) (x : Expr) → Holds (Tells Table (Passes p enums tags stood env b x)) (value env b x) → Holds (CellsTell (InitPasses env b t (one at x))) (scalar_cell false at t (value env b x))
  scalar_passes env w b at t x h =
      on_holds (Tells Table (Passes p enums tags stood env b x)) (CellsTell (InitPasses env b t (one at x))) (on (value env b x) (as_if_assigned at t)) (cell_of false at)
      (on_holds (Tells Table (Passes p enums tags stood env b x)) (Tells Table (Passes p enums tags stood env b x)) (value env b x) (as_if_assigned at t) h
      (λ g k. holds_map (Gathers all_calls (calls_in (tree_of g))) (Tells Table (Passes p enums tags stood env b x)) (λ a s. (λ c. s.0 ∙ s.1 c, λ z. k.1 (subst (InTable Table) s.0 z))) (as_if_assigned at t g) (as_if_gathered all_calls at (calls_in (tree_of g)) t g (refl, k.0))))
      (λ g k. (calls_in (tree_of g), one_given (calls_in (tree_of g)) g (refl, k.0), λ z. one_passes env b t at x (k.1 z)))

  array_passes : (env : Env) (b : Before) (at : ℕ) (t : CType) (n : ℕ) (x : Expr) → Holds (CellsTell (InitPasses env b (array t n) (one at x))) (array_cells at t n (text_of x))
  array_passes env b at (integer Char) n (a_str here w) = demand_holds (CellsTell (InitPasses env b (array (integer Char) n) (one at (a_str here w)))) (nat_le (length w) n) 14 at (chars n w) (λ _. ([], all_silent all_calls (chars n w) (chars_each (Gathers all_calls []) (λ _. (refl, λ _. refl)) n w), λ _. (tt, tt, none_kept enums tags stood)))
  array_passes env b at t n x = tt

  list_passes : (X : Type 0) (takes : Bool) (at most count : ℕ) (r : Checked (List TypedExpression)) → Holds (λ gs. count ≤ most → CellsTell X gs) r → Holds (CellsTell X) (cells_of_list takes at most count r)
  list_passes X takes at most count r h = behind_demand (CellsTell X) takes 14 at _ (λ _. on_holds (λ gs. count ≤ most → CellsTell X gs) (CellsTell X) r _ h (λ gs k. demand_holds (CellsTell X) (nat_le count most) 14 at gs (λ q. k (leb-true count most q))))

  init_both : (X Y Z : Type 0) (gs hs : List TypedExpression) → (X → Y → Z) → CellsTell X gs → CellsTell Y hs → CellsTell Z (gs ++ hs)
  init_both X Y Z gs hs f h k = (h.0 ++ k.0, lists_gathered all_calls gs hs h.0 k.0 h.1 k.1, λ z. f (h.2 (in_first Table h.0 k.0 z)) (k.2 (in_rest Table h.0 k.0 z)))

  mutual
    initialised_passes : (i : Init) (env : Env) → Scope env → (b : Before) (t : CType) → InitNamesNoType i → Holds (CellsTell (InitPasses env b t i)) (initialised env b false t i)
    initialised_passes (one at x) env w b (integer i) l = scalar_passes env w b at (integer i) x (value_passes p enums tags stood x env w b l)
    initialised_passes (one at x) env w b (pointer t) l = scalar_passes env w b at (pointer t) x (value_passes p enums tags stood x env w b l)
    initialised_passes (one at x) env w b (array t n) l = after_part (CellsTell (InitPasses env b (array t n) (one at x))) (text_fits at (text_of x)) (λ _. array_cells at t n (text_of x)) (λ _. array_passes env b at t n x)
    initialised_passes (list at is) env w b t l = list_passes (InitPasses env b t (list at is)) (takes_list t) at (capacity (slots env t)) (count_inits is) (in_turn env b false (slots env t) is) (in_turn_passes is env w b (slots env t) l)
    initialised_passes (one at x) env w b t l = tt

    in_turn_passes : (is : syntax.Inits) (env : Env) → Scope env → (b : Before) (s : Slots) → InitsNameNoType is → Holds (λ gs. count_inits is ≤ capacity s → CellsTell (InitsPass env b s is) gs) (in_turn env b false s is)
    in_turn_passes syntax.no_inits env w b s l = λ _. ([], all_silent all_calls (zeros (layout_of env) s) (slots_each (Gathers all_calls []) (zero_silent all_calls) (layout_of env) s), λ _. (tt, tt, none_kept enums tags stood))
    in_turn_passes (syntax.more_inits i is) env w b (copies (suc n) t) l =
        both_hold (CellsTell (InitPasses env b t i)) (λ hs. count_inits is ≤ n → CellsTell (InitsPass env (after_init env b t i) (copies n t) is) hs) (λ gs. count_inits (syntax.more_inits i is) ≤ suc n → CellsTell (InitsPass env b (copies (suc n) t) (syntax.more_inits i is)) gs)
        (initialised env b false t i) (in_turn env (after_init env b t i) false (copies n t) is) (λ gs hs. fine (gs ++ hs)) (initialised_passes i env w b t l.0) (in_turn_passes is env w (after_init env b t i) (copies n t) l.1)
        (λ gs hs x y m. init_both (InitPasses env b t i) (InitsPass env (after_init env b t i) (copies n t) is) (InitsPass env b (copies (suc n) t) (syntax.more_inits i is)) gs hs (λ u v. ((u.0, v.0), (u.1, v.1), good_both enums tags stood (kept_of_init (sites_of p) b.sites i) (kept_of_inits (sites_of p) (b.sites + calls_of_init i) is) u.2 v.2)) x (y (omega (arith, m))))
    in_turn_passes (syntax.more_inits i is) env w b (each (t ∷ ts)) l =
        both_hold (CellsTell (InitPasses env b t i)) (λ hs. count_inits is ≤ length ts → CellsTell (InitsPass env (after_init env b t i) (each ts) is) hs) (λ gs. count_inits (syntax.more_inits i is) ≤ suc (length ts) → CellsTell (InitsPass env b (each (t ∷ ts)) (syntax.more_inits i is)) gs)
        (initialised env b false t i) (in_turn env (after_init env b t i) false (each ts) is) (λ gs hs. fine (gs ++ hs)) (initialised_passes i env w b t l.0) (in_turn_passes is env w (after_init env b t i) (each ts) l.1)
        (λ gs hs x y m. init_both (InitPasses env b t i) (InitsPass env (after_init env b t i) (each ts) is) (InitsPass env b (each (t ∷ ts)) (syntax.more_inits i is)) gs hs (λ u v. ((u.0, v.0), (u.1, v.1), good_both enums tags stood (kept_of_init (sites_of p) b.sites i) (kept_of_inits (sites_of p) (b.sites + calls_of_init i) is) u.2 v.2)) x (y (omega (arith, m))))
    in_turn_passes (syntax.more_inits i is) env w b s l = λ n. absurd (omega (arith, n))

  pub local_passes : (m : MaybeInit) (env : Env) → Scope env → (b : Before) (t : CType) → MaybeInitNamesNoType m → Holds (CellsTell (MaybeInitPasses env b t m)) (initialised_local env b t m)
  local_passes no_init env w b t l = ([], refl, λ _. (tt, tt, none_kept enums tags stood))
  local_passes (an_init i) env w b t l = initialised_passes i env w b t l
