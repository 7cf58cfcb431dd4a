-- Cells of an initialiser and their temporaries.
use Rattle.std.proofs.Common.{◌≡◌, ℕ, suc, ◌+◌, Bool, true, false, List, [], ◌∷◌, ◌++◌, append_assoc, append-nil, length, length-append, refl, ap, ap₂, sym, subst, ◌∙◌, arith, Option, None, Some, nat_le}
use Rattle.c_tree.specs.declared.value.IntType.TheVariants.{Char}
use Rattle.c_tree.specs.Tree.{CType, void, integer, pointer, array, Program}
use Rattle.c_tree.specs.Tree as typed
use Rattle.c_tree.specs.Layout.{Structs}
use Rattle.c_rules.specs.Checked.{Checked, fine, faulty, demand, on, both, Met}
use Rattle.c_rules.specs.TypedExpression.{TypedExpression, tree_of}
use Rattle.c_rules.specs.Conversions.{fits, assigned, as_if_assigned, kind_of}
use Rattle.c_rules.specs.Initialisers.{Slots, typed_zero, zeros, chars, cell_of, scalar_cell, array_cells, cells_of_one, cells_of_list, stores_from, text_fits}
use Rattle.c_rules_laws.proofs.Holding.{Each}
use Rattle.c_rules_laws.proofs.KnownCells.{slots_each, chars_each}
use Rattle.null_calls_laws.specs.InstrumentedPrograms.{expr, kept, inits, kept_of_inits}
use Rattle.null_calls_laws.specs.WithoutSites.{unsited, unsited_inits}
use Rattle.null_calls_laws.specs.Remade.{remade, Follows, IsOperand}
use Rattle.null_calls_laws.proofs.Operands.{assigned_operand}
use Rattle.null_calls_laws.proofs.Binary.{fits_same}
use Rattle.null_calls_laws.specs.Initialisers.{CellsFollow}

module _ (p : Program) where
  -- the types of the temporaries of cells
  abbrev pub kept_of_cells : List TypedExpression → List CType
  kept_of_cells [] = []
  kept_of_cells (g ∷ gs) = kept p true (tree_of g) ++ kept_of_cells gs

  -- cs many cells, each with the instrumented tree
  abbrev pub Cells : (k : ℕ) → List TypedExpression → List TypedExpression → Type 0
  Cells k [] [] = Unit {0}
  Cells k [] (h ∷ hs) = ⊥
  Cells k (g ∷ gs) [] = ⊥
  Cells k (g ∷ gs) (h ∷ hs) = (unsited (tree_of h) ≡ expr p k true (tree_of g)) × Cells (k + length (kept p true (tree_of g))) gs hs

  abbrev pub CellsGo : (k : ℕ) → List CType → Checked (List TypedExpression) → Checked (List TypedExpression) → Type 0
  CellsGo k ts (fine gs) s = (hs : List TypedExpression) × (s ≡ fine hs) × (kept_of_cells gs ≡ ts) × Cells k gs hs
  CellsGo k ts (faulty f fs) s = Unit {0}

  -- ## Two lists of cells

  kept_both : (gs hs : List TypedExpression) → kept_of_cells (gs ++ hs) ≡ kept_of_cells gs ++ kept_of_cells hs
  kept_both [] hs = refl
  kept_both (g ∷ gs) hs = ap (λ ts. kept p true (tree_of g) ++ ts) (kept_both gs hs) ∙ sym (append_assoc (kept p true (tree_of g)) (kept_of_cells gs) (kept_of_cells hs))

  cells_both : (gs hs cs ds : List TypedExpression) (k : ℕ) → Cells k gs hs → Cells (k + length (kept_of_cells gs)) cs ds → Cells k (gs ++ cs) (hs ++ ds)
  cells_both [] [] cs ds k c d = (let e : k + 0 ≡ k = omega arith in subst (λ n. Cells n cs ds) e d)
  cells_both (g ∷ gs) (h ∷ hs) cs ds k c d =
      let e : k + length (kept p true (tree_of g) ++ kept_of_cells gs) ≡ (k + length (kept p true (tree_of g))) + length (kept_of_cells gs) = omega (arith, length-append (kept p true (tree_of g)) (kept_of_cells gs)) in
      (c.0, cells_both gs hs cs ds (k + length (kept p true (tree_of g))) c.1 (subst (λ n. Cells n cs ds) e d))
  cells_both gs hs cs ds k c d = absurd c

  pub both_go : (k : ℕ) (ts us all : List CType) → ts ++ us ≡ all → (r r' s s' : Checked (List TypedExpression)) → CellsGo k ts r r' → CellsGo (k + length ts) us s s' → CellsGo k all (both r s (λ gs hs. fine (gs ++ hs))) (both r' s' (λ gs hs. fine (gs ++ hs)))
  both_go k ts us all joint (fine gs) r' (fine cs) s' g h =
      (g.0 ++ h.0, ap₂ (λ y z. both y z (λ gs hs. fine (gs ++ hs))) g.1 h.1, kept_both gs cs ∙ (ap₂ (λ xs ys. xs ++ ys) g.2 h.2 ∙ joint), cells_both gs g.0 cs h.0 k g.3 (subst (λ xs. Cells (k + length xs) cs h.0) (sym g.2) h.3))
  both_go k ts us all joint r r' s s' g h = tt

  -- ## The trees of cells

  cells_types : (gs : List TypedExpression) (cell : ℕ) → kept_of_inits p (stores_from cell gs) ≡ kept_of_cells gs
  cells_types [] cell = refl
  cells_types (g ∷ gs) cell = ap (λ ts. kept p true (tree_of g) ++ ts) (cells_types gs (suc cell))

  cells_trees : (gs hs : List TypedExpression) (k cell : ℕ) → Cells k gs hs → unsited_inits (stores_from cell hs) ≡ inits p k (stores_from cell gs)
  cells_trees [] [] k cell c = refl
  cells_trees (g ∷ gs) (h ∷ hs) k cell c = ap₂ (λ x xs. typed.more_inits cell x xs) c.0 (cells_trees gs hs (k + length (kept p true (tree_of g))) (suc cell) c.1)
  cells_trees gs hs k cell c = absurd c

  pub cells_follow : (k : ℕ) (ts : List CType) (r s : Checked (List TypedExpression)) → CellsGo k ts r s → CellsFollow p k ts r s
  cells_follow k ts (fine gs) s h = (h.0, h.1, record { types = λ cell. cells_types gs cell ∙ h.2; trees = λ cell. cells_trees gs h.0 k cell h.3 })
  cells_follow k ts (faulty f fs) s h = tt

  -- ## Cells without calls

  -- no call stands in the tree
  record IsBare (g : TypedExpression) : Type 0 where
    types : kept p true (tree_of g) ≡ []
    tree : (k : ℕ) → unsited (tree_of g) ≡ expr p k true (tree_of g)

  bare_types : (gs : List TypedExpression) → Each IsBare gs → kept_of_cells gs ≡ []
  bare_types [] h = refl
  bare_types (g ∷ gs) h = ap₂ (λ xs ys. xs ++ ys) h.0.types (bare_types gs h.1)

  bare_cells : (gs : List TypedExpression) (k : ℕ) → Each IsBare gs → Cells k gs gs
  bare_cells [] k h = tt
  bare_cells (g ∷ gs) k h = (h.0.tree k, bare_cells gs (k + length (kept p true (tree_of g))) h.1)

  bare_go : (k : ℕ) (gs : List TypedExpression) → Each IsBare gs → CellsGo k [] (fine gs) (fine gs)
  bare_go k gs h = (gs, refl, bare_types gs h, bare_cells gs k h)

  zero_bare : (t : CType) → IsBare (typed_zero t)
  zero_bare void = record { types = refl; tree = λ k. refl }
  zero_bare t = record { types = refl; tree = λ k. refl }

  -- zeros for elements or members without an initialiser
  pub zeros_go : (k : ℕ) (structs : Structs) (s : Slots) → CellsGo k [] (fine (zeros structs s)) (fine (zeros structs s))
  zeros_go k structs s = bare_go k (zeros structs s) (slots_each IsBare zero_bare structs s)

  chars_go : (k n : ℕ) (w : List ℕ) → CellsGo k [] (fine (chars n w)) (fine (chars n w))
  chars_go k n w = bare_go k (chars n w) (chars_each IsBare (λ _. record { types = refl; tree = λ k. refl }) n w)

  -- ## One expression

  module _ (k : ℕ) (ts : List CType) where
    one_goes : (g h : TypedExpression) → IsOperand p k ts g h → CellsGo k ts (fine (g ∷ [])) (fine (h ∷ []))
    one_goes g h o = (h ∷ [], refl, append-nil (kept p true (tree_of g)) ∙ o.types, (o.tree, tt))

    scalar_goes : (at : ℕ) (t : CType) (r s : Checked TypedExpression) → Follows p k ts r s → CellsGo k ts (scalar_cell false at t r) (scalar_cell false at t s)
    scalar_goes at t (fine g) s h =
        subst (λ z. CellsGo k ts (on (demand (fits t g) 3 at (assigned t g)) (cell_of false at)) (on (on z (as_if_assigned at t)) (cell_of false at))) (sym h.1)
        (subst (λ z. CellsGo k ts (on (demand (fits t g) 3 at (assigned t g)) (cell_of false at)) (on (demand z 3 at (assigned t (remade g h.0))) (cell_of false at))) (sym (fits_same p k ts ts t (kind_of t) g h.0))
        (by_test (fits t g) (assigned t g) (assigned t (remade g h.0)) (one_goes (assigned t g) (assigned t (remade g h.0)) (assigned_operand p k ts t g h.0 h.2))))
      where
        by_test : (b : Bool) (a c : TypedExpression) → CellsGo k ts (fine (a ∷ [])) (fine (c ∷ [])) → CellsGo k ts (on (demand b 3 at a) (cell_of false at)) (on (demand b 3 at c) (cell_of false at))
        by_test true a c l = l
        by_test false a c l = tt
    scalar_goes at t (faulty f fs) s h = tt

    chars_in : (at n : ℕ) (w : List ℕ) (b : Bool) → ts ≡ [] → CellsGo k ts (demand b 14 at (chars n w)) (demand b 14 at (chars n w))
    chars_in at n w true e = subst (λ us. CellsGo k us (fine (chars n w)) (fine (chars n w))) (sym e) (chars_go k n w)
    chars_in at n w false e = tt

    -- an array takes a string, which has no temporaries
    array_goes : (at n : ℕ) (t : CType) (text : Option (List ℕ)) → ((w : List ℕ) → text ≡ Some w → ts ≡ []) → CellsGo k ts (array_cells at t n text) (array_cells at t n text)
    array_goes at n (integer Char) None h = tt
    array_goes at n (integer Char) (Some w) h = chars_in at n w (nat_le (length w) n) (h w refl)
    array_goes at n x text h = tt

    behind_goes : (q : Checked Met) (r : Checked (List TypedExpression)) → CellsGo k ts r r → CellsGo k ts (on q (λ _. r)) (on q (λ _. r))
    behind_goes (fine a) r h = h
    behind_goes (faulty f fs) r h = tt

    pub expression_goes : (at : ℕ) (t : CType) (text : Option (List ℕ)) (r s : Checked TypedExpression) → ((w : List ℕ) → text ≡ Some w → ts ≡ []) → Follows p k ts r s → CellsGo k ts (cells_of_one false at t text r) (cells_of_one false at t text s)
    expression_goes at (integer i) text r s h l = scalar_goes at (integer i) r s l
    expression_goes at (pointer t) text r s h l = scalar_goes at (pointer t) r s l
    expression_goes at (array t n) text r s h l = behind_goes (text_fits at text) (array_cells at t n text) (array_goes at n t text h)
    expression_goes at x text r s h l = tt

    -- a list in braces, which has no more initialisers than there are elements or members
    pub list_goes : (takes : Bool) (at most n : ℕ) (r s : Checked (List TypedExpression)) → (nat_le n most ≡ true → CellsGo k ts r s) → CellsGo k ts (cells_of_list takes at most n r) (cells_of_list takes at most n s)
    list_goes true at most n r s h = by_test (nat_le n most) r h
      where
        by_test : (b : Bool) (r : Checked (List TypedExpression)) → (b ≡ true → CellsGo k ts r s) → CellsGo k ts (on r (λ gs. demand b 14 at gs)) (on s (λ gs. demand b 14 at gs))
        by_test true (fine gs) h = (let l = h refl in (l.0, ap (λ z. on z (λ gs. demand true 14 at gs)) l.1, l.2, l.3))
        by_test false (fine gs) h = tt
        by_test b (faulty f fs) h = tt
    list_goes false at most n r s h = tt
