-- Initialisers of variables with null calls round their marked calls beside the plain ones (C99 6.7.8): their cells are the instrumented ones.
use Rattle.std.specs.Prelude.{◌≡◌, ℕ, zero, suc, false, List, [], ◌∷◌}
use Rattle.c_tree.specs.Tree.{CType, Program}
use Rattle.c_syntax.specs.Tree.{Init, one, list, Inits, no_inits, more_inits, MaybeInit, no_init, an_init}
use Rattle.c_rules.specs.Checked.{Checked, fine, faulty}
use Rattle.c_rules.specs.Scopes.{Env, Binding, Before}
use Rattle.c_rules.specs.TypedExpression.{TypedExpression}
use Rattle.c_rules.specs.Initialisers.{Slots, copies, each, slots, after_init, initialised, stores_from}
use Rattle.null_calls_laws.specs.MarkedCalls.{Sites}
use Rattle.null_calls_laws.specs.InstrumentedStatements.{init, kept_of_init}
use Rattle.null_calls_laws.specs.InstrumentedPrograms as with_null_calls
use Rattle.null_calls_laws.specs.WithoutSites.{unsited_inits}
use Rattle.null_calls_laws.specs.Counts.{Near}
use Rattle.null_calls_laws.specs.CountedStatements.{InitNamed}
use Rattle.null_calls_laws.specs.Tabled.{AreTabled, AreFound}
use Rattle.null_calls_laws.specs.Follow.{types_of}
use Rattle.null_calls_laws.specs.Standing.{StandBeside}

-- each call stands at its site, in an initialiser of an object of a type; what stands behind the last element or member has no type
module _ (p : Program) (sites : Sites) where
  abbrev mutual
    pub InitTabled : Env → Before → CType → Init → Type 0
    InitTabled env b t (one at e) = AreTabled p sites env b e
    InitTabled env b t (list at is) = InitsTabled env b (slots env t) is

    pub InitsTabled : Env → Before → Slots → Inits → Type 0
    InitsTabled env b s no_inits = Unit {0}
    InitsTabled env b (copies zero t) (more_inits i is) = Unit {0}
    InitsTabled env b (copies (suc n) t) (more_inits i is) = InitTabled env b t i × InitsTabled env (after_init env b t i) (copies n t) is
    InitsTabled env b (each []) (more_inits i is) = Unit {0}
    InitsTabled env b (each (t ∷ ts)) (more_inits i is) = InitTabled env b t i × InitsTabled env (after_init env b t i) (each ts) is

  abbrev pub MaybeInitTabled : Env → Before → CType → MaybeInit → Type 0
  MaybeInitTabled env b t no_init = Unit {0}
  MaybeInitTabled env b t (an_init i) = InitTabled env b t i

-- the cells hs are the instrumented ones of gs, whose temporaries have the types ts and are numbered from k on
pub record AreInstrumented (p : Program) (k : ℕ) (ts : List CType) (gs hs : List TypedExpression) : Type 0 where
  pub types : (cell : ℕ) → with_null_calls.kept_of_inits p (stores_from cell gs) ≡ ts
  pub trees : (cell : ℕ) → unsited_inits (stores_from cell hs) ≡ with_null_calls.inits p k (stores_from cell gs)

-- cells on the right where there are some on the left
abbrev pub CellsFollow : Program → (k : ℕ) → List CType → Checked (List TypedExpression) → Checked (List TypedExpression) → Type 0
CellsFollow p k ts (fine gs) s = (hs : List TypedExpression) × (s ≡ fine hs) × AreInstrumented p k ts gs hs
CellsFollow p k ts (faulty f fs) s = Unit {0}

pub record InitGoes (p : Program) (sites : Sites) (e f : Env) (b b' : Before) (k : ℕ) (t : CType) (i : Init) : Type 0 where
  pub cells : CellsFollow p k (types_of (kept_of_init sites b.sites i)) (initialised e b false t i) (initialised f b' false t (init sites b.sites i))
  pub near : Near (after_init e b t i) (after_init f b' t (init sites b.sites i))

-- every initialiser of a variable
abbrev pub InitialisersGo : Type 0
InitialisersGo =
    (p : Program) (sites : Sites) (names : List Binding) (e f : Env) → StandBeside p names e f → (b b' : Before) (k : ℕ) (t : CType) (i : Init)
    → InitNamed sites b.sites i → InitTabled p sites e b t i → AreFound names k (kept_of_init sites b.sites i) → Near b b' → InitGoes p sites e f b b' k t i
