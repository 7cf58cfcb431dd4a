-- Graphs over shapes, their runs, and when a graph is laid from shapes.
use Rattle.std.specs.Prelude.{◌≡◌, ◌≢◌, ℕ, ℤ, ◌+◌, ◌<◌, Bool, false, List, [], ◌∷◌, ◌++◌, Option, length, Contains}
use Rattle.dm_base.specs.declared.event.Event.{Event}
use Rattle.dm_base.specs.Fits.{Fits}
use Rattle.c_meaning.specs.Shape.{Shape, Skip, Sys, Exit, Call, Seq, Alt, Loop, Do, Cases, Parts, End, Part, Break, Continue, Return, Shapes, shape_of, exit_call, Leave, goes_on, breaks, continues, returns}
use Rattle.c_meaning.specs.Bodies.{IsExpression}
use Rattle.c_meaning.specs.Words.{Marks}
use Rattle.c_meaning.specs.Walks.{Label, Silent, System, Site}
use Rattle.c_meaning.specs.GraphLayout.{Places, ends, body, width, count, group, switch}

-- the edges, and the entry and the exit of each function
pub record Graph : Type 1 where
  pub edge : ℕ → Label → ℕ → Type 0
  pub entry : ℕ → ℕ
  pub exit : ℕ → ℕ

-- what a step along an edge does, from (z, t) to (y, w, u)
pub data Via (env : Shapes) (g : Graph) (m : Marks) : Label → ℕ → List ℕ → List Event → ℕ → List ℕ → List Event → Type 0 where
  silent : {b : ℕ} {z : List ℕ} {t : List Event} → Via env g m Silent b z t b z t
  system : {x b : ℕ} {q : List (Option ℤ)} {e : Event} {z : List ℕ} {t : List Event} → Fits x q e → Via env g m (System x q) b z (e ∷ t) b z t
  enter : {s f b : ℕ} {z : List ℕ} {t u : List Event} → Contains (env.candidates s) f → t ≡ m.pre s ++ u → Via env g m (Site s) b z t (g.entry f) (s ∷ z) u

pub data Step (env : Shapes) (g : Graph) (m : Marks) : ℕ → List ℕ → List Event → ℕ → List ℕ → List Event → Type 0 where
  along : {a b y : ℕ} {l : Label} {z w : List ℕ} {t u : List Event} → g.edge a l b → Via env g m l b z t y w u → Step env g m a z t y w u
  leave : {a b c s f : ℕ} {z : List ℕ} {t u : List Event} → f < length env.functions → a ≡ g.exit f → g.edge c (Site s) b → Contains (env.candidates s) f → t ≡ m.post s ++ u → Step env g m a (s ∷ z) t b z u

-- from the configuration (a, z) to (c, w), reading what stands in t before u
pub data Run (env : Shapes) (g : Graph) (m : Marks) : ℕ → List ℕ → List Event → ℕ → List ℕ → List Event → Type 0 where
  over : {a : ℕ} {z : List ℕ} {t : List Event} → Run env g m a z t a z t
  then : {a b c : ℕ} {x y z : List ℕ} {t u v : List Event} → Step env g m a x t b y u → Run env g m b y u c z v → Run env g m a x t c z v

abbrev pub leads : Places → Leave → ℕ
leads p goes_on = p.to
leads p breaks = p.brk
leads p continues = p.con
leads p returns = p.ret

-- the node of one of the parts
pub data Heads : Parts → ℕ → ℕ → Type 0 where
  this : {S : Shape} {ps : Parts} {m : ℕ} → Heads (Part S ps) m m
  later : {S : Shape} {ps : Parts} {m b : ℕ} → Heads ps (m + 1) b → Heads (Part S ps) m b

-- the edges with which S begins, where it is laid from the fresh node n on
pub data First : Shape → ℕ → Places → Label → ℕ → Type 0 where
  skip : {n : ℕ} {p : Places} → First Skip n p Silent (p.to)
  sys : {x n : ℕ} {q : List (Option ℤ)} {p : Places} → First (Sys x q) n p (System x q) (p.to)
  exit : {n : ℕ} {q : List (Option ℤ)} {p : Places} → First (Exit q) n p (System exit_call q) n
  call : {s n : ℕ} {p : Places} → First (Call s) n p (Site s) (p.to)
  left : {S T : Shape} {n b : ℕ} {p : Places} {l : Label} → First S n p l b → First (Alt S T) n p l b
  right : {S T : Shape} {n b : ℕ} {p : Places} {l : Label} → First T (n + width S) p l b → First (Alt S T) n p l b
  loop : {C B P : Shape} {n : ℕ} {p : Places} → First (Loop C B P) n p Silent n
  until : {B C : Shape} {n : ℕ} {p : Places} → First (Do B C) n p Silent n
  row : {S : Shape} {ps : Parts} {n b : ℕ} {p : Places} {l : Label} → First S (n + count ps) (group p ps n) l b → First (Seq S ps) n p l b
  case : {ps : Parts} {d : Bool} {n b : ℕ} {p : Places} → Heads ps n b → First (Cases ps d) n p Silent b
  no_case : {ps : Parts} {n : ℕ} {p : Places} → First (Cases ps false) n p Silent (p.to)
  break_out : {n : ℕ} {p : Places} → First Break n p Silent (p.brk)
  continue_on : {n : ℕ} {p : Places} → First Continue n p Silent (p.con)
  return_now : {n : ℕ} {p : Places} → First Return n p Silent (p.ret)

-- one of some edges, or a silent edge to b
pub data OrSilent (b : ℕ) (first : Label → ℕ → Type 0) : Label → ℕ → Type 0 where
  out : OrSilent b first Silent b
  into : {l : Label} {y : ℕ} → first l y → OrSilent b first l y

-- a silent edge to a or to b
pub data TwoSilent (a b : ℕ) : Label → ℕ → Type 0 where
  to_a : TwoSilent a b Silent a
  to_b : TwoSilent a b Silent b

-- the node a is no exit, and has these edges only
pub record Only (env : Shapes) (g : Graph) (a : ℕ) (first : Label → ℕ → Type 0) : Type 0 where
  pub edges : (l : Label) (b : ℕ) → g.edge a l b → first l b
  pub inner : (f : ℕ) → f < length env.functions → a ≢ g.exit f

-- S is laid from the node a with the fresh nodes from n on: its edges are there, and its fresh nodes have no others
mutual
  pub data Laid (env : Shapes) (g : Graph) : Shape → ℕ → ℕ → Places → Type 0 where
    skip : {a n : ℕ} {p : Places} → g.edge a Silent (p.to) → Laid env g Skip a n p
    sys : {x a n : ℕ} {q : List (Option ℤ)} {p : Places} → g.edge a (System x q) (p.to) → Laid env g (Sys x q) a n p
    exit : {a n : ℕ} {q : List (Option ℤ)} {p : Places} → g.edge a (System exit_call q) n → Only env g n (λ l b. ⊥) → Laid env g (Exit q) a n p
    call : {s a n : ℕ} {p : Places} → g.edge a (Site s) (p.to) → Laid env g (Call s) a n p
    either : {S T : Shape} {a n : ℕ} {p : Places} → Laid env g S a n p → Laid env g T a (n + width S) p → Laid env g (Alt S T) a n p
    loop : {C B P : Shape} {a n : ℕ} {p : Places} → IsExpression C → IsExpression P → g.edge a Silent n → g.edge (n + 1) Silent (p.to) → Laid env g C n (n + 3) (record p { to = n + 1 }) → Laid env g B (n + 1) (n + 3 + width C) (body p (n + 2) (p.to) (n + 2)) → Laid env g P (n + 2) (n + 3 + width C + width B) (record p { to = n }) → Only env g n (First C (n + 3) (record p { to = n + 1 })) → Only env g (n + 1) (OrSilent (p.to) (First B (n + 3 + width C) (body p (n + 2) (p.to) (n + 2)))) → Only env g (n + 2) (First P (n + 3 + width C + width B) (record p { to = n })) → Laid env g (Loop C B P) a n p
    until : {B C : Shape} {a n : ℕ} {p : Places} → IsExpression C → g.edge a Silent n → g.edge (n + 2) Silent n → g.edge (n + 2) Silent (p.to) → Laid env g B n (n + 3) (body p (n + 1) (p.to) (n + 1)) → Laid env g C (n + 1) (n + 3 + width B) (record p { to = n + 2 }) → Only env g n (First B (n + 3) (body p (n + 1) (p.to) (n + 1))) → Only env g (n + 1) (First C (n + 3 + width B) (record p { to = n + 2 })) → Only env g (n + 2) (TwoSilent n (p.to)) → Laid env g (Do B C) a n p
    row : {S : Shape} {ps : Parts} {a n : ℕ} {p : Places} → Laid env g S a (n + count ps) (group p ps n) → LaidParts env g ps n (n + count ps + width S) p → Laid env g (Seq S ps) a n p
    cases : {ps : Parts} {d : Bool} {a n : ℕ} {p : Places} → LaidParts env g ps n (n + count ps) (switch p) → ((b : ℕ) → Heads ps n b → g.edge a Silent b) → (d ≡ false → g.edge a Silent (p.to)) → Laid env g (Cases ps d) a n p
    break_out : {a n : ℕ} {p : Places} → g.edge a Silent (p.brk) → Laid env g Break a n p
    continue_on : {a n : ℕ} {p : Places} → g.edge a Silent (p.con) → Laid env g Continue a n p
    return_now : {a n : ℕ} {p : Places} → g.edge a Silent (p.ret) → Laid env g Return a n p

  -- the parts stand at the nodes from m on, with their fresh nodes from n on
  pub data LaidParts (env : Shapes) (g : Graph) : Parts → ℕ → ℕ → Places → Type 0 where
    no_part : {m n : ℕ} {p : Places} → LaidParts env g End m n p
    one_part : {S : Shape} {ps : Parts} {m n : ℕ} {p : Places} → Laid env g S m n (group p ps (m + 1)) → Only env g m (First S n (group p ps (m + 1))) → LaidParts env g ps (m + 1) (n + width S) p → LaidParts env g (Part S ps) m n p

-- the graph is laid from the shapes, whose function f has the fresh nodes from `base f` on
pub record LaidFrom (env : Shapes) (g : Graph) (base : ℕ → ℕ) : Type 0 where
  pub laid : (f : ℕ) → f < length env.functions → Laid env g (shape_of env f) (g.entry f) (base f) (ends (g.exit f))
  pub begins : (f : ℕ) → f < length env.functions → Only env g (g.entry f) (First (shape_of env f) (base f) (ends (g.exit f)))
  pub stops : (f : ℕ) → f < length env.functions → (l : Label) (b : ℕ) → g.edge (g.exit f) l b → ⊥
  pub one_site : (s a b c d : ℕ) → g.edge a (Site s) b → g.edge c (Site s) d → b ≡ d
  pub known : (s f : ℕ) → Contains (env.candidates s) f → f < length env.functions
  pub same_exit : (f h : ℕ) → f < length env.functions → h < length env.functions → g.exit f ≡ g.exit h → f ≡ h

-- the word t is read along some walk over nodes from the node a
pub data NodeWalk (env : Shapes) (g : Graph) : ℕ → List Event → Type 0 where
  over : {a : ℕ} → NodeWalk env g a []
  silent : {a b : ℕ} {t : List Event} → g.edge a Silent b → NodeWalk env g b t → NodeWalk env g a t
  system : {a b n : ℕ} {q : List (Option ℤ)} {e : Event} {t : List Event} → g.edge a (System n q) b → Fits n q e → NodeWalk env g b t → NodeWalk env g a (e ∷ t)
  enter : {a b s f : ℕ} {t : List Event} → g.edge a (Site s) b → Contains (env.candidates s) f → NodeWalk env g (g.entry f) t → NodeWalk env g a t
  leave : {a b c s f : ℕ} {t : List Event} → f < length env.functions → a ≡ g.exit f → g.edge c (Site s) b → Contains (env.candidates s) f → NodeWalk env g b t → NodeWalk env g a t
