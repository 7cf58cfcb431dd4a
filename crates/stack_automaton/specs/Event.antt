-- For private contracts and proofs alone: what the automaton gets at one event.
use Rattle.std.specs.Prelude.{◌≡◌, ◌↔◌, ℕ, ℤ, List, [], ◌∷◌, Option}
use Rattle.dm_base.specs.declared.event.Event.{Event}
use Rattle.dm_base.specs.Fits.{Fits}
use Rattle.flow_model.specs.Graph.{Graph, HasSilent, HasSys, HasCall, HasFunction}
use Rattle.flow_model.specs.Language.{StackRun}
use Rattle.stack_automaton.specs.declared.place.Place.{Place}
use Rattle.stack_automaton.specs.declared.place.Place.TheVariants.{Held, Entered}
use Rattle.stack_automaton.specs.Held.{Path}

-- The node is reached at this event, and what stands below it leads on from the place.
-- The edges E are those of the states of the pool; First are the nodes and keys to which the event leads at once.
pub data IsFact (g : Graph) (E : ℕ → ℕ → ℕ → Type 0) (First : ℕ → ℕ → Type 0) : ℕ → Place → Type 0 where
  first : {b q : ℕ} → First b q → IsFact g E First b (Held q)
  silent : {a b : ℕ} {p : Place} → IsFact g E First a p → HasSilent g a b → IsFact g E First b p
  enter : {a s b f entry exit : ℕ} {p : Place} → IsFact g E First a p → HasCall g a s b f → HasFunction g f entry exit → IsFact g E First entry (Entered f)
  -- a return to a call of an earlier event
  back : {a s b f entry exit q r : ℕ} → IsFact g E First exit (Held q) → E q s r → HasCall g a s b f → HasFunction g f entry exit → IsFact g E First b (Held r)
  -- a return to a call of this event, from a node c
  out : {a s b f entry exit c d h : ℕ} {p : Place} → IsFact g E First exit (Entered h) → IsFact g E First c p → HasCall g c s d h → HasCall g a s b f → HasFunction g f entry exit → IsFact g E First b p

-- the new state of the function has an edge with this site to the place
abbrev pub IsLink : Graph → (ℕ → ℕ → ℕ → Type 0) → (ℕ → ℕ → Type 0) → ℕ → ℕ → Place → Type 0
IsLink g E First f s p = (a : ℕ) × (b : ℕ) × (entry : ℕ) × (exit : ℕ) × IsFact g E First a p × HasCall g a s b f × HasFunction g f entry exit

-- the sites lead from the place to the final key
pub data Climbs (g : Graph) (E : ℕ → ℕ → ℕ → Type 0) (First : ℕ → ℕ → Type 0) (final : ℕ) : Place → List ℕ → Type 0 where
  held : {q : ℕ} {z : List ℕ} → Path E final q z → Climbs g E First final (Held q) z
  link : {f s : ℕ} {p : Place} {z : List ℕ} → IsLink g E First f s p → Climbs g E First final p z → Climbs g E First final (Entered f) (s ∷ z)

-- the facts give the configuration
abbrev pub IsGiven : Graph → (ℕ → ℕ → ℕ → Type 0) → (ℕ → ℕ → Type 0) → ℕ → ℕ → List ℕ → Type 0
IsGiven g E First final v z = (p : Place) × IsFact g E First v p × Climbs g E First final p z

-- the configuration is reached, with nothing read, from one to which the event leads at once
abbrev pub IsReached : Graph → (ℕ → ℕ → ℕ → Type 0) → (ℕ → ℕ → Type 0) → ℕ → ℕ → List ℕ → Type 0
IsReached g E First final v z = (b : ℕ) × (q : ℕ) × (y : List ℕ) × First b q × Path E final q y × StackRun g b y [] v z

-- a system call that is read along an edge of the graph leads to the node and key, from the edges of a key
pub record IsNext (g : Graph) (E : ℕ → ℕ → ℕ → Type 0) (key : ℕ) (event : Event) (b q : ℕ) : Type 0 where
  pub from : ℕ
  pub name : ℕ
  pub pattern : List (Option ℤ)
  pub edge : E key from q
  pub has : HasSys g from name pattern b
  pub fits : Fits name pattern event

-- the key of a place, where the new states have these keys
abbrev pub key_of : (ℕ → ℕ) → Place → ℕ
key_of new (Held q) = q
key_of new (Entered f) = new f

-- The edges E' are the edges E of the keys that are there, and those of the new states and of the state at the key.
pub record Stores (g : Graph) (E E' : ℕ → ℕ → ℕ → Type 0) (First : ℕ → ℕ → Type 0) (There : ℕ → Type 0) (new : ℕ → ℕ) (key : ℕ) : Type 0 where
  pub old : (k l q : ℕ) → There k → E' k l q ↔ E k l q
  pub entered : (f s : ℕ) (p : Place) → IsLink g E First f s p → (l k : ℕ) → E' (new f) l k ↔ ((r : Place) × IsLink g E First f l r × (k ≡ key_of new r))
  pub top : (v k : ℕ) → E' key v k ↔ ((r : Place) × IsFact g E First v r × (k ≡ key_of new r))
