-- Why a phrase isn't read: where nothing goes on with it, whatever its depth, or where nothing within the limits does.
use Rattle.std.specs.Prelude.{◌≡◌, ◌<◌, ℕ, List, length, Result, Ok, Err}
use Rattle.c_lexer.specs.declared.token.Token.{Token}
use Rattle.c_parser_phrases.specs.declared.room.Room.{Room}
use Rattle.c_parser_phrases.specs.declared.error.PhraseError.{PhraseError}
use Rattle.c_parser_phrases.specs.declared.error.PhraseError.TheVariants.{OutOfMemory, Syntax, Nesting}
use Rattle.c_syntax_printing.specs.Fails.{Fails}
use Rattle.c_syntax_printing.specs.Opens.{Opens}
use Rattle.c_syntax_printing.specs.Phrases.{Bound, any, within}

-- what the room allows
abbrev pub bound_of : Room → Bound
bound_of room = within room.pairs room.nodes

-- The phrase fails where the cursor stands, whatever its depth, or within the limits at some token; or there was no memory.
abbrev pub Refuses : (Bound → List Token → List Token → Type 0) → Bound → PhraseError → List Token → List Token → Type 0
Refuses A b OutOfMemory i j = Unit {0}
Refuses A b Syntax i j = Fails (A any) i j
Refuses A b (Nesting at) i j = (q : List Token) × Fails (A b) i q

-- the same of what a reader answers
abbrev pub Stops : {T : Type 0} → (Bound → List Token → List Token → Type 0) → Bound → Result T PhraseError → List Token → List Token → Type 0
Stops A b (Ok x) i j = Unit {0}
Stops A b (Err e) i j = Refuses A b e i j

-- Why a phrase in which nothing is nested isn't read: it fails where the cursor stands, or there was no memory.
pub record RefusedFlat (A : List Token → List Token → Type 0) (e : PhraseError) (i j : List Token) : Type 0 where
  pub wrong : e ≡ Syntax → Fails A i j
  pub deep : (at : ℕ) → e ≡ Nesting at → ⊥

abbrev pub StopsFlat : {T : Type 0} → (List Token → List Token → Type 0) → Result T PhraseError → List Token → List Token → Type 0
StopsFlat A (Ok x) i j = Unit {0}
StopsFlat A (Err e) i j = RefusedFlat A e i j

-- Within the limits the phrase fails at some token, and past them tokens go on through it: D says that at the place they have a node
-- that is one too deep, or a pair of parentheses inside too many others.
pub record NestsAt (A : Bound → List Token → List Token → Type 0) (D : ℕ → ℕ → ℕ → List Token → List Token → Type 0) (room : Room) (at : ℕ) (i : List Token) : Type 0 where
  pub token : List Token
  pub fails : Fails (A (bound_of room)) i token
  pub opens : Opens (D at room.pairs room.nodes) i token
  pub some : 0 < length token

abbrev pub RefusesDeep : (Bound → List Token → List Token → Type 0) → (ℕ → ℕ → ℕ → List Token → List Token → Type 0) → Room → PhraseError → List Token → Type 0
RefusesDeep A D room OutOfMemory i = Unit {0}
RefusesDeep A D room Syntax i = Unit {0}
RefusesDeep A D room (Nesting at) i = NestsAt A D room at i

-- the same of what a reader answers
abbrev pub Nests : {T : Type 0} → (Bound → List Token → List Token → Type 0) → (ℕ → ℕ → ℕ → List Token → List Token → Type 0) → Room → Result T PhraseError → List Token → Type 0
Nests A D room (Ok x) i = Unit {0}
Nests A D room (Err e) i = RefusesDeep A D room e i
