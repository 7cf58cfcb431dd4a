-- From the error of nesting of a part to that of the whole.
use Rattle.std.proofs.Common.{◌≡◌, ◌<◌, ◌-◌, ℕ, zero, suc, List, [], ◌∷◌, drop, length, Box, Global, Result, Ok, Err, IsErr, IsErrAnd, refl, sym, subst, arith}
use Rattle.std.proofs.lemmas.Result.{err_from_is_err_and}
use Rattle.c_lexer.specs.declared.token.Token.{Token}
use Rattle.c_lexer.specs.declared.punctuator.TheConstants.{LEFT_BRACE}
use Rattle.c_parser_phrases.specs.declared.room.Room.{Room}
use Rattle.c_parser_phrases.specs.declared.error.PhraseError.{PhraseError}
use Rattle.c_parser_phrases.specs.declared.error.PhraseError.TheVariants.{OutOfMemory, Syntax, Nesting}
use Rattle.c_parser_phrases.specs.Looking.{IsAtSpecifier}
use Rattle.c_parser_phrases.specs.Standing.{IsAt}
use Rattle.c_parser_phrases.specs.Refusing.{bound_of, RefusedFlat, RefusesDeep}
use Rattle.c_syntax_printing.specs.Fails.{Fails}
use Rattle.c_syntax_printing.specs.Phrases.{Bound, inner, fits_within, AStmt, APlainDecl}
use Rattle.c_syntax_printing.specs.Items.{AnItem, AnOther}
use Rattle.c_syntax_printing.specs.Opens.{Opens, DeepDecl, DeepStmt, DeepBlock}
use Rattle.c_syntax_printing.proofs.PartOpens.{decl_is_deep}
use Rattle.c_parser.specs.declared.starts.Compound.{Compound}
use Rattle.c_parser.specs.declared.starts.Compound.TheVariants as c
use Rattle.c_parser.specs.Making.{Makes, Adds}
use Rattle.c_syntax.specs.declared.tree.Stmt.{Stmt as StmtTree}
use Rattle.c_syntax.specs.Tree.{Stmt}
use Rattle.c_parser.specs.Starting.{BeginsCompound, BeginsOther}
use Rattle.c_parser.specs.Nesting.{RefusesPast, Passes, OpensAs, OpensInBlock}
use Rattle.c_parser.proofs.RoomLemmas.{IsInside}
use Rattle.c_parser.proofs.StmtStops.{inside_is}
use Rattle.c_parser.proofs.DeclStops.{no_decl_room}
use Rattle.c_parser.proofs.LoopStops.{deep_compound}
use Rattle.c_parser.proofs.ItemStops.{other_item_fails}
use Rattle.c_parser.proofs.StmtGoesOn.{block_goes_on, compound_goes_on}

past_as : (A B : Bound → List Token → List Token → Type 0) (O P : ℕ → ℕ → ℕ → List Token → List Token → Type 0) (room inside : Room) {i j : List Token} (e : PhraseError) → ((r : List Token) → Fails (B (bound_of inside)) j r → Fails (A (bound_of room)) i r)
    → ((at : ℕ) (q : List Token) → P at inside.pairs inside.nodes j q → O at room.pairs room.nodes i q) → RefusesPast B P inside e j → RefusesPast A O room e i
past_as A B O P room inside OutOfMemory f g s = tt
past_as A B O P room inside Syntax f g s = tt
past_as A B O P room inside (Nesting at) f g s = record { token = s.token; fails = f s.token s.fails; deep = g at s.token s.deep; some = s.some }

-- by a `?`
pub passed : {T : Type 0} (A B : Bound → List Token → List Token → Type 0) (O P : ℕ → ℕ → ℕ → List Token → List Token → Type 0) (room inside : Room) {i j : List Token} (result : Result T PhraseError) (e : PhraseError) → IsErr result × IsErrAnd result (λ y. y ≡ e) → ((r : List Token) → Fails (B (bound_of inside)) j r → Fails (A (bound_of room)) i r)
    → ((at : ℕ) (q : List Token) → P at inside.pairs inside.nodes j q → O at room.pairs room.nodes i q) → RefusesPast B P inside e j → Passes A O room result i
passed A B O P room inside result e h f g p = let w = err_from_is_err_and result h.1 in rw (w.1, w.2) (past_as A B O P room inside e f g p)

handed : {T : Type 0} (A : Bound → List Token → List Token → Type 0) (O : ℕ → ℕ → ℕ → List Token → List Token → Type 0) (room : Room) (i : List Token) (result : Result T PhraseError) (e : PhraseError) → IsErr result × IsErrAnd result (λ y. y ≡ e) → RefusesPast A O room e i → Passes A O room result i
handed A O room i result e h p = let w = err_from_is_err_and result h.1 in rw (w.1, w.2) p

-- from what the readers of expressions, declarators and initialisers say
deep_as : (B : Bound → List Token → List Token → Type 0) (D : ℕ → ℕ → ℕ → List Token → List Token → Type 0) (room : Room) (j : List Token) (e : PhraseError) → RefusesDeep B D room e j → RefusesPast B (OpensAs D) room e j
deep_as B D room j OutOfMemory s = tt
deep_as B D room j Syntax s = tt
deep_as B D room j (Nesting at) s = record { token = s.token; fails = s.fails; deep = s.opens; some = s.some }

pub passed_deep : {T : Type 0} (A B : Bound → List Token → List Token → Type 0) (O D : ℕ → ℕ → ℕ → List Token → List Token → Type 0) (room : Room) {i j : List Token} (result : Result T PhraseError) (e : PhraseError) → IsErr result × IsErrAnd result (λ y. y ≡ e) → ((r : List Token) → Fails (B (bound_of room)) j r → Fails (A (bound_of room)) i r)
    → ((at : ℕ) (q : List Token) → Opens (D at room.pairs room.nodes) j q → O at room.pairs room.nodes i q) → RefusesDeep B D room e j → Passes A O room result i
passed_deep A B O D room {j = j} result e h f g p = passed A B O (OpensAs D) room room result e h f g (deep_as B D room j e p)

-- the limits inside one more node
nodes_inside : {room inside : Room} → IsInside room inside → suc inside.nodes ≡ room.nodes
nodes_inside h = omega (arith, h.some, h.nodes)

-- the same, where the part stands inside one more node
pub passed_in : {T : Type 0} (A B : Bound → List Token → List Token → Type 0) (O P : ℕ → ℕ → ℕ → List Token → List Token → Type 0) (room : Room) {inside : Room} {i j : List Token} (result : Result T PhraseError) (e : PhraseError) → IsErr result × IsErrAnd result (λ y. y ≡ e) → IsInside room inside → ((r : List Token) → Fails (B (inner (bound_of room))) j r → Fails (A (bound_of room)) i r)
    → ((at : ℕ) (q : List Token) → P at inside.pairs inside.nodes j q → O at inside.pairs (suc inside.nodes) i q) → RefusesPast B P inside e j → Passes A O room result i
passed_in A B O P room {inside} {i} {j} result e h n f g p =
    passed A B O P room inside result e h (λ r w. f r (subst (λ z. Fails (B z) j r) (inside_is n) w))
    (λ at q d. subst (λ z. O at room.pairs z i q) (nodes_inside n) (subst (λ z. O at z (suc inside.nodes) i q) n.pairs (g at q d))) p

pub passed_deep_in : {T : Type 0} (A B : Bound → List Token → List Token → Type 0) (O D : ℕ → ℕ → ℕ → List Token → List Token → Type 0) (room : Room) {inside : Room} {i j : List Token} (result : Result T PhraseError) (e : PhraseError) → IsErr result × IsErrAnd result (λ y. y ≡ e) → IsInside room inside → ((r : List Token) → Fails (B (inner (bound_of room))) j r → Fails (A (bound_of room)) i r)
    → ((at : ℕ) (q : List Token) → Opens (D at inside.pairs inside.nodes) j q → O at inside.pairs (suc inside.nodes) i q) → RefusesDeep B D inside e j → Passes A O room result i
passed_deep_in A B O D room {inside} {j = j} result e h n f g p = passed_in A B O (OpensAs D) room result e h n f g (deep_as B D inside j e p)

-- the same, for items of a block, which stand inside one more node
pub passed_within : {T : Type 0} (A B : Bound → List Token → List Token → Type 0) (D : ℕ → ℕ → ℕ → List Token → List Token → Type 0) (room : Room) {inside : Room} {i j : List Token} (result : Result T PhraseError) (e : PhraseError) → IsErr result × IsErrAnd result (λ y. y ≡ e) → IsInside room inside → ((r : List Token) → Fails (B (inner (bound_of room))) j r → Fails (A (inner (bound_of room))) i r)
    → ((at : ℕ) (q : List Token) → Opens (D at inside.pairs inside.nodes) j q → Opens (DeepBlock at inside.pairs inside.nodes) i q) → RefusesPast B (OpensAs D) inside e j → Passes (λ b. A (inner b)) OpensInBlock room result i
passed_within A B D room {inside} {i} {j} result e h n f g p =
    passed (λ b. A (inner b)) B OpensInBlock (OpensAs D) room inside result e h (λ r w. f r (subst (λ z. Fails (B z) j r) (inside_is n) w))
    (λ at q d m k. subst (λ z. Opens (DeepBlock at room.pairs z) i q) (omega (arith, n.nodes, k)) (subst (λ z. Opens (DeepBlock at z inside.nodes) i q) n.pairs (g at q d))) p

flat_as : (A : Bound → List Token → List Token → Type 0) (O : ℕ → ℕ → ℕ → List Token → List Token → Type 0) (room : Room) (i : List Token) {B : List Token → List Token → Type 0} {j k : List Token} (e : PhraseError) → RefusedFlat B e j k → RefusesPast A O room e i
flat_as A O room i OutOfMemory s = tt
flat_as A O room i Syntax s = tt
flat_as A O room i (Nesting at) s = absurd (s.deep at refl)

-- the same, for a part in which nothing is nested
pub passed_flat : {T : Type 0} (A : Bound → List Token → List Token → Type 0) (O : ℕ → ℕ → ℕ → List Token → List Token → Type 0) (room : Room) (i : List Token) {B : List Token → List Token → Type 0} {j k : List Token} (result : Result T PhraseError) (e : PhraseError) → IsErr result × IsErrAnd result (λ y. y ≡ e) → RefusedFlat B e j k → Passes A O room result i
passed_flat A O room i result e h p = handed A O room i result e h (flat_as A O room i e p)

-- where nothing but memory was wanting

adds_none : {X : Type 0} (A : Bound → List Token → List Token → Type 0) (O : ℕ → ℕ → ℕ → List Token → List Token → Type 0) (room : Room) (i : List Token) (old new : List X) (item : X) (e : PhraseError) → Adds (Err e) old new item → RefusesPast A O room e i
adds_none A O room i old new item OutOfMemory p = tt
adds_none A O room i old new item Syntax p = tt
adds_none A O room i old new item (Nesting at) p = absurd p

pub memory_wants : {X T : Type 0} (A : Bound → List Token → List Token → Type 0) (O : ℕ → ℕ → ℕ → List Token → List Token → Type 0) (room : Room) (i : List Token) (old new : List X) (item : X) (result : Result T PhraseError) (e : PhraseError) → IsErr result × IsErrAnd result (λ y. y ≡ e) → Adds (Err e) old new item → Passes A O room result i
memory_wants A O room i old new item result e h p = handed A O room i result e h (adds_none A O room i old new item e p)

-- what a last call answers, where it is returned as it is

pub passes_as : {T : Type 0} (A B : Bound → List Token → List Token → Type 0) (O P : ℕ → ℕ → ℕ → List Token → List Token → Type 0) (room inside : Room) {i j : List Token} (result : Result T PhraseError) → ((r : List Token) → Fails (B (bound_of inside)) j r → Fails (A (bound_of room)) i r)
    → ((at : ℕ) (q : List Token) → P at inside.pairs inside.nodes j q → O at room.pairs room.nodes i q) → Passes B P inside result j → Passes A O room result i
passes_as A B O P room inside (Ok x) f g p = tt
passes_as A B O P room inside (Err e) f g p = past_as A B O P room inside e f g p

-- the same, where the part stands inside one more node
pub passes_in : {T : Type 0} (A B : Bound → List Token → List Token → Type 0) (O P : ℕ → ℕ → ℕ → List Token → List Token → Type 0) (room : Room) {inside : Room} {i j : List Token} (result : Result T PhraseError) → IsInside room inside → ((r : List Token) → Fails (B (inner (bound_of room))) j r → Fails (A (bound_of room)) i r)
    → ((at : ℕ) (q : List Token) → P at inside.pairs inside.nodes j q → O at inside.pairs (suc inside.nodes) i q) → Passes B P inside result j → Passes A O room result i
passes_in A B O P room {inside} {i} {j} result n f g p =
    passes_as A B O P room inside result (λ r w. f r (subst (λ z. Fails (B z) j r) (inside_is n) w))
    (λ at q d. subst (λ z. O at room.pairs z i q) (nodes_inside n) (subst (λ z. O at z (suc inside.nodes) i q) n.pairs (g at q d))) p

-- the same, for a node and for an item that is added: nothing but memory was wanting
pub made_passes : (A : Bound → List Token → List Token → Type 0) (O : ℕ → ℕ → ℕ → List Token → List Token → Type 0) (room : Room) (i : List Token) (result : Result (Box StmtTree Global) PhraseError) (s : Stmt) → Makes result s → Passes A O room result i
made_passes A O room i (Ok x) s p = tt
made_passes A O room i (Err OutOfMemory) s p = tt
made_passes A O room i (Err Syntax) s p = tt
made_passes A O room i (Err (Nesting at)) s p = absurd p

pub added_passes : {X : Type 0} (A : Bound → List Token → List Token → Type 0) (O : ℕ → ℕ → ℕ → List Token → List Token → Type 0) (room : Room) (i : List Token) (old new : List X) (item : X) (result : Result (Unit {0}) PhraseError) → Adds result old new item → Passes A O room result i
added_passes A O room i old new item (Ok x) p = tt
added_passes A O room i old new item (Err e) p = adds_none A O room i old new item e p

-- where one node is sure to be too many

some_at : {i : List Token} → IsAtSpecifier i → 0 < length i
some_at {i = []} h = absurd (omega (arith, h.low))
some_at {i = t ∷ i} h = omega arith

specifier_is_deep : {at p : ℕ} {i : List Token} → IsAtSpecifier i → Opens (DeepDecl at p 0) i i
specifier_is_deep {i = []} h = absurd (omega (arith, h.low))
specifier_is_deep {i = t ∷ i} h = decl_is_deep h.low h.high

pub decl_nests : (room : Room) (i : List Token) (e : PhraseError) → room.nodes ≡ 0 → IsAtSpecifier i → RefusesPast APlainDecl (OpensAs DeepDecl) room e i
decl_nests room i OutOfMemory q h = tt
decl_nests room i Syntax q h = tt
decl_nests room i (Nesting at) q h = record { token = i; fails = no_decl_room i q; deep = subst (λ n. Opens (DeepDecl at room.pairs n) i i) (sym q) (specifier_is_deep h); some = some_at h }

pub compound_nests : (room : Room) (i : List Token) (e : PhraseError) (form : Compound) → room.nodes ≡ 1 → BeginsCompound form i → 0 < length i → RefusesPast AStmt (OpensAs DeepStmt) room e i
compound_nests room i OutOfMemory _ q h l = tt
compound_nests room i Syntax _ q h l = tt
compound_nests room i (Nesting at) form q h l = record { token = i; fails = deep_compound form q h; deep = subst (λ n. Opens (DeepStmt at room.pairs n) i i) (sym q) (compound_goes_on form h); some = l }

-- a block, for which there is a node
pub block_then : {at p : ℕ} (n : ℕ) {i q : List Token} → (n ≡ 0 → ⊥) → IsAt LEFT_BRACE i → OpensInBlock at p n (drop 1 i) q → Opens (DeepStmt at p n) i q
block_then zero f h o = absurd (f refl)
block_then (suc m) f h o = block_goes_on h (o m refl)

-- a declaration or a function where no other item stands
pub passes_other : {T : Type 0} (O : ℕ → ℕ → ℕ → List Token → List Token → Type 0) (room : Room) (i : List Token) (result : Result T PhraseError) → 0 < room.nodes → BeginsOther i → Passes AnOther O room result i → Passes AnItem O room result i
passes_other O room i (Ok x) l b s = tt
passes_other O room i (Err OutOfMemory) l b s = tt
passes_other O room i (Err Syntax) l b s = tt
passes_other O room i (Err (Nesting at)) l b s = record { token = s.token; fails = other_item_fails (bound_of room) (fits_within (omega arith) (omega (arith, l))) b s.fails; deep = s.deep; some = s.some }
