-- How the refusal of a part becomes that of the whole.
use Rattle.std.proofs.Common.{◌≡◌, ◌<◌, ◌-◌, ℕ, suc, List, length, refl, sym, subst, arith}
use Rattle.c_syntax_printing.specs.Opens.{Opens}
use Rattle.c_lexer.specs.declared.token.Token.{Token}
use Rattle.c_parser_phrases.specs.declared.room.Room.{Room}
use Rattle.c_parser_phrases.specs.declared.error.PhraseError.{PhraseError}
use Rattle.c_parser_phrases.specs.declared.error.PhraseError.TheVariants.{OutOfMemory, Syntax, Nesting}
use Rattle.c_syntax_printing.specs.Fails.{Fails, NotAt}
use Rattle.c_syntax_printing.specs.Phrases.{Bound, any, within, inner}
use Rattle.c_syntax_printing.specs.Operands.{enclosed}
use Rattle.c_syntax.specs.Tokens.{Is, IsKeyword}
use Rattle.c_parser_phrases.specs.Standing.{IsAt, IsAtKeyword}
use Rattle.c_parser_phrases.specs.Refusing.{bound_of, Refuses, RefusesDeep, RefusedFlat}
use Rattle.c_parser_phrases.specs.Reading.{IsNested, Refused, Lacks, LacksPast}
use Rattle.c_parser_phrases.proofs.Lacking.{nesting_same}

wrong_is : {at : ℕ} → Nesting at ≡ Syntax → ⊥
wrong_is q = cc

deep_is : {at : ℕ} → Syntax ≡ Nesting at → ⊥
deep_is q = cc

no_memory_is : OutOfMemory ≡ Syntax → ⊥
no_memory_is q = cc

memory_deep_is : {at : ℕ} → OutOfMemory ≡ Nesting at → ⊥
memory_deep_is q = cc

-- there was no memory
pub no_memory : {Q : Bound → List Token → List Token → Type 0} {O : ℕ → ℕ → ℕ → List Token → List Token → Type 0} {room : Room} {i j : List Token} → Refused Q O room OutOfMemory i j
no_memory = record { wrong = λ q. absurd (no_memory_is q); deep = λ at q. absurd (memory_deep_is q) }

-- it fails where the cursor stands
pub wrong_here : {Q : Bound → List Token → List Token → Type 0} {O : ℕ → ℕ → ℕ → List Token → List Token → Type 0} {room : Room} {i j : List Token} → Q any i j → Refused Q O room Syntax i j
wrong_here f = record { wrong = λ q. f; deep = λ at q. absurd (deep_is q) }

-- within the limits it fails at the token, and past them it goes on
pub deep_at : {Q : Bound → List Token → List Token → Type 0} {O : ℕ → ℕ → ℕ → List Token → List Token → Type 0} {room : Room} {at : ℕ} {i j : List Token} (q : List Token) → Q (bound_of room) i q → O at room.pairs room.nodes i q → 0 < length q → Refused Q O room (Nesting at) i j
deep_at {O = O} {room} {i = i} q f o s = record {
  wrong = λ e. absurd (wrong_is e);
  deep = λ at e. record { token = q; fails = f; opens = subst (λ z. O z room.pairs room.nodes i q) (nesting_same e) o; some = s };
}

-- the same of a place that is told
pub nested_at : {Q : Bound → List Token → List Token → Type 0} {O : ℕ → ℕ → ℕ → List Token → List Token → Type 0} {room : Room} {at : ℕ} {i : List Token} (q : List Token) → Q (bound_of room) i q → O at room.pairs room.nodes i q → 0 < length q → IsNested Q O room at i
nested_at q f o s = record { token = q; fails = f; opens = o; some = s }

-- the part stands within the same limits
pub raised : {Q P : Bound → List Token → List Token → Type 0} {O U : ℕ → ℕ → ℕ → List Token → List Token → Type 0} {room : Room} {e : PhraseError} {i j k : List Token} → Refused Q O room e j k → ((b : Bound) (r : List Token) → Q b j r → P b i r) → ((at : ℕ) (r : List Token) → O at room.pairs room.nodes j r → U at room.pairs room.nodes i r) → Refused P U room e i k
raised {room = room} h f g = record {
  wrong = λ q. f any _ (h.wrong q);
  deep = λ at q. let x = h.deep at q in record { token = x.token; fails = f (bound_of room) x.token x.fails; opens = g at x.token x.opens; some = x.some };
}

-- the part stands inside one more node
pub raised_in : {Q P : Bound → List Token → List Token → Type 0} {O U : ℕ → ℕ → ℕ → List Token → List Token → Type 0} {room inside : Room} {e : PhraseError} {i j k : List Token} → 0 < room.nodes → inside.nodes ≡ room.nodes - 1 → inside.pairs ≡ room.pairs → Refused Q O inside e j k → ((b : Bound) (r : List Token) → Q (inner b) j r → P b i r) → ((at : ℕ) (r : List Token) → O at room.pairs (room.nodes - 1) j r → U at room.pairs (suc (room.nodes - 1)) i r) → Refused P U room e i k
raised_in {Q} {O = O} {U} {room = room} {inside = inside} {i = i} {j = j} l n p h f g = record {
  wrong = λ q. f any _ (h.wrong q);
  deep = λ at q.
      let x = h.deep at q in
      let m : suc (room.nodes - 1) ≡ room.nodes = omega (arith, l) in
      record {
        token = x.token;
        fails = f (bound_of room) x.token (subst (λ z. Q z j x.token) (λ w. within (p w) (n w)) x.fails);
        opens = subst (λ z. U at room.pairs z i x.token) m (g at x.token (subst (λ z. O at z (room.nodes - 1) j x.token) p (subst (λ z. O at inside.pairs z j x.token) n x.opens)));
        some = x.some;
      };
}

-- the part stands inside one more pair of parentheses
pub raised_enclosed : {Q P : Bound → List Token → List Token → Type 0} {O U : ℕ → ℕ → ℕ → List Token → List Token → Type 0} {room inside : Room} {e : PhraseError} {i j k : List Token} → 0 < room.pairs → inside.nodes ≡ room.nodes → inside.pairs ≡ room.pairs - 1 → Refused Q O inside e j k → ((b : Bound) (r : List Token) → Q (enclosed b) j r → P b i r) → ((at : ℕ) (r : List Token) → O at (room.pairs - 1) room.nodes j r → U at (suc (room.pairs - 1)) room.nodes i r) → Refused P U room e i k
raised_enclosed {Q} {O = O} {U} {room = room} {inside = inside} {i = i} {j = j} l n p h f g = record {
  wrong = λ q. f any _ (h.wrong q);
  deep = λ at q.
      let x = h.deep at q in
      let m : suc (room.pairs - 1) ≡ room.pairs = omega (arith, l) in
      record {
        token = x.token;
        fails = f (bound_of room) x.token (subst (λ z. Q z j x.token) (λ w. within (p w) (n w)) x.fails);
        opens = subst (λ z. U at z room.nodes i x.token) m (g at x.token (subst (λ z. O at (room.pairs - 1) z j x.token) n (subst (λ z. O at z inside.nodes j x.token) p x.opens)));
        some = x.some;
      };
}

-- the part is one in which nothing is nested
pub raised_flat : {A : List Token → List Token → Type 0} {P : Bound → List Token → List Token → Type 0} {U : ℕ → ℕ → ℕ → List Token → List Token → Type 0} {room : Room} {e : PhraseError} {i j k : List Token} → RefusedFlat A e j k → ((b : Bound) (r : List Token) → Fails A j r → P b i r) → Refused P U room e i k
raised_flat h f = record { wrong = λ q. f any _ (h.wrong q); deep = λ at q. absurd (h.deep at q) }

-- the same of both
pub flat_as : {A B : List Token → List Token → Type 0} {e : PhraseError} {i j k : List Token} → RefusedFlat A e j k → ((r : List Token) → Fails A j r → Fails B i r) → RefusedFlat B e i k
flat_as h f = record { wrong = λ q. f _ (h.wrong q); deep = h.deep }

pub flat_no_memory : {A : List Token → List Token → Type 0} {i j : List Token} → RefusedFlat A OutOfMemory i j
flat_no_memory = record { wrong = λ q. absurd (no_memory_is q); deep = λ at q. absurd (memory_deep_is q) }

pub flat_here : {A : List Token → List Token → Type 0} {i j : List Token} → Fails A i j → RefusedFlat A Syntax i j
flat_here f = record { wrong = λ q. f; deep = λ at q. absurd (deep_is q) }

-- what a public reader answers

pub told : {A : Bound → List Token → List Token → Type 0} {O : ℕ → ℕ → ℕ → List Token → List Token → Type 0} {room : Room} {i j : List Token} (e : PhraseError) → Refused (Lacks A) O room e i j → Refuses A (bound_of room) e i j
told OutOfMemory h = tt
told Syntax h = h.wrong refl
told (Nesting at) h = let x = h.deep at refl in (x.token, x.fails)

pub told_deep : {A : Bound → List Token → List Token → Type 0} {D : ℕ → ℕ → ℕ → List Token → List Token → Type 0} {room : Room} {i j : List Token} (e : PhraseError) → Refused (Lacks A) (λ at p n i r. Opens (D at p n) i r) room e i j → RefusesDeep A D room e i
told_deep OutOfMemory h = tt
told_deep Syntax h = tt
told_deep (Nesting at) h = let x = h.deep at refl in record { token = x.token; fails = x.fails; opens = x.opens; some = x.some }

pub telling : {A : Bound → List Token → List Token → Type 0} {D : ℕ → ℕ → ℕ → List Token → List Token → Type 0} {room : Room} {i j : List Token} (e : PhraseError) → Refuses A (bound_of room) e i j → RefusesDeep A D room e i → Refused (Lacks A) (λ at p n i r. Opens (D at p n) i r) room e i j
telling OutOfMemory h d = no_memory
telling Syntax h d = wrong_here h
telling (Nesting at) h d = deep_at d.token d.fails d.opens d.some

pub flat : {A : List Token → List Token → Type 0} (b : Bound) {i j : List Token} (e : PhraseError) → RefusedFlat A e i j → Refuses (λ _. A) b e i j
flat b OutOfMemory h = tt
flat b Syntax h = h.wrong refl
flat b (Nesting at) h = absurd (h.deep at refl)

-- no token with the punctuator, or with the keyword, stands first

pub not_at : {code : ℕ} {i : List Token} → (IsAt code i → ⊥) → NotAt (Is code) i
not_at {code} f t j q h = f (subst (λ z. IsAt code z) (sym q) h)

pub not_at_word : {code : ℕ} {i : List Token} → (IsAtKeyword code i → ⊥) → NotAt (IsKeyword code) i
not_at_word {code} f t j q h = f (subst (λ z. IsAtKeyword code z) (sym q) h)

-- a place that is known by an equation
pub ends_at : {A : List Token → List Token → Type 0} {i j k : List Token} → k ≡ j → Fails A i j → Fails A i k
ends_at {A} {i} q f = subst (λ z. Fails A i z) (sym q) f

pub past_at : {A : Bound → List Token → List Token → Type 0} {b : Bound} {i j k : List Token} → k ≡ j → LacksPast A b i j → LacksPast A b i k
past_at {A} {b} {i} q f = subst (λ z. LacksPast A b i z) (sym q) f

pub at_from : (code : ℕ) {i j : List Token} → i ≡ j → IsAt code j → IsAt code i
at_from code q h = subst (λ z. IsAt code z) (sym q) h
