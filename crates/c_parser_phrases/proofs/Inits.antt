-- Initialisers: as the terms that they are seen as, and what is read of a list of them.
use Rattle.std.proofs.Common.{◌⊎◌, inl, inr, ◌≡◌, ◌<◌, ◌≤◌, ◌-◌, ℕ, max, Bool, true, false, List, [], ◌∷◌, ◌++◌, drop, length, refl, sym, ap, ◌∙◌, subst, arith}
use Rattle.std.specs.Prelude.{Ok}
use Rattle.c_lexer.specs.declared.token.Token.{Token}
use Rattle.c_lexer.specs.declared.punctuator.TheConstants.{COMMA, LEFT_BRACE, RIGHT_BRACE}
use Rattle.c_syntax.specs.declared.tree.ExprKind.{ExprKind, Name}
use Rattle.c_syntax.specs.declared.tree.Init.{Init as InitTree}
use Rattle.c_syntax.specs.Tree.{Expr, Init, one, list, Inits, no_inits, more_inits}
use Rattle.c_syntax.specs.Tokens.{Is, place}
use Rattle.c_syntax.specs.Grammar.{assignment_level}
use Rattle.c_syntax.specs.Limits.{height_of_init, height_of_inits}
use Rattle.c_syntax.specs.Statements.{place_of, ReadsInit, an_expression, a_list, a_list_with_comma, ReadsInits, last_init, next_init}
use Rattle.c_syntax.specs.View.{expr_at}
use Rattle.c_syntax.specs.UnitView.{init_of}
use Rattle.c_syntax.specs.WritesUnit.{inits_of}
use Rattle.c_syntax_printing.specs.Ranks.{rank}
use Rattle.c_parser_phrases.specs.declared.room.Room.{Room}
use Rattle.c_parser_phrases.specs.Standing.{IsAt, Took}
use Rattle.c_parser_phrases.specs.Phrases.{HasRead, HasInit}
use Rattle.c_parser_phrases.specs.Lists.{HasList, GoesOn}
use Rattle.c_parser_phrases.proofs.Exits.{taken_at}

-- the place of an expression
pub place_is : (at : ℕ) (kind : ExprKind) → place_of (expr_at at kind) ≡ at
place_is at (Name n) = refl
place_is at kind = refl

inits_on : Inits → Init → Inits
inits_on no_inits a = more_inits a no_inits
inits_on (more_inits b rest) a = more_inits b (inits_on rest a)

read_on : {d : ℕ} {is : Inits} {a : Init} {t : Token} {i j k : List Token} → ReadsInits d is i (t ∷ j) → Is COMMA t → ReadsInit d a j k → ReadsInits d (inits_on is a) i k
unfolding inits_on
read_on (last_init r) h a = next_init r h (last_init a)
read_on (next_init r g b) h a = next_init r g (read_on b h a)

inits_pushed : (xs : List InitTree) (x : InitTree) → inits_of (xs ++ x ∷ []) ≡ inits_on (inits_of xs) (init_of x)
unfolding inits_on
inits_pushed [] x = refl
inits_pushed (y ∷ xs) x = ap (more_inits (init_of y)) (inits_pushed xs x)

-- one initialiser more, after a comma
pub inits_more : {d : ℕ} {t : Token} {i j k m : List Token} {ys : List InitTree} (xs : List InitTree) (x : InitTree) → ReadsInits d (inits_of xs) i j → j ≡ t ∷ k → Is COMMA t → ReadsInit d (init_of x) k m → ys ≡ xs ++ x ∷ [] → ReadsInits d (inits_of ys) i m
inits_more {d} {i = i} {m = m} xs x r q h a e =
    let P : List Token → Type 0 = λ z. ReadsInits d (inits_of xs) i z in
    let Q : List InitTree → Type 0 = λ z. ReadsInits d (inits_of z) i m in
    subst Q (sym e) (rw (inits_pushed xs x) (read_on (subst P q r) h a))

pub inits_height : (xs : List InitTree) (x : InitTree) → height_of_inits (inits_of (xs ++ x ∷ [])) ≡ max (height_of_inits (inits_of xs)) (height_of_init (init_of x))
inits_height [] x = omega arith
inits_height (y ∷ xs) x = omega (arith, inits_height xs x)

-- an expression as an initialiser
pub one_has : {room : Room} {e : Expr} {v : Init} {i j : List Token} → HasRead room assignment_level e i j → v ≡ one (place_of e) e → HasInit room v i j
one_has {room} {e} {v} {i} {j} h q =
    let P : Init → Type 0 = λ z. HasInit room z i j in
    subst P (sym q) (record { reads = an_expression h.reads refl; nested = h.nested; stops = h.stops; shorter = h.shorter })

-- the end of a list
pub list_ended : {d : ℕ} {is : Inits} {t : Token} {i j k : List Token} → Is LEFT_BRACE t → ReadsInits d is i j → GoesOn (Ok false) j k → ReadsInit d (list t.from is) (t ∷ i) k
list_ended {d} {is} {t} {i} {j} {k} h r g =
    let P : List Token → Type 0 = λ z. ReadsInits d is i z in
    elim g.2 [ inl q ↦ a_list h (subst P q r) g.1 | inr q ↦ a_list_with_comma h (subst P q.2 r) q.1 g.1 ]

list_here : {room x : Room} {is : Inits} {t : Token} {k m : List Token} → x.pairs ≡ room.pairs → x.nodes ≡ room.nodes - 1 → (room.nodes ≡ 0 → ⊥) → HasList x is t k m → length m < length k → (rank m ≤ 13 → ⊥) → HasInit room (list t.from is) (t ∷ k) m
list_here {room} {x} {is} {t} {k} {m} p n z h l f =
    let P : ℕ → Type 0 = λ y. ReadsInit y (list t.from is) (t ∷ k) m in
    record { reads = subst P p h.reads; nested = omega (arith, h.nested, n, z); stops = omega (arith, f); shorter = omega (arith, l) }

-- a list as an initialiser
pub list_has :
    {room x : Room} {at : ℕ} {is : Inits} {v : Init} {i k m : List Token}
    → x.pairs ≡ room.pairs → x.nodes ≡ room.nodes - 1 → (room.nodes ≡ 0 → ⊥) → at ≡ place i → IsAt LEFT_BRACE i → k ≡ drop 1 i
    → ((t : Token) → Is LEFT_BRACE t → HasList x is t k m) → length m < length k → (rank m ≤ 13 → ⊥) → v ≡ list at is → HasInit room v i m
list_has {room} {x} {at} {is} {v} {i} {k} {m} p n z b h r g l f q =
    let t = taken_at _ i k h r in
    let P : Init → Type 0 = λ y. HasInit room y i m in
    let Q : ℕ → Type 0 = λ y. HasInit room (list y is) i m in
    let R : List Token → Type 0 = λ y. HasInit room (list t.0.from is) y m in
    subst P (sym q) (subst Q (sym (b ∙ ap place t.2)) (subst R (sym t.2) (list_here p n z (g t.0 t.1) l f)))

inits_first_is : {xs ns : List InitTree} {x : InitTree} → xs ≡ ns ++ x ∷ [] → ns ≡ [] → xs ≡ x ∷ []
inits_first_is {x = x} q n = q ∙ ap (λ y. y ++ x ∷ []) n

-- the first initialiser alone
pub inits_first : {d : ℕ} {i j : List Token} {xs ns : List InitTree} (x : InitTree) → xs ≡ ns ++ x ∷ [] → ns ≡ [] → ReadsInit d (init_of x) i j → ReadsInits d (inits_of xs) i j
inits_first {d} {i} {j} x q n r =
    let P : List InitTree → Type 0 = λ y. ReadsInits d (inits_of y) i j in
    subst P (sym (inits_first_is q n)) (last_init r)

pub first_low : {n : ℕ} {xs ns : List InitTree} (x : InitTree) → xs ≡ ns ++ x ∷ [] → ns ≡ [] → height_of_init (init_of x) ≤ n → height_of_inits (inits_of xs) ≤ n
first_low {n} x q e h =
    let P : List InitTree → Type 0 = λ y. height_of_inits (inits_of y) ≤ n in
    subst P (sym (inits_first_is q e)) (omega (arith, h))

pub grown_low : {n : ℕ} {ys : List InitTree} (xs : List InitTree) (x : InitTree) → ys ≡ xs ++ x ∷ [] → height_of_inits (inits_of xs) ≤ n → height_of_init (init_of x) ≤ n → height_of_inits (inits_of ys) ≤ n
grown_low {n} xs x q a b =
    let P : List InitTree → Type 0 = λ y. height_of_inits (inits_of y) ≤ n in
    subst P (sym q) (omega (arith, a, b, inits_height xs x))

-- a comma was taken
pub goes : {i j : List Token} (b : Bool) → b ≡ true → GoesOn (Ok b) i j → (c : Token) × Is COMMA c × (i ≡ c ∷ j) × (IsAt RIGHT_BRACE j → ⊥)
goes true e h = h
goes false e h = absurd (let q : false ≡ true = e in cc)

-- the brace at the end was taken
pub ends : {i j : List Token} (b : Bool) → b ≡ false → GoesOn (Ok b) i j → (u : Token) × Is RIGHT_BRACE u × ((i ≡ u ∷ j) ⊎ ((c : Token) × Is COMMA c × (i ≡ c ∷ u ∷ j)))
ends false e h = h
ends true e h = absurd (let q : true ≡ false = e in cc)

-- the brace at the end, perhaps after a comma
pub list_stops : {i j k : List Token} (b : Bool) → Took COMMA b i k → ((u : Token) × Is RIGHT_BRACE u × (k ≡ u ∷ j)) → (u : Token) × Is RIGHT_BRACE u × ((i ≡ u ∷ j) ⊎ ((c : Token) × Is COMMA c × (i ≡ c ∷ u ∷ j)))
list_stops true h u = (u.0, u.1, inr (h.0, h.1, h.2 ∙ ap (λ y. h.0 ∷ y) u.2))
list_stops false h u = (u.0, u.1, inl (sym h.1 ∙ u.2))
