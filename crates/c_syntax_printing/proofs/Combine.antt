-- How failures of parts become those of the whole.
use Rattle.std.proofs.Common.{ℕ, zero, suc, ◌+◌, arith, ◌≡◌, List, ◌∷◌, ◌++◌, refl, sym, ap, ◌∙◌, subst, append_assoc, []}
use Rattle.std.proofs.lemmas.List.{append_cancel_right}
use Rattle.c_lexer.specs.declared.token.Token.{Token}
use Rattle.c_syntax.specs.Tokens.{Is}
use Rattle.c_syntax_printing.proofs.Ranks.{apart, heads}
use Rattle.c_syntax_printing.specs.Twins.{Twin, here, along, On}
use Rattle.c_syntax_printing.proofs.Twins.{glue}
use Rattle.c_syntax_printing.specs.Fails.{Meets, at_end, at_token, Fails, Then, then, Or, first, second, One, one, NotAt}

pub meets_itself : (r : List Token) → Meets r r
meets_itself [] = at_end
meets_itself (t ∷ r) = at_token

-- what stands behind the same tokens begins alike
pub alike : {r s : List Token} (front : List Token) → Meets r s → Meets (front ++ r) (front ++ s)
alike [] m = m
alike (t ∷ front) m = at_token

-- the same, where the first list is known by an equation
pub alike_at : {r s i : List Token} (front : List Token) → i ≡ front ++ r → Meets r s → Meets i (front ++ s)
alike_at front e m = rw e (alike front m)

-- at the place itself
pub fails_here : {A : List Token → List Token → Type 0} {r : List Token} → ((s : List Token) → Meets r s → (j : List Token) → A s j → ⊥) → Fails A r r
fails_here f = record { front = []; is = refl; none = f }

-- a phrase that has each reading of another fails where that fails
pub fails_as : {A B : List Token → List Token → Type 0} {i r : List Token} → ((k j : List Token) → Meets i k → A k j → B k j) → Fails B i r → Fails A i r
fails_as f b = record { front = b.front; is = b.is; none = λ s m j a. b.none s m j (f _ j (alike_at b.front b.is m) a) }

pub fails_at : {A : List Token → List Token → Type 0} {i j r : List Token} → i ≡ j → Fails A j r → Fails A i r
fails_at q f = record { front = f.front; is = q ∙ f.is; none = f.none }

-- the first part fails
pub fails_first : {A B : List Token → List Token → Type 0} {i r : List Token} → Fails A i r → Fails (Then A B) i r
fails_first {A} {B} a = record { front = a.front; is = a.is; none = λ s m j w. inside (a.none s m) w }
  where
    inside : {i k : List Token} → ((j : List Token) → A i j → ⊥) → Then A B i k → ⊥
    inside f (then a b) = f _ a

-- a token stands, and what follows it fails
pub fails_after : {P : Token → Type 0} {B : List Token → List Token → Type 0} {t : Token} {i r : List Token} → Fails B i r → Fails (Then (One P) B) (t ∷ i) r
fails_after {P} {B} {t} b = record { front = t ∷ b.front; is = ap (λ x. t ∷ x) b.is; none = λ s m j w. inside (b.none s m) w }
  where
    inside : {t : Token} {i k : List Token} → ((j : List Token) → B i j → ⊥) → Then (One P) B (t ∷ i) k → ⊥
    inside f (then (one h) b) = f _ b

-- a phrase whose rest after its first token is another phrase fails where that fails
pub fails_under : {A B : List Token → List Token → Type 0} {t : Token} {i r : List Token} → ((k j : List Token) → A (t ∷ k) j → B k j) → Fails B i r → Fails A (t ∷ i) r
fails_under {t = t} f b = record { front = t ∷ b.front; is = ap (λ x. t ∷ x) b.is; none = λ s m j a. b.none s m j (f _ j a) }

-- the same, where what stands instead of i begins as i does
pub fails_under_alike : {A B : List Token → List Token → Type 0} {t : Token} {i r : List Token} → ((k j : List Token) → Meets i k → A (t ∷ k) j → B k j) → Fails B i r → Fails A (t ∷ i) r
fails_under_alike {t = t} f b = record { front = t ∷ b.front; is = ap (λ x. t ∷ x) b.is; none = λ s m j a. b.none s m j (f _ j (alike_at b.front b.is m) a) }

-- What A reads is read whatever stands in place of the tokens from the second one after it on, and each reading by B of the same
-- tokens ends where it does.
pub record Fixes (A B : List Token → List Token → Type 0) : Type 0 where
  pub moves : (i j : List Token) → A i j → (k : List Token) → Meets j k → On A i j k
  pub once : (i j k : List Token) → A i j → B i k → j ≡ k

pub fronted : {r s i k : List Token} → Twin r s i k → (front : List Token) × (i ≡ front ++ r) × (k ≡ front ++ s)
fronted here = ([], refl, refl)
fronted (along {t = t} w) = let f = fronted w in (t ∷ f.0, ap (λ x. t ∷ x) f.1, ap (λ x. t ∷ x) f.2)

-- the tokens of a part that moved
moved_is : (i j y s h g front : List Token) → i ≡ h ++ j → y ≡ h ++ (front ++ s) → i ≡ g ++ j → (g ++ front) ++ s ≡ y
moved_is i j y s h g front p q o =
    let e : h ≡ g = append_cancel_right h g j (sym p ∙ o) in
    append_assoc g front s ∙ ap (λ z. z ++ (front ++ s)) (sym e) ∙ sym q

parted : {A B C : List Token → List Token → Type 0} {i j k : List Token} → Fixes A B → A i j → Then B C i k → C j k
parted {C = C} {k = k} f a (then b c) = subst (λ z. C z k) (sym (f.once _ _ _ a b)) c

-- the token alone
pub missing : {P : Token → Type 0} (i : List Token) → NotAt P i → Fails (One P) i i
missing {P} i f = fails_here (λ s m j w. none m f w)
  where
    none : {i s j : List Token} → Meets i s → NotAt P i → One P s j → ⊥
    none at_token f (one h) = f _ _ refl h
    none at_end f h = elim h [ ]

-- no token with the property stands first
pub fails_missing : {P : Token → Type 0} {B : List Token → List Token → Type 0} (i : List Token) → ((t : Token) (j : List Token) → i ≡ t ∷ j → P t → ⊥) → Fails (Then (One P) B) i i
fails_missing i f = fails_first (missing i f)

-- what begins alike begins with no such token either
pub not_at_alike : {P : Token → Type 0} {i k : List Token} → Meets i k → NotAt P i → NotAt P k
not_at_alike {P} at_end f = f
not_at_alike {P} at_token f = λ u h q p. f _ _ refl (subst P (sym (heads q).0) p)

-- what fails at a token fails at the next one too
pub fails_on : {A : List Token → List Token → Type 0} {t : Token} {i r : List Token} → Fails A i (t ∷ r) → Fails A i r
fails_on {A} {t} {i} {r} f = record {
  front = f.front ++ t ∷ [];
  is = f.is ∙ sym (append_assoc f.front (t ∷ []) r);
  none = λ s m j a. f.none (t ∷ s) at_token j (subst (λ z. A z j) (append_assoc f.front (t ∷ []) s) a);
}

-- the phrase stands at the front of the tokens
pub record Begins (A : List Token → List Token → Type 0) (i : List Token) : Type 0 where
  pub rest : List Token
  pub reads : A i rest

-- a phrase that begins with another fails where that fails
pub fails_begun : {A B : List Token → List Token → Type 0} {i r : List Token} → ((k j : List Token) → Meets i k → A k j → Begins B k) → Fails B i r → Fails A i r
fails_begun f b = record { front = b.front; is = b.is; none = λ s m j a. let v = f _ j (alike_at b.front b.is m) a in b.none s m v.rest v.reads }

-- What stands there moves, and behind it begins what fails.
pub fails_past : {R A C : List Token → List Token → Type 0} {i j r : List Token} → ((k : List Token) → Meets j k → On R i j k) → ((h k l : List Token) → Meets j k → R h k → A h l → Begins C k) → Fails C j r → Fails A i r
fails_past {R} {A} {C} {i} {j} {r} f g c =
    let x = f j (meets_itself j) in
    let q = fronted x.twin in
    record {
      front = q.0 ++ c.front;
      is = q.1 ∙ ap (λ k. q.0 ++ k) c.is ∙ sym (append_assoc q.0 c.front r);
      none = λ s m l w.
          let n = alike_at c.front c.is m in
          let y = f (c.front ++ s) n in
          let h = fronted y.twin in
          let e : (q.0 ++ c.front) ++ s ≡ y.tokens = moved_is i j y.tokens s h.0 q.0 c.front h.1 h.2 q.1 in
          let v : A y.tokens l = subst (λ z. A z l) e w in
          let b = g y.tokens (c.front ++ s) l n y.reads v in c.none s m b.rest b.reads;
    }

-- the first part stands, and the next one fails
pub fails_later : {A B C : List Token → List Token → Type 0} {i j r : List Token} → Fixes A B → A i j → Fails C j r → Fails (Then B C) i r
fails_later {A} {C = C} f a c = fails_past {R = A} {C = C} (λ k m. f.moves _ _ a k m) (λ h k l m v w. record { rest = l; reads = parted f v w }) c

-- What stands there moves, and where it stands nothing else does.
pub fails_beside : {R A : List Token → List Token → Type 0} {i j : List Token} → ((k : List Token) → Meets j k → On R i j k) → ((h k l : List Token) → Meets j k → R h k → A h l → ⊥) → Fails A i j
fails_beside {R} f g = fails_past {R = R} {C = λ h k. ⊥} f (λ h k l m v a. absurd (g h k l m v a)) (fails_here (λ s m j a. a))

-- what has one front and goes on alike begins alike
pub twin_alike : {r s i k : List Token} → Twin r s i k → Meets r s → Meets i k
twin_alike here m = m
twin_alike (along w) m = at_token

-- back to what stood there
pub twin_back : {i j h k z : List Token} → Twin j k i h → Twin k j h z → z ≡ i
twin_back {i} {j} {h} {k} {z} a b =
    let x = fronted a in
    let y = fronted b in
    let e : y.0 ≡ x.0 = append_cancel_right y.0 x.0 k (sym y.1 ∙ x.2) in
    y.2 ∙ ap (λ f. f ++ j) e ∙ sym x.1

-- a phrase that goes on after its first token with what fails
pub fails_under_begun : {A B : List Token → List Token → Type 0} {t : Token} {i r : List Token} → ((k j : List Token) → A (t ∷ k) j → Begins B k) → Fails B i r → Fails A (t ∷ i) r
fails_under_begun {t = t} f b = record { front = t ∷ b.front; is = ap (λ x. t ∷ x) b.is; none = λ s m j a. let v = f _ j a in b.none s m v.rest v.reads }

-- where a phrase and a token after it fail, they do with more after the token
pub fails_then_more : {A X : List Token → List Token → Type 0} {P : Token → Type 0} {i r : List Token} → Fails (Then A (One P)) i r → Fails (Then A (Then (One P) X)) i r
fails_then_more {A} {X} {P} f = fails_begun (λ k j m a. part a) f
  where
    part : {k j : List Token} → Then A (Then (One P) X) k j → Begins (Then A (One P)) k
    part (then a (then (one h) x)) = record { rest = _; reads = then a (one h) }

-- what fails at a token fails at each later one
pub fails_further : {A : List Token → List Token → Type 0} {i j r : List Token} (front : List Token) → j ≡ front ++ r → Fails A i j → Fails A i r
fails_further {A} {i} [] q f = subst (λ z. Fails A i z) q f
fails_further {A} {i} (t ∷ front) q f = fails_further front refl (fails_on (subst (λ z. Fails A i z) q f))

-- two phrases, one after the other, are fixed together
pub then_fixes : {A B C D : List Token → List Token → Type 0} → Fixes A C → Fixes B D → Fixes (Then A B) (Then C D)
then_fixes {A} {B} {C} {D} f g = record { moves = λ i j a k m. moved a k m; once = λ i j k a e. one_end a e }
  where
    moved : {i j : List Token} → Then A B i j → (k : List Token) → Meets j k → On (Then A B) i j k
    moved (then {i = i} {j = h} {k = j} a b) k m =
        let y = g.moves h j b k m in
        let x = f.moves i h a y.tokens (twin_alike y.twin m) in
        record { tokens = x.tokens; twin = glue y.twin x.twin; reads = then x.reads y.reads }

    one_end : {i j k : List Token} → Then A B i j → Then C D i k → j ≡ k
    one_end {k = k} (then a b) (then c d) = g.once _ _ _ b (subst (λ z. D z k) (sym (f.once _ _ _ a c)) d)

-- a phrase whose rest after some tokens is another phrase fails where that fails
pub fails_behind : {A B : List Token → List Token → Type 0} {i r : List Token} (g : List Token) → ((k j : List Token) → Meets i k → A (g ++ k) j → B k j) → Fails B i r → Fails A (g ++ i) r
fails_behind {A} {B} {i} {r} g f b = record {
  front = g ++ b.front;
  is = ap (λ k. g ++ k) b.is ∙ sym (append_assoc g b.front r);
  none = λ s m j a. b.none s m j (f _ j (alike_at b.front b.is m) (subst (λ z. A z j) (append_assoc g b.front s) a));
}

-- the same, where the front is known
pub none_behind : {A : List Token → List Token → Type 0} {i r : List Token} (front : List Token) → Fails A i r → i ≡ front ++ r → (s : List Token) → Meets r s → (j : List Token) → A (front ++ s) j → ⊥
none_behind {A} {i} {r} front f q s m j = subst (λ z. A (z ++ s) j → ⊥) (append_cancel_right f.front front r (sym f.is ∙ q)) (f.none s m j)

-- both of two phrases fail
pub fails_both : {A B : List Token → List Token → Type 0} {i r : List Token} → Fails A i r → Fails B i r → Fails (Or A B) i r
fails_both {A} {B} {i} {r} a b = record {
  front = a.front;
  is = a.is;
  none = λ s m j w. neither (a.none s m j) (none_behind a.front b a.is s m j) w;
}
  where
    neither : {k j : List Token} → (A k j → ⊥) → (B k j → ⊥) → Or A B k j → ⊥
    neither f g (first a) = f a
    neither f g (second b) = g b

-- one of two phrases fails, and the other one at once
pub fails_not_or : {A B : List Token → List Token → Type 0} {i r : List Token} → Fails A i i → Fails B i r → Fails (Or A B) i r
fails_not_or a b = fails_both (fails_further b.front b.is a) b

pub fails_or_not : {A B : List Token → List Token → Type 0} {i r : List Token} → Fails A i r → Fails B i i → Fails (Or A B) i r
fails_or_not a b = fails_both a (fails_further a.front a.is b)

-- one of two phrases cannot stand there, and the other one fails
pub fails_second : {A B : List Token → List Token → Type 0} {i r : List Token} → ((k j : List Token) → Meets i k → A k j → ⊥) → Fails B i r → Fails (Or A B) i r
fails_second f b = fails_not_or (fails_here (λ s m j a. f s j m a)) b

-- the first token is known
pub at_first : {A : List Token → List Token → Type 0} {P : Token → Type 0} {t : Token} {i : List Token} → P t → ((u : Token) (k j : List Token) → P u → A (u ∷ k) j → ⊥) → Fails A (t ∷ i) (t ∷ i)
at_first {A} {P} h f = fails_here (λ s m j a. none h m a)
  where
    none : {t : Token} {i s j : List Token} → P t → Meets (t ∷ i) s → A s j → ⊥
    none h at_token a = f _ _ _ h a

-- a token that has one property has no other
pub other_token : {P Q : Token → Type 0} {t : Token} {i : List Token} → P t → ((u : Token) → P u → Q u → ⊥) → NotAt Q (t ∷ i)
other_token {P} h f = λ u k q c. f u (subst P (heads q).0 h) c

-- another punctuator stands
pub other_mark : {code other : ℕ} {t : Token} {i : List Token} → Is code t → (code ≡ other → ⊥) → NotAt (Is other) (t ∷ i)
other_mark {code} h f = other_token {P = Is code} h (λ u a b. f (apart a b))

-- the same tokens
pub at_same : (A : List Token → List Token → Type 0) {i j : List Token} (k : List Token) → i ≡ j → A i k → A j k
at_same A k q a = subst (λ z. A z k) q a

-- what moves is a phrase
pub on_as : {R A : List Token → List Token → Type 0} {i j k : List Token} → On R i j k → ((h : List Token) → R h k → A h k) → On A i j k
on_as x f = record { tokens = x.tokens; twin = x.twin; reads = f _ x.reads }

-- to each later number
pub climb : {P : ℕ → Type 0} → ((n : ℕ) → P n → P (suc n)) → (k n m : ℕ) → m ≡ k + n → P n → P m
climb {P} f zero n m q a = let e : n ≡ m = omega (arith, q) in subst P e a
climb f (suc k) n zero q a = absurd (omega (arith, q))
climb f (suc k) n (suc m) q a = f m (climb f k n m (omega (arith, q)) a)
