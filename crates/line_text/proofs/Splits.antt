-- How a text in parts is read part by part.
use Rattle.std.proofs.Common.{◌≡◌, ◌≢◌, ℕ, List, [], ◌∷◌, ◌++◌, refl, sym, ◌∙◌, ap, subst, inl, inr, append_assoc, Contains, arith}
use Rattle.std.specs.Prelude.{Err}
use Rattle.std.proofs.lemmas.List.{append_cancel_left}
use Rattle.std.proofs.lemmas.List.Elements.{Contains-append_cases}
use Rattle.line_text.specs.declared.miss.Miss.{Miss}
use Rattle.line_text.specs.declared.miss.Miss.TheVariants.{OutOfMemory, Short, Wrong}
use Rattle.line_text.specs.Reading.{Agree, StandsFirst, IsCutShort, Reads}

-- texts that agree

-- two texts that begin one text agree
pub prefixes_agree : (a b x y : List ℕ) → a ++ x ≡ b ++ y → Agree a b
prefixes_agree [] b x y same = (b, inl refl)
prefixes_agree (c ∷ a) [] x y same = (c ∷ a, inr refl)
prefixes_agree (c ∷ a) (d ∷ b) x y same =
    let tails : a ++ x ≡ b ++ y = cc in
    let heads : c ≡ d = cc in
    let more = prefixes_agree a b x y tails in
    (more.0, elim more.1 [ inl is ↦ inl cc | inr is ↦ inr cc ])

-- the first part agrees where the whole does
pub agree_front : (a more old : List ℕ) → Agree (a ++ more) old → Agree a old
agree_front a more old (rest, inl is) = (more ++ rest, inl (sym (append_assoc a more rest) ∙ is))
agree_front a more old (rest, inr is) = prefixes_agree a old more rest is

-- the next part agrees where the whole does and the first parts are the same
pub agree_next : (a more new : List ℕ) → Agree (a ++ more) (a ++ new) → Agree more new
agree_next a more new (rest, inl is) = (rest, inl (append_cancel_left a (more ++ rest) new (sym (append_assoc a more rest) ∙ is)))
agree_next a more new (rest, inr is) = (rest, inr (append_cancel_left a more (new ++ rest) (is ∙ append_assoc a new rest)))

-- texts that agree begin with the same byte
pub agree_head : (b c : ℕ) (x y : List ℕ) → Agree (b ∷ x) (c ∷ y) → b ≡ c
agree_head b c x y (rest, inl is) = cc
agree_head b c x y (rest, inr is) = cc

nil_of_append : (a b : List ℕ) → a ++ b ≡ [] → a ≡ []
nil_of_append [] b is = refl
nil_of_append (c ∷ a) b is = cc

-- a text in two parts

-- A value is joined of two parts, and its text is theirs; the first part has no line feed; each first part has a next one.
pub record IsSplit {V A B : Type 0} (Fits : V → Type 0) (text : V → List ℕ) (First : A → Type 0) (first : A → List ℕ) (Next : A → B → Type 0) (next : A → B → List ℕ) (join : A → B → V) : Type 0 where
  pub apart : (v : V) → Fits v → (a : A) × (b : B) × First a × Next a b × (v ≡ join a b)
  pub joined : (a : A) (b : B) → First a → Next a b → Fits (join a b) × (text (join a b) ≡ first a ++ next a b)
  pub goes_on : (a : A) → First a → (b : B) × Next a b
  pub plain : (a : A) → First a → Contains (first a) 10 → ⊥

module _ {V A B : Type 0} {Fits : V → Type 0} {text : V → List ℕ} {First : A → Type 0} {first : A → List ℕ} {Next : A → B → Type 0} {next : A → B → List ℕ} {join : A → B → V} where
  -- the parts of a value whose text agrees with the bytes
  parts : IsSplit Fits text First first Next next join → (old : List ℕ) (v : V) → Fits v → Agree (text v) old → (a : A) × (b : B) × First a × Next a b × (v ≡ join a b) × Agree (first a ++ next a b) old
  parts split old v fits agree =
      let p = split.apart v fits in
      let is : text v ≡ first p.0 ++ next p.0 p.1 = ap text p.4 ∙ (split.joined p.0 p.1 p.2 p.3).1 in
      (p.0, p.1, p.2, p.3, p.4, subst (λ (t : List ℕ). Agree t old) is agree)

  -- where the first part is not read, the whole is not
  pub err_first : IsSplit Fits text First first Next next join → (old mid new : List ℕ) (e : Miss) → Reads First first old mid (Err e) → Reads Fits text old new (Err e)
  err_first split old mid new OutOfMemory none = tt
  err_first split old mid new Short cut =
      let b = split.goes_on cut.value cut.fits in
      let whole = split.joined cut.value b.0 cut.fits b.1 in
      record {
        value = join cut.value b.0;
        rest = cut.rest ++ next cut.value b.0;
        fits = whole.0;
        more = λ is. cut.more (nil_of_append cut.rest _ is);
        goes_on = whole.1 ∙ ap (λ (t : List ℕ). t ++ next cut.value b.0) cut.goes_on ∙ append_assoc old cut.rest (next cut.value b.0);
        unended = cut.unended;
      }
  err_first split old mid new Wrong none =
      λ v fits agree.
      let p = parts split old v fits agree in
      none p.0 p.2 (agree_front (first p.0) (next p.0 p.1) old p.5)

  -- where the first part is read and the next is not, the whole is not
  pub err_next : IsSplit Fits text First first Next next join → (old mid new : List ℕ) (a : A) → StandsFirst First first old mid a → (e : Miss) → Reads (Next a) (next a) mid new (Err e) → Reads Fits text old new (Err e)
  err_next split old mid new a taken OutOfMemory none = tt
  err_next split old mid new a taken Short cut =
      let whole = split.joined a cut.value taken.fits cut.fits in
      record {
        value = join a cut.value;
        rest = cut.rest;
        fits = whole.0;
        more = cut.more;
        goes_on = whole.1 ∙ ap (λ (t : List ℕ). first a ++ t) cut.goes_on ∙ sym (append_assoc (first a) mid cut.rest) ∙ ap (λ (t : List ℕ). t ++ cut.rest) (sym taken.stands);
        unended = λ has. elim (Contains-append_cases (first a) mid 10 (subst (λ (t : List ℕ). Contains t 10) taken.stands has)) [ inl front ↦ split.plain a taken.fits front | inr back ↦ cut.unended back ];
      }
  err_next split old mid new a taken Wrong none =
      λ v fits agree.
      let p = parts split old v fits agree in
      let same : p.0 ≡ a = taken.only p.0 p.2 (agree_front (first p.0) (next p.0 p.1) old p.5) in
      let agree' : Agree (first a ++ next a p.1) old = subst (λ (x : A). Agree (first x ++ next x p.1) old) same p.5 in
      let fits' : Next a p.1 = subst (λ (x : A). Next x p.1) same p.3 in
      none p.1 fits' (agree_next (first a) (next a p.1) mid (subst (λ (t : List ℕ). Agree (first a ++ next a p.1) t) taken.stands agree'))

  -- where both parts are read, the whole is
  pub ok_both : IsSplit Fits text First first Next next join → (old mid new : List ℕ) (a : A) (b : B) → StandsFirst First first old mid a → StandsFirst (Next a) (next a) mid new b → StandsFirst Fits text old new (join a b)
  ok_both split old mid new a b taken then =
      let whole = split.joined a b taken.fits then.fits in
      record {
        fits = whole.0;
        stands = taken.stands ∙ ap (λ (t : List ℕ). first a ++ t) then.stands ∙ sym (append_assoc (first a) (next a b) new) ∙ ap (λ (t : List ℕ). t ++ new) (sym whole.1);
        only = λ w fits agree.
            let p = parts split old w fits agree in
            let same : p.0 ≡ a = taken.only p.0 p.2 (agree_front (first p.0) (next p.0 p.1) old p.5) in
            let agree' : Agree (first a ++ next a p.1) old = subst (λ (x : A). Agree (first x ++ next x p.1) old) same p.5 in
            let fits' : Next a p.1 = subst (λ (x : A). Next x p.1) same p.3 in
            let last : p.1 ≡ b = then.only p.1 fits' (agree_next (first a) (next a p.1) mid (subst (λ (t : List ℕ). Agree (first a ++ next a p.1) t) taken.stands agree')) in
            p.4 ∙ ap (λ (x : A). join x p.1) same ∙ ap (join a) last;
      }

-- a text of one kind among several

-- Of the values that fit, those whose text agrees with the bytes are made of the parts.
pub record IsCase {V A : Type 0} (Fits : V → Type 0) (text : V → List ℕ) (Part : A → Type 0) (part : A → List ℕ) (make : A → V) (old : List ℕ) : Type 0 where
  pub made : (a : A) → Part a → Fits (make a) × (text (make a) ≡ part a)
  pub only : (v : V) → Fits v → Agree (text v) old → (a : A) × Part a × (v ≡ make a)

module _ {V A : Type 0} {Fits : V → Type 0} {text : V → List ℕ} {Part : A → Type 0} {part : A → List ℕ} {make : A → V} where
  pub err_case : (old new new' : List ℕ) → IsCase Fits text Part part make old → (e : Miss) → Reads Part part old new (Err e) → Reads Fits text old new' (Err e)
  err_case old new new' one OutOfMemory none = tt
  err_case old new new' one Short cut =
      let made = one.made cut.value cut.fits in
      record { value = make cut.value; rest = cut.rest; fits = made.0; more = cut.more; goes_on = made.1 ∙ cut.goes_on; unended = cut.unended }
  err_case old new new' one Wrong none =
      λ v fits agree.
      let p = one.only v fits agree in
      let is : text v ≡ part p.0 = ap text p.2 ∙ (one.made p.0 p.1).1 in
      none p.0 p.1 (subst (λ (t : List ℕ). Agree t old) is agree)

  pub ok_case : (old new : List ℕ) → IsCase Fits text Part part make old → (a : A) → StandsFirst Part part old new a → StandsFirst Fits text old new (make a)
  ok_case old new one a taken =
      let made = one.made a taken.fits in
      record {
        fits = made.0;
        stands = taken.stands ∙ ap (λ (t : List ℕ). t ++ new) (sym made.1);
        only = λ w fits agree.
            let p = one.only w fits agree in
            let is : text w ≡ part p.0 = ap text p.2 ∙ (one.made p.0 p.1).1 in
            p.2 ∙ ap make (taken.only p.0 p.1 (subst (λ (t : List ℕ). Agree t old) is agree));
      }

-- no bytes are left, and some value fits
pub nothing_left : {V : Type 0} {Fits : V → Type 0} {text : V → List ℕ} (v : V) → Fits v → text v ≢ [] → IsCutShort Fits text []
nothing_left {text = text} v fits some =
    record { value = v; rest = text v; fits = fits; more = some; goes_on = refl; unended = λ has. absurd (omega (arith, has.1)) }
