-- How a line is read part by part: after each part, the values that are left are those with the parts that were read.
use Rattle.std.proofs.Common.{◌≡◌, ◌≢◌, ℕ, List, [], ◌∷◌, ◌++◌, refl, sym, ◌∙◌, ap, subst, Contains, append_assoc, inl, inr}
use Rattle.std.specs.Prelude.{Result, Ok, Err}
use Rattle.std.specs.Result.{IsErrAnd}
use Rattle.std.proofs.lemmas.List.{append-nil}
use Rattle.std.proofs.lemmas.List.Elements.{Contains-append_cases}
use Rattle.std.proofs.lemmas.Result.{err_from_is_err_and}
use Rattle.line_text.specs.declared.miss.Miss.{Miss}
use Rattle.line_text.specs.declared.miss.Miss.TheVariants.{OutOfMemory, Short, Wrong}
use Rattle.line_text.specs.Reading.{Agree, StandsFirst, Reads}
use Rattle.line_text.proofs.FirstLines.{nil_front}
use Rattle.line_text.proofs.Splits.{IsSplit, IsCase, err_first, err_next, ok_both, err_case, ok_case, agree_front, agree_next}
pub use Rattle.line_text.proofs.Narrowing.{Leads, With, IsPart, IsWhole, leads_start, whole_line}

module _ {V A : Type 0} {Fits : V → Type 0} {text : V → List ℕ} {part : V → A} {First : A → Type 0} {first : A → List ℕ} {rest : V → List ℕ} where
  pub split_part : IsPart Fits text part First first rest → IsSplit Fits text First first (With Fits part) (λ a. rest) (λ a v. v)
  split_part p = record {
    apart = λ v fits. (part v, v, p.into v fits, (fits, refl), refl);
    joined = λ a v in_first next. (next.0, p.splits v next.0 ∙ ap (λ x. first x ++ rest v) next.1);
    goes_on = λ a in_first. let found = p.some a in_first in (found.0, (found.1, found.2));
    plain = p.plain;
  }

module _ {V A : Type 0} {Fits : V → Type 0} {text : V → List ℕ} {Left : V → Type 0} {left : V → List ℕ} {part : V → A} {First : A → Type 0} {first : A → List ℕ} {rest : V → List ℕ} where
  -- a part was read
  pub leads_on : (old mid new : List ℕ) → Leads Fits text old Left left mid → IsPart Left left part First first rest → (a : A) → StandsFirst First first mid new a → Leads Fits text old (With Left part a) rest new
  leads_on old mid new leads p a taken = record {
    err = λ later miss reads. leads.err later miss (err_next (split_part p) mid new later a taken miss reads);
    ok = λ later v stands. leads.ok later v (ok_both (split_part p) mid new later a v taken stands);
  }

  -- a part was not read
  pub leads_miss : (old mid new : List ℕ) → Leads Fits text old Left left mid → IsPart Left left part First first rest → (miss : Miss) → Reads First first mid new (Err miss) → Reads Fits text old new (Err miss)
  leads_miss old mid new leads p miss reads = leads.err new miss (err_first (split_part p) mid new new miss reads)

module _ {V A : Type 0} {Fits : V → Type 0} {text : V → List ℕ} {First : A → Type 0} {first : A → List ℕ} {make : A → V} where
  case_whole : (old : List ℕ) → IsWhole Fits text First first make → IsCase Fits text First first make old
  case_whole old w = record { made = w.made; only = λ v fits agree. w.only v fits }

  pub whole_miss : (old new : List ℕ) → IsWhole Fits text First first make → (miss : Miss) → Reads First first old new (Err miss) → Reads Fits text old new (Err miss)
  whole_miss old new w miss reads = err_case old new new (case_whole old w) miss reads

  pub whole_stands : (old new : List ℕ) → IsWhole Fits text First first make → (a : A) → StandsFirst First first old new a → StandsFirst Fits text old new (make a)
  whole_stands old new w a taken = ok_case old new (case_whole old w) a taken

-- the same values with the same texts
pub reads_same : {V : Type 0} {F G : V → Type 0} {f g : V → List ℕ} (old new : List ℕ) (r : Result V Miss) → ((v : V) → F v → G v) → ((v : V) → G v → F v) → ((v : V) → F v → g v ≡ f v) → Reads F f old new r → Reads G g old new r
reads_same {f = f} {g = g} old new (Ok v) to from same stands = record {
  fits = to v stands.fits;
  stands = stands.stands ∙ ap (λ t. t ++ new) (sym (same v stands.fits));
  only = λ w fits agree. stands.only w (from w fits) (subst (λ t. Agree t old) (same w (from w fits)) agree);
}
reads_same old new (Err OutOfMemory) to from same reads = tt
reads_same old new (Err Short) to from same cut = record {
  value = cut.value;
  rest = cut.rest;
  fits = to cut.value cut.fits;
  more = cut.more;
  goes_on = same cut.value cut.fits ∙ cut.goes_on;
  unended = cut.unended;
}
reads_same old new (Err Wrong) to from same none = λ w fits agree. none w (from w fits) (subst (λ t. Agree t old) (same w (from w fits)) agree)

-- the exit of a `?`
pub reads_err : {V : Type 0} (Fits : V → Type 0) (text : V → List ℕ) (old new : List ℕ) (miss : Miss) (r : Result V Miss) → IsErrAnd r (λ e. e ≡ miss) → Reads Fits text old new (Err miss) → Reads Fits text old new r
reads_err Fits text old new miss r is reads = let p = err_from_is_err_and r is in rw (p.1, p.2) reads

-- what is read of the values that are left, whether it was read or not
pub leads_all : {V : Type 0} {Fits : V → Type 0} {text : V → List ℕ} {Left : V → Type 0} {left : V → List ℕ} (old mid new : List ℕ) → Leads Fits text old Left left mid → (r : Result V Miss) → Reads Left left mid new r → Reads Fits text old new r
leads_all old mid new leads (Ok v) reads = leads.ok new v reads
leads_all old mid new leads (Err miss) reads = leads.err new miss reads

-- what is read of the values that are left is read of those that they make
pub record LeadsInto {V W : Type 0} (Fits : V → Type 0) (text : V → List ℕ) (old : List ℕ) (Left : W → Type 0) (left : W → List ℕ) (mid : List ℕ) (make : W → V) : Type 0 where
  pub err : (new : List ℕ) (miss : Miss) → Reads Left left mid new (Err miss) → Reads Fits text old new (Err miss)
  pub ok : (new : List ℕ) (w : W) → StandsFirst Left left mid new w → StandsFirst Fits text old new (make w)

-- the same values are made
pub into_same : {V W : Type 0} {Fits : V → Type 0} {text : V → List ℕ} {Left : W → Type 0} {left : W → List ℕ} (old mid : List ℕ) (make make' : W → V) → ((w : W) → make w ≡ make' w) → LeadsInto Fits text old Left left mid make → LeadsInto Fits text old Left left mid make'
into_same {Fits = Fits} {text = text} old mid make make' same leads = record {
  err = leads.err;
  ok = λ new w stands. subst (StandsFirst Fits text old new) (same w) (leads.ok new w stands);
}

module _ {V W A B : Type 0} {Fits : V → Type 0} {text : V → List ℕ} {Left : W → Type 0} {left : W → List ℕ} {make : W → V} {First : A → Type 0} {first : A → List ℕ} {Next : A → B → Type 0} {next : A → B → List ℕ} {join : A → B → W} where
  -- a first part was read
  pub into_next : (old mid new : List ℕ) → LeadsInto Fits text old Left left mid make → IsSplit Left left First first Next next join → (a : A) → StandsFirst First first mid new a → LeadsInto Fits text old (Next a) (next a) new (λ b. make (join a b))
  into_next old mid new leads split a taken = record {
    err = λ later miss reads. leads.err later miss (err_next split mid new later a taken miss reads);
    ok = λ later b stands. leads.ok later (join a b) (ok_both split mid new later a b taken stands);
  }

module _ {V W A : Type 0} {Fits : V → Type 0} {text : V → List ℕ} {Left : W → Type 0} {left : W → List ℕ} {make : W → V} {Part : A → Type 0} {part : A → List ℕ} {form : A → W} where
  -- the bytes leave one kind of values
  pub into_case : (old mid : List ℕ) → LeadsInto Fits text old Left left mid make → IsCase Left left Part part form mid → LeadsInto Fits text old Part part mid (λ a. make (form a))
  into_case old mid leads one = record {
    err = λ later miss reads. leads.err later miss (err_case mid later later one miss reads);
    ok = λ later a stands. leads.ok later (form a) (ok_case mid later one a stands);
  }

pub into_start : {V : Type 0} {Fits : V → Type 0} {text : V → List ℕ} (old : List ℕ) → LeadsInto Fits text old Fits text old (λ v. v)
into_start old = record { err = λ new miss reads. reads; ok = λ new v stands. stands }

-- the same values are left
pub leads_same : {V : Type 0} {Fits : V → Type 0} {text : V → List ℕ} {Left Left' : V → Type 0} {left left' : V → List ℕ} (old mid : List ℕ) → Leads Fits text old Left left mid → ((v : V) → Left' v → Left v) → ((v : V) → Left v → Left' v) → ((v : V) → Left' v → left v ≡ left' v) → Leads Fits text old Left' left' mid
leads_same old mid leads to from same = record {
  err = λ new miss reads. leads.err new miss (reads_same mid new (Err miss) to from same reads);
  ok = λ new v stands. leads.ok new v (reads_same mid new (Ok v) to from same stands);
}

-- Such a part may end the text; where something follows it, it has no line feed.
pub record IsEndedPart {V A : Type 0} (Fits : V → Type 0) (text : V → List ℕ) (part : V → A) (First : A → Type 0) (first : A → List ℕ) (rest : V → List ℕ) : Type 0 where
  pub into : (v : V) → Fits v → First (part v)
  pub some : (a : A) → First a → (v : V) × Fits v × (part v ≡ a)
  pub splits : (v : V) → Fits v → text v ≡ first (part v) ++ rest v
  pub plain : (v : V) → Fits v → rest v ≢ [] → Contains (first (part v)) 10 → ⊥

nil_back : (a b : List ℕ) → a ++ b ≡ [] → b ≡ []
nil_back [] b is = is
nil_back (x ∷ a) b is = cc

module _ {V A : Type 0} {Left : V → Type 0} {left : V → List ℕ} {part : V → A} {First : A → Type 0} {first : A → List ℕ} {rest : V → List ℕ} where
  ended_miss : (mid new : List ℕ) → IsEndedPart Left left part First first rest → (miss : Miss) → Reads First first mid new (Err miss) → Reads Left left mid new (Err miss)
  ended_miss mid new p OutOfMemory reads = tt
  ended_miss mid new p Short cut =
      let v = p.some cut.value cut.fits in
      record {
        value = v.0;
        rest = cut.rest ++ rest v.0;
        fits = v.1;
        more = λ is. cut.more (nil_front cut.rest (rest v.0) is);
        goes_on = p.splits v.0 v.1 ∙ ap (λ a. first a ++ rest v.0) v.2 ∙ ap (λ t. t ++ rest v.0) cut.goes_on ∙ append_assoc mid cut.rest (rest v.0);
        unended = cut.unended;
      }
  ended_miss mid new p Wrong none = λ v fits agree.
      none (part v) (p.into v fits) (agree_front (first (part v)) (rest v) mid (subst (λ t. Agree t mid) (p.splits v fits) agree))

  -- a value that agrees with the bytes has the part that was read, and its rest agrees with the others
  agreed : (mid new : List ℕ) → IsEndedPart Left left part First first rest → (a : A) → StandsFirst First first mid new a → (v : V) → Left v → Agree (left v) mid → (part v ≡ a) × Agree (rest v) new
  agreed mid new p a taken v fits agree =
      let whole : Agree (first (part v) ++ rest v) mid = subst (λ t. Agree t mid) (p.splits v fits) agree in
      let same : part v ≡ a = taken.only (part v) (p.into v fits) (agree_front (first (part v)) (rest v) mid whole) in
      let moved : Agree (first a ++ rest v) mid = subst (λ x. Agree (first x ++ rest v) mid) same whole in
      (same, agree_next (first a) (rest v) new (subst (Agree (first a ++ rest v)) taken.stands moved))

  joined_is : (mid new : List ℕ) → IsEndedPart Left left part First first rest → (a : A) → StandsFirst First first mid new a → (v : V) → With Left part a v → (later : List ℕ) (t : List ℕ) → new ++ t ≡ rest v ++ later → mid ++ t ≡ left v ++ later
  joined_is mid new p a taken v fits later t is =
      ap (λ x. x ++ t) taken.stands ∙ append_assoc (first a) new t ∙ ap (λ x. first a ++ x) is ∙ sym (append_assoc (first a) (rest v) later)
      ∙ ap (λ x. (first x ++ rest v) ++ later) (sym fits.1) ∙ ap (λ x. x ++ later) (sym (p.splits v fits.0))

  ended_next : (mid new later : List ℕ) → IsEndedPart Left left part First first rest → (a : A) → StandsFirst First first mid new a → (miss : Miss) → Reads (With Left part a) rest new later (Err miss) → Reads Left left mid later (Err miss)
  ended_next mid new later p a taken OutOfMemory reads = tt
  ended_next mid new later p a taken Short cut = record {
    value = cut.value;
    rest = cut.rest;
    fits = cut.fits.0;
    more = cut.more;
    goes_on = sym (append-nil (left cut.value)) ∙ sym (joined_is mid new p a taken cut.value cut.fits [] cut.rest (sym cut.goes_on ∙ sym (append-nil (rest cut.value))));
    unended = λ has. elim (Contains-append_cases (first a) new 10 (subst (λ t. Contains t 10) taken.stands has)) [
      | inl front ↦ p.plain cut.value cut.fits.0 (λ none. cut.more (nil_back new cut.rest (sym cut.goes_on ∙ none))) (subst (λ x. Contains (first x) 10) (sym cut.fits.1) front)
      | inr back ↦ cut.unended back
    ];
  }
  ended_next mid new later p a taken Wrong none = λ v fits agree.
      let both = agreed mid new p a taken v fits agree in
      none v (fits, both.0) both.1

  ended_stands : (mid new later : List ℕ) → IsEndedPart Left left part First first rest → (a : A) → StandsFirst First first mid new a → (v : V) → StandsFirst (With Left part a) rest new later v → StandsFirst Left left mid later v
  ended_stands mid new later p a taken v then = record {
    fits = then.fits.0;
    stands = sym (append-nil mid) ∙ joined_is mid new p a taken v then.fits later [] (append-nil new ∙ then.stands);
    only = λ w fits agree.
        let both = agreed mid new p a taken w fits agree in
        then.only w (fits, both.0) both.1;
  }

module _ {V A : Type 0} {Fits : V → Type 0} {text : V → List ℕ} {Left : V → Type 0} {left : V → List ℕ} {part : V → A} {First : A → Type 0} {first : A → List ℕ} {rest : V → List ℕ} where
  pub ends_on : (old mid new : List ℕ) → Leads Fits text old Left left mid → IsEndedPart Left left part First first rest → (a : A) → StandsFirst First first mid new a → Leads Fits text old (With Left part a) rest new
  ends_on old mid new leads p a taken = record {
    err = λ later miss reads. leads.err later miss (ended_next mid new later p a taken miss reads);
    ok = λ later v stands. leads.ok later v (ended_stands mid new later p a taken v stands);
  }

  pub ends_miss : (old mid new : List ℕ) → Leads Fits text old Left left mid → IsEndedPart Left left part First first rest → (miss : Miss) → Reads First first mid new (Err miss) → Reads Fits text old new (Err miss)
  ends_miss old mid new leads p miss reads = leads.err new miss (ended_miss mid new p miss reads)
