-- Words of several numbers, and the lines of call edges.
use Rattle.std.proofs.Common.{◌≡◌, ◌≢◌, ℕ, suc, ◌+◌, ◌<◌, ◌≤◌, List, [], ◌∷◌, ◌++◌, decimal, refl, sym, ◌∙◌, ap, subst, inl, inr, append_assoc, All, arith}
use Rattle.std.specs.Prelude.{◌⊎◌, Result, Ok, Err}
use Rattle.std.specs.declared.cmp.Ordering.TheVariants.{Less}
use Rattle.std.specs.Ordering.{nat_cmp}
use Rattle.std.specs.Borrow.{Bor}
use Rattle.std.proofs.lemmas.List.Elements.{All-cons, All-head, All-tail, All-nil}
use Rattle.std.proofs.lemmas.List.Kept.{AllPairs-cons}
use Rattle.flow_model.specs.Call.{Call}
use Rattle.flow_model.specs.Order.{StrictlyRise}
use Rattle.line_text.specs.declared.miss.Miss.{Miss}
use Rattle.line_text.specs.declared.miss.Miss.TheVariants.{OutOfMemory, Short, Wrong}
use Rattle.line_text.specs.Reading.{Agree, StandsFirst, Reads}
use Rattle.line_text.specs.Words.{IsPlain, ended_word, number_word}
use Rattle.line_text.proofs.NumberLemmas.{decimal-IsPlain}
use Rattle.line_text.proofs.Splits.{IsSplit, IsCase, agree_front}
use Rattle.line_text.proofs.WordLemmas.{agreed_word, cut_is_plain}
use Rattle.model_file.specs.ModelText.{IsSmall}
use Rattle.model_file.specs.Words.{numbers_text, HasSpace, AreCandidates, IsCallEnd, call_end}
use Rattle.model_file.proofs.LineLemmas.{plain_number}
use Rattle.line_text.proofs.Splits.{err_first}
use Rattle.model_file.proofs.Narrowing.{LeadsInto, into_start, into_case, into_next, into_same, reads_same}
use Rattle.model_file.proofs.OrderLemmas.{none_rise}
use Rattle.model_file.proofs.Orders.{less_from_lt, lt_from_less}

-- one number or several

-- the numbers begin with a number from the least one up that a line may hold
abbrev pub BeginFrom : ℕ → List ℕ → Type 0
BeginFrom least [] = ⊥
BeginFrom least (n ∷ rest) = (least ≤ n) × IsSmall n

-- there are at least two numbers
abbrev pub AreMore : List ℕ → Type 0
AreMore (n ∷ m ∷ rest) = Unit {0}
AreMore a = ⊥

small_plain : (n : ℕ) → IsSmall n → IsPlain (decimal n)
small_plain n small = decimal-IsPlain n (omega arith)

space_or_feed : (d e : ℕ) → d ≡ e → d ≡ 10 → e ≡ 32 → ⊥
space_or_feed d e same feed space = omega arith

no_space_within : (front later : List ℕ) → IsPlain (front ++ 32 ∷ later) → ⊥
no_space_within [] later plain = plain.0 (inl refl)
no_space_within (b ∷ front) later plain = no_space_within front later plain.1

-- where the word before a space is not read, there is none
pub no_space_missed : (text new : List ℕ) (miss : Miss) → (◌≡◌ {A = Result (Bor (List ℕ)) Miss} (Err miss) (Err OutOfMemory) → ⊥) → Reads IsPlain (ended_word 32) text new (Err miss) → HasSpace text → ⊥
no_space_missed text new OutOfMemory memory reads space = memory refl
no_space_missed text new Short memory cut (front, later, plain, is) = no_space_within front later (subst IsPlain is (cut_is_plain 32 text cut))
no_space_missed text new Wrong memory none (front, later, plain, is) = none front plain (later, inl (append_assoc front (32 ∷ []) later ∙ sym is))

-- where the first word ends with a space, no single number stands
not_alone : (text : List ℕ) (n : ℕ) → HasSpace text → IsSmall n → Agree (number_word 10 n) text → ⊥
not_alone text n (front, later, plain, is) small agree =
    space_or_feed 10 32 (agreed_word (decimal n) front 10 32 later (small_plain n small) plain (inr refl) (inl refl) (subst (Agree (number_word 10 n)) is agree)).1 refl refl

-- where the bytes are a number with a space after it or a front of that, they are also a front of the number with a line feed after it, or have the space
other_end : (a : List ℕ) (old rest : List ℕ) → a ++ 32 ∷ [] ≡ old ++ rest → (old ≡ a ++ 32 ∷ []) ⊎ ((more : List ℕ) × (a ≡ old ++ more))
other_end a [] rest is = inr (a, refl)
other_end [] (y ∷ []) rest is = let same : 32 ≡ y = cc in inl (ap (λ x. x ∷ []) (sym same))
other_end [] (y ∷ z ∷ old) rest is = cc
other_end (x ∷ a) (y ∷ old) rest is =
    let first : x ≡ y = cc in
    let later : a ++ 32 ∷ [] ≡ old ++ rest = cc in
    elim (other_end a old rest later) [
      | inl same ↦ inl cc
      | inr (more, same) ↦ inr (more, cc)
    ]

agree_feed : (text : List ℕ) (n : ℕ) → IsSmall n → (HasSpace text → ⊥) → Agree (number_word 32 n) text → Agree (number_word 10 n) text
agree_feed text n small none (rest, inl is) = absurd (none (decimal n, rest, small_plain n small, sym is ∙ append_assoc (decimal n) (32 ∷ []) rest))
agree_feed text n small none (rest, inr is) = elim (other_end (decimal n) text rest is) [
  | inl same ↦ absurd (none (decimal n, [], small_plain n small, same))
  | inr (more, same) ↦ (more ++ 10 ∷ [], inr (ap (λ t. t ++ 10 ∷ []) same ∙ append_assoc text more (10 ∷ [])))
]

-- values that are texts of numbers, where no space ends the first word: one number is read, or none
module _ {V : Type 0} (Fits : V → Type 0) (numbers : V → List ℕ) (least : ℕ) (make : ℕ → V) (made : (n : ℕ) → least ≤ n → IsSmall n → Fits (make n) × (numbers (make n) ≡ n ∷ [])) (begins : (v : V) → Fits v → BeginFrom least (numbers v)) (one : (v : V) (n : ℕ) → Fits v → numbers v ≡ n ∷ [] → v ≡ make n) (old new : List ℕ) where
  -- a value's numbers are one or more, of which the first agrees
  told : (HasSpace old → ⊥) → (v : V) (ns : List ℕ) → Fits v → BeginFrom least ns → numbers v ≡ ns → Agree (numbers_text ns) old → (n : ℕ) × (least ≤ n) × IsSmall n × Agree (number_word 10 n) old × ((v ≡ make n) ⊎ Agree (number_word 32 n) old)
  told none v [] fits from is agree = absurd from
  told none v (n ∷ []) fits from is agree = (n, from.0, from.1, agree, inl (one v n fits is))
  told none v (n ∷ m ∷ rest) fits from is agree =
      let space = agree_front (number_word 32 n) (numbers_text (m ∷ rest)) old agree in
      (n, from.0, from.1, agree_feed old n from.1 none space, inr space)

  told_of : (HasSpace old → ⊥) → (v : V) → Fits v → Agree (numbers_text (numbers v)) old → (n : ℕ) × (least ≤ n) × IsSmall n × Agree (number_word 10 n) old × ((v ≡ make n) ⊎ Agree (number_word 32 n) old)
  told_of none v fits agree = told none v (numbers v) fits (begins v fits) refl agree

  pub alone_miss : (HasSpace old → ⊥) → (miss : Miss) → Reads (λ n. (least ≤ n) × IsSmall n) (number_word 10) old new (Err miss) → Reads Fits (λ v. numbers_text (numbers v)) old new (Err miss)
  alone_miss none OutOfMemory reads = tt
  alone_miss none Short cut =
      let made' = made cut.value cut.fits.0 cut.fits.1 in
      record {
        value = make cut.value;
        rest = cut.rest;
        fits = made'.0;
        more = cut.more;
        goes_on = ap numbers_text made'.1 ∙ cut.goes_on;
        unended = cut.unended;
      }
  alone_miss none Wrong reads = λ v fits agree.
      let t = told_of none v fits agree in
      reads t.0 (t.1, t.2) t.3

  pub alone_stands : (HasSpace old → ⊥) → (n : ℕ) → StandsFirst (λ n. (least ≤ n) × IsSmall n) (number_word 10) old new n → StandsFirst Fits (λ v. numbers_text (numbers v)) old new (make n)
  alone_stands none n stands =
      let made' = made n stands.fits.0 stands.fits.1 in
      record {
        fits = made'.0;
        stands = stands.stands ∙ ap (λ t. numbers_text t ++ new) (sym made'.1);
        only = λ v fits agree.
            let t = told_of none v fits agree in
            let same : t.0 ≡ n = stands.only t.0 (t.1, t.2) t.3 in
            elim t.4 [
              | inl is ↦ is ∙ ap make same
              | inr space ↦ absurd (space_or_feed 10 32 (sym (agreed_word (decimal t.0) (decimal n) 32 10 new (small_plain t.0 t.2) (small_plain n stands.fits.1) (inl refl) (inr refl) (subst (Agree (number_word 32 t.0)) (stands.stands ∙ append_assoc (decimal n) (10 ∷ []) new) space)).1) refl refl)
            ];
      }

-- where a space ends the first word, there are at least two numbers
pub case_more : {V : Type 0} (Fits : V → Type 0) (numbers : V → List ℕ) (least : ℕ) → ((v : V) → Fits v → BeginFrom least (numbers v)) → (old : List ℕ) → HasSpace old → IsCase Fits (λ v. numbers_text (numbers v)) (λ v. Fits v × AreMore (numbers v)) (λ v. numbers_text (numbers v)) (λ v. v) old
case_more {V} Fits numbers least begins old space = record {
  made = λ v fits. (fits.0, refl);
  only = λ v fits agree. (v, (fits, more (numbers v) (begins v fits) agree), refl);
} where
  more : (ns : List ℕ) → BeginFrom least ns → Agree (numbers_text ns) old → AreMore ns
  more [] from agree = from
  more (n ∷ []) from agree = not_alone old n space from.1 agree
  more (n ∷ m ∷ rest) from agree = tt

-- candidates

-- numbers that may follow: at least one, and each is greater than the one before
abbrev pub Later : ℕ → List ℕ → Type 0
Later least [] = ⊥
Later least (n ∷ []) = (least ≤ n) × IsSmall n
Later least (n ∷ m ∷ rest) = (least ≤ n) × IsSmall n × Later (n + 1) (m ∷ rest)

pub later_begins : (least : ℕ) (ns : List ℕ) → Later least ns → BeginFrom least ns
later_begins least (n ∷ m ∷ rest) later = (later.0, later.1)
later_begins least ns later = later

pub later_split : (least : ℕ) → IsSplit (λ ns. Later least ns × AreMore ns) numbers_text (λ n. (least ≤ n) × (n ≤ 4294967294)) (number_word 32) (λ n. Later (n + 1)) (λ n. numbers_text) (λ n ns. n ∷ ns)
later_split least = record {
  apart = apart;
  joined = joined;
  goes_on = λ n in_n. ((n + 1) ∷ [], (omega arith, omega (arith, in_n.1)));
  plain = λ n in_n. plain_number n (omega (arith, in_n.1));
} where
  apart : (ns : List ℕ) → Later least ns × AreMore ns → (n : ℕ) × (rest : List ℕ) × ((least ≤ n) × (n ≤ 4294967294)) × Later (n + 1) rest × (ns ≡ n ∷ rest)
  apart (n ∷ m ∷ rest) fits =
      let next = later_begins (n + 1) (m ∷ rest) fits.0.2 in
      (n, m ∷ rest, (fits.0.0, omega (arith, next.0, next.1)), fits.0.2, refl)
  apart ns fits = absurd fits.1

  joined : (n : ℕ) (ns : List ℕ) → (least ≤ n) × (n ≤ 4294967294) → Later (n + 1) ns → (Later least (n ∷ ns) × AreMore (n ∷ ns)) × (numbers_text (n ∷ ns) ≡ number_word 32 n ++ numbers_text ns)
  joined n [] in_n later = absurd later
  joined n (m ∷ rest) in_n later = (((in_n.0, omega (arith, in_n.1), later), tt), refl)

-- numbers that each go on from the one before strictly rise

above_all : (least n : ℕ) (ns : List ℕ) → n < least → Later least ns → All (λ m. nat_cmp n m ≡ Less) ns
above_all least n [] below later = absurd later
above_all least n (m ∷ []) below later = All-cons (λ k. nat_cmp n k ≡ Less) m [] (less_from_lt n m (omega (arith, later.0))) (All-nil (λ k. nat_cmp n k ≡ Less))
above_all least n (m ∷ k ∷ rest) below later = All-cons (λ k. nat_cmp n k ≡ Less) m (k ∷ rest) (less_from_lt n m (omega (arith, later.0))) (above_all (m + 1) n (k ∷ rest) (omega (arith, later.0)) later.2)

pub later_are : (least : ℕ) (ns : List ℕ) → Later least ns → AreCandidates ns
later_are least [] later = absurd later
later_are least (n ∷ []) later = record {
  some = λ is. cc;
  small = All-cons IsSmall n [] later.1 (All-nil IsSmall);
  rise = AllPairs-cons (λ x y. nat_cmp x y ≡ Less) n [] (All-nil (λ y. nat_cmp n y ≡ Less)) (none_rise nat_cmp);
}
later_are least (n ∷ m ∷ rest) later =
    let more = later_are (n + 1) (m ∷ rest) later.2 in
    record {
      some = λ is. cc;
      small = All-cons IsSmall n (m ∷ rest) later.1 more.small;
      rise = AllPairs-cons (λ x y. nat_cmp x y ≡ Less) n (m ∷ rest) (above_all (n + 1) n (m ∷ rest) (omega arith) later.2) more.rise;
    }

pub are_later : (least : ℕ) (ns : List ℕ) → ns ≢ [] → ((n : ℕ) (rest : List ℕ) → ns ≡ n ∷ rest → least ≤ n) → All IsSmall ns → StrictlyRise nat_cmp ns → Later least ns
are_later least [] some low small rise = some refl
are_later least (n ∷ []) some low small rise = (low n [] refl, All-head IsSmall n [] small)
are_later least (n ∷ m ∷ rest) some low small rise =
    let next : n < m = lt_from_less n m (rise 0 1 0 (omega arith) (omega arith)) in
    let more : StrictlyRise nat_cmp (m ∷ rest) = λ i j d before within. rise (suc i) (suc j) d (omega (arith, before)) (omega (arith, within)) in
    (low n (m ∷ rest) refl, All-head IsSmall n (m ∷ rest) small, are_later (n + 1) (m ∷ rest) (λ is. cc) (λ k later is. let same : m ≡ k = cc in omega arith) (All-tail IsSmall n (m ∷ rest) small) more)

pub later_from : (ns : List ℕ) → AreCandidates ns → Later 0 ns
later_from ns are = are_later 0 ns are.some (λ n rest is. omega arith) are.small are.rise

pub later_one : (least n : ℕ) → least ≤ n → IsSmall n → Later least (n ∷ []) × ((n ∷ []) ≡ (n ∷ []))
later_one least n from small = ((from, small), refl)

-- the end of a call edge's line

abbrev pub call_of : ℕ → ℕ → ℕ → List ℕ → Call
call_of from site to candidates = record { from = from; site = site; to = to; candidates = candidates }

end_is : (from site : ℕ) (c : Call) → IsCallEnd from site c → c ≡ call_of from site c.to c.candidates
end_is from site c fits = λ i. record { from = fits.begins i; site = fits.at_site i; to = c.to; candidates = c.candidates }

more_some : (n : ℕ) (ns : List ℕ) → AreMore (n ∷ ns) → ns ≢ []
more_some n [] more is = more
more_some n (m ∷ rest) more is = cc

some_more : (n : ℕ) (ns : List ℕ) → ns ≢ [] → AreMore (n ∷ ns) × (numbers_text (n ∷ ns) ≡ number_word 32 n ++ numbers_text ns)
some_more n [] some = absurd (some refl)
some_more n (m ∷ rest) some = (tt, refl)

pub end_split : (from site : ℕ) → IsSplit (λ c. IsCallEnd from site c × AreMore (c.to ∷ c.candidates)) call_end (λ n. (0 ≤ n) × IsSmall n) (number_word 32) (λ n. AreCandidates) (λ n. numbers_text) (call_of from site)
end_split from site = record {
  apart = λ c fits. (c.to, c.candidates, (omega arith, fits.0.to), record { some = more_some c.to c.candidates fits.1; small = fits.0.candidates; rise = fits.0.rise }, end_is from site c fits.0);
  joined = λ n ns in_n are.
      let more = some_more n ns are.some in
      ((record { begins = refl; at_site = refl; to = in_n.1; candidates = are.small; rise = are.rise }, more.0), more.1);
  goes_on = λ n in_n. (0 ∷ [], later_are 0 (0 ∷ []) (omega arith, omega arith));
  plain = λ n in_n. plain_number n (omega (arith, in_n.1));
}

pub end_made : (from site n : ℕ) → 0 ≤ n → IsSmall n → IsCallEnd from site (call_of from site n []) × ((n ∷ []) ≡ (n ∷ []))
end_made from site n low small = (record { begins = refl; at_site = refl; to = small; candidates = All-nil IsSmall; rise = none_rise nat_cmp }, refl)

pub end_begins : (from site : ℕ) (c : Call) → IsCallEnd from site c → BeginFrom 0 (c.to ∷ c.candidates)
end_begins from site c fits = (omega arith, fits.to)

pub end_one : (from site : ℕ) (c : Call) (n : ℕ) → IsCallEnd from site c → (c.to ∷ c.candidates) ≡ n ∷ [] → c ≡ call_of from site n []
end_one from site c n fits is =
    let to : c.to ≡ n = cc in
    let none : c.candidates ≡ [] = cc in
    λ i. record { from = fits.begins i; site = fits.at_site i; to = to i; candidates = none i }

-- the loop over the candidates

abbrev pub Before : ℕ → ℕ → Type 0
Before least n = (least ≤ n) × (n ≤ 4294967294)

abbrev pub LeadsOn : List ℕ → List ℕ → List ℕ → ℕ → Type 0
LeadsOn old mid so least = LeadsInto AreCandidates numbers_text old (Later least) numbers_text mid (λ ns. so ++ ns)

pub later_start : (old so : List ℕ) → so ≡ [] → LeadsOn old old so 0
later_start old so is = into_same old old (λ ns. ns) (λ ns. so ++ ns) (λ ns. ap (λ t. t ++ ns) (sym is)) (record {
  err = λ new miss reads. reads_same old new (Err miss) (later_are 0) later_from (λ ns fits. refl) reads;
  ok = λ new ns stands. reads_same old new (Ok ns) (later_are 0) later_from (λ ms fits. refl) stands;
})

spaced : (old mid so : List ℕ) (least : ℕ) → LeadsOn old mid so least → HasSpace mid → LeadsInto AreCandidates numbers_text old (λ ns. Later least ns × AreMore ns) numbers_text mid (λ ns. so ++ ns)
spaced old mid so least leads space = into_case old mid leads (case_more (Later least) (λ ns. ns) least (later_begins least) mid space)

pub later_next : (old mid new so : List ℕ) (least n : ℕ) → LeadsOn old mid so least → HasSpace mid → StandsFirst (Before least) (number_word 32) mid new n → LeadsOn old new (so ++ n ∷ []) (n + 1)
later_next old mid new so least n leads space stands =
    into_same old new (λ ns. so ++ (n ∷ ns)) (λ ns. (so ++ n ∷ []) ++ ns) (λ ns. sym (append_assoc so (n ∷ []) ns)) (into_next old mid new (spaced old mid so least leads space) (later_split least) n stands)

pub later_miss : (old mid new so : List ℕ) (least : ℕ) → LeadsOn old mid so least → HasSpace mid → (miss : Miss) → Reads (Before least) (number_word 32) mid new (Err miss) → Reads AreCandidates numbers_text old new (Err miss)
later_miss old mid new so least leads space miss reads = (spaced old mid so least leads space).err new miss (err_first (later_split least) mid new new miss reads)

abbrev pub From : ℕ → ℕ → Type 0
From least n = (least ≤ n) × IsSmall n

alone_is : (least : ℕ) (ns : List ℕ) (n : ℕ) → Later least ns → ns ≡ n ∷ [] → ns ≡ n ∷ []
alone_is least ns n later is = is

pub last_miss : (old mid new so : List ℕ) (least : ℕ) → LeadsOn old mid so least → (HasSpace mid → ⊥) → (miss : Miss) → Reads (From least) (number_word 10) mid new (Err miss) → Reads AreCandidates numbers_text old new (Err miss)
last_miss old mid new so least leads none miss reads =
    leads.err new miss (alone_miss (Later least) (λ ns. ns) least (λ n. n ∷ []) (later_one least) (later_begins least) (alone_is least) mid new none miss reads)

pub last_stands : (old mid new so : List ℕ) (least n : ℕ) → LeadsOn old mid so least → (HasSpace mid → ⊥) → StandsFirst (From least) (number_word 10) mid new n → StandsFirst AreCandidates numbers_text old new (so ++ n ∷ [])
last_stands old mid new so least n leads none stands =
    leads.ok new (n ∷ []) (alone_stands (Later least) (λ ns. ns) least (λ n. n ∷ []) (later_one least) (later_begins least) (alone_is least) mid new none n stands)

-- the second node

more_ends : (old : List ℕ) (from site : ℕ) → HasSpace old → LeadsInto (IsCallEnd from site) call_end old (λ c. IsCallEnd from site c × AreMore (c.to ∷ c.candidates)) call_end old (λ c. c)
more_ends old from site space = into_case old old (into_start old) (case_more (IsCallEnd from site) (λ c. c.to ∷ c.candidates) 0 (end_begins from site) old space)

pub to_miss : (old new : List ℕ) (from site : ℕ) → HasSpace old → (miss : Miss) → Reads (From 0) (number_word 32) old new (Err miss) → Reads (IsCallEnd from site) call_end old new (Err miss)
to_miss old new from site space miss reads = (more_ends old from site space).err new miss (err_first (end_split from site) old new new miss reads)

pub to_next : (old mid : List ℕ) (from site to : ℕ) → HasSpace old → StandsFirst (From 0) (number_word 32) old mid to → LeadsInto (IsCallEnd from site) call_end old AreCandidates numbers_text mid (call_of from site to)
to_next old mid from site to space stands = into_next old old mid (more_ends old from site space) (end_split from site) to stands

pub to_last_miss : (old new : List ℕ) (from site : ℕ) → (HasSpace old → ⊥) → (miss : Miss) → Reads (From 0) (number_word 10) old new (Err miss) → Reads (IsCallEnd from site) call_end old new (Err miss)
to_last_miss old new from site none miss reads = alone_miss (IsCallEnd from site) (λ c. c.to ∷ c.candidates) 0 (λ n. call_of from site n []) (end_made from site) (end_begins from site) (end_one from site) old new none miss reads

pub to_last : (old new : List ℕ) (from site to : ℕ) → (HasSpace old → ⊥) → StandsFirst (From 0) (number_word 10) old new to → StandsFirst (IsCallEnd from site) call_end old new (call_of from site to [])
to_last old new from site to none stands = alone_stands (IsCallEnd from site) (λ c. c.to ∷ c.candidates) 0 (λ n. call_of from site n []) (end_made from site) (end_begins from site) (end_one from site) old new none to stands
