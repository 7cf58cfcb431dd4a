-- How a text is read line by line.
use Rattle.std.proofs.Common.{◌≡◌, ◌≢◌, ℕ, zero, suc, ◌+◌, ◌≤◌, List, [], ◌∷◌, ◌++◌, refl, sym, ◌∙◌, ap, subst, inl, inr, append_assoc, Contains, Bool, true, false, nat_eq, arith}
use Rattle.std.specs.Prelude.{if◌then◌else◌, Err}
use Rattle.std.proofs.lemmas.Bool.Decides.{eqb_tells}
use Rattle.std.proofs.lemmas.List.{append_cancel_left, append-nil}
use Rattle.std.proofs.lemmas.List.Elements.{Contains-append_right}
use Rattle.line_text.specs.declared.miss.Miss.TheVariants.{Wrong}
use Rattle.line_text.specs.Files.{through, IsFirstLine, IsProperPrefix, IsBadLine}
use Rattle.line_text.specs.Files.IsFirstLine.{ended, unended}
use Rattle.line_text.specs.Reading.{StandsFirst, IsCutShort, Reads}
use Rattle.line_text.proofs.Splits.{prefixes_agree}

-- lines

first_is : (b : ℕ) (xs : List ℕ) → b ≡ 10 → Contains (b ∷ xs) 10
first_is b xs is = (0, omega arith, is)

later_is : (b c : ℕ) (xs : List ℕ) → Contains xs c → Contains (b ∷ xs) c
later_is b c xs has = (suc has.0, omega (arith, has.1), has.2)

not_feed : (b : ℕ) (xs : List ℕ) → (Contains (b ∷ xs) 10 → ⊥) → nat_eq b 10 ≡ false
not_feed b xs none = elim (eqb_tells b 10) [ inl is ↦ absurd (none (first_is b xs is.1)) | inr is ↦ is.0 ]

none_later : (b : ℕ) (xs : List ℕ) → (Contains (b ∷ xs) 10 → ⊥) → Contains xs 10 → ⊥
none_later b xs none has = none (later_is b 10 xs has)

-- the first line is that through the first line feed
through_first_ended : (front rest : List ℕ) → (Contains front 10 → ⊥) → through 1 (front ++ 10 ∷ rest) ≡ front ++ 10 ∷ []
through_first_ended [] rest none = refl
through_first_ended (b ∷ front) rest none =
    ap (λ (t : Bool). b ∷ (if t then through 0 (front ++ 10 ∷ rest) else through 1 (front ++ 10 ∷ rest))) (not_feed b front none)
    ∙ ap (λ (w : List ℕ). b ∷ w) (through_first_ended front rest (none_later b front none))

-- a text with no line feed is one line
through_first_unended : (line : List ℕ) → (Contains line 10 → ⊥) → through 1 line ≡ line
through_first_unended [] none = refl
through_first_unended (b ∷ line) none =
    ap (λ (t : Bool). b ∷ (if t then through 0 line else through 1 line)) (not_feed b line none)
    ∙ ap (λ (w : List ℕ). b ∷ w) (through_first_unended line (none_later b line none))

pub through_first : (text line rest : List ℕ) → IsFirstLine text line rest → through 1 text ≡ line
through_first text line rest (ended front none is whole) =
    ap (through 1) (whole ∙ ap (λ (w : List ℕ). w ++ rest) is ∙ append_assoc front (10 ∷ []) rest) ∙ through_first_ended front rest none ∙ sym is
through_first text line rest (unended none end whole) = ap (through 1) whole ∙ through_first_unended line none

pub first_line_whole : (text line rest : List ℕ) → IsFirstLine text line rest → text ≡ line ++ rest
first_line_whole text line rest (ended front none is whole) = whole
first_line_whole text line rest (unended none end whole) = whole ∙ sym (append-nil line) ∙ ap (λ (w : List ℕ). line ++ w) (sym end)

-- one line more
through_more : (k : ℕ) (text w : List ℕ) → text ≡ through k text ++ w → through (suc k) text ≡ through k text ++ through 1 w
through_more zero text w is = ap (through 1) is
through_more (suc k) [] [] is = refl
through_more (suc k) [] (c ∷ w) is = cc
through_more (suc k) (b ∷ text) w is =
    elim (nat_eq b 10) as (λ (t : Bool). (b ∷ text ≡ (b ∷ (if t then through k text else through (suc k) text)) ++ w) → (b ∷ (if t then through (suc k) text else through (suc (suc k)) text)) ≡ (b ∷ (if t then through k text else through (suc k) text)) ++ through 1 w) [
      | true ↦ λ same. let tails : text ≡ through k text ++ w = cc in ap (λ (x : List ℕ). b ∷ x) (through_more k text w tails)
      | false ↦ λ same. let tails : text ≡ through (suc k) text ++ w = cc in ap (λ (x : List ℕ). b ∷ x) (through_more (suc k) text w tails)
    ] is

one_line_more : (k : ℕ) (text w : List ℕ) → text ≡ through k text ++ w → through (k + 1) text ≡ through k text ++ through 1 w
one_line_more k text w is = let same : k + 1 ≡ suc k = omega arith in ap (λ (n : ℕ). through n text) same ∙ through_more k text w is

-- what goes through a line begins what goes through a later one
pub through_front : (j k : ℕ) (text : List ℕ) → j ≤ k → (rest : List ℕ) × (through k text ≡ through j text ++ rest)
through_front zero k text le = (through k text, refl)
through_front (suc j) zero text le = absurd (omega arith)
through_front (suc j) (suc k) [] le = ([], refl)
through_front (suc j) (suc k) (b ∷ text) le =
    elim (nat_eq b 10) as (λ (t : Bool). (rest : List ℕ) × ((b ∷ (if t then through k text else through (suc k) text)) ≡ (b ∷ (if t then through j text else through (suc j) text)) ++ rest)) [
      | true ↦ let more = through_front j k text (omega arith) in (more.0, ap (λ (x : List ℕ). b ∷ x) more.1)
      | false ↦ let more = through_front (suc j) (suc k) text le in (more.0, ap (λ (x : List ℕ). b ∷ x) more.1)
    ]

-- reading

-- so many lines were read, and what may follow them
pub record HasRead (Formed Rest : List ℕ → Type 0) (k : ℕ) (done : List ℕ) : Type 0 where
  pub whole : (w : List ℕ) → through k (done ++ w) ≡ done
  pub follows : (w : List ℕ) → Formed (done ++ w) → Rest w
  pub back : (w : List ℕ) → Rest w → Formed (done ++ w)
  pub some : (w : List ℕ) × Rest w

pub nothing_read : (Formed : List ℕ → Type 0) (w : List ℕ) → Formed w → HasRead Formed Formed 0 []
nothing_read Formed w formed = record { whole = λ w. refl; follows = λ w f. f; back = λ w f. f; some = (w, formed) }

-- a line that nothing may follow is the bad one
pub bad_line : (Formed Rest : List ℕ → Type 0) (k : ℕ) (done text line rest : List ℕ) → HasRead Formed Rest k done → IsFirstLine text line rest → ((w : List ℕ) → Rest (line ++ w) → ⊥) → IsBadLine Formed (done ++ text) (k + 1)
bad_line Formed Rest k done text line rest read first none =
    let is : through (k + 1) (done ++ text) ≡ done ++ line =
    one_line_more k (done ++ text) text (ap (λ (x : List ℕ). x ++ text) (sym (read.whole text)))
    ∙ ap (λ (x : List ℕ). x ++ through 1 text) (read.whole text)
    ∙ ap (λ (x : List ℕ). done ++ x) (through_first text line rest first) in
    record {
      bad = λ begins. none begins.0 (read.follows (line ++ begins.0) (subst Formed (ap (λ (x : List ℕ). x ++ begins.0) is ∙ append_assoc done line begins.0) begins.1));
      least = λ j less.
          let front = through_front j k (done ++ text) (omega arith) in
          let whole : done ≡ through j (done ++ text) ++ front.0 = sym (read.whole text) ∙ front.1 in
          (front.0 ++ read.some.0, subst Formed (ap (λ (x : List ℕ). x ++ read.some.0) whole ∙ append_assoc (through j (done ++ text)) front.0 read.some.0) (read.back read.some.0 read.some.1));
    }

-- a text that something may follow is a proper prefix
pub proper_prefix : (Formed Rest : List ℕ → Type 0) (k : ℕ) (done text w : List ℕ) → HasRead Formed Rest k done → w ≢ [] → Rest (text ++ w) → IsProperPrefix Formed (done ++ text)
proper_prefix Formed Rest k done text w read more fits =
    (w, more, subst Formed (sym (append_assoc done text w)) (read.back (text ++ w) fits))

-- one line more was read
pub one_more : (Formed Rest Later : List ℕ → Type 0) (k : ℕ) (done line front : List ℕ) → HasRead Formed Rest k done → line ≡ front ++ 10 ∷ [] → (Contains front 10 → ⊥) → ((w : List ℕ) → Rest (line ++ w) → Later w) → ((w : List ℕ) → Later w → Rest (line ++ w)) → (w : List ℕ) × Later w → HasRead Formed Later (k + 1) (done ++ line)
one_more Formed Rest Later k done line front read is none onward back some =
    record {
      whole = λ w.
          let text : List ℕ = line ++ w in
          let first : IsFirstLine text line w = ended front none is refl in
          ap (through (k + 1)) (append_assoc done line w)
          ∙ one_line_more k (done ++ text) text (ap (λ (x : List ℕ). x ++ text) (sym (read.whole text)))
          ∙ ap (λ (x : List ℕ). x ++ through 1 text) (read.whole text)
          ∙ ap (λ (x : List ℕ). done ++ x) (through_first text line w first);
      follows = λ w formed. onward w (read.follows (line ++ w) (subst Formed (append_assoc done line w) formed));
      back = λ w later. subst Formed (sym (append_assoc done line w)) (read.back (line ++ w) (back w later));
      some = some;
    }

-- what a line's reader says of what may follow

-- what follows begins with the text of a value that fits, and then goes on as may be after that value
abbrev pub GoesOn : {V : Type 0} → (V → Type 0) → (V → List ℕ) → (V → List ℕ → Type 0) → List ℕ → Type 0
GoesOn {V} Fits text After w = (v : V) × (u : List ℕ) × Fits v × After v u × (w ≡ text v ++ u)

-- nothing that may follow begins with a wrong line
pub wrong_line : {V : Type 0} (Fits : V → Type 0) (text : V → List ℕ) (After : V → List ℕ → Type 0) (line new : List ℕ) → Reads Fits text line new (Err Wrong) → (w : List ℕ) → GoesOn Fits text After (line ++ w) → ⊥
wrong_line Fits text After line new none w on = none on.0 on.2 (prefixes_agree (text on.0) line on.1 w (sym on.4))

-- a line that is cut short may go on
pub short_line : {V : Type 0} (Fits : V → Type 0) (text : V → List ℕ) (After : V → List ℕ → Type 0) (line : List ℕ) → ((v : V) → Fits v → (u : List ℕ) × After v u) → IsCutShort Fits text line → (w : List ℕ) × (w ≢ []) × GoesOn Fits text After (line ++ w)
short_line Fits text After line after cut =
    let u = after cut.value cut.fits in
    (cut.rest ++ u.0, (λ is. cut.more (nil_front cut.rest u.0 is)), (cut.value, u.0, cut.fits, u.1, sym (append_assoc line cut.rest u.0) ∙ ap (λ (x : List ℕ). x ++ u.0) (sym cut.goes_on)))
  where
    nil_front : (a b : List ℕ) → a ++ b ≡ [] → a ≡ []
    nil_front [] b is = refl
    nil_front (c ∷ a) b is = cc

-- after a line that was read whole goes on what may be after its value, and nothing else
pub after_line : {V : Type 0} (Fits : V → Type 0) (text : V → List ℕ) (After : V → List ℕ → Type 0) (line : List ℕ) (v : V) → StandsFirst Fits text line [] v → (w : List ℕ) → GoesOn Fits text After (line ++ w) → After v w
after_line {V} Fits text After line v first w on =
    let whole : line ≡ text v = first.stands ∙ append-nil (text v) in
    let same : on.0 ≡ v = first.only on.0 on.2 (prefixes_agree (text on.0) line on.1 w (sym on.4)) in
    let is : text v ++ w ≡ text v ++ on.1 = ap (λ (x : List ℕ). x ++ w) (sym whole) ∙ on.4 ∙ ap (λ (x : V). text x ++ on.1) same in
    subst (After v) (sym (append_cancel_left (text v) w on.1 is)) (subst (λ (x : V). After x on.1) same on.3)

pub before_line : {V : Type 0} (Fits : V → Type 0) (text : V → List ℕ) (After : V → List ℕ → Type 0) (line : List ℕ) (v : V) → StandsFirst Fits text line [] v → (w : List ℕ) → After v w → GoesOn Fits text After (line ++ w)
before_line Fits text After line v first w after =
    (v, w, first.fits, after, ap (λ (x : List ℕ). x ++ w) (first.stands ∙ append-nil (text v)))

-- a line that has its line feed is not cut short
pub ended_not_short : {V : Type 0} (Fits : V → Type 0) (text : V → List ℕ) (line front : List ℕ) → line ≡ front ++ 10 ∷ [] → IsCutShort Fits text line → ⊥
ended_not_short Fits text line front is cut =
    cut.unended (subst (λ (t : List ℕ). Contains t 10) (sym is) (Contains-append_right front (10 ∷ []) 10 (first_is 10 [] refl)))

-- a value's text that ends with its line feed is the whole of the line that it stands first in, and the line has its line feed
pub ends_line : (own front rest line new text : List ℕ) → own ≡ front ++ 10 ∷ [] → line ≡ own ++ new → IsFirstLine text line rest → new ≡ []
ends_line own front rest line new text is stands (ended before none end whole) =
    no_rest before front new none (sym end ∙ stands ∙ ap (λ (x : List ℕ). x ++ new) is ∙ append_assoc front (10 ∷ []) new)
  where
    no_rest : (before front new : List ℕ) → (Contains before 10 → ⊥) → before ++ 10 ∷ [] ≡ front ++ 10 ∷ new → new ≡ []
    no_rest [] [] new none same = cc
    no_rest [] (c ∷ []) new none same = cc
    no_rest [] (c ∷ d ∷ front) new none same = cc
    no_rest (b ∷ before) [] new none same = absurd (none (first_is b before cc))
    no_rest (b ∷ before) (c ∷ front) new none same = no_rest before front new (none_later b before none) cc
ends_line own front rest line new text is stands (unended none end whole) =
    absurd (none (subst (λ (t : List ℕ). Contains t 10) (sym (stands ∙ ap (λ (x : List ℕ). x ++ new) is ∙ append_assoc front (10 ∷ []) new)) (Contains-append_right front (10 ∷ new) 10 (first_is 10 new refl))))
