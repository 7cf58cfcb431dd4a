-- How a file is read on from one line to the next.
use Rattle.std.proofs.Common.{◌≡◌, ◌≢◌, ◌≤◌, ℕ, ◌+◌, List, [], ◌∷◌, ◌++◌, length, Contains, refl, sym, ◌∙◌, ap, subst, append_assoc}
use Rattle.std.proofs.lemmas.List.{append-nil}
use Rattle.line_text.specs.Files.{IsFirstLine, IsBadLine, IsProperPrefix}
use Rattle.line_text.specs.OneLine.{IsLine}
use Rattle.line_text.specs.Reading.{StandsFirst, Reads}
use Rattle.line_text.specs.declared.miss.Miss.TheVariants.{Wrong}
use Rattle.std.specs.Prelude.{Err}
use Rattle.line_text.specs.Files.IsFirstLine.{ended, unended}
use Rattle.line_text.proofs.FilesLemmas.{GoesOn, bad_line, first_line_whole, proper_prefix, one_more, wrong_line, after_line, before_line}
use Rattle.trace_file.specs.Pieces.{IsWhole}
use Rattle.trace_file.specs.Reached.{IsReached}
use Rattle.trace_file.specs.Trace.{longest}

-- a whole line is the first of each text that begins with it
pub whole_first : (line rest : List ℕ) → IsWhole line → IsFirstLine (line ++ rest) line rest
whole_first line rest whole = ended whole.front whole.plain whole.ends refl

-- a line is not empty
pub whole_some : (line rest : List ℕ) → IsWhole line → line ++ rest ≡ [] → ⊥
whole_some line rest whole none = not_nil whole.front rest (sym (ap (λ (t : List ℕ). t ++ rest) whole.ends) ∙ none)
  where
    not_nil : (front rest : List ℕ) → (front ++ 10 ∷ []) ++ rest ≡ [] → ⊥
    not_nil [] rest is = cc
    not_nil (b ∷ front) rest is = cc

-- a line without its line feed is the first of its text
pub unfinished_first : (line : List ℕ) → (Contains line 10 → ⊥) → IsFirstLine line line []
unfinished_first line plain = unended plain refl refl

-- within the longest length, with no other version and not too much, the line is bad
abbrev pub IsBadAt : (List ℕ → Type 0) → (List ℕ → Type 0) → (List ℕ → Type 0) → ℕ → List ℕ → Type 0
IsBadAt Formed TooMuch Other j text = (length text ≤ longest) × (Other text → ⊥) × (TooMuch text → ⊥) × IsBadLine Formed text j

module _ (Formed TooMuch Other Follow FollowTooMuch : List ℕ → Type 0) (k : ℕ) (lines : List ℕ) (here : IsReached Formed TooMuch Other Follow FollowTooMuch k lines) where
  -- a line that nothing may follow is bad
  pub bad_next : (j : ℕ) (text line rest : List ℕ) → j ≡ k + 1 → length (lines ++ text) ≤ longest → IsFirstLine text line rest → ((w : List ℕ) → Follow (line ++ w) → ⊥) → ((w : List ℕ) → FollowTooMuch (line ++ w) → ⊥) → IsBadAt Formed TooMuch Other j (lines ++ text)
  bad_next j text line rest number short first none no_much = (
    short,
    here.own text,
    (λ much. no_much rest (subst FollowTooMuch (first_line_whole text line rest first) (here.too_much text much))),
    subst (IsBadLine Formed (lines ++ text)) (sym number) (bad_line Formed Follow k lines text line rest here.read first none),
  )

  -- so is one whose line feed was read, whatever follows
  pub bad_shown : (j : ℕ) (line : List ℕ) → j ≡ k + 1 → IsWhole line → ((w : List ℕ) → Follow (line ++ w) → ⊥) → ((w : List ℕ) → FollowTooMuch (line ++ w) → ⊥) → (more : List ℕ) → length ((lines ++ line) ++ more) ≤ longest → IsBadAt Formed TooMuch Other j ((lines ++ line) ++ more)
  bad_shown j line number whole none no_much more short =
      let same : (lines ++ line) ++ more ≡ lines ++ (line ++ more) = append_assoc lines line more in
      subst (IsBadAt Formed TooMuch Other j) (sym same) (bad_next j (line ++ more) line more number (subst (λ (t : List ℕ). length t ≤ longest) same short) (whole_first line more whole) none no_much)

  -- a text that may go on is a proper prefix
  pub prefix_next : (text : List ℕ) → (w : List ℕ) × (w ≢ []) × Follow (text ++ w) → (FollowTooMuch text → ⊥) → (TooMuch (lines ++ text) → ⊥) × IsProperPrefix Formed (lines ++ text)
  prefix_next text more no_much =
      ((λ much. no_much (here.too_much text much)), proper_prefix Formed Follow k lines text more.0 here.read more.1 more.2)

  -- one line more is read
  pub line_next : (Later LaterTooMuch : List ℕ → Type 0) (line : List ℕ) → IsWhole line → ((w : List ℕ) → Follow (line ++ w) → Later w) → ((w : List ℕ) → Later w → Follow (line ++ w)) → (w : List ℕ) × Later w → ((w : List ℕ) → FollowTooMuch (line ++ w) → LaterTooMuch w) → IsReached Formed TooMuch Other Later LaterTooMuch (k + 1) (lines ++ line)
  line_next Later LaterTooMuch line whole onward back some much =
      record {
        read = one_more Formed Follow Later k lines line whole.front here.read whole.ends whole.plain onward back some;
        too_much = λ rest has. much rest (here.too_much (line ++ rest) (subst TooMuch (append_assoc lines line rest) has));
        own = λ rest has. here.own (line ++ rest) (subst Other (append_assoc lines line rest) has);
      }

  module _ {V : Type 0} (Fits : V → Type 0) (text : V → List ℕ) (After AfterMuch : V → List ℕ → Type 0) (split : (t : List ℕ) → Follow t → GoesOn Fits text After t) (split_much : (t : List ℕ) → FollowTooMuch t → GoesOn Fits text AfterMuch t) where
    -- the line of a value is read
    pub line_read : (LaterMuch : List ℕ → Type 0) (line : List ℕ) (v : V) → ((t : List ℕ) → GoesOn Fits text After t → Follow t) → IsWhole line → StandsFirst Fits text line [] v → (w : List ℕ) × After v w → ((w : List ℕ) → AfterMuch v w → LaterMuch w) → IsReached Formed TooMuch Other (After v) LaterMuch (k + 1) (lines ++ line)
    line_read LaterMuch line v joined whole first some much =
        line_next (After v) LaterMuch line whole (λ w on. after_line Fits text After line v first w (split (line ++ w) on)) (λ w on. joined (line ++ w) (before_line Fits text After line v first w on)) some
        (λ w has. much w (after_line Fits text AfterMuch line v first w (split_much (line ++ w) has)))

    -- no value's line stands there
    none_next : (line : List ℕ) → Reads Fits text line [] (Err Wrong) → ((w : List ℕ) → Follow (line ++ w) → ⊥) × ((w : List ℕ) → FollowTooMuch (line ++ w) → ⊥)
    none_next line wrong = (
      (λ w on. wrong_line Fits text After line [] wrong w (split (line ++ w) on)),
      (λ w has. wrong_line Fits text AfterMuch line [] wrong w (split_much (line ++ w) has)),
    )

    pub wrong_shown : (j : ℕ) (line : List ℕ) → j ≡ k + 1 → IsWhole line → Reads Fits text line [] (Err Wrong) → (more : List ℕ) → length ((lines ++ line) ++ more) ≤ longest → IsBadAt Formed TooMuch Other j ((lines ++ line) ++ more)
    wrong_shown j line number whole wrong = bad_shown j line number whole (none_next line wrong).0 (none_next line wrong).1

    pub wrong_ends : (j : ℕ) (tail : List ℕ) → j ≡ k + 1 → length (lines ++ tail) ≤ longest → (Contains tail 10 → ⊥) → Reads Fits text tail [] (Err Wrong) → IsBadAt Formed TooMuch Other j (lines ++ tail)
    wrong_ends j tail number short plain wrong = bad_next j tail tail [] number short (unfinished_first tail plain) (none_next tail wrong).0 (none_next tail wrong).1

-- what a line's reader asks of it
pub whole_is_line : (line : List ℕ) → IsWhole line → IsLine line
whole_is_line line whole = ([], whole_first line [] whole)

pub unfinished_is_line : (line : List ℕ) → (Contains line 10 → ⊥) → IsLine line
unfinished_is_line line plain = ([], unended plain refl (append-nil line))
