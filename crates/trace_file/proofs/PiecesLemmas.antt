-- How a text that comes in pieces is read line by line.
use Rattle.std.proofs.Common.{◌≡◌, ◌≤◌, ◌<◌, ℕ, ◌+◌, List, [], ◌∷◌, ◌++◌, length, Contains, refl, sym, ◌∙◌, ap, subst, append_assoc, arith, length-append, inl, inr}
use Rattle.std.proofs.lemmas.List.{append-nil, nil_from_length}
use Rattle.std.proofs.lemmas.List.Elements.{Contains-append_cases}
use Rattle.trace_file.specs.declared.error.TraceError.{TraceError}
use Rattle.trace_file.specs.Trace.{longest}
use Rattle.trace_file.specs.Pieces.{IsWhole, IsCut, IsShown, Takes, Shows, HasTaken}
use Rattle.trace_file.specs.Held.{Held, StandsFor}

-- what is shown stays shown
pub shown_on : (IsRefusal : TraceError → List ℕ → Type 0) (error : TraceError) (text more : List ℕ) → IsShown IsRefusal error text → IsShown IsRefusal error (text ++ more)
shown_on IsRefusal error text more shown w short =
    let P : List ℕ → Type 0 = λ t. IsRefusal error t in
    let same : (text ++ more) ++ w ≡ text ++ (more ++ w) = append_assoc text more w in
    subst P (sym same) (shown (more ++ w) (subst (λ (t : List ℕ). length t ≤ longest) same short))

module _ {P I : Type 0} (Reaches : P → List ℕ → List I → Type 0) where
  pub takes_both : (old mid new : P) (a b : List ℕ) (x y : List I) → Takes Reaches old a x mid → Takes Reaches mid b y new → Takes Reaches old (a ++ b) (x ++ y) new
  takes_both old mid new a b x y first then done items reached =
      subst (λ (t : List ℕ). Reaches new t (items ++ (x ++ y))) (append_assoc done a b)
      (subst (λ (t : List I). Reaches new ((done ++ a) ++ b) t) (append_assoc items x y) (then (done ++ a) (items ++ x) (first done items reached)))

  pub takes_none : (place : P) → Takes Reaches place [] [] place
  takes_none place done items reached =
      subst (λ (t : List ℕ). Reaches place t (items ++ [])) (sym (append-nil done)) (subst (λ (t : List I). Reaches place done t) (sym (append-nil items)) reached)

  pub none_taken : (place : P) (text : List ℕ) (items : List I) → HasTaken Reaches place text text items items place
  none_taken place text items = record { lines = []; given = []; parts = refl; grown = sym (append-nil items); takes = takes_none place }

  pub nothing_taken : (place : P) (text rest : List ℕ) (items : List I) → rest ≡ text → items ≡ [] → HasTaken Reaches place text rest [] items place
  nothing_taken place text rest items same none = record { lines = []; given = []; parts = sym same; grown = none; takes = takes_none place }

  pub one_taken : (old new : P) (line : List ℕ) (given before after : List I) → Takes Reaches old line given new → after ≡ before ++ given → HasTaken Reaches old line [] before after new
  one_taken old new line given before after takes grown = record { lines = line; given = given; parts = sym (append-nil line); grown = grown; takes = takes }

  pub taken_both : (old mid new : P) (a b c rest : List ℕ) (before between after : List I) → HasTaken Reaches old a b before between mid → HasTaken Reaches mid c rest between after new → b ≡ c → HasTaken Reaches old a rest before after new
  taken_both old mid new a b c rest before between after first then same =
      record {
        lines = first.lines ++ then.lines;
        given = first.given ++ then.given;
        parts = first.parts ∙ ap (λ (t : List ℕ). first.lines ++ t) (same ∙ then.parts) ∙ sym (append_assoc first.lines then.lines rest);
        grown = then.grown ∙ ap (λ (t : List I). t ++ then.given) first.grown ∙ append_assoc before first.given then.given;
        takes = takes_both old mid new first.lines then.lines first.given then.given first.takes then.takes;
      }

  -- a line and what follows it
  pub line_taken : (old new : P) (line rest : List ℕ) (before after : List I) → HasTaken Reaches old line [] before after new → HasTaken Reaches old (line ++ rest) rest before after new
  line_taken old new line rest before after taken =
      record {
        lines = taken.lines;
        given = taken.given;
        parts = ap (λ (t : List ℕ). t ++ rest) (taken.parts ∙ append-nil taken.lines);
        grown = taken.grown;
        takes = taken.takes;
      }

  -- a line, and then the lines of what follows it
  pub taken_from : (old mid new : P) (line after_line left rest : List ℕ) (none between after : List I) → HasTaken Reaches old line [] none between mid → HasTaken Reaches mid after_line left between after new → none ≡ [] → rest ≡ left → HasTaken Reaches old (line ++ after_line) rest [] after new
  taken_from old mid new line after_line left rest none between after first then is same =
      subst (λ (t : List I). HasTaken Reaches old (line ++ after_line) rest t after new) is
      (subst (λ (t : List ℕ). HasTaken Reaches old (line ++ after_line) t none after new) (sym same)
      (taken_both old mid new (line ++ after_line) after_line after_line left none between after (line_taken old mid line after_line none between first) then refl))

  pub cut_taken : (old mid new : P) (text rest line after_line : List ℕ) (before between after : List I) → HasTaken Reaches old text rest before between mid → IsCut rest line after_line → HasTaken Reaches mid line [] between after new → HasTaken Reaches old text after_line before after new
  cut_taken old mid new text rest line after_line before between after first cut then =
      taken_both old mid new text rest (line ++ after_line) after_line before between after first (line_taken mid new line after_line between after then) cut.parts

  module _ (IsRefusal : TraceError → List ℕ → Type 0) where
    -- a refusal that is shown after some lines is shown by the whole
    pub shows_later : (old mid : P) (text rest line more : List ℕ) (before between : List I) (error : TraceError) → HasTaken Reaches old text rest before between mid → rest ≡ line ++ more → Shows Reaches IsRefusal mid error line → Shows Reaches IsRefusal old error text
    shows_later old mid text rest line more before between error first same shows done items reached =
        let whole : (done ++ first.lines) ++ line ++ more ≡ done ++ text =
        append_assoc (done ++ first.lines) line more ∙ append_assoc done first.lines (line ++ more) ∙ ap (λ (t : List ℕ). done ++ t) (sym (first.parts ∙ ap (λ (t : List ℕ). first.lines ++ t) same)) in
        subst (λ (t : List ℕ). IsShown IsRefusal error t) whole
        (shown_on IsRefusal error ((done ++ first.lines) ++ line) more (shows (done ++ first.lines) (items ++ first.given) (first.takes done items reached)))

    -- a refusal that is shown is shown by a longer text
    pub shows_on : (old : P) (text more : List ℕ) (error : TraceError) → Shows Reaches IsRefusal old error text → Shows Reaches IsRefusal old error (text ++ more)
    shows_on old text more error shows done items reached =
        subst (λ (t : List ℕ). IsShown IsRefusal error t) (append_assoc done text more) (shown_on IsRefusal error (done ++ text) more (shows done items reached))

    -- a refusal that is shown after a line is shown by both
    pub shows_next : (old mid : P) (line more : List ℕ) (before between : List I) (error : TraceError) → HasTaken Reaches old line [] before between mid → Shows Reaches IsRefusal mid error more → Shows Reaches IsRefusal old error (line ++ more)
    shows_next old mid line more before between error taken shows =
        shows_later old mid (line ++ more) more more [] before between error (line_taken old mid line more before between taken) (sym (append-nil more)) shows

    -- what is told of every text is shown
    pub shows_always : (old : P) (text : List ℕ) (error : TraceError) → ((t : List ℕ) → IsRefusal error t) → Shows Reaches IsRefusal old error text
    shows_always old text error each done items reached more short = each ((done ++ text) ++ more)

-- what a reader stands for, once it took a piece
module _ {P I : Type 0} (Reaches : P → List ℕ → List I → Type 0) (held : Held P) (piece text : List ℕ) (items : List I) where
  pub stands_more : (place : P) (tail : List ℕ) (given : List I) → HasTaken Reaches held.place (held.tail ++ piece) tail [] given place → (Contains tail 10 → ⊥) → held.size + length piece ≤ longest → StandsFor Reaches held text items → StandsFor Reaches record { place = place; tail = tail; size = held.size + length piece; refused = held.refused } (text ++ piece) (items ++ given)
  stands_more place tail given taken plain fits stands =
      record {
        done = stands.done ++ taken.lines;
        unrefused = stands.unrefused;
        reached = subst (λ (t : List I). Reaches place (stands.done ++ taken.lines) (items ++ t)) (sym taken.grown) (taken.takes stands.done items stands.reached);
        parts = ap (λ (t : List ℕ). t ++ piece) stands.parts ∙ append_assoc stands.done held.tail piece ∙ ap (λ (t : List ℕ). stands.done ++ t) taken.parts ∙ sym (append_assoc stands.done taken.lines tail);
        plain = plain;
        size = ap (λ n. n + length piece) stands.size ∙ sym (length-append text piece);
        short = omega (arith, stands.size, length-append text piece, fits);
      }

  pub never_long : held.size + length piece ≤ longest → StandsFor Reaches held text items → longest < length (text ++ piece) → ⊥
  never_long fits stands long = omega (arith, stands.size, length-append text piece, fits, long)

  -- why the piece is refused is shown by the text
  pub shown_after : (IsRefusal : TraceError → List ℕ → Type 0) (error : TraceError) → Shows Reaches IsRefusal held.place error (held.tail ++ piece) → StandsFor Reaches held text items → IsShown IsRefusal error (text ++ piece)
  shown_after IsRefusal error shows stands =
      subst (λ (t : List ℕ). IsShown IsRefusal error t) (sym (append_assoc stands.done held.tail piece) ∙ ap (λ (t : List ℕ). t ++ piece) (sym stands.parts)) (shows stands.done items stands.reached)

-- two texts without a line feed make one
pub both_plain : (a b whole : List ℕ) → whole ≡ a ++ b → (Contains a 10 → ⊥) → (Contains b 10 → ⊥) → Contains whole 10 → ⊥
both_plain a b whole is first then has = elim (Contains-append_cases a b 10 (subst (λ (t : List ℕ). Contains t 10) is has)) [ inl before ↦ first before | inr after ↦ then after ]

-- a text after an empty one
pub after_empty : (a b : List ℕ) → length a ≡ 0 → b ≡ a ++ b
after_empty a b none = ap (λ (t : List ℕ). t ++ b) (sym (nil_from_length a none))

-- what follows a line is shorter
pub cut_shorter : (text line rest : List ℕ) → IsCut text line rest → length rest < length text
cut_shorter text line rest cut =
    let whole : length text ≡ length line + length rest = ap length cut.parts ∙ length-append line rest in
    let some : length line ≡ length cut.line_whole.front + 1 = ap length cut.line_whole.ends ∙ length-append cut.line_whole.front (10 ∷ []) in
    omega arith

-- a line is whole where its front came before
pub joined_whole : (front first line : List ℕ) → (Contains front 10 → ⊥) → IsWhole first → line ≡ front ++ first → IsWhole line
joined_whole front first line plain whole is =
    record {
      front = front ++ whole.front;
      plain = λ has. elim (Contains-append_cases front whole.front 10 has) [ inl before ↦ plain before | inr after ↦ whole.plain after ];
      ends = is ∙ ap (λ (t : List ℕ). front ++ t) whole.ends ∙ sym (append_assoc front whole.front (10 ∷ []));
    }
