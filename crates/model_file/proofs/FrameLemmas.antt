-- Reading a line more, whatever the line.
use Rattle.std.proofs.Common.{◌≡◌, ◌≢◌, ℕ, ◌+◌, List, [], ◌∷◌, ◌++◌, take, drop, refl, sym, ◌∙◌, ap, subst, inl, inr, append_assoc, Contains, arith}
use Rattle.std.specs.Prelude.{Ok, Err}
use Rattle.std.proofs.lemmas.List.{append-nil, append_cancel_right, take-append-drop}
use Rattle.std.proofs.lemmas.List.Elements.{Contains-append_right}
use Rattle.line_text.specs.declared.miss.Miss.TheVariants.{Short}
use Rattle.line_text.specs.Files.{IsFirstLine, IsProperPrefix, IsBadLine}
use Rattle.line_text.specs.Files.IsFirstLine.{ended, unended}
use Rattle.line_text.specs.Reading.{StandsFirst, IsCutShort}
use Rattle.line_text.proofs.FilesLemmas.{HasRead, bad_line, proper_prefix, one_more, first_line_whole, GoesOn, wrong_line, short_line, after_line, before_line, ended_not_short}
use Rattle.model_file.specs.declared.error.ModelError.{ModelError}
use Rattle.model_file.specs.declared.error.ModelError.TheVariants.{OutOfMemory, BadLine, Truncated}
use Rattle.model_file.specs.declared.place.Place.{Place}
use Rattle.model_file.specs.ModelText.{IsFormedModel}
use Rattle.model_file.specs.Progress.{Spelling, Spells, HasTold, IsAt, IsMissed, Takes, IsStop}

-- a line with a value that fits follows, and then what may be after that value; after each such value something may be
pub record Step {G V : Type 0} (At : G → List ℕ → Type 0) (Fits : V → Type 0) (spelled : V → List ℕ) (After : V → G → List ℕ → Type 0) : Type 0 where
  pub ends : (x : V) → (front : List ℕ) × (spelled x ≡ front ++ 10 ∷ [])
  pub onward : (g : G) (w : List ℕ) → At g w → GoesOn Fits spelled (λ x u. After x g u) w
  pub back : (g : G) (w : List ℕ) → GoesOn Fits spelled (λ x u. After x g u) w → At g w
  pub some : (x : V) → Fits x → (g : G) × (u : List ℕ) × After x g u

-- the texts that begin with what was read
pub plain : (At : Spelling → List ℕ → Type 0) (k : ℕ) (done : List ℕ) → HasTold At k done → HasRead IsFormedModel (λ w. (m : Spelling) × At m w) k done
plain At k done told =
    record {
      whole = told.whole;
      follows = λ w formed. let m : Spelling = record { version = formed.0; graph = formed.1 } in (m, told.follows m w formed.2);
      back = λ w on. (on.0.version, on.0.graph, told.back on.0 w on.1);
      some = (told.some.1, (told.some.0, told.some.2));
    }

has_feed : (front u : List ℕ) → Contains ((front ++ 10 ∷ []) ++ u) 10
has_feed front u =
    subst (λ (t : List ℕ). Contains t 10) (sym (append_assoc front (10 ∷ []) u)) (Contains-append_right front (10 ∷ u) 10 (0, omega arith, refl))

module _ (At : Spelling → List ℕ → Type 0) (text : List ℕ) (place : Place) (told : IsAt At text place) where
  abbrev Goes : List ℕ → Type 0
  Goes w = (m : Spelling) × At m w

  -- nothing that may follow begins with the line
  pub stop_bad : (line rest : List ℕ) → IsFirstLine (drop place.byte text) line rest → ((m : Spelling) (w : List ℕ) → At m (line ++ w) → ⊥) → IsStop (BadLine (place.line + 1)) text
  stop_bad line rest first none =
      let read = plain At place.line (take place.byte text) told in
      let is : take place.byte text ++ drop place.byte text ≡ text = take-append-drop place.byte text in (
        subst (λ (t : List ℕ). IsBadLine IsFormedModel t (place.line + 1)) is (bad_line IsFormedModel Goes place.line (take place.byte text) (drop place.byte text) line rest read first (λ w on. none on.0 w on.1)),
        λ formed. let on = read.follows (drop place.byte text) (subst IsFormedModel (sym is) formed) in none on.0 rest (subst (At on.0) (first_line_whole (drop place.byte text) line rest first) on.1),
      )

  -- what is left of the text may go on, and may not be all
  stop_cut : (more : List ℕ) → more ≢ [] → Goes (drop place.byte text ++ more) → ((m : Spelling) → At m (drop place.byte text) → ⊥) → IsStop Truncated text
  stop_cut more some on none =
      let read = plain At place.line (take place.byte text) told in
      let is : take place.byte text ++ drop place.byte text ≡ text = take-append-drop place.byte text in (
        subst (IsProperPrefix IsFormedModel) is (proper_prefix IsFormedModel Goes place.line (take place.byte text) (drop place.byte text) more read some on),
        λ formed. let there = read.follows (drop place.byte text) (subst IsFormedModel (sym is) formed) in none there.0 there.1,
      )

module _ {V : Type 0} {At : Spelling → List ℕ → Type 0} {Fits : V → Type 0} {spelled : V → List ℕ} {After : V → Spelling → List ℕ → Type 0} where
  -- what goes on begins with a line feed's line
  on_has_feed : Step At Fits spelled After → (m : Spelling) (w : List ℕ) → At m w → Contains w 10
  on_has_feed step m w at =
      let on = step.onward m w at in
      let front = step.ends on.0 in
      subst (λ (t : List ℕ). Contains t 10) (sym (on.4 ∙ ap (λ (x : List ℕ). x ++ on.1) front.1)) (has_feed front.0 on.1)

  -- a value was read
  line_more : (k : ℕ) (done line rest after : List ℕ) (v : V) → Step At Fits spelled After → HasTold At k done → IsFirstLine rest line after → StandsFirst Fits spelled line [] v → HasTold (After v) (k + 1) (done ++ line)
  line_more k done line rest after v step told first stands =
      let front = step.ends v in
      let is : line ≡ front.0 ++ 10 ∷ [] = stands.stands ∙ append-nil (spelled v) ∙ front.1 in
      let follows : (m : Spelling) (w : List ℕ) → At m (line ++ w) → After v m w = λ m w at. after_line Fits spelled (λ x u. After x m u) line v stands w (step.onward m (line ++ w) at) in
      let back : (m : Spelling) (w : List ℕ) → After v m w → At m (line ++ w) = λ m w later. step.back m (line ++ w) (before_line Fits spelled (λ x u. After x m u) line v stands w later) in
      let some = step.some v stands.fits in
      record {
        whole = (one_more IsFormedModel (λ w. (m : Spelling) × At m w) (λ w. (m : Spelling) × After v m w) k done line front.0 (plain At k done told) is (no_feed front.0 line rest after is first) (λ w on. (on.0, follows on.0 w on.1)) (λ w on. (on.0, back on.0 w on.1)) (some.1, (some.0, some.2))).whole;
        follows = λ m w spells. follows m w (told.follows m (line ++ w) (subst (Spells m) (append_assoc done line w) spells));
        back = λ m w later. subst (Spells m) (sym (append_assoc done line w)) (told.back m (line ++ w) (back m w later));
        some = some;
      }
    where
      no_feed : (front line rest after : List ℕ) → line ≡ front ++ 10 ∷ [] → IsFirstLine rest line after → Contains front 10 → ⊥
      no_feed front line rest after is (ended before none end whole) = subst (λ (t : List ℕ). Contains t 10 → ⊥) (append_cancel_right before front (10 ∷ []) (sym end ∙ is)) none
      no_feed front line rest after is (unended none end whole) = absurd (none (subst (λ (t : List ℕ). Contains t 10) (sym (is ∙ sym (append-nil (front ++ 10 ∷ [])))) (has_feed front [])))

  -- the text ends within the line
  stop_short : (text : List ℕ) (place : Place) → Step At Fits spelled After → IsAt At text place → IsMissed Fits spelled text place Short → IsStop Truncated text
  stop_short text place step told missed =
      let short = whole missed.first missed.missed in
      let on = short_line Fits spelled (λ x u. (m : Spelling) × After x m u) left (λ x fits. let some = step.some x fits in (some.1, (some.0, some.2))) short in
      let goes = on.2 in
      stop_cut At text place told on.0 on.1 (goes.3.0, step.back goes.3.0 (left ++ on.0) (goes.0, goes.1, goes.2, goes.3.1, goes.4)) (λ m at. short.unended (on_has_feed step m left at))
    where
      left : List ℕ
      left = drop place.byte text

      whole : {line rest : List ℕ} → IsFirstLine left line rest → IsCutShort Fits spelled line → IsCutShort Fits spelled left
      whole {line} {rest} (ended front none end is) short = absurd (ended_not_short Fits spelled line front end short)
      whole {line} {rest} (unended none end is) short = subst (IsCutShort Fits spelled) (sym is) short

  -- the text ends between two lines
  stop_empty : (text : List ℕ) (place : Place) → Step At Fits spelled After → IsAt At text place → drop place.byte text ≡ [] → IsStop Truncated text
  stop_empty text place step told none =
      let some = told.some in
      stop_cut At text place told some.1 (λ e. no_feed_in_nil (subst (λ (t : List ℕ). Contains t 10) e (on_has_feed step some.0 some.1 some.2))) (some.0, subst (λ (t : List ℕ). At some.0 (t ++ some.1)) (sym none) some.2)
      (λ m at. no_feed_in_nil (subst (λ (t : List ℕ). Contains t 10) none (on_has_feed step m (drop place.byte text) at)))
    where
      no_feed_in_nil : Contains {X = ℕ} [] 10 → ⊥
      no_feed_in_nil has = absurd (omega (arith, has.1))

  -- where the line is read, the text was read up to the new place
  pub taken : (text : List ℕ) (old new : Place) (v : V) → Step At Fits spelled After → IsAt At text old → Takes Fits spelled text old new (Ok v) → IsAt (After v) text new
  taken text old new v step told took =
      let more = line_more old.line (take old.byte text) took.line (drop old.byte text) (drop new.byte text) v step told took.next.first took.first in
      subst (λ (t : List ℕ). HasTold (After v) new.line t) (sym took.next.bytes) (subst (λ (k : ℕ). HasTold (After v) k (take old.byte text ++ took.line)) (sym took.next.number) more)

  -- where it is not, the text is refused so
  pub stopped : (text : List ℕ) (old new : Place) (error : ModelError) → Step At Fits spelled After → IsAt At text old → Takes Fits spelled text old new (Err error) → IsStop error text
  stopped text old new OutOfMemory step told took = tt
  stopped text old new (BadLine k) step told took =
      let missed = took.1 in
      subst (λ (n : ℕ). IsStop (BadLine n) text) (sym took.0)
      (stop_bad At text old told missed.line missed.rest missed.first (λ m w at. wrong_line Fits spelled (λ x u. After x m u) missed.line [] missed.missed w (step.onward m (missed.line ++ w) at)))
  stopped text old new Truncated step told (inl none) = stop_empty text old step told none
  stopped text old new Truncated step told (inr missed) = stop_short text old step told missed
  stopped text old new error step told took = absurd took
