-- How a schedule is read line by line.
use Rattle.std.proofs.Common.{◌≡◌, ◌≢◌, ℕ, zero, suc, ◌+◌, ◌<◌, ◌≤◌, ◌^◌, Bool, true, false, not, nat_eq, List, [], ◌∷◌, ◌++◌, length, get_or, Result, Ok, Err, decimal, refl, sym, ◌∙◌, ap, subst, inl, inr, append_assoc, length-append, Contains, All, arith}
use Rattle.std.specs.Prelude.{◌⊎◌, ◌↔◌, AllPairs, IfErr, IfOk, MatchResult, codes}
use Rattle.std.proofs.lemmas.Bool.{both_ways, not-true, not-false, and_parts, eq-eqb, eqb-true, true_from_ne_false}
use Rattle.std.proofs.lemmas.Fmt.{decimal_digit, decimal_injective}
use Rattle.std.proofs.lemmas.List.{append_cancel_left, append_cancel_right, append-nil, flat_map_more, map-append, get_or_append_left, get_or_default}
use Rattle.std.proofs.Math.Seq.{get_or-append_seam}
use Rattle.std.proofs.lemmas.List.Elements.{Contains-append_left, Contains-append_right, All-push, All-nil, All-head}
use Rattle.std.proofs.lemmas.List.Quantifiers.{all_pairs_push}
use Rattle.line_text.specs.declared.miss.Miss.{Miss}
use Rattle.line_text.specs.declared.miss.Miss.TheVariants.{OutOfMemory as NoMemory, Short, Wrong}
use Rattle.line_text.specs.Files.{IsFirstLine, IsProperPrefix, IsBadLine, IsVersionLine}
use Rattle.line_text.specs.OneLine.{IsLine}
use Rattle.line_text.specs.Files.IsFirstLine.{ended, unended}
use Rattle.line_text.specs.Reading.{Agree, StandsFirst, IsCutShort, Reads}
use Rattle.line_text.proofs.Splits.{prefixes_agree}
use Rattle.line_text.proofs.FilesLemmas.{ends_line, first_line_whole, HasRead, nothing_read, one_more, bad_line, proper_prefix}
use Rattle.line_text.proofs.VersionLemmas.{decimal-no_feed}
use Rattle.fleet_schedule.specs.declared.error.ScheduleError.{ScheduleError}
use Rattle.fleet_schedule.specs.declared.error.ScheduleError.TheVariants.{OutOfMemory, BadLine, NoEnd, TooLong, Version}
use Rattle.fleet_schedule.specs.declared.line.Line.{Line}
use Rattle.fleet_schedule.specs.declared.line_reading.ScheduleLine.{ScheduleLine}
use Rattle.fleet_schedule.specs.declared.line_reading.ScheduleLine.TheVariants.{Process, Advance, End}
use Rattle.fleet_schedule.specs.Lines.{HasOtherNumber, IsHeadRefusal, IsLinesRefusal, IsNewLine, MayStand, head_refusal_of, refusal_of, schedule_line}
use Rattle.fleet_schedule.specs.Plan.{Plan}
use Rattle.fleet_schedule.specs.ScheduleText.{AreRight, AreWithin, HasOtherScheduleVersion, HasTooMany, IsFormedSchedule, IsRightLine, IsSchedule, IsScheduleRefusal, IsScheduleWithin, advance_line, longest, most_advances, most_processes, order_text, pids, process_line, processes_text, schedule_head}
use Rattle.fleet_schedule.proofs.ComparedLemmas.{compare}
use Rattle.fleet_schedule.proofs.LineLemmas.{line_ends}
use Rattle.fleet_schedule.proofs.PidLemmas.{pid_small}
use Rattle.fleet_schedule.proofs.ProcessLemmas.{IsSmall, advance_ends, advance_front, advance_no_feed, advance_not_end, advance_told, process_ends, process_front, process_no_feed, process_not_advance, process_not_end, process_told}
use Rattle.line_text.proofs.FirstLines.{first_of, nonempty_first, nil_front, end_line, line_alone, nonempty_rest, through_begins, lacks, unended_is}
pub use Rattle.line_text.proofs.FirstLines.{first_is_line}

-- lists of processes and advances

nil_or_not : {V : Type 0} (xs : List V) → (xs ≡ []) ⊎ (xs ≢ [])
nil_or_not [] = inl refl
nil_or_not (x ∷ xs) = inr (λ none. cc)

push_not_nil : {V : Type 0} (xs : List V) (x : V) → xs ++ x ∷ [] ≡ [] → ⊥
push_not_nil [] x is = cc
push_not_nil (y ∷ xs) x is = cc

pids-append : (ps qs : List Line) → pids (ps ++ qs) ≡ pids ps ++ pids qs
pids-append ps qs = map-append (λ l. l.pid) ps qs

All-at : {V : Type 0} (P : V → Type 0) (xs ys : List V) (y : V) → All P (xs ++ y ∷ ys) → P y
All-at P [] ys y all = All-head P y ys all
All-at P (x ∷ xs) ys y all = All-at P xs ys y (λ k d within. all (suc k) d (omega arith))

all_small : (ps : List Line) (order : List ℕ) → AreRight ps order → All IsSmall order
all_small ps order right = λ k d within. pid_small ps (get_or order k d) right.lines (right.named k d within)

-- one process more, which is none of the others
pub right_process : (ps : List Line) (l : Line) → AreRight ps [] → IsNewLine ps l → AreRight (ps ++ l ∷ []) []
right_process ps l right new = record {
  lines = All-push IsRightLine ps l right.lines new.right;
  differ = subst (AllPairs (λ (a b : ℕ). a ≢ b)) (sym (pids-append ps (l ∷ []))) (all_pairs_push (λ (a b : ℕ). a ≢ b) (pids ps) l.pid right.differ (λ k d within same. new.fresh.new (k, within, at_same k d within ∙ same)));
  named = All-nil (Contains (pids (ps ++ l ∷ [])));
} where
  at_same : (k d : ℕ) → k < length (pids ps) → get_or (pids ps) k l.pid ≡ get_or (pids ps) k d
  at_same k d within = get_or_default (pids ps) k l.pid d within

-- one advance more, of one of the processes
pub right_advance : (ps : List Line) (order : List ℕ) (p : ℕ) → AreRight ps order → Contains (pids ps) p → AreRight ps (order ++ p ∷ [])
right_advance ps order p right has = record { lines = right.lines; differ = right.differ; named = All-push (Contains (pids ps)) order p right.named has }

-- each process is new after those before it
new_process : (ps later : List Line) (l : Line) (order : List ℕ) → AreRight (ps ++ l ∷ later) order → IsNewLine ps l
new_process ps later l order right = record {
  right = line;
  fresh = record { small = line.pid; new = λ (k, within, is). apart k within is };
} where
  line : IsRightLine l
  line = All-at IsRightLine ps later l right.lines

  apart : (k : ℕ) → k < length (pids ps) → get_or (pids ps) k l.pid ≡ l.pid → ⊥
  apart k within is =
      let differ = subst (AllPairs (λ (a b : ℕ). a ≢ b)) (pids-append ps (l ∷ later)) right.differ in
      differ k (length (pids ps)) l.pid within (omega (arith, length-append (pids ps) (pids (l ∷ later))))
      (get_or_append_left (pids ps) (pids (l ∷ later)) l.pid k within ∙ is ∙ sym (get_or-append_seam (pids ps) l.pid (pids later) l.pid))

-- what may follow

-- lines of more processes, where no advance stands yet, lines of advances, and the end line
pub record IsRest (ps : List Line) (order : List ℕ) (w : List ℕ) : Type 0 where
  pub more : List Line
  pub later : List ℕ
  pub right : AreRight (ps ++ more) (order ++ later)
  pub behind : order ≢ [] → more ≡ []
  pub is : w ≡ processes_text more ++ (order_text later ++ end_line)

pub end_rest : (ps : List Line) (order : List ℕ) → AreRight ps order → IsRest ps order end_line
end_rest ps order right = record {
  more = [];
  later = [];
  right = subst (λ (l : List Line). AreRight l (order ++ [])) (sym (append-nil ps)) (subst (AreRight ps) (sym (append-nil order)) right);
  behind = λ some. refl;
  is = refl;
}

rest_of_parts : (ps more : List Line) (order later : List ℕ) (w : List ℕ) → AreRight (ps ++ more) (order ++ later) → (order ≢ [] → more ≡ []) → w ≡ processes_text more ++ (order_text later ++ end_line) → IsRest ps order w
rest_of_parts ps more order later w right behind is = record { more = more; later = later; right = right; behind = behind; is = is }

pub rest_after_process : (ps : List Line) (l : Line) (w : List ℕ) → IsRightLine l → IsRest ps [] (process_line l ++ w) → IsRest (ps ++ l ∷ []) [] w
rest_after_process ps l w right_l rest = by_parts rest.more rest.later rest.right rest.is where
  by_parts : (more : List Line) (later : List ℕ) → AreRight (ps ++ more) later → process_line l ++ w ≡ processes_text more ++ (order_text later ++ end_line) → IsRest (ps ++ l ∷ []) [] w
  by_parts [] [] right is = absurd (process_not_end l w [] (is ∙ sym (append-nil end_line)))
  by_parts [] (q ∷ later) right is = absurd (process_not_advance l q w (order_text later ++ end_line) (is ∙ append_assoc (advance_line q) (order_text later) end_line))
  by_parts (m ∷ more) later right is =
      let told = process_told l m w (processes_text more ++ (order_text later ++ end_line)) right_l (All-at IsRightLine ps more m right.lines) (is ∙ append_assoc (process_line m) (processes_text more) (order_text later ++ end_line)) in
      let same : ps ++ m ∷ more ≡ (ps ++ l ∷ []) ++ more = ap (λ (x : Line). ps ++ x ∷ more) (sym told.0) ∙ sym (append_assoc ps (l ∷ []) more) in
      rest_of_parts (ps ++ l ∷ []) more [] later w (subst (λ (x : List Line). AreRight x later) same right) (λ some. absurd (some refl)) told.1

pub rest_before_process : (ps : List Line) (l : Line) (w : List ℕ) → IsRest (ps ++ l ∷ []) [] w → IsRest ps [] (process_line l ++ w)
rest_before_process ps l w rest =
    rest_of_parts ps (l ∷ rest.more) [] rest.later (process_line l ++ w) (subst (λ (x : List Line). AreRight x rest.later) (append_assoc ps (l ∷ []) rest.more) rest.right) (λ some. absurd (some refl))
    (ap (λ (x : List ℕ). process_line l ++ x) rest.is ∙ sym (append_assoc (process_line l) (processes_text rest.more) (order_text rest.later ++ end_line)))

pub rest_after_advance : (ps : List Line) (order : List ℕ) (p : ℕ) (w : List ℕ) → IsSmall p → IsRest ps order (advance_line p ++ w) → IsRest ps (order ++ p ∷ []) w
rest_after_advance ps order p w small rest = by_parts rest.more rest.later rest.right rest.is where
  by_parts : (more : List Line) (later : List ℕ) → AreRight (ps ++ more) (order ++ later) → advance_line p ++ w ≡ processes_text more ++ (order_text later ++ end_line) → IsRest ps (order ++ p ∷ []) w
  by_parts [] [] right is = absurd (advance_not_end p w [] (is ∙ sym (append-nil end_line)))
  by_parts [] (q ∷ later) right is =
      let told = advance_told p q w (order_text later ++ end_line) small (All-at IsSmall order later q (all_small (ps ++ []) (order ++ q ∷ later) right)) (is ∙ append_assoc (advance_line q) (order_text later) end_line) in
      let same : order ++ q ∷ later ≡ (order ++ p ∷ []) ++ later = ap (λ (x : ℕ). order ++ x ∷ later) (sym told.0) ∙ sym (append_assoc order (p ∷ []) later) in
      rest_of_parts ps [] (order ++ p ∷ []) later w (subst (AreRight (ps ++ [])) same right) (λ some. refl) told.1
  by_parts (m ∷ more) later right is =
      absurd (process_not_advance m p (processes_text more ++ (order_text later ++ end_line)) w (sym (is ∙ append_assoc (process_line m) (processes_text more) (order_text later ++ end_line))))

pub rest_before_advance : (ps : List Line) (order : List ℕ) (p : ℕ) (w : List ℕ) → IsRest ps (order ++ p ∷ []) w → IsRest ps order (advance_line p ++ w)
rest_before_advance ps order p w rest =
    let none : rest.more ≡ [] = rest.behind (push_not_nil order p) in
    rest_of_parts ps [] order (p ∷ rest.later) (advance_line p ++ w)
    (subst (AreRight (ps ++ [])) (append_assoc order (p ∷ []) rest.later) (subst (λ (m : List Line). AreRight (ps ++ m) ((order ++ p ∷ []) ++ rest.later)) none rest.right))
    (λ some. refl)
    (ap (λ (x : List ℕ). advance_line p ++ x) (rest.is ∙ ap (λ (m : List Line). processes_text m ++ (order_text rest.later ++ end_line)) none) ∙ sym (append_assoc (advance_line p) (order_text rest.later) end_line))

end_after : (ps : List Line) (order : List ℕ) (w : List ℕ) → IsRest ps order (end_line ++ w) → w ≡ []
end_after ps order w rest = by_parts rest.more rest.later rest.is where
  by_parts : (more : List Line) (later : List ℕ) → end_line ++ w ≡ processes_text more ++ (order_text later ++ end_line) → w ≡ []
  by_parts [] [] is = append_cancel_left end_line w [] (is ∙ sym (append-nil end_line))
  by_parts [] (q ∷ later) is = absurd (advance_not_end q (order_text later ++ end_line) w (sym (is ∙ append_assoc (advance_line q) (order_text later) end_line)))
  by_parts (m ∷ more) later is =
      absurd (process_not_end m (processes_text more ++ (order_text later ++ end_line)) w (sym (is ∙ append_assoc (process_line m) (processes_text more) (order_text later ++ end_line))))

end_before : (ps : List Line) (order : List ℕ) → AreRight ps order → (w : List ℕ) → w ≡ [] → IsRest ps order (end_line ++ w)
end_before ps order right w none = subst (IsRest ps order) (sym (append-nil end_line) ∙ ap (λ (t : List ℕ). end_line ++ t) (sym none)) (end_rest ps order right)

-- what was read

right_none : AreRight [] []
right_none = record { lines = All-nil IsRightLine; differ = λ i j d less within. omega (arith, within); named = All-nil (Contains (pids [])) }

formed_rest : (w : List ℕ) → IsFormedSchedule (schedule_head ++ w) → IsRest [] [] w
formed_rest w (s, formed) =
    rest_of_parts [] s.processes [] s.order w formed.right (λ some. absurd (some refl)) (append_cancel_left schedule_head w (processes_text s.processes ++ (order_text s.order ++ end_line)) formed.is)

rest_formed : (w : List ℕ) → IsRest [] [] w → IsFormedSchedule (schedule_head ++ w)
rest_formed w rest = (record { processes = rest.more; order = rest.later }, record { right = rest.right; is = ap (λ (x : List ℕ). schedule_head ++ x) rest.is })

-- a line feed in a text, told by a test that computes

lacks_feed : (text : List ℕ) → lacks text ≡ true → Contains text 10 → ⊥
unfolding lacks
lacks_feed [] test has = omega (arith, has.1)
lacks_feed (b ∷ text) test (zero, within, is) = both_ways (nat_eq b 10) (not-true (nat_eq b 10) (and_parts (not (nat_eq b 10)) (lacks text) test).0) (eq-eqb b 10 is)
lacks_feed (b ∷ text) test (suc k, within, is) = lacks_feed text (and_parts (not (nat_eq b 10)) (lacks text) test).1 (k, omega (arith, within), is)

head_front : List ℕ
head_front = codes "dyckmon-fleet 1"

head_lacks_feed : Contains head_front 10 → ⊥
unfolding lacks head_front
head_lacks_feed = lacks_feed (codes "dyckmon-fleet 1") refl

end_lacks_feed : Contains (codes "end") 10 → ⊥
unfolding lacks
end_lacks_feed = lacks_feed (codes "end") refl

head_is : schedule_head ≡ head_front ++ 10 ∷ []
unfolding head_front
head_is = refl

-- the first line and the lines of these were read
abbrev pub IsRead : List Line → List ℕ → Type 0
IsRead ps order = HasRead IsFormedSchedule (IsRest ps order) (1 + (length ps + length order)) (schedule_head ++ (processes_text ps ++ order_text order))

head_read : IsRead [] []
head_read =
    one_more IsFormedSchedule IsFormedSchedule (IsRest [] []) 0 [] schedule_head head_front
    (nothing_read IsFormedSchedule (schedule_head ++ end_line) (rest_formed end_line (end_rest [] [] right_none))) head_is head_lacks_feed formed_rest rest_formed (end_line, end_rest [] [] right_none)

process_read : (ps : List Line) (l : Line) → AreRight ps [] → IsNewLine ps l → IsRead ps [] → IsRead (ps ++ l ∷ []) []
process_read ps l right new read =
    let next = one_more IsFormedSchedule (IsRest ps []) (IsRest (ps ++ l ∷ []) []) (1 + (length ps + 0)) (schedule_head ++ (processes_text ps ++ [])) (process_line l) (process_front l) read (process_ends l) (process_no_feed l new.right) (λ w. rest_after_process ps l w new.right) (rest_before_process ps l) (end_line, end_rest (ps ++ l ∷ []) [] (right_process ps l right new)) in
    let count : 1 + (length ps + 0) + 1 ≡ 1 + (length (ps ++ l ∷ []) + 0) = omega (arith, length-append ps (l ∷ [])) in
    let text : (schedule_head ++ (processes_text ps ++ [])) ++ process_line l ≡ schedule_head ++ (processes_text (ps ++ l ∷ []) ++ []) =
    append_assoc schedule_head (processes_text ps ++ []) (process_line l)
    ∙ ap (λ (x : List ℕ). schedule_head ++ x) (ap (λ (x : List ℕ). x ++ process_line l) (append-nil (processes_text ps)) ∙ flat_map_more process_line [] ps l ∙ sym (append-nil (processes_text (ps ++ l ∷ [])))) in
    subst (λ (n : ℕ). HasRead IsFormedSchedule (IsRest (ps ++ l ∷ []) []) n (schedule_head ++ (processes_text (ps ++ l ∷ []) ++ []))) count
    (subst (HasRead IsFormedSchedule (IsRest (ps ++ l ∷ []) []) (1 + (length ps + 0) + 1)) text next)

advance_read : (ps : List Line) (order : List ℕ) (p : ℕ) → AreRight ps order → Contains (pids ps) p → IsRead ps order → IsRead ps (order ++ p ∷ [])
advance_read ps order p right has read =
    let small : IsSmall p = pid_small ps p right.lines has in
    let done : List ℕ = schedule_head ++ (processes_text ps ++ order_text order) in
    let next = one_more IsFormedSchedule (IsRest ps order) (IsRest ps (order ++ p ∷ [])) (1 + (length ps + length order)) done (advance_line p) (advance_front p) read (advance_ends p) (advance_no_feed p small) (λ w. rest_after_advance ps order p w small) (rest_before_advance ps order p) (end_line, end_rest ps (order ++ p ∷ []) (right_advance ps order p right has)) in
    let count : 1 + (length ps + length order) + 1 ≡ 1 + (length ps + length (order ++ p ∷ [])) = omega (arith, length-append order (p ∷ [])) in
    let text : done ++ advance_line p ≡ schedule_head ++ (processes_text ps ++ order_text (order ++ p ∷ [])) =
    append_assoc schedule_head (processes_text ps ++ order_text order) (advance_line p)
    ∙ ap (λ (x : List ℕ). schedule_head ++ x) (append_assoc (processes_text ps) (order_text order) (advance_line p) ∙ ap (λ (x : List ℕ). processes_text ps ++ x) (flat_map_more advance_line [] order p)) in
    subst (λ (n : ℕ). HasRead IsFormedSchedule (IsRest ps (order ++ p ∷ [])) n (schedule_head ++ (processes_text ps ++ order_text (order ++ p ∷ [])))) count
    (subst (HasRead IsFormedSchedule (IsRest ps (order ++ p ∷ [])) (1 + (length ps + length order) + 1)) text next)

-- the lines of these were read, and what is left of the lines after the first
pub record IsReading (text : List ℕ) (ps : List Line) (order : List ℕ) (rest : List ℕ) : Type 0 where
  pub right : AreRight ps order
  pub few : length ps ≤ most_processes
  pub short : length order ≤ most_advances
  pub read : IsRead ps order
  pub is : text ≡ processes_text ps ++ (order_text order ++ rest)

pub reading_start : (text : List ℕ) → IsReading text [] [] text
reading_start text = record { right = right_none; few = omega arith; short = omega arith; read = head_read; is = refl }

process_more : (ps : List Line) (l : Line) (text rest later : List ℕ) → text ≡ processes_text ps ++ rest → rest ≡ process_line l ++ later → text ≡ processes_text (ps ++ l ∷ []) ++ later
process_more ps l text rest later is first =
    is ∙ ap (λ (t : List ℕ). processes_text ps ++ t) first ∙ sym (append_assoc (processes_text ps) (process_line l) later) ∙ ap (λ (t : List ℕ). t ++ later) (flat_map_more process_line [] ps l)

advance_more : (ps : List Line) (order : List ℕ) (p : ℕ) (text rest later : List ℕ) → text ≡ processes_text ps ++ (order_text order ++ rest) → rest ≡ advance_line p ++ later → text ≡ processes_text ps ++ (order_text (order ++ p ∷ []) ++ later)
advance_more ps order p text rest later is first =
    is ∙ ap (λ (t : List ℕ). processes_text ps ++ t) (ap (λ (t : List ℕ). order_text order ++ t) first ∙ sym (append_assoc (order_text order) (advance_line p) later) ∙ ap (λ (t : List ℕ). t ++ later) (flat_map_more advance_line [] order p))

pub reading_process : (text : List ℕ) (ps : List Line) (order : List ℕ) (l : Line) (rest later : List ℕ) → IsReading text ps order rest → order ≡ [] → IsNewLine ps l → length ps ≢ most_processes → rest ≡ process_line l ++ later → IsReading text (ps ++ l ∷ []) order later
reading_process text ps order l rest later reading none new room first =
    subst (λ (o : List ℕ). IsReading text (ps ++ l ∷ []) o later) (sym none) (from_nil (subst (λ (o : List ℕ). IsReading text ps o rest) none reading))
  where
    from_nil : IsReading text ps [] rest → IsReading text (ps ++ l ∷ []) [] later
    from_nil before = record {
      right = right_process ps l before.right new;
      few = let few = before.few in omega (arith, length-append ps (l ∷ []));
      short = omega arith;
      read = process_read ps l before.right new before.read;
      is = process_more ps l text rest later before.is first;
    }

pub reading_advance : (text : List ℕ) (ps : List Line) (order : List ℕ) (p : ℕ) (rest later : List ℕ) → IsReading text ps order rest → Contains (pids ps) p → length order ≢ most_advances → rest ≡ advance_line p ++ later → IsReading text ps (order ++ p ∷ []) later
reading_advance text ps order p rest later before has room first = record {
  right = right_advance ps order p before.right has;
  few = before.few;
  short = let short = before.short in omega (arith, length-append order (p ∷ []));
  read = advance_read ps order p before.right has before.read;
  is = advance_more ps order p text rest later before.is first;
}

-- too many lines

pub many_processes : (text : List ℕ) (ps : List Line) (order : List ℕ) (l : Line) (rest later : List ℕ) → IsReading text ps order rest → order ≡ [] → IsNewLine ps l → length ps ≡ most_processes → rest ≡ process_line l ++ later → HasTooMany (schedule_head ++ text)
many_processes text ps order l rest later reading none new full first =
    let before = subst (λ (o : List ℕ). IsReading text ps o rest) none reading in
    record {
      processes = ps ++ l ∷ [];
      order = [];
      rest = later;
      right = right_process ps l before.right new;
      many = inl (omega (arith, length-append ps (l ∷ [])));
      is = ap (λ (t : List ℕ). schedule_head ++ t) (process_more ps l text rest later before.is first);
    }

pub many_advances : (text : List ℕ) (ps : List Line) (order : List ℕ) (p : ℕ) (rest later : List ℕ) → IsReading text ps order rest → Contains (pids ps) p → length order ≡ most_advances → rest ≡ advance_line p ++ later → HasTooMany (schedule_head ++ text)
many_advances text ps order p rest later before has full first = record {
  processes = ps;
  order = order ++ p ∷ [];
  rest = later;
  right = right_advance ps order p before.right has;
  many = inr (omega (arith, length-append order (p ∷ [])));
  is = ap (λ (t : List ℕ). schedule_head ++ t) (advance_more ps order p text rest later before.is first);
}

-- a line of a process or of an advance that may stand is next
abbrev HasNext : List Line → List ℕ → List ℕ → Type 0
HasNext ps order rest =
    ((l : Line) × (after : List ℕ) × (order ≡ []) × IsNewLine ps l × (rest ≡ process_line l ++ after))
    ⊎ ((p : ℕ) × (after : List ℕ) × Contains (pids ps) p × (rest ≡ advance_line p ++ after))

longer_than : {V : Type 0} (xs ys : List V) (v : V) (later : List V) → ys ≡ xs ++ v ∷ later → length xs < length ys
longer_than xs ys v later is = omega (arith, ap length is, length-append xs (v ∷ later))

next_of_order : (ps : List Line) (order others : List ℕ) (rest tail : List ℕ) → AreRight ps order → AreRight ps others → length order < length others → order_text order ++ rest ≡ order_text others ++ tail → HasNext ps order rest
next_of_order ps order others rest tail right right' less is =
    elim (compare IsSmall advance_line advance_told order others rest tail (all_small ps order right) (all_small ps others right') is) [
      | inl same ↦ absurd (omega (arith, ap length same.0))
      | inr different ↦ elim different [
        | inl more ↦ inr (more.next, order_text more.later ++ tail, All-at (Contains (pids ps)) order more.later more.next (subst (All (Contains (pids ps))) more.is right'.named), more.stands)
        | inr fewer ↦ absurd (omega (arith, longer_than others order fewer.next fewer.later fewer.is))
      ]
    ]

next_of_many : (ps : List Line) (order : List ℕ) (rest : List ℕ) → AreRight ps order → length ps ≤ most_processes → length order ≤ most_advances → HasTooMany (schedule_head ++ (processes_text ps ++ (order_text order ++ rest))) → HasNext ps order rest
next_of_many ps order rest right few short many =
    let is : processes_text ps ++ (order_text order ++ rest) ≡ processes_text many.processes ++ (order_text many.order ++ many.rest) = append_cancel_left schedule_head (processes_text ps ++ (order_text order ++ rest)) (processes_text many.processes ++ (order_text many.order ++ many.rest)) many.is in
    elim (compare IsRightLine process_line process_told ps many.processes (order_text order ++ rest) (order_text many.order ++ many.rest) right.lines many.right.lines is) [
      | inl same ↦ elim many.many [
        | inl over ↦ absurd (omega (arith, ap length same.0))
        | inr over ↦ next_of_order ps order many.order rest many.rest right (subst (λ (x : List Line). AreRight x many.order) (sym same.0) many.right) (omega arith) same.1
      ]
      | inr different ↦ elim different [
        | inl more ↦ next_process order more.next more.later (subst (λ (x : List Line). AreRight x many.order) more.is many.right) (processes_text more.later ++ (order_text many.order ++ many.rest)) more.stands
        | inr fewer ↦ absurd (no_fewer many.order many.many fewer.next (processes_text fewer.later ++ (order_text order ++ rest)) (longer_than many.processes ps fewer.next fewer.later fewer.is) fewer.stands)
      ]
    ]
  where
    next_process : (order : List ℕ) (l : Line) (later : List Line) → AreRight (ps ++ l ∷ later) many.order → (after : List ℕ) → order_text order ++ rest ≡ process_line l ++ after → HasNext ps order rest
    next_process [] l later right' after is = inl (l, after, refl, new_process ps later l many.order right', is)
    next_process (q ∷ order) l later right' after is = absurd (process_not_advance l q after (order_text order ++ rest) (sym (sym (append_assoc (advance_line q) (order_text order) rest) ∙ is)))

    no_fewer : (others : List ℕ) → (most_processes < length many.processes) ⊎ (most_advances < length others) → (l : Line) (after : List ℕ) → length many.processes < length ps → order_text others ++ many.rest ≡ process_line l ++ after → ⊥
    no_fewer others (inl over) l after less is = omega arith
    no_fewer [] (inr over) l after less is = omega arith
    no_fewer (q ∷ others) (inr over) l after less is = process_not_advance l q after (order_text others ++ many.rest) (sym (sym (append_assoc (advance_line q) (order_text others) many.rest) ∙ is))

-- whether advances stand, as a test
abbrev pub Tells : Bool → List ℕ → Type 0
Tells advancing order = (advancing ≡ false) ↔ (order ≡ [])

pub tells : (order : List ℕ) (n : ℕ) → n ≡ length order → Tells (not (nat_eq n 0)) order
tells [] n is = (λ test. refl, λ none. ap not (eq-eqb n 0 is))
tells (p ∷ order) n is = (λ test. absurd (omega (arith, eqb-true n 0 (not-false (nat_eq n 0) test))), λ none. cc)

next_line : (ps : List Line) (order : List ℕ) (advancing : Bool) (rest : List ℕ) → Tells advancing order → HasNext ps order rest → (v : ScheduleLine) × (after : List ℕ) × MayStand ps advancing v × (rest ≡ schedule_line v ++ after)
next_line ps order advancing rest test (inl (l, after, none, new, is)) = (Process l, after, (test.1 none, new), is)
next_line ps order advancing rest test (inr (p, after, has, is)) = (Advance p, after, has, is)

no_next_at_end : (ps : List Line) (order : List ℕ) (later : List ℕ) → HasNext ps order (end_line ++ later) → ⊥
no_next_at_end ps order later (inl (l, after, none, new, is)) = process_not_end l after later (sym is)
no_next_at_end ps order later (inr (p, after, has, is)) = advance_not_end p after later (sym is)

-- the whole text of a reading
reading_text : (text : List ℕ) (ps : List Line) (order : List ℕ) (rest : List ℕ) → IsReading text ps order rest → (schedule_head ++ (processes_text ps ++ order_text order)) ++ rest ≡ schedule_head ++ text
reading_text text ps order rest reading =
    append_assoc schedule_head (processes_text ps ++ order_text order) rest
    ∙ ap (λ (t : List ℕ). schedule_head ++ t) (append_assoc (processes_text ps) (order_text order) rest ∙ sym reading.is)

none_too_many : (text : List ℕ) (ps : List Line) (order : List ℕ) (rest : List ℕ) → IsReading text ps order rest → HasTooMany (schedule_head ++ text) → HasNext ps order rest
none_too_many text ps order rest reading many =
    next_of_many ps order rest reading.right reading.few reading.short (subst (λ (t : List ℕ). HasTooMany (schedule_head ++ t)) reading.is many)

-- some line agrees with a line with which the rest begins
rest_agrees : (ps : List Line) (order : List ℕ) (advancing : Bool) (line w : List ℕ) → Tells advancing order → IsRest ps order (line ++ w) → (v : ScheduleLine) × MayStand ps advancing v × Agree (schedule_line v) line
rest_agrees ps order advancing line w test rest = by_parts rest.more rest.later rest.right rest.behind rest.is where
  by_parts : (more : List Line) (later : List ℕ) → AreRight (ps ++ more) (order ++ later) → (order ≢ [] → more ≡ []) → line ++ w ≡ processes_text more ++ (order_text later ++ end_line) → (v : ScheduleLine) × MayStand ps advancing v × Agree (schedule_line v) line
  by_parts [] [] right behind is = (End, tt, prefixes_agree end_line line [] w (append-nil end_line ∙ sym is))
  by_parts [] (q ∷ later) right behind is = (
    Advance q,
    subst (λ (x : List Line). Contains (pids x) q) (append-nil ps) (All-at (Contains (pids (ps ++ []))) order later q right.named),
    prefixes_agree (advance_line q) line (order_text later ++ end_line) w (sym (is ∙ append_assoc (advance_line q) (order_text later) end_line)),
  )
  by_parts (m ∷ more) later right behind is = (
    Process m,
    (test.1 (no_order (nil_or_not order)), new_process ps more m (order ++ later) right),
    prefixes_agree (process_line m) line (processes_text more ++ (order_text later ++ end_line)) w (sym (is ∙ append_assoc (process_line m) (processes_text more) (order_text later ++ end_line))),
  )
    where
      no_order : (order ≡ []) ⊎ (order ≢ []) → order ≡ []
      no_order (inl none) = none
      no_order (inr some) = let same : m ∷ more ≡ [] = behind some in cc

-- a line that is none

counted : (ps : List Line) (order : List ℕ) (n : ℕ) → n ≡ length ps + length order → 1 + (length ps + length order) + 1 ≡ n + 2
counted ps order n is = omega arith

pub wrong_schedule_line : (text : List ℕ) (ps : List Line) (order : List ℕ) (advancing : Bool) (rest line later : List ℕ) (n : ℕ) → IsReading text ps order rest → Tells advancing order → IsFirstLine rest line later → n ≡ length ps + length order → Reads (MayStand ps advancing) schedule_line line [] (Err Wrong) → (HasTooMany (schedule_head ++ text) → ⊥) × IsBadLine IsFormedSchedule (schedule_head ++ text) (n + 2)
wrong_schedule_line text ps order advancing rest line later n reading test first count none = (
  λ many.
      let found = next_line ps order advancing rest test (none_too_many text ps order rest reading many) in
      none found.0 found.2 (prefixes_agree (schedule_line found.0) line found.1 later (sym found.3 ∙ first_line_whole rest line later first)),
  let bad = bad_line IsFormedSchedule (IsRest ps order) (1 + (length ps + length order)) (schedule_head ++ (processes_text ps ++ order_text order)) rest line later reading.read first (λ w on. (let v = rest_agrees ps order advancing line w test on in none v.0 v.1 v.2)) in
      subst (λ (k : ℕ). IsBadLine IsFormedSchedule (schedule_head ++ text) k) (counted ps order n count)
      (subst (λ (t : List ℕ). IsBadLine IsFormedSchedule t (1 + (length ps + length order) + 1)) (reading_text text ps order rest reading) bad),
)

-- a line that is cut

has_feed : (v : ScheduleLine) (after : List ℕ) → Contains (schedule_line v ++ after) 10
has_feed v after =
    let ends = line_ends v in
    Contains-append_left (schedule_line v) after 10 (subst (λ (t : List ℕ). Contains t 10) (sym ends.1) (Contains-append_right ends.0 (10 ∷ []) 10 (0, omega arith, refl)))

rest_of_cut : (ps : List Line) (order : List ℕ) (advancing : Bool) (line : List ℕ) → AreRight ps order → Tells advancing order → IsCutShort (MayStand ps advancing) schedule_line line → (w : List ℕ) × (w ≢ []) × IsRest ps order (line ++ w)
rest_of_cut ps order advancing line right test cut = by_value cut.value cut.fits cut.goes_on where
  goes_on : (own : List ℕ) → own ≡ line ++ cut.rest → own ++ end_line ≡ line ++ (cut.rest ++ end_line)
  goes_on own is = ap (λ (t : List ℕ). t ++ end_line) is ∙ append_assoc line cut.rest end_line

  by_value : (v : ScheduleLine) → MayStand ps advancing v → schedule_line v ≡ line ++ cut.rest → (w : List ℕ) × (w ≢ []) × IsRest ps order (line ++ w)
  by_value (Process l) fits is =
      let none : order ≡ [] = test.0 fits.0 in
      let before : IsRest ps [] (process_line l ++ end_line) = rest_before_process ps l end_line (end_rest (ps ++ l ∷ []) [] (right_process ps l (subst (AreRight ps) none right) fits.1)) in
      (cut.rest ++ end_line, nonempty_rest cut.rest end_line cut.more, subst (λ (o : List ℕ). IsRest ps o (line ++ (cut.rest ++ end_line))) (sym none) (subst (IsRest ps []) (goes_on (process_line l) is) before))
  by_value (Advance p) fits is =
      let before : IsRest ps order (advance_line p ++ end_line) = rest_before_advance ps order p end_line (end_rest ps (order ++ p ∷ []) (right_advance ps order p right fits)) in
      (cut.rest ++ end_line, nonempty_rest cut.rest end_line cut.more, subst (IsRest ps order) (goes_on (advance_line p) is) before)
  by_value End fits is = (cut.rest, cut.more, subst (IsRest ps order) is (end_rest ps order right))

pub cut_schedule_line : (text : List ℕ) (ps : List Line) (order : List ℕ) (advancing : Bool) (rest line later : List ℕ) → IsReading text ps order rest → Tells advancing order → IsFirstLine rest line later → IsCutShort (MayStand ps advancing) schedule_line line → (HasTooMany (schedule_head ++ text) → ⊥) × IsProperPrefix IsFormedSchedule (schedule_head ++ text)
cut_schedule_line text ps order advancing rest line later reading test first cut =
    let is : rest ≡ line = unended_is rest line later first cut.unended in
    let more = rest_of_cut ps order advancing line reading.right test cut in
    let prefix = proper_prefix IsFormedSchedule (IsRest ps order) (1 + (length ps + length order)) (schedule_head ++ (processes_text ps ++ order_text order)) rest more.0 reading.read more.1 (subst (λ (t : List ℕ). IsRest ps order (t ++ more.0)) (sym is) more.2) in (
      λ many.
          let found = next_line ps order advancing rest test (none_too_many text ps order rest reading many) in
          cut.unended (subst (λ (t : List ℕ). Contains t 10) (sym found.3 ∙ is) (has_feed found.0 found.1)),
      subst (IsProperPrefix IsFormedSchedule) (reading_text text ps order rest reading) prefix,
    )

pub line_refused : (miss : Miss) (text : List ℕ) (ps : List Line) (order : List ℕ) (advancing : Bool) (rest line later : List ℕ) (n : ℕ) → IsReading text ps order rest → Tells advancing order → IsFirstLine rest line later → n ≡ length ps + length order → Reads (MayStand ps advancing) schedule_line line [] (Err miss) → IsLinesRefusal (refusal_of miss n) (schedule_head ++ text)
line_refused NoMemory text ps order advancing rest line later n reading test first count reads = tt
line_refused Short text ps order advancing rest line later n reading test first count reads = cut_schedule_line text ps order advancing rest line later reading test first reads
line_refused Wrong text ps order advancing rest line later n reading test first count reads = wrong_schedule_line text ps order advancing rest line later n reading test first count reads

-- the end line

pub finished : (text : List ℕ) (ps : List Line) (order : List ℕ) (rest later : List ℕ) → IsReading text ps order rest → rest ≡ end_line ++ later → later ≡ [] → IsSchedule (schedule_head ++ text) (record { processes = ps; order = order }) × AreWithin (record { processes = ps; order = order })
finished text ps order rest later reading is none = (
  record {
    right = reading.right;
    is = ap (λ (t : List ℕ). schedule_head ++ t) (reading.is ∙ ap (λ (t : List ℕ). processes_text ps ++ (order_text order ++ t)) (is ∙ ap (λ (t : List ℕ). end_line ++ t) none ∙ append-nil end_line));
  },
  record { processes = reading.few; order = reading.short },
)

pub end_refused : (text : List ℕ) (ps : List Line) (order : List ℕ) (rest later : List ℕ) (n : ℕ) → IsReading text ps order rest → rest ≡ end_line ++ later → later ≢ [] → n ≡ length ps + length order → (HasTooMany (schedule_head ++ text) → ⊥) × IsBadLine IsFormedSchedule (schedule_head ++ text) (n + 3)
end_refused text ps order rest later n reading is some count =
    let done : List ℕ = schedule_head ++ (processes_text ps ++ order_text order) in
    let read = one_more IsFormedSchedule (IsRest ps order) (λ w. w ≡ []) (1 + (length ps + length order)) done end_line (codes "end") reading.read refl end_lacks_feed (end_after ps order) (end_before ps order reading.right) ([], refl) in
    let line = first_of later in
    let bad = bad_line IsFormedSchedule (λ w. w ≡ []) (1 + (length ps + length order) + 1) (done ++ end_line) later line.0 line.1 read line.2 (λ w empty. nonempty_first later line.0 line.1 line.2 some (nil_front line.0 w empty)) in
    let number : 1 + (length ps + length order) + 1 + 1 ≡ n + 3 = omega arith in
    let whole : (done ++ end_line) ++ later ≡ schedule_head ++ text = append_assoc done end_line later ∙ ap (λ (t : List ℕ). done ++ t) (sym is) ∙ reading_text text ps order rest reading in (
      λ many. no_next_at_end ps order later (subst (HasNext ps order) is (none_too_many text ps order rest reading many)),
      subst (λ (k : ℕ). IsBadLine IsFormedSchedule (schedule_head ++ text) k) number
          (subst (λ (t : List ℕ). IsBadLine IsFormedSchedule t (1 + (length ps + length order) + 1 + 1)) whole bad),
    )

pub later_shorter : (v : ScheduleLine) (rest later : List ℕ) → rest ≡ schedule_line v ++ later → length later < length rest
later_shorter v rest later is =
    let ends = line_ends v in
    omega (arith, ap length is, length-append (schedule_line v) later, ap length ends.1, length-append ends.0 (10 ∷ []))

-- what stands first in the rest
pub line_stands : (ps : List Line) (advancing : Bool) (v : ScheduleLine) (rest line later : List ℕ) → IsFirstLine rest line later → StandsFirst (MayStand ps advancing) schedule_line line [] v → rest ≡ schedule_line v ++ later
line_stands ps advancing v rest line later first stands =
    first_line_whole rest line later first ∙ ap (λ (t : List ℕ). t ++ later) (stands.stands ∙ append-nil (schedule_line v))

-- the first line

ends_so : (m n : ℕ) → decimal m ≡ decimal n ++ 10 ∷ [] → Contains (decimal m) 10
ends_so m n is = subst (λ (t : List ℕ). Contains t 10) (sym is) (Contains-append_right (decimal n) (10 ∷ []) 10 (0, omega arith, refl))

version_alone : (word line : List ℕ) (m n : ℕ) → m < 2 ^ 32 → n < 2 ^ 32 → IsVersionLine word m line → IsVersionLine word n line → m ≡ n
version_alone word line m n small_m small_n (inl is_m) (inl is_n) =
    decimal_injective m n (omega arith) (omega arith) (append_cancel_left word (decimal m) (decimal n) (sym is_m ∙ is_n))
version_alone word line m n small_m small_n (inl is_m) (inr is_n) =
    absurd (decimal-no_feed m (omega arith) (ends_so m n (append_cancel_left word (decimal m) (decimal n ++ 10 ∷ []) (sym is_m ∙ is_n ∙ append_assoc word (decimal n) (10 ∷ [])))))
version_alone word line m n small_m small_n (inr is_m) (inl is_n) =
    absurd (decimal-no_feed n (omega arith) (ends_so n m (append_cancel_left word (decimal n) (decimal m ++ 10 ∷ []) (sym is_n ∙ is_m ∙ append_assoc word (decimal m) (10 ∷ [])))))
version_alone word line m n small_m small_n (inr is_m) (inr is_n) =
    let same : decimal m ++ 10 ∷ [] ≡ decimal n ++ 10 ∷ [] = append_cancel_left word (decimal m ++ 10 ∷ []) (decimal n ++ 10 ∷ []) (sym (append_assoc word (decimal m) (10 ∷ [])) ∙ sym is_m ∙ is_n ∙ append_assoc word (decimal n) (10 ∷ [])) in
    decimal_injective m n (omega arith) (omega arith) (append_cancel_right (decimal m) (decimal n) (10 ∷ []) same)

-- whether the number that the first line has is another
other_number : (line : List ℕ) (n : ℕ) → n < 2 ^ 32 → IsVersionLine (codes "dyckmon-fleet ") n line → (HasOtherNumber line → n ≡ 1 → ⊥)
other_number line n small stands (m, small_m, other, stands_m) one = other (version_alone (codes "dyckmon-fleet ") line m n small_m small stands_m stands ∙ one)

pub number_tells : (line : List ℕ) (n : ℕ) → n < 2 ^ 32 → IsVersionLine (codes "dyckmon-fleet ") n line → (not (nat_eq n 1) ≡ true) ↔ HasOtherNumber line
number_tells line n small stands = (
  λ holds. (n, small, (λ one. both_ways (nat_eq n 1) (not-true (nat_eq n 1) holds) (eq-eqb n 1 one)), stands),
  λ other. true_from_ne_false (not (nat_eq n 1)) (λ same. other_number line n small stands other (eqb-true n 1 (not-false (nat_eq n 1) same))),
)

head_version : IsVersionLine (codes "dyckmon-fleet ") 1 schedule_head
head_version = inr (ap (λ (t : List ℕ). codes "dyckmon-fleet " ++ t ++ 10 ∷ []) (sym (decimal_digit 1 (omega arith))))

-- the right first line has no other number
head_no_other : HasOtherNumber schedule_head → ⊥
head_no_other other = other_number schedule_head 1 (omega arith) head_version other refl

version_of_text : (text line rest : List ℕ) → IsFirstLine text line rest → HasOtherNumber line → HasOtherScheduleVersion text
version_of_text text line rest first (n, small, other, stands) = record { line = line; rest = rest; first = first; number = n; small = small; other = other; stands = stands }

no_version_of_text : (text line rest : List ℕ) → IsFirstLine text line rest → (HasOtherNumber line → ⊥) → HasOtherScheduleVersion text → ⊥
no_version_of_text text line rest first none has =
    none (has.number, has.small, has.other, subst (IsVersionLine (codes "dyckmon-fleet ") has.number) (line_alone text line rest has.line has.rest first has.first) has.stands)

-- the first line where it was read
pub head_whole : (line new : List ℕ) → IsLine line → line ≡ schedule_head ++ new → line ≡ schedule_head
head_whole line new (rest, first) stands =
    let none : new ≡ [] = ends_line schedule_head head_front rest line new (line ++ rest) head_is stands first in
    stands ∙ ap (λ (t : List ℕ). schedule_head ++ t) none ∙ append-nil schedule_head

pub head_refused : (line new : List ℕ) (miss : Miss) → (HasOtherNumber line → ⊥) → (◌≡◌ {A = Result (Unit {0}) Miss} (Err miss) (Err NoMemory) → ⊥) → Reads {V = Unit {0}} (λ u. Unit {0}) (λ u. schedule_head) line new (Err miss) → IsHeadRefusal (head_refusal_of miss) line
head_refused line new NoMemory none memory reads = absurd (memory refl)
head_refused line new Short none memory reads = (none, reads)
head_refused line new Wrong none memory reads = (refl, none, reads tt tt)

-- the whole text

-- why a text is refused whose first line is refused
pub refused_at_head : (error : ScheduleError) (text line rest : List ℕ) → length text ≤ longest → IsFirstLine text line rest → IsHeadRefusal error line → IsScheduleRefusal error text
refused_at_head OutOfMemory text line rest short first refused = tt
refused_at_head TooLong text line rest short first refused = absurd refused
refused_at_head Version text line rest short first refused = (short, version_of_text text line rest first refused)
refused_at_head (BadLine k) text line rest short first (one, none, wrong) =
    let bad = bad_line IsFormedSchedule IsFormedSchedule 0 [] text line rest (nothing_read IsFormedSchedule (schedule_head ++ end_line) (rest_formed end_line (end_rest [] [] right_none))) first (λ w formed. wrong (prefixes_agree schedule_head line (processes_text formed.0.processes ++ (order_text formed.0.order ++ end_line)) w (sym formed.1.is))) in (
      short,
      no_version_of_text text line rest first none,
      λ many. wrong (prefixes_agree schedule_head line (processes_text many.processes ++ (order_text many.order ++ many.rest)) rest (sym many.is ∙ first_line_whole text line rest first)),
      subst (λ (n : ℕ). IsBadLine IsFormedSchedule text n) (sym one) bad,
    )
refused_at_head NoEnd text line rest short first (none, cut) =
    let is : text ≡ line = unended_is text line rest first cut.unended in
    let whole : schedule_head ≡ text ++ cut.rest = cut.goes_on ∙ ap (λ (t : List ℕ). t ++ cut.rest) (sym is) in (
      short,
      no_version_of_text text line rest first none,
      λ many. cut.unended (subst (λ (t : List ℕ). Contains t 10) (sym many.is ∙ is) (Contains-append_left schedule_head (processes_text many.processes ++ (order_text many.order ++ many.rest)) 10 (subst (λ (t : List ℕ). Contains t 10) (sym head_is) (Contains-append_right head_front (10 ∷ []) 10 (0, omega arith, refl))))),
      (cut.rest ++ end_line, nonempty_rest cut.rest end_line cut.more, subst IsFormedSchedule (ap (λ (t : List ℕ). t ++ end_line) whole ∙ append_assoc text cut.rest end_line) (rest_formed end_line (end_rest [] [] right_none))),
    )

no_version_after_head : (text line rest : List ℕ) → IsFirstLine text line rest → line ≡ schedule_head → HasOtherScheduleVersion text → ⊥
no_version_after_head text line rest first is = no_version_of_text text line rest first (λ other. head_no_other (subst HasOtherNumber is other))

-- why a text is refused whose first line is right
refused_after_head : (error : ScheduleError) (text line rest : List ℕ) → length text ≤ longest → IsFirstLine text line rest → line ≡ schedule_head → IsLinesRefusal error (schedule_head ++ rest) → IsScheduleRefusal error text
refused_after_head error text line rest short first is refused = by_error error (subst (IsLinesRefusal error) (sym whole) refused) where
  whole : text ≡ schedule_head ++ rest
  whole = first_line_whole text line rest first ∙ ap (λ (t : List ℕ). t ++ rest) is

  by_error : (error : ScheduleError) → IsLinesRefusal error text → IsScheduleRefusal error text
  by_error OutOfMemory refused = tt
  by_error TooLong refused = inr refused
  by_error Version refused = absurd refused
  by_error (BadLine k) refused = (short, no_version_after_head text line rest first is, refused.0, refused.1)
  by_error NoEnd refused = (short, no_version_after_head text line rest first is, refused.0, refused.1)

read_whole : (text line rest : List ℕ) (s : Plan) → length text ≤ longest → IsFirstLine text line rest → line ≡ schedule_head → IsSchedule (schedule_head ++ rest) s → AreWithin s → IsScheduleWithin text s
read_whole text line rest s short first is read few = record {
  is = subst (λ (t : List ℕ). IsSchedule t s) (sym (first_line_whole text line rest first ∙ ap (λ (t : List ℕ). t ++ rest) is)) read;
  few = few;
  short = short;
}

-- a formed text is refused for want of memory alone

end_not_process : (order : List ℕ) (l : Line) (u after : List ℕ) → order_text order ++ (end_line ++ u) ≡ process_line l ++ after → ⊥
end_not_process [] l u after is = process_not_end l after u (sym is)
end_not_process (q ∷ order) l u after is = process_not_advance l q after (order_text order ++ (end_line ++ u)) (sym (sym (append_assoc (advance_line q) (order_text order) (end_line ++ u)) ∙ is))

orders_same : (order others : List ℕ) (u v : List ℕ) → All IsSmall order → All IsSmall others → order_text order ++ (end_line ++ u) ≡ order_text others ++ (end_line ++ v) → (order ≡ others) × (u ≡ v)
orders_same order others u v small small' is =
    elim (compare IsSmall advance_line advance_told order others (end_line ++ u) (end_line ++ v) small small' is) [
      | inl same ↦ (same.0, append_cancel_left end_line u v same.1)
      | inr different ↦ elim different [
        | inl more ↦ absurd (advance_not_end more.next (order_text more.later ++ (end_line ++ v)) u (sym more.stands))
        | inr more ↦ absurd (advance_not_end more.next (order_text more.later ++ (end_line ++ u)) v (sym more.stands))
      ]
    ]

plans_same : (s r : Plan) (u v : List ℕ) → AreRight s.processes s.order → AreRight r.processes r.order → processes_text s.processes ++ (order_text s.order ++ (end_line ++ u)) ≡ processes_text r.processes ++ (order_text r.order ++ (end_line ++ v)) → (s ≡ r) × (u ≡ v)
plans_same s r u v right right' is =
    elim (compare IsRightLine process_line process_told s.processes r.processes (order_text s.order ++ (end_line ++ u)) (order_text r.order ++ (end_line ++ v)) right.lines right'.lines is) [
      | inl same ↦
          let orders = orders_same s.order r.order u v (all_small s.processes s.order right) (all_small r.processes r.order right') same.1 in
          (λ i. record { processes = same.0 i; order = orders.0 i }, orders.1)
      | inr different ↦ elim different [
        | inl more ↦ absurd (end_not_process s.order more.next u (processes_text more.later ++ (order_text r.order ++ (end_line ++ v))) more.stands)
        | inr more ↦ absurd (end_not_process r.order more.next v (processes_text more.later ++ (order_text s.order ++ (end_line ++ u))) more.stands)
      ]
    ]

with_rest : (s : Plan) (rest : List ℕ) → schedule_head ++ (processes_text s.processes ++ (order_text s.order ++ (end_line ++ rest))) ≡ (schedule_head ++ (processes_text s.processes ++ (order_text s.order ++ end_line))) ++ rest
with_rest s rest = sym (simp append_assoc)

one_plan : (text : List ℕ) (s r : Plan) → IsSchedule text s → IsSchedule text r → s ≡ r
one_plan text s r read written =
    (plans_same s r [] [] read.right written.right (append_cancel_left schedule_head (processes_text s.processes ++ (order_text s.order ++ (end_line ++ []))) (processes_text r.processes ++ (order_text r.order ++ (end_line ++ [])))
    (with_rest s [] ∙ ap (λ (t : List ℕ). t ++ []) (sym read.is ∙ written.is) ∙ sym (with_rest r [])))).0

no_version_in_schedule : (text : List ℕ) (s : Plan) → IsSchedule text s → HasOtherScheduleVersion text → ⊥
no_version_in_schedule text s read has =
    no_version_after_head text schedule_head (processes_text s.processes ++ (order_text s.order ++ end_line)) (ended head_front head_lacks_feed head_is read.is) refl has

not_refused : (error : ScheduleError) (text : List ℕ) (s : Plan) → IsScheduleWithin text s → IsScheduleRefusal error text → error ≡ OutOfMemory
not_refused OutOfMemory text s read refused = refl
not_refused TooLong text s read (inl long) = absurd (omega (arith, read.short))
not_refused TooLong text s read (inr many) =
    let found = next_of_many s.processes s.order end_line read.is.right read.few.processes read.few.order (subst HasTooMany read.is.is many) in
    absurd (no_next_at_end s.processes s.order [] (subst (HasNext s.processes s.order) (sym (append-nil end_line)) found))
not_refused Version text s read refused = absurd (no_version_in_schedule text s read.is refused.1)
not_refused (BadLine k) text s read refused =
    let front = through_begins k text in
    absurd (refused.3.bad (front.0, subst IsFormedSchedule front.1 (s, read.is)))
not_refused NoEnd text s read refused = absurd (longer refused.3) where
  longer : IsProperPrefix IsFormedSchedule text → ⊥
  longer (rest, some, (r, formed)) =
      some (plans_same s r rest [] read.is.right formed.right (append_cancel_left schedule_head (processes_text s.processes ++ (order_text s.order ++ (end_line ++ rest))) (processes_text r.processes ++ (order_text r.order ++ (end_line ++ [])))
      (with_rest s rest ∙ ap (λ (t : List ℕ). t ++ rest) (sym read.is.is) ∙ formed.is ∙ ap (λ (t : List ℕ). schedule_head ++ (processes_text r.processes ++ (order_text r.order ++ t))) (sym (append-nil end_line))))).1

-- what was read of a text whose first line is right

pub found_read : (found : Result Plan ScheduleError) (text line rest : List ℕ) → length text ≤ longest → IsFirstLine text line rest → line ≡ schedule_head → MatchResult found (λ s. IsSchedule (schedule_head ++ rest) s × AreWithin s) (λ error. IsLinesRefusal error (schedule_head ++ rest)) → IfOk found (λ s. IsScheduleWithin text s)
found_read (Ok s) text line rest short first is read = read_whole text line rest s short first is read.0 read.1
found_read (Err e) text line rest short first is refused = tt

pub found_refused : (found : Result Plan ScheduleError) (text line rest : List ℕ) → length text ≤ longest → IsFirstLine text line rest → line ≡ schedule_head → MatchResult found (λ s. IsSchedule (schedule_head ++ rest) s × AreWithin s) (λ error. IsLinesRefusal error (schedule_head ++ rest)) → IfErr found (λ error. IsScheduleRefusal error text)
found_refused (Ok s) text line rest short first is read = tt
found_refused (Err e) text line rest short first is refused = refused_after_head e text line rest short first is refused

pub found_complete : (found : Result Plan ScheduleError) (text : List ℕ) (s : Plan) → IsScheduleWithin text s → IfErr found (λ error. IsScheduleRefusal error text) → IfErr found (λ error. error ≡ OutOfMemory)
found_complete (Ok r) text s within refused = tt
found_complete (Err e) text s within refused = not_refused e text s within refused

pub found_same : (found : Result Plan ScheduleError) (text : List ℕ) (s : Plan) → IsScheduleWithin text s → IfOk found (λ r. IsScheduleWithin text r) → IfOk found (λ r. r ≡ s)
found_same (Ok r) text s within read = one_plan text r s read.is within.is
found_same (Err e) text s within read = tt

pub head_complete : (error : ScheduleError) (text line rest : List ℕ) (s : Plan) → length text ≤ longest → IsFirstLine text line rest → IsHeadRefusal error line → IsScheduleWithin text s → error ≡ OutOfMemory
head_complete error text line rest s short first refused within = not_refused error text s within (refused_at_head error text line rest short first refused)

-- what the reader of a line told, where it was given the processes and whether advances stand

module _ (text : List ℕ) (ps : List Line) (order : List ℕ) (rest line later : List ℕ) (given : List Line) (empty : Bool) (reading : IsReading text ps order rest) (same : given ≡ ps) (is : empty ≡ nat_eq (length order) 0) (first : IsFirstLine rest line later) where
  told : Tells (not empty) order
  told = subst (λ (b : Bool). Tells (not b) order) (sym is) (tells order (length order) refl)

  module _ (l : Line) (stands : StandsFirst (MayStand given (not empty)) schedule_line line [] (Process l)) where
    none_yet : order ≡ []
    none_yet = told.0 stands.fits.0

    new_line : IsNewLine ps l
    new_line = subst (λ (x : List Line). IsNewLine x l) same stands.fits.1

    line_is : rest ≡ process_line l ++ later
    line_is = line_stands given (not empty) (Process l) rest line later first stands

    pub process_too_many : length ps ≡ most_processes → HasTooMany (schedule_head ++ text)
    process_too_many full = many_processes text ps order l rest later reading none_yet new_line full line_is

    pub process_taken : length ps ≢ most_processes → IsReading text (ps ++ l ∷ []) order later
    process_taken room = reading_process text ps order l rest later reading none_yet new_line room line_is

  module _ (p : ℕ) (stands : StandsFirst (MayStand given (not empty)) schedule_line line [] (Advance p)) where
    one_of : Contains (pids ps) p
    one_of = subst (λ (x : List Line). Contains (pids x) p) same stands.fits

    advance_is : rest ≡ advance_line p ++ later
    advance_is = line_stands given (not empty) (Advance p) rest line later first stands

    pub advance_too_many : length order ≡ most_advances → HasTooMany (schedule_head ++ text)
    advance_too_many full = many_advances text ps order p rest later reading one_of full advance_is

    pub advance_taken : length order ≢ most_advances → IsReading text ps (order ++ p ∷ []) later
    advance_taken room = reading_advance text ps order p rest later reading one_of room advance_is

  module _ (stands : StandsFirst (MayStand given (not empty)) schedule_line line [] End) where
    end_is : rest ≡ end_line ++ later
    end_is = line_stands given (not empty) End rest line later first stands

    pub end_finished : later ≡ [] → IsSchedule (schedule_head ++ text) (record { processes = ps; order = order }) × AreWithin (record { processes = ps; order = order })
    end_finished none = finished text ps order rest later reading end_is none

    pub end_goes_on : (n : ℕ) → later ≢ [] → n ≡ length ps + length order → (HasTooMany (schedule_head ++ text) → ⊥) × IsBadLine IsFormedSchedule (schedule_head ++ text) (n + 3)
    end_goes_on n some count = end_refused text ps order rest later n reading end_is some count

  pub line_missed : (miss : Miss) (n : ℕ) → n ≡ length ps + length order → Reads (MayStand given (not empty)) schedule_line line [] (Err miss) → IsLinesRefusal (refusal_of miss n) (schedule_head ++ text)
  line_missed miss n count reads =
      line_refused miss text ps order (not empty) rest line later n reading told first count (subst (λ (x : List Line). Reads (MayStand x (not empty)) schedule_line line [] (Err miss)) same reads)
