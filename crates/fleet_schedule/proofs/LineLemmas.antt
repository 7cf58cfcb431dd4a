-- Which line stands, by its first byte.
use Rattle.std.proofs.Common.{◌≡◌, ◌≢◌, ℕ, ◌≤◌, Bool, false, List, [], ◌∷◌, ◌++◌, length, get_or, refl, sym, subst, Contains, arith}
use Rattle.std.specs.Prelude.{codes}
use Rattle.line_text.specs.Reading.{Agree, IsCutShort}
use Rattle.line_text.proofs.Splits.{IsCase, agree_head, nothing_left}
use Rattle.fleet_schedule.specs.declared.line.Line.{Line}
use Rattle.fleet_schedule.specs.declared.line_reading.ScheduleLine.{ScheduleLine}
use Rattle.fleet_schedule.specs.declared.line_reading.ScheduleLine.TheVariants.{Process, Advance, End}
use Rattle.fleet_schedule.specs.Lines.{IsNewLine, MayStand, schedule_line}
use Rattle.fleet_schedule.specs.ScheduleText.{process_line, advance_line, pids}
use Rattle.fleet_schedule.proofs.ProcessLemmas.{process_ends, process_front, advance_ends, advance_front}

first_process : (ps : List Line) (advancing : Bool) (line : List ℕ) (v : ScheduleLine) → MayStand ps advancing v → Agree (schedule_line v) (112 ∷ line) → (l : Line) × (advancing ≡ false) × IsNewLine ps l × (v ≡ Process l)
first_process ps advancing line (Process l) may agree = (l, may.0, may.1, refl)
first_process ps advancing line (Advance p) may agree = absurd (omega (arith, agree_head 97 112 _ line agree))
first_process ps advancing line End may agree = absurd (omega (arith, agree_head 101 112 _ line agree))

is_process : (ps : List Line) (advancing : Bool) (line : List ℕ) → advancing ≡ false → IsCase (MayStand ps advancing) schedule_line (IsNewLine ps) process_line Process (112 ∷ line)
is_process ps advancing line none = record {
  made = λ l new. ((none, new), refl);
  only = λ v may agree. let found = first_process ps advancing line v may agree in (found.0, found.2, found.3);
}

is_advance : (ps : List Line) (advancing : Bool) (line : List ℕ) → IsCase (MayStand ps advancing) schedule_line (Contains (pids ps)) advance_line Advance (97 ∷ line)
is_advance ps advancing line = record {
  made = λ p has. (has, refl);
  only = advance_alone;
} where
  advance_alone : (v : ScheduleLine) → MayStand ps advancing v → Agree (schedule_line v) (97 ∷ line) → (p : ℕ) × Contains (pids ps) p × (v ≡ Advance p)
  advance_alone (Process l) may agree = absurd (omega (arith, agree_head 112 97 _ line agree))
  advance_alone (Advance p) may agree = (p, may, refl)
  advance_alone End may agree = absurd (omega (arith, agree_head 101 97 _ line agree))

is_end : (ps : List Line) (advancing : Bool) (b : ℕ) (line : List ℕ) → b ≢ 112 → b ≢ 97 → IsCase (MayStand ps advancing) schedule_line (λ (u : Unit {0}). Unit {0}) (λ u. codes "end\n") (λ u. End) (b ∷ line)
is_end ps advancing b line other another = record {
  made = λ u fits. (tt, refl);
  only = end_alone;
} where
  end_alone : (v : ScheduleLine) → MayStand ps advancing v → Agree (schedule_line v) (b ∷ line) → (u : Unit {0}) × Unit {0} × (v ≡ End)
  end_alone (Process l) may agree = absurd (other (sym (agree_head 112 b _ line agree)))
  end_alone (Advance p) may agree = absurd (another (sym (agree_head 97 b _ line agree)))
  end_alone End may agree = (tt, tt, refl)

pub line_ends : (v : ScheduleLine) → (front : List ℕ) × (schedule_line v ≡ front ++ 10 ∷ [])
line_ends (Process l) = (process_front l, process_ends l)
line_ends (Advance p) = (advance_front p, advance_ends p)
line_ends End = (codes "end", refl)

pub empty_line : (ps : List Line) (advancing : Bool) → IsCutShort (MayStand ps advancing) schedule_line []
empty_line ps advancing = nothing_left End tt (λ none. cc)

pub is_process_at : (ps : List Line) (advancing : Bool) (line : List ℕ) → advancing ≡ false → 1 ≤ length line → get_or line 0 0 ≡ 112 → IsCase (MayStand ps advancing) schedule_line (IsNewLine ps) process_line Process line
is_process_at ps advancing [] none some first = absurd (omega arith)
is_process_at ps advancing (b ∷ line) none some first = subst (λ (c : ℕ). IsCase (MayStand ps advancing) schedule_line (IsNewLine ps) process_line Process (c ∷ line)) (sym first) (is_process ps advancing line none)

pub is_advance_at : (ps : List Line) (advancing : Bool) (line : List ℕ) → 1 ≤ length line → get_or line 0 0 ≡ 97 → IsCase (MayStand ps advancing) schedule_line (Contains (pids ps)) advance_line Advance line
is_advance_at ps advancing [] some first = absurd (omega arith)
is_advance_at ps advancing (b ∷ line) some first = subst (λ (c : ℕ). IsCase (MayStand ps advancing) schedule_line (Contains (pids ps)) advance_line Advance (c ∷ line)) (sym first) (is_advance ps advancing line)

pub is_end_at : (ps : List Line) (advancing : Bool) (line : List ℕ) → 1 ≤ length line → get_or line 0 0 ≢ 112 → get_or line 0 0 ≢ 97 → IsCase (MayStand ps advancing) schedule_line (λ (u : Unit {0}). Unit {0}) (λ u. codes "end\n") (λ u. End) line
is_end_at ps advancing [] some other another = absurd (omega arith)
is_end_at ps advancing (b ∷ line) some other another = is_end ps advancing b line other another
