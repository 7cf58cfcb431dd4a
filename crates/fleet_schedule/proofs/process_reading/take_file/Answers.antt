use Rattle.std.proofs.Common.{ℕ, List, sym, ◌∙◌, refl, inl}
use Rattle.std.proofs.lemmas.Bool.{false≢true}
use Rattle.line_text.proofs.WordLemmas.{value_stands, no_value_stands, value_is_missed, no_value_missed}
use Rattle.fleet_schedule.specs.ScheduleText.{IsFileName}
use Rattle.fleet_schedule.proofs.FileNameLemmas.{name-IsPlain, name_of_front, front_of_name}
use Rattle.fleet_schedule.proofs.process_reading.take_file.Goals as goal

pub returns-in_ok-of-in-Ok : goal.returns-in_ok-of-in-Ok
returns-in_ok-of-in-Ok c =
    rw c.in_ok-of-in-Ok.ensures (value_stands IsFileName (λ (name : List ℕ). name) 32 c.args.cursor.now.rest.now c.word.new.self.rest.now c.in-Ok.word.now c.in-Ok.word.now name-IsPlain c.in-Ok.ensures.reads (c.is_file_name.ensures.0 c.if-is_file_name.true) refl (λ w fits is. is))

pub returns-else-is_file_name : goal.returns-else-is_file_name
returns-else-is_file_name c = no_value_stands IsFileName (λ (name : List ℕ). name) 32 c.args.cursor.now.rest.now c.word.new.self.rest.now c.in-Ok.word.now name-IsPlain c.in-Ok.ensures.reads (λ w fits is. false≢true (sym c.if-is_file_name.false ∙ c.is_file_name.ensures.1 (rw is fits)))

pub returns-then-is_file_front : goal.returns-then-is_file_front
returns-then-is_file_front c = value_is_missed IsFileName (λ (name : List ℕ). name) 32 c.args.cursor.now.rest.now c.word.new.self.rest.now c.in-Err.miss name-IsPlain c.in-Err.ensures.reads (name_of_front c.args.cursor.now.rest.now (c.is_file_front.ensures.0 c.if-is_file_front.true))

pub returns-else-is_file_front : goal.returns-else-is_file_front
returns-else-is_file_front c = no_value_missed IsFileName (λ (name : List ℕ). name) 32 c.args.cursor.now.rest.now c.word.new.self.rest.now c.in-Err.miss (inl refl) name-IsPlain c.in-Err.ensures.memory c.in-Err.ensures.reads (λ begins. false≢true (sym c.if-is_file_front.false ∙ c.is_file_front.ensures.1 (front_of_name c.args.cursor.now.rest.now begins)))
