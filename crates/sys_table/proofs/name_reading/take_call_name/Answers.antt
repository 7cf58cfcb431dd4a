use Rattle.std.proofs.Common.{ℕ, ◌<◌, ◌≤◌, inl, refl, sym, ◌∙◌}
use Rattle.std.proofs.lemmas.Bool.{false≢true}
use Rattle.line_text.proofs.WordLemmas.{spelt_value, value_is_missed, no_value_missed}
use Rattle.sys_table.specs.Table.{name_of}
use Rattle.sys_table.proofs.Names.{same_call, name_of-IsPlain}
use Rattle.sys_table.proofs.name_reading.take_call_name.Goals as goal

pub returns-in-Ok-clause-reads : goal.returns-in-Ok-clause-reads
returns-in-Ok-clause-reads c =
    spelt_value (λ (x : ℕ). (c.args.least ≤ x) × (x < 24)) name_of 32 c.args.cursor.now.rest.now c.word.new.self.rest.now c.in-Ok.text.now c.named.result (λ x within. name_of-IsPlain x within.1) (λ x y x_within y_within is. same_call y x y_within.1 x_within.1 is) c.in-Ok.ensures.reads c.named.ensures.spells

pub returns-then-begins_name-clause-reads : goal.returns-then-begins_name-clause-reads
returns-then-begins_name-clause-reads c =
    value_is_missed (λ (x : ℕ). (c.args.least ≤ x) × (x < 24)) name_of 32 c.args.cursor.now.rest.now c.word.new.self.rest.now c.in-Err.miss (λ x within. name_of-IsPlain x within.1) c.in-Err.ensures.reads (c.begins_name.ensures.0 c.if-begins_name.true)

pub returns-else-begins_name-clause-reads : goal.returns-else-begins_name-clause-reads
returns-else-begins_name-clause-reads c =
    no_value_missed (λ (x : ℕ). (c.args.least ≤ x) × (x < 24)) name_of 32 c.args.cursor.now.rest.now c.word.new.self.rest.now c.in-Err.miss (inl refl) (λ x within. name_of-IsPlain x within.1) c.in-Err.ensures.memory c.in-Err.ensures.reads (λ begins. false≢true (sym c.if-begins_name.false ∙ c.begins_name.ensures.1 begins))
