use Rattle.std.proofs.Common.{◌≡◌, ◌∙◌, ◌++◌, ap, sym, arith, refl, rules}
use Rattle.std.proofs.lemmas.List.{map-append}
use Rattle.c_check_initialisers.specs.CellView.{cells_of, typed_expressions_of, slots_of}
use Rattle.c_check_initialisers.specs.SlotsLeft.{ctype_seen, slot_at}
use Rattle.c_check_types.proofs.Parts.{raised}
use Rattle.c_check_types.specs.TypedExpressionView.{typed_expression_of}
use Rattle.c_check_expressions.proofs.InitLemmas.{counted_more_in, counted_starts, list_counted, list_fits, list_judged, list_many, none_there, turn_fails_in, turn_more_in, turn_starts, turn_stops}
use Rattle.c_check_expressions.proofs.initialised.+initialiser.Goals as goal
use Rattle.c_rules.specs.Counts.{past}
use Rattle.c_rules.specs.Initialisers.{calls_of_inits, held_in_turn, in_turn, takes_list}
use Rattle.c_check_counts.specs.View.{before_of, env_of}
use Rattle.c_syntax.specs.WritesUnit.{inits_of}
use Rattle.c_tree.specs.View.{ctype_of}

pub in_turn-loop-i-init : goal.in_turn-loop-i-init
in_turn-loop-i-init t c = record {
  place = refl;
  kept = refl;
  judged = turn_starts (env_of c.args.env.now) (before_of c.args.before.now) c.args.is_static (slots_of c.args.slots.now) c.args.inits.now (typed_expressions_of c.new-cells.result.items) (ap typed_expressions_of c.new-cells.ensures.items);
  counted = counted_starts (env_of c.args.env.now) (before_of c.args.before.now) (slots_of c.args.slots.now) c.args.inits.now;
}

pub in_turn-loop-i-preserved : goal.in_turn-loop-i-preserved
in_turn-loop-i-preserved t c =
    let grown : c.append.new.self.items ≡ c.loop-i.cells.items ++ c.in_ok-one.one.items = search rules in
    record {
      place = omega (arith, c.loop-i.invariant.place);
      kept = c.in_ok-one.ensures.kept ∙ c.loop-i.invariant.kept;
      judged = turn_more_in (env_of c.args.env.now) (env_of c.loop-i.env) (before_of c.loop-i.before) (before_of c.initialised.new.before) c.args.is_static (slots_of c.args.slots.now) c.args.inits.now c.loop-i.i-index c.loop-i.place c.i-item.result (ctype_of c.in-Some.t.now)
          (typed_expressions_of c.loop-i.cells.items) (typed_expressions_of c.in_ok-one.one.items) (typed_expressions_of c.append.new.self.items) (in_turn (env_of c.args.env.now) (before_of c.args.before.now) c.args.is_static (slots_of c.args.slots.now) (inits_of c.args.inits.now))
          (ap env_of c.loop-i.invariant.kept) c.loop-i.invariant.place c.loop-i-test.true c.i-item.is c.in-Some.ensures c.loop-i.invariant.judged c.in_ok-one.ensures.judged c.in_ok-one.ensures.counted
          (ap typed_expressions_of grown ∙ map-append typed_expression_of c.loop-i.cells.items c.in_ok-one.one.items);
      counted = counted_more_in (env_of c.args.env.now) (env_of c.loop-i.env)
          (past (before_of c.args.before.now) (calls_of_inits (inits_of c.args.inits.now)) (held_in_turn (env_of c.args.env.now) (slots_of c.args.slots.now) (inits_of c.args.inits.now))) (before_of c.loop-i.before) (before_of c.initialised.new.before)
          (slots_of c.args.slots.now) c.args.inits.now c.loop-i.i-index c.loop-i.place c.i-item.result (ctype_of c.in-Some.t.now) (ap env_of c.loop-i.invariant.kept) c.loop-i.invariant.place c.loop-i-test.true c.i-item.is c.in-Some.ensures c.loop-i.invariant.counted c.in_ok-one.ensures.counted;
    }

pub in_turn-returns-in_default-clause-judged : goal.in_turn-returns-in_default-clause-judged
in_turn-returns-in_default-clause-judged t c =
    turn_stops (env_of c.args.env.now) (before_of c.loop-i.before) c.args.is_static (slots_of c.args.slots.now) c.args.inits.now c.loop-i.i-index c.i-item.result (typed_expressions_of c.loop-i.cells.items)
    (in_turn (env_of c.args.env.now) (before_of c.args.before.now) c.args.is_static (slots_of c.args.slots.now) (inits_of c.args.inits.now)) c.loop-i-test.true c.i-item.is
    (ap (slot_at (slots_of c.args.slots.now)) (sym c.loop-i.invariant.place) ∙ (sym c.slot_at.ensures ∙ ap ctype_seen c.in_default.is)) c.loop-i.invariant.judged

pub in_turn-returns-in_default-clause-counted : goal.in_turn-returns-in_default-clause-counted
in_turn-returns-in_default-clause-counted t c few =
    absurd (omega (arith, few, c.loop-i-test.true, none_there (slots_of c.args.slots.now) c.loop-i.place (sym c.slot_at.ensures ∙ ap ctype_seen c.in_default.is), c.loop-i.invariant.place))

pub in_turn-returns-in_err-one-clause-judged : goal.in_turn-returns-in_err-one-clause-judged
in_turn-returns-in_err-one-clause-judged t c =
    raised cells_of (in_turn (env_of c.args.env.now) (before_of c.args.before.now) c.args.is_static (slots_of c.args.slots.now) (inits_of c.args.inits.now)) c.from_residual.result c.in_err-one.field-0.0 c.from_residual.ensures
    (turn_fails_in c.in_err-one.field-0.0 (env_of c.args.env.now) (env_of c.loop-i.env) (before_of c.loop-i.before) c.args.is_static (slots_of c.args.slots.now) c.args.inits.now c.loop-i.i-index c.loop-i.place c.i-item.result (ctype_of c.in-Some.t.now)
    (typed_expressions_of c.loop-i.cells.items) (in_turn (env_of c.args.env.now) (before_of c.args.before.now) c.args.is_static (slots_of c.args.slots.now) (inits_of c.args.inits.now)) (ap env_of c.loop-i.invariant.kept) c.loop-i.invariant.place c.loop-i-test.true
    c.i-item.is c.in-Some.ensures c.loop-i.invariant.judged c.in_err-one.ensures.judged)

pub initialised-returns-in-List-clause-judged : goal.initialised-returns-in-List-clause-judged
initialised-returns-in-List-clause-judged t c =
    list_judged cells_of c.list_initialised.result (env_of c.args.env.now) (before_of c.args.before.now) c.args.is_static (ctype_of c.args.t.now) c.args.i.now c.in-List.inits c.deref.result.now c.in-List.is c.deref.ensures.value c.list_initialised.ensures.judged

pub initialised-returns-in-List-clause-counted : goal.initialised-returns-in-List-clause-counted
initialised-returns-in-List-clause-counted t c =
    list_counted c.list_initialised.result (before_of c.list_initialised.new.before) (env_of c.args.env.now) (before_of c.args.before.now) (ctype_of c.args.t.now) c.args.i.now c.in-List.inits c.deref.result.now c.in-List.is c.deref.ensures.value
    c.list_initialised.ensures.counted

pub list_initialised-returns-then-inits-capacity-clause-judged : goal.list_initialised-returns-then-inits-capacity-clause-judged
list_initialised-returns-then-inits-capacity-clause-judged t c =
    list_many c.args.inits.now (env_of c.args.env.now) (before_of c.args.before.now) c.args.is_static c.args.at c.capacity.result (ctype_of c.args.t.now) (slots_of c.in_ok-slots.slots) (takes_list (ctype_of c.args.t.now)) (cells_of c.in_ok-cells.cells)
    (sym c.if-not-takes_list.ensures) c.in_ok-slots.ensures c.in_ok-cells.ensures.judged c.capacity.ensures c.if-inits-capacity.true

pub list_initialised-returns-clause-judged : goal.list_initialised-returns-clause-judged
list_initialised-returns-clause-judged t c =
    list_fits c.args.inits.now (env_of c.args.env.now) (before_of c.args.before.now) c.args.is_static c.args.at c.capacity.result (ctype_of c.args.t.now) (slots_of c.in_ok-slots.slots) (takes_list (ctype_of c.args.t.now)) (cells_of c.in_ok-cells.cells)
    (sym c.if-not-takes_list.ensures) c.in_ok-slots.ensures c.in_ok-cells.ensures.judged c.capacity.ensures c.if-inits-capacity.false
