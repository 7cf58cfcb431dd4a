use Rattle.std.proofs.Common.{◌≡◌, ◌++◌, drop}
use Rattle.c_check_initialisers.specs.CellView.{typed_expressions_of, slots_of}
use Rattle.c_check_initialisers.specs.SlotsLeft.{left_from}
use Rattle.c_rules.specs.Checked.{fine, on}
use Rattle.c_rules.specs.Counts.{past}
use Rattle.c_rules.specs.Initialisers.{calls_of_inits, held_in_turn, in_turn}
use Rattle.c_check_counts.specs.View.{before_of, env_of}
use Rattle.c_syntax.specs.WritesUnit.{inits_of}
use Rattle.c_check_expressions.proofs.initialised.+initialiser.Given as goal

abbrev pub invariant-in_turn-loop-i : goal.invariant-in_turn-loop-i
invariant-in_turn-loop-i l = record {
  place : l.place ≡ l.i-index;
  kept : l.env ≡ l.fn.env;
  judged : in_turn (env_of l.fn.env) (before_of l.fn.before) l.is_static (slots_of l.slots) (inits_of l.inits)
      ≡ on (in_turn (env_of l.fn.env) (before_of l.before) l.is_static (left_from (slots_of l.slots) l.i-index) (inits_of (drop l.i-index l.inits))) (λ hs. fine (typed_expressions_of l.cells.items ++ hs));
  counted : past (before_of l.fn.before) (calls_of_inits (inits_of l.inits)) (held_in_turn (env_of l.fn.env) (slots_of l.slots) (inits_of l.inits))
      ≡ past (before_of l.before) (calls_of_inits (inits_of (drop l.i-index l.inits))) (held_in_turn (env_of l.fn.env) (left_from (slots_of l.slots) l.i-index) (inits_of (drop l.i-index l.inits)));
}
