use Rattle.std.proofs.Common.{◌<◌, ◌≤◌, ◌+◌, ◌*◌, ℕ, List, drop, length}
use Rattle.c_lexer.specs.declared.token.Token.{Token}
use Rattle.c_syntax_printing.specs.Heads.{head}
use Rattle.c_syntax_printing.specs.Fails.{Fails}
use Rattle.c_syntax_printing.specs.Phrases.{Bound, InBlock, InSwitch}
use Rattle.c_syntax_printing.specs.Groups.{InGroup, GroupRest}
use Rattle.c_syntax_printing.specs.Opens.{Opens, DeepBlock}
use Rattle.c_syntax_printing.specs.Deep.{DeepGroups, DeepStmts}
use Rattle.c_parser.specs.Lists.{Goes, Rest}
use Rattle.c_parser.specs.Parsed.{AreBlockItems, AreStmts, AreGroups}
use Rattle.c_parser.proofs.statements.+statement.Given as goal

abbrev pub decreases-block : goal.decreases-block
decreases-block l = 100 * length l.cursor.now.rest.now

abbrev pub decreases-compound : goal.decreases-compound
decreases-compound l = 100 * length l.cursor.now.rest.now + 1

abbrev pub decreases-statement : goal.decreases-statement
decreases-statement l = 100 * length l.cursor.now.rest.now + 2

abbrev pub decreases-block_item : goal.decreases-block_item
decreases-block_item l = 100 * length l.cursor.now.rest.now + 3

abbrev pub decreases-statements : goal.decreases-statements
decreases-statements l = 100 * length l.cursor.now.rest.now + 3

abbrev pub decreases-groups : goal.decreases-groups
decreases-groups l = 100 * length l.cursor.now.rest.now + 4

abbrev pub decreases-if_statement : goal.decreases-if_statement
decreases-if_statement l = 100 * length l.cursor.now.rest.now + 50

abbrev pub decreases-while_statement : goal.decreases-while_statement
decreases-while_statement l = 100 * length l.cursor.now.rest.now + 50

abbrev pub decreases-do_statement : goal.decreases-do_statement
decreases-do_statement l = 100 * length l.cursor.now.rest.now + 50

abbrev pub decreases-for_statement : goal.decreases-for_statement
decreases-for_statement l = 100 * length l.cursor.now.rest.now + 50

abbrev pub decreases-switch_statement : goal.decreases-switch_statement
decreases-switch_statement l = 100 * length l.cursor.now.rest.now + 50

abbrev pub invariant-block-next : goal.invariant-block-next
invariant-block-next l = record {
  goes : Goes (AreBlockItems l.inside) (AreBlockItems l.inside) l.items.items (drop 1 l.fn.cursor.rest.now) l.cursor.rest.now;
  leads : (x : Bound) (r : List Token) → Fails (InBlock x) l.cursor.rest.now r → Fails (InBlock x) (drop 1 l.fn.cursor.rest.now) r;
  opens : (at n : ℕ) (q : List Token) → Opens (DeepBlock at l.inside.pairs n) l.cursor.rest.now q → Opens (DeepBlock at l.inside.pairs n) (drop 1 l.fn.cursor.rest.now) q;
  shorter : length l.cursor.rest.now < length l.fn.cursor.rest.now;
}

abbrev pub decreases-block-next : goal.decreases-block-next
decreases-block-next l = length l.cursor.rest.now

abbrev pub invariant-groups-next : goal.invariant-groups-next
invariant-groups-next l = record {
  goes : Goes (AreGroups l.room) (AreGroups l.room) l.groups.items l.fn.cursor.rest.now l.cursor.rest.now;
  leads : (x : Bound) (r : List Token) → Fails (InSwitch x) l.cursor.rest.now r → Fails (InSwitch x) l.fn.cursor.rest.now r;
  opens : (at n : ℕ) (q : List Token) → Opens (DeepGroups at l.room.pairs n) l.cursor.rest.now q → Opens (DeepGroups at l.room.pairs n) l.fn.cursor.rest.now q;
  shorter : length l.cursor.rest.now ≤ length l.fn.cursor.rest.now;
}

abbrev pub decreases-groups-next : goal.decreases-groups-next
decreases-groups-next l = length l.cursor.rest.now

abbrev pub invariant-statements-next : goal.invariant-statements-next
invariant-statements-next l = record {
  goes : Goes (AreStmts l.room) (Rest (AreStmts l.room)) l.body.items l.fn.cursor.rest.now l.cursor.rest.now;
  leads : (x : Bound) (r : List Token) → Fails (GroupRest x) l.cursor.rest.now r → Fails (InGroup x) l.fn.cursor.rest.now r;
  opens : (at n : ℕ) (q : List Token) → Opens (DeepStmts at l.room.pairs n) l.cursor.rest.now q → Opens (DeepStmts at l.room.pairs n) l.fn.cursor.rest.now q;
  begins : 20 ≤ head l.fn.cursor.rest.now;
  shorter : length l.cursor.rest.now < length l.fn.cursor.rest.now;
}

abbrev pub decreases-statements-next : goal.decreases-statements-next
decreases-statements-next l = length l.cursor.rest.now
