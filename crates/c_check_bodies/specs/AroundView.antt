-- What stands round a statement, as the rules have it.
use Rattle.c_check_bodies.specs.declared.around.Around.{Around as AroundTree}
use Rattle.c_rules.specs.Statements.{Around}
use Rattle.c_tree.specs.View.{ctype_of}

abbrev pub around_of : AroundTree → Around
around_of a = record { breaks = a.breaks; continues = a.continues; returns = ctype_of a.returns.now }
