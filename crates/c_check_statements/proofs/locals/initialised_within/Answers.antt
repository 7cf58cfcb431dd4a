use Rattle.std.proofs.Common.{ap, ◌∙◌}
use Rattle.c_check_declarations.specs.ObjectView.{object_seen}
use Rattle.c_rules.specs.Counts.{past}
use Rattle.c_rules.specs.Initialisers.{calls_of_maybe_init, held_by}
use Rattle.c_rules.specs.Scopes.{a_local, with_name}
use Rattle.c_check_scopes.specs.View.{before_of, env_of}
use Rattle.c_check_statements.proofs.DeclarationLemmas.{held_within}
use Rattle.c_syntax.specs.UnitView.{maybe_init_of}
use Rattle.c_syntax.specs.View.{ident_of}
use Rattle.c_check_statements.proofs.locals.initialised_within.Goals as goal

pub returns-clause-counted : goal.returns-clause-counted
returns-clause-counted c =
    c.in_ok-cells.ensures.counted ∙ ap (past (before_of c.args.before.now) (calls_of_maybe_init (maybe_init_of c.args.m.now))) (ap (λ v. held_by v (object_seen c.args.o.now).whole (maybe_init_of c.args.m.now)) (c.in_ok-declare_variable.ensures.meant ∙ (λ i. with_name (env_of c.args.env.now) (c.as_slice.ensures i) (a_local c.args.number (object_seen c.args.o.now).seen (object_seen c.args.o.now).whole))) ∙ held_within (env_of c.args.env.now) (ident_of c.args.x.now).name (a_local c.args.number (object_seen c.args.o.now).seen (object_seen c.args.o.now).whole) (object_seen c.args.o.now).whole (maybe_init_of c.args.m.now))
