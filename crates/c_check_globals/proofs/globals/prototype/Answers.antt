use Rattle.std.proofs.Common.{refl, sym, ◌∙◌}
use Rattle.std.specs.Prelude.{false}
use Rattle.c_check_units.proofs.Parts.{raised, names_first, names_second}
use Rattle.c_check_globals.proofs.Moves.{both_is}
use Rattle.c_rules.specs.Checked.{Checked, Met, met, fine}
use Rattle.c_rules.specs.Functions.{behind_function, function_declared}
use Rattle.c_rules.specs.Items.{Output, no_output, prototype, without_init}
use Rattle.c_rules.specs.Scopes.{Meaning}
use Rattle.c_check_scopes.specs.Bound.{meaning_of}
use Rattle.c_check_scopes.specs.View.{env_of}
use Rattle.c_syntax.specs.UnitView.{maybe_init_of}
use Rattle.c_syntax.specs.View.{declarator_of, ident_of, spec_of}
use Rattle.c_check_globals.proofs.globals.prototype.Goals as goal

abbrev node : Meaning → Met → Checked Output
node m u = fine no_output

pub returns-in_err-means-clause-judged : goal.returns-in_err-means-clause-judged
returns-in_err-means-clause-judged c =
    let r : Checked Meaning = function_declared (env_of c.args.env.now) false c.args.at (spec_of c.args.s.now) (declarator_of c.args.d.now) (ident_of c.args.x.now) in
    raised (λ _. no_output) (prototype (maybe_init_of c.args.m.now) r) c.from_residual.result c.in_err-means.field-0.0 c.from_residual.ensures
    (names_first c.in_err-means.field-0.0 r (without_init (maybe_init_of c.args.m.now)) node c.in_err-means.ensures.judged)

pub returns-in_err-without_init-clause-judged : goal.returns-in_err-without_init-clause-judged
returns-in_err-without_init-clause-judged c =
    let r : Checked Meaning = function_declared (env_of c.args.env.now) false c.args.at (spec_of c.args.s.now) (declarator_of c.args.d.now) (ident_of c.args.x.now) in
    raised (λ _. no_output) (prototype (maybe_init_of c.args.m.now) r) c.from_residual-in_err-without_init.result c.in_err-without_init.field-0.0 c.from_residual-in_err-without_init.ensures
    (names_second c.in_err-without_init.field-0.0 r (without_init (maybe_init_of c.args.m.now)) node c.in_err-without_init.ensures)

pub returns-clause-judged : goal.returns-clause-judged
returns-clause-judged c =
    let r : Checked Meaning = function_declared (env_of c.args.env.now) false c.args.at (spec_of c.args.s.now) (declarator_of c.args.d.now) (ident_of c.args.x.now) in
    both_is r (without_init (maybe_init_of c.args.m.now)) node (meaning_of c.in_ok-means.means) met (without_init (maybe_init_of c.args.m.now)) c.in_ok-means.ensures.judged refl c.in_ok-without_init.ensures

pub returns-clause-behind : goal.returns-clause-behind
returns-clause-behind c =
    c.in_ok-declare_function.ensures ∙ (λ i. behind_function (env_of (c.in_ok-means.ensures.kept i)) (c.as_slice.ensures i) (sym c.in_ok-means.ensures.judged i))
