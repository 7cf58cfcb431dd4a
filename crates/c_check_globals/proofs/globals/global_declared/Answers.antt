use Rattle.std.proofs.Common.{◌≡◌, ◌∙◌}
use Rattle.c_check_units.proofs.Parts.{raised}
use Rattle.c_check_globals.proofs.Moves.{node_fails, on_is}
use Rattle.c_check_declarations.specs.ObjectView.{object_seen}
use Rattle.c_rules.specs.Checked.{Checked, on}
use Rattle.c_rules.specs.Items.{global_object}
use Rattle.c_rules.specs.Objects.{Object, object_declared}
use Rattle.c_check_scopes.specs.View.{before_of, env_of}
use Rattle.c_syntax.specs.UnitView.{maybe_init_of}
use Rattle.c_syntax.specs.View.{declarator_of, ident_of, spec_of}
use Rattle.c_check_globals.proofs.globals.global_declared.Goals as goal

pub returns-in_err-global_object-clause-judged : goal.returns-in_err-global_object-clause-judged
returns-in_err-global_object-clause-judged c =
    let p : Checked Object = object_declared (env_of c.args.env.now) c.args.at (spec_of c.args.s.now) (declarator_of c.args.d.now) (ident_of c.args.x.now) (maybe_init_of c.args.m.now) in
    let k : Object → Checked Object = global_object (env_of c.args.env.now) c.args.defined (before_of c.args.before.now) (ident_of c.args.x.now) in
    let o : Object = object_seen c.in_ok-object.object in
    let r : Checked Object = global_object (env_of c.object_declared.new.env) c.args.defined (before_of c.args.before.now) (ident_of c.args.x.now) o in
    let node : r ≡ k o = λ i. global_object (env_of (c.in_ok-object.ensures.kept i)) c.args.defined (before_of c.args.before.now) (ident_of c.args.x.now) o in
    raised object_seen (on p k) c.from_residual-in_err-global_object.result c.in_err-global_object.field-0.0 c.from_residual-in_err-global_object.ensures
    (node_fails c.in_err-global_object.field-0.0 p k o r c.in_ok-object.ensures.judged node c.in_err-global_object.ensures)

pub returns-clause-judged : goal.returns-clause-judged
returns-clause-judged c =
    let p : Checked Object = object_declared (env_of c.args.env.now) c.args.at (spec_of c.args.s.now) (declarator_of c.args.d.now) (ident_of c.args.x.now) (maybe_init_of c.args.m.now) in
    let k : Object → Checked Object = global_object (env_of c.args.env.now) c.args.defined (before_of c.args.before.now) (ident_of c.args.x.now) in
    let o : Object = object_seen c.in_ok-object.object in
    let r : Checked Object = global_object (env_of c.object_declared.new.env) c.args.defined (before_of c.args.before.now) (ident_of c.args.x.now) o in
    let node : r ≡ k o = λ i. global_object (env_of (c.in_ok-object.ensures.kept i)) c.args.defined (before_of c.args.before.now) (ident_of c.args.x.now) o in
    on_is p k o r c.in_ok-object.ensures.judged node ∙ c.in_ok-global_object.ensures
