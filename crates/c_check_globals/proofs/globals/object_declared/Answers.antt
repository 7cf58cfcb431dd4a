use Rattle.std.proofs.Common.{◌≡◌, sym}
use Rattle.c_check_globals.proofs.Moves.{on_is, same_judged}
use Rattle.c_check_declarations.specs.ObjectView.{object_seen}
use Rattle.c_rules.specs.Checked.{Checked, on}
use Rattle.c_rules.specs.Declarators.{place_or}
use Rattle.c_rules.specs.Expressions.{type_declared}
use Rattle.c_rules.specs.Objects.{Object, object_of}
use Rattle.c_check_scopes.specs.View.{env_of}
use Rattle.c_syntax.specs.UnitView.{maybe_init_of}
use Rattle.c_syntax.specs.View.{declarator_of, spec_of}
use Rattle.c_tree.specs.Tree.{CType}
use Rattle.c_tree.specs.View.{ctype_of}
use Rattle.c_check_globals.proofs.globals.object_declared.Goals as goal

pub returns-clause-judged : goal.returns-clause-judged
returns-clause-judged c =
    let typed : Checked CType = type_declared (env_of c.args.env.now) c.args.at (spec_of c.args.s.now) (declarator_of c.args.d.now) in
    let k : CType → Checked Object = object_of (env_of c.args.env.now) (place_or c.args.at (declarator_of c.args.d.now)) c.args.x.now.at (maybe_init_of c.args.m.now) in
    let t : CType = ctype_of c.in_ok-ctype.ctype in
    let r : Checked Object = object_of (env_of c.type_declared.new.env) c.place_of_declarator.result c.args.x.now.at (maybe_init_of c.args.m.now) t in
    let node : r ≡ k t = λ i. object_of (env_of (c.in_ok-ctype.ensures.kept i)) (c.place_of_declarator.ensures c.args.at i) c.args.x.now.at (maybe_init_of c.args.m.now) t in
    same_judged object_seen c.object_of.result r (on typed k) (sym (on_is typed k t r c.in_ok-ctype.ensures.judged node)) c.object_of.ensures
