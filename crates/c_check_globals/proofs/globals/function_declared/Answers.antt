use Rattle.std.proofs.Common.{◌≡◌, sym}
use Rattle.std.specs.Prelude.{false}
use Rattle.c_check_globals.proofs.Moves.{on_is, same_judged}
use Rattle.c_rules.specs.Checked.{Checked, on}
use Rattle.c_rules.specs.Expressions.{type_declared}
use Rattle.c_rules.specs.Functions.{function_meaning}
use Rattle.c_rules.specs.Scopes.{Meaning}
use Rattle.c_check_scopes.specs.Bound.{meaning_of}
use Rattle.c_check_scopes.specs.View.{env_of}
use Rattle.c_syntax.specs.View.{declarator_of, ident_of, spec_of}
use Rattle.c_tree.specs.Tree.{CType}
use Rattle.c_tree.specs.View.{ctype_of}
use Rattle.c_check_globals.proofs.globals.function_declared.Goals as goal

pub returns-clause-judged : goal.returns-clause-judged
returns-clause-judged c =
    let typed : Checked CType = type_declared (env_of c.args.env.now) c.args.at (spec_of c.args.s.now) (declarator_of c.args.d.now) in
    let k : CType → Checked Meaning = function_meaning (env_of c.args.env.now) false (ident_of c.args.x.now) in
    let t : CType = ctype_of c.in_ok-ctype.ctype in
    let r : Checked Meaning = function_meaning (env_of c.type_declared.new.env) false (ident_of c.args.x.now) t in
    let node : r ≡ k t = λ i. function_meaning (env_of (c.in_ok-ctype.ensures.kept i)) false (ident_of c.args.x.now) t in
    same_judged meaning_of c.function_meaning.result r (on typed k) (sym (on_is typed k t r c.in_ok-ctype.ensures.judged node)) c.function_meaning.ensures
