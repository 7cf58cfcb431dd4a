-- Scopes of the two units are alike.
use Rattle.std.proofs.Common.{ℕ}
use Rattle.c_syntax.specs.Tree.{Ident}
use Rattle.c_rules.specs.Names.{Name}
use Rattle.c_rules.specs.Scopes.{Env, lookup}
use Rattle.c_rules.specs.PrimaryExpressions.{named_expression}
use Rattle.c_rules.specs.Declarators.{new_name}
use Rattle.c_rules.specs.Expressions.{value_at, callee_bound}
use Rattle.c_rules_laws.specs.TypedAlike.{AreUnreserved, MeanAlike, More, instrumented_scope, TypedAlike, beside}
use Rattle.c_rules_laws.proofs.Leads.{Leads}
use Rattle.c_rules.proofs.Modes.{Alike, alike}
use Rattle.c_rules.proofs.Modes as modes
use Rattle.c_rules.proofs.ModeNames as names
pub use Rattle.c_rules.proofs.ModeNames.{left, given_same, unreserved, may_more, name_leads, given_leads, free_name_plain, new_name_plain}

abbrev pub right : Env → More → Env
right env w = instrumented_scope env w

abbrev pub more : More → modes.More
more w = record { names = w.names; functions = w.functions; tags = w.tags }

pub alike_of : (e f : Env) → TypedAlike e f → Alike e f
alike_of e f (beside env w p m) = alike env (more w) p m

pub typed_alike : (e f : Env) → Alike e f → TypedAlike e f
typed_alike e f (alike env w p m) = beside env (record { names = w.names; functions = w.functions; tags = w.tags }) p m

pub named_leads : (env : Env) (w : More) → AreUnreserved env.names → MeanAlike env.names w.names → (at : ℕ) (x : Name) → Leads (named_expression (left env) at x) (named_expression (right env w) at x)
named_leads env w p m at x = names.named_leads env (more w) p m at x

-- a name as the designator of a call
pub named_callee_leads : (env : Env) (w : More) → AreUnreserved env.names → MeanAlike env.names w.names → (at place : ℕ) (x : Name)
    → Leads (callee_bound (left env) at place x (value_at (left env) place (named_expression (left env) place x)) (lookup env.names x)) (callee_bound (right env w) at place x (value_at (right env w) place (named_expression (right env w) place x)) (lookup w.names x))
named_callee_leads env w p m at place x = names.named_callee_leads env (more w) p m at place x

pub new_name_leads : (env : Env) (w : More) → MeanAlike env.names w.names → (x : Ident) → Leads (new_name (left env) x) (new_name (right env w) x)
new_name_leads env w m x = names.new_name_leads env (more w) m x
