-- Expressions and declarators in the scopes of the two units.
use Rattle.std.proofs.Common.{ℕ}
use Rattle.c_syntax.specs.Tree.{Ident, Spec, Expr, MaybeInit, TypeName, Declarator}
use Rattle.c_rules.specs.Scopes.{Env, Before}
use Rattle.c_rules.specs.Objects.{object_declared}
use Rattle.c_rules.specs.Expressions.{tree, type_named, parameters, value, type_declared}
use Rattle.c_rules_laws.specs.TypedAlike.{TypedAlike}
use Rattle.c_rules_laws.specs.EnvironmentLaws.{PartsGiveTheSame}
use Rattle.c_rules_laws.proofs.Leads.{Leads, fine_leads}
use Rattle.c_rules_laws.proofs.Names.{alike_of}
use Rattle.c_rules.proofs.ModeExpressions as modes
use Rattle.c_rules.proofs.ModeBlocks as blocks

pub tree_leads : (e f : Env) → TypedAlike e f → (b : Before) (x : Expr) → Leads (tree e b x) (tree f b x)
tree_leads e f h b x = modes.tree_leads e f (alike_of e f h) b x

pub type_named_leads : (e f : Env) → TypedAlike e f → (t : TypeName) → Leads (type_named e t) (type_named f t)
type_named_leads e f h t = modes.type_named_leads e f (alike_of e f h) t

pub value_leads : (e f : Env) → TypedAlike e f → (b : Before) (x : Expr) → Leads (value e b x) (value f b x)
value_leads e f h b x = modes.value_leads e f (alike_of e f h) b x

pub type_declared_leads : (e f : Env) → TypedAlike e f → (at : ℕ) (s : Spec) (d : Declarator) → Leads (type_declared e at s d) (type_declared f at s d)
type_declared_leads e f h at s d = modes.type_declared_leads e f (alike_of e f h) at s d

pub object_leads : (e f : Env) → TypedAlike e f → (at : ℕ) (s : Spec) (d : Declarator) (x : Ident) (i : MaybeInit) → Leads (object_declared e at s d x i) (object_declared f at s d x i)
object_leads e f h at s d x i = blocks.object_leads e f (alike_of e f h) at s d x i

-- what is fine gives the same
pub parts_give_the_same : PartsGiveTheSame
parts_give_the_same e f h = record {
  expressions = λ b x g. fine_leads (tree e b x) (tree f b x) g (tree_leads e f h b x);
  type_names = λ t u. fine_leads (type_named e t) (type_named f t) u (type_named_leads e f h t);
  declared_types = λ at s d t. fine_leads (type_declared e at s d) (type_declared f at s d) t (type_declared_leads e f h at s d);
  parameter_types = λ k ps ts. fine_leads (parameters e k ps) (parameters f k ps) ts (modes.parameters_lead e f (alike_of e f h) k ps);
  objects = λ at s d x i o. fine_leads (object_declared e at s d x i) (object_declared f at s d x i) o (object_leads e f h at s d x i);
}
