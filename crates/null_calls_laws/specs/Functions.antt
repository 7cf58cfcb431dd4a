-- The law on definitions of functions (C99 6.9.1) with the temporaries of their marked calls declared.
use Rattle.std.specs.Prelude.{◌≡◌, ℕ, ◌*◌, ◌≤◌, false, List, ◌++◌, map, length, Option, None}
use Rattle.c_tree.specs.Tree.{CType, function, CTypes, Program}
use Rattle.c_tree.specs.Functions.{defined}
use Rattle.c_syntax.specs.Tree.{Ident, Storage, Spec, Declarator, Stmt, BlockItems, Item, function_item}
use Rattle.c_rules.specs.Checked.{fine}
use Rattle.c_rules.specs.Names.{Name, number_among}
use Rattle.c_rules.specs.Scopes.{Env, Before}
use Rattle.c_rules.specs.Declarators.{name_of}
use Rattle.c_rules.specs.Expressions.{type_declared}
use Rattle.c_rules.specs.Tags.{tags_of_item}
use Rattle.c_rules.specs.Variables.{first_numbers, calls_of_block}
use Rattle.c_rules.specs.Functions.{parameters_of, count_params, body_env, items_of_body}
use Rattle.c_rules.specs.Items.{Output, behind_function_named, item, behind_item, after_item}
use Rattle.null_calls_laws.specs.MarkedCalls.{Sites, sites_of}
use Rattle.null_calls_laws.specs.Temporaries.{pre_name, post_name}
use Rattle.null_calls_laws.specs.InstrumentedStatements.{kept_of_block}
use Rattle.null_calls_laws.specs.Instrumented as units
use Rattle.null_calls_laws.specs.InstrumentedPrograms.{instrumented_function}
use Rattle.null_calls_laws.specs.WithoutSites.{unsited_function}
use Rattle.null_calls_laws.specs.CountedStatements.{BlockNamed}
use Rattle.null_calls_laws.specs.StatementsBeside.{BlockTabled}
use Rattle.null_calls_laws.specs.FileScopes.{FilesBeside, at_site}
use Rattle.c_rules_laws.specs.Lexical.{AreItemsLexical}
use Rattle.null_calls_laws.specs.Scopes.{AreTemporaries}

-- the functions of the unit are those of the program, and no null call is among them
pub record HasFunctions (p : Program) (functions : List Name) : Type 0 where
  pub long : length functions ≡ defined p
  pub pre_free : number_among functions pre_name ≡ None
  pub post_free : number_among functions post_name ≡ None

-- What is known of a body, from the plain unit alone.
pub record BodyFacts (p : Program) (sites : Sites) (enums tags stood : List Name) (e : Env) (b : Before) (count : ℕ) (is : BlockItems) : Type 0 where
  pub enums_are : e.enums ≡ enums
  pub tags_are : e.whole.tags ≡ tags
  pub named : BlockNamed sites b.sites is
  pub tabled : BlockTabled p sites e b (first_numbers count is) is
  pub temporaries : AreTemporaries enums tags stood b.sites (calls_of_block is) (kept_of_block sites b.sites is)
  pub lexical : AreItemsLexical is

-- what is known of the body of a definition; tags stand before it or in it
abbrev pub NamedFacts : Program → (enums tags stood : List Name) → Env → Before → (at : ℕ) → Spec → Declarator → Stmt → Option Ident → Type 0
NamedFacts p enums tags stood e b at s d body o =
    (t : CType) × (ts : CTypes) × (type_declared e at s d ≡ fine (function t ts)) × BodyFacts p (sites_of p) enums tags stood (body_env (behind_function_named e at s d o) d ts) b (count_params (parameters_of d)) (items_of_body body)

abbrev pub FunctionFacts : Program → (tags : List Name) → Env → Before → Item → Type 0
FunctionFacts p tags e b (function_item at class s d body) = NamedFacts p e.enums tags (tags_of_item false (function_item at class s d body) ++ e.tags) e b at s d body (name_of d)
FunctionFacts p tags e b i = Unit {0}

-- what an item gives in the instrumented unit
pub record ItemGoes (p : Program) (e f : Env) (b : Before) (n : ℕ) (i j : Item) (out : Output) : Type 0 where
  pub output : Output
  pub count : ℕ
  pub follows : item f (at_site b n) j ≡ fine output
  pub functions : map unsited_function output.functions ≡ map (instrumented_function p) out.functions
  pub statics : output.statics ≡ out.statics
  pub files : FilesBeside (behind_item e b i) (behind_item f (at_site b n) j)
  pub after : after_item f (at_site b n) j ≡ at_site (after_item e b i) count
  pub few : count ≤ 3 * (after_item e b i).sites

-- A definition that is fine in the plain unit gives the instrumented function in the instrumented one, where the file scopes stand beside each
-- other and not more than three times as many calls stand before it.
abbrev pub DefinitionsGo : Type 0
DefinitionsGo =
    (p : Program) (tags : List Name) (e f : Env) → FilesBeside e f → HasFunctions p e.whole.functions → (b : Before) (n at : ℕ) (class : Storage) (s : Spec) (d : Declarator) (body : Stmt) (out : Output)
    → FunctionFacts p tags e b (function_item at class s d body) → n ≤ 3 * b.sites → b.sites ≤ 10000 → item e b (function_item at class s d body) ≡ fine out
    → ItemGoes p e f b n (function_item at class s d body) (units.item (sites_of p) tags b.sites (function_item at class s d body)) out
