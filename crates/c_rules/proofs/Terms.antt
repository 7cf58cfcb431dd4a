-- Short words for units written as terms, for trials.
use Rattle.std.proofs.Common.{◌≡◌, ℕ, ◌+◌, false, List, ◌∷◌, map, codes}
use Rattle.c_tree.specs.Mode.{Mode}
use Rattle.c_syntax.specs.Tree.{Ident, no_storage, Spec, Expr, a_name, an_int, call, no_exprs, more_exprs, there, Declarator, named, function, no_params}
use Rattle.c_syntax.specs.Tree.{no_init, an_init, Parts, no_parts, more_parts, Decl, decl, Stmt, block, evaluate, return_from, BlockItems, no_block_items, block_stmt, Item, decl_item, function_item, Items, no_items, more_items}
use Rattle.c_syntax.specs.Tree as syntax
use Rattle.c_rules.specs.Checked.{Fault, faults}
use Rattle.c_rules.specs.Units.{checked}

abbrev pub ident : ℕ → List ℕ → Ident
ident at x = record { name = x; at = at }

abbrev pub as_declared : ℕ → List ℕ → Declarator
as_declared at x = named at (ident at x)

-- a function of no parameters
abbrev pub of_void : ℕ → List ℕ → Declarator
of_void at x = function at (as_declared at x) no_params

-- one declarator without an initialiser
abbrev pub alone : Declarator → Parts
alone d = more_parts d no_init no_parts

abbrev pub plain : ℕ → Spec → Parts → Decl
plain at s ps = decl at no_storage s ps

abbrev pub file : ℕ → Spec → Parts → Item
file at s ps = decl_item at (plain at s ps)

-- a definition of a function with this body
abbrev pub define : ℕ → Spec → Declarator → BlockItems → Item
define at s d is = function_item at no_storage s d (block at is)

abbrev pub name : ℕ → List ℕ → Expr
name at x = a_name at x

abbrev pub int : ℕ → ℕ → Expr
int at n = an_int at n false

abbrev pub call_none : ℕ → List ℕ → Expr
call_none at x = call at (a_name at x) no_exprs

abbrev pub returns : ℕ → Expr → Stmt
returns at e = return_from at (there e)

-- blocks
abbrev pub end : BlockItems
end = no_block_items

abbrev pub and_do : Expr → ℕ → BlockItems → BlockItems
and_do e at is = block_stmt (evaluate at e) is

abbrev pub main_of : ℕ → BlockItems → Item
main_of at is = define at syntax.int (of_void at (codes "main")) is

-- `int main(void) { return 0; }` at this place
abbrev pub main_that_returns : ℕ → Item
main_that_returns at =
    function_item at no_storage syntax.int (function (◌+◌ at 4) (named (◌+◌ at 4) (ident (◌+◌ at 4) (codes "main"))) no_params)
    (block (◌+◌ at 15) (block_stmt (return_from (◌+◌ at 17) (there (an_int (◌+◌ at 24) 0 false))) no_block_items))

abbrev pub failing : (code at : ℕ) → List Fault → List Fault
failing code at fs = record { code = code; at = at } ∷ fs

-- on each of these units the demands beside it fail, and no others
abbrev pub AllFail : Mode → List (Items × List Fault) → Type 0
AllFail m ts = map (λ t. faults (checked t.0 m)) ts ≡ map (λ t. t.1) ts
