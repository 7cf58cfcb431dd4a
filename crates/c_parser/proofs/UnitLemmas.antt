-- From the items that were read to the unit that the tokens spell.
use Rattle.std.proofs.Common.{◌≡◌, ◌≤◌, ◌<◌, ℕ, List, [], ◌∷◌, refl, subst, arith, length}
use Rattle.dm_base.specs.declared.mode.Mode.{Mode}
use Rattle.dm_base.specs.declared.mode.Mode.TheVariants.{Plain, Instrumented}
use Rattle.c_lexer.specs.declared.token.Token.{Token}
use Rattle.c_syntax.specs.declared.tree.Item.{Item as ItemTree}
use Rattle.c_syntax.specs.Tree.{Items}
use Rattle.c_syntax.specs.Statements.{ReadsItems}
use Rattle.c_syntax.specs.Limits.{deepest}
use Rattle.c_syntax.specs.Spelling.{SpellsUnit, IsUnit}
use Rattle.c_syntax.specs.UnitView.{items_of}
use Rattle.c_parser.specs.Parsed.{AreItems}

empty : (j : List Token) → length j < 1 → j ≡ []
empty [] l = refl
empty (t ∷ j) l = absurd (omega arith)

pub spells : {n : ℕ} {mode : Mode} {xs : List ItemTree} {i j : List Token} → n ≡ deepest mode → AreItems (record { nodes = n; pairs = 500 }) xs i j → length j < 1 → SpellsUnit (items_of xs) i mode
spells {xs = xs} {i = i} {j = j} q a l = record { reads = subst (λ z. ReadsItems 500 (items_of xs) i z) (empty j l) a.reads; nested = omega (arith, a.nested, q) }

some_nodes : (mode : Mode) → 0 < deepest mode
some_nodes Plain = omega arith
some_nodes Instrumented = omega arith

pub has_nodes : {n : ℕ} (mode : Mode) → n ≡ deepest mode → 0 < n
has_nodes mode q = omega (arith, q, some_nodes mode)

most_nodes : (mode : Mode) → deepest mode ≤ 500
most_nodes Plain = omega arith
most_nodes Instrumented = omega arith

-- what is within the limits of a mode is within the widest
pub is_unit : {u : Items} {tokens : List Token} (mode : Mode) → SpellsUnit u tokens mode → ∥ IsUnit u ∥₁
is_unit {u = u} {tokens = tokens} mode s = ∣ record { tokens = tokens; other = u; spelled = record { reads = s.reads; nested = omega (arith, s.nested, most_nodes mode) }; same = refl } ∣₁
