-- The first group with a label.
use Rattle.std.proofs.Common.{◌≡◌, ℕ, suc, ◌+◌, Bool, if◌then◌else◌, List, [], Option, Some, None, ap, sym, ◌∙◌, arith}
use Rattle.std.specs.Prelude.{option_map}
use Rattle.c_tree.specs.declared.tree.TGroup.{TGroup}
use Rattle.c_tree.specs.declared.tree.TLabel.{TLabel}
use Rattle.c_tree.specs.View.{groups_of}
use Rattle.c_meaning.specs.Meaning.{group_with}

-- what is found from the place i on
abbrev pub from : ℕ → Option ℕ → Option ℕ
from i o = option_map (λ k. i + k) o

by_test : (i : ℕ) (b c : Bool) (o : Option ℕ) → b ≡ c → from i (if b then Some 0 else option_map suc o) ≡ from i (if c then Some 0 else option_map suc o)
by_test i b c o e = ap (λ t. from i (if t then Some 0 else option_map suc o)) e

-- there is none
pub found_none : (is : TLabel → Bool) (all left : List TGroup) (i : ℕ) → left ≡ [] → group_with is (groups_of all) ≡ from i (group_with is (groups_of left)) → None ≡ group_with is (groups_of all)
found_none is all left i e h = sym (h ∙ ap (λ gs. from i (group_with is (groups_of gs))) e)
