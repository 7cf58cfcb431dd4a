-- The law on items that are no functions.
use Rattle.std.specs.Prelude.{◌≡◌, ℕ}
use Rattle.c_syntax.specs.Tree.{Item, struct_item, enum_item, tag_item, decl_item, function_item}
use Rattle.c_rules.specs.Checked.{fine}
use Rattle.c_rules.specs.Scopes.{Env, Before}
use Rattle.c_rules.specs.Items.{Output, item, behind_item, after_item}
use Rattle.null_calls_laws.specs.FileScopes.{FilesBeside, at_site}

abbrev pub IsOther : Item → Type 0
IsOther (struct_item at x ms) = Unit {0}
IsOther (enum_item at x es) = Unit {0}
IsOther (tag_item at x) = Unit {0}
IsOther (decl_item at d) = Unit {0}
IsOther (function_item at class s d body) = ⊥

-- it gives the same in the instrumented unit, as many calls stand before what follows it as before it, and the scopes behind it stand
-- beside each other
pub record OtherItemGoes (e f : Env) (b : Before) (n : ℕ) (i : Item) (out : Output) : Type 0 where
  pub follows : item f (at_site b n) i ≡ fine out
  pub files : FilesBeside (behind_item e b i) (behind_item f (at_site b n) i)
  pub after : after_item f (at_site b n) i ≡ at_site (after_item e b i) n
  pub sites : (after_item e b i).sites ≡ b.sites

-- every such item that is fine in the plain unit
abbrev pub OtherItemsGo : Type 0
OtherItemsGo = (e f : Env) → FilesBeside e f → (b : Before) (n : ℕ) (i : Item) → IsOther i → (out : Output) → item e b i ≡ fine out → OtherItemGoes e f b n i out
