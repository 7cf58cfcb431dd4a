-- That the variables of a part have numbers, and those of the parts behind it.
use Rattle.std.proofs.Common.{◌≡◌, List, ◌++◌, subst}
use Rattle.c_check_bodies.proofs.NextLemmas.{first_have, later_have}
use Rattle.c_check_bodies.specs.Numbered.{HaveNumbers}
use Rattle.c_rules.specs.Names.{Name}
use Rattle.c_rules.specs.Variables.{Next, past_names}

module _ (next : Next) (all own rest : List Name) (split : all ≡ own ++ rest) (h : HaveNumbers next all) where
  pub own_have : HaveNumbers next own
  own_have = first_have next own rest (subst (HaveNumbers next) split h)

  pub rest_have : (later : Next) → later ≡ past_names next own → HaveNumbers later rest
  rest_have later past = later_have next later own rest past (subst (HaveNumbers next) split h)
