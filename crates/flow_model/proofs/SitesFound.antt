-- Lemmas that several crates above use.
use Rattle.std.proofs.Common.{List, Some, [], ap, arith, false, find, get_or, length, nat_eq, true, ℕ, ◌<◌, ◌∙◌, ◌∷◌, ◌≡◌}
use Rattle.std.proofs.lemmas.Bool.{eq-eqb, ne_eqb}
use Rattle.std.proofs.lemmas.Bool.Decides.{nat_tests}
use Rattle.std.specs.Ordering.{nat_cmp}
use Rattle.std.specs.declared.cmp.Ordering.TheVariants.{Less}
use Prim.Native.Nat.{suc, zero}
use Rattle.flow_model.specs.Call.{Call}
use Rattle.flow_model.specs.Order.{StrictlyRise, site_order}

pub less_lt : (a b : ℕ) → nat_cmp a b ≡ Less → a < b
less_lt a b less = grind (arith, nat_tests)

-- the call with the site is found
pub find_site : (site : ℕ) (calls : List Call) → StrictlyRise site_order calls → (c : Call) (k : ℕ) → k < length calls → get_or calls k c ≡ c → c.site ≡ site → find (λ (d : Call). nat_eq d.site site) calls ≡ Some c
find_site site [] rise c k lt at is = absurd (omega arith)
find_site site (d ∷ calls) rise c zero lt at is =
    let here : nat_eq d.site site ≡ true = eq-eqb d.site site (ap (λ (e : Call). e.site) at ∙ is) in
    rw here (ap Some at)
find_site site (d ∷ calls) rise c (suc k) lt at is =
    let later : nat_cmp d.site (get_or calls k c).site ≡ Less = rise 0 (suc k) c (omega arith) (omega arith) in
    let before : d.site < (get_or calls k c).site = less_lt d.site (get_or calls k c).site later in
    let same : (get_or calls k c).site ≡ site = ap (λ (e : Call). e.site) at ∙ is in
    let other : nat_eq d.site site ≡ false = ne_eqb d.site site (λ e. omega arith) in
    rw other (find_site site calls (λ i j e below within. rise (suc i) (suc j) e (omega arith) (omega arith)) c k (omega arith) at is)
