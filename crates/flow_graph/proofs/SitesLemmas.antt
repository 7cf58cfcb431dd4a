-- The calls that a program mentions stand at its sites, in the same order.
use Rattle.std.proofs.Common.{◌≡◌, ◌↔◌, ℕ, ◌<◌, ◌≤◌, Bool, true, false, List, [], ◌∷◌, Contains, Option, None, Some, refl, sym, ap, ◌∙◌, subst, nat_eq, arith}
use Rattle.std.specs.Prelude.{if◌then◌else◌}
use Rattle.std.specs.List.{range_with_len}
use Rattle.std.proofs.lemmas.Bool.{eq-eqb, eqb-true, false≢true}
use Rattle.c_tree.specs.Tree.{Program}
use Rattle.c_tree.specs.Program.{IsProgram}
use Rattle.c_meaning.specs.Mentions.{Callee, Mention, Named, Calls, mentions_of_program}
use Rattle.c_meaning.specs.CallGraph.{names, is_taken, has_one, callee_at}
use Rattle.c_meaning.proofs.Lists.{is_first, is_later, one_passes, one_found, from_range}
use Rattle.c_meaning.proofs.SitesSaid.{sites_in, in_program, site_among}

-- where a call is found
found_by : (s r : ℕ) (c callee : Callee) (ms : List Mention) (b : Bool) → nat_eq s r ≡ b → (if b then Some c else callee_at s ms) ≡ Some callee → (callee_at s ms ≡ Some callee → Contains ms (Calls s callee)) → Contains (Calls r c ∷ ms) (Calls s callee)
found_by s r c callee ms true e is rest =
    let same : c ≡ callee = cc in
    let place : r ≡ s = sym (eqb-true s r e) in
    subst (λ r. Contains (Calls r c ∷ ms) (Calls s callee)) (sym place) (subst (λ x. Contains (Calls s c ∷ ms) (Calls s x)) same (is_first (Calls s c) ms))
found_by s r c callee ms false e is rest = is_later (Calls r c) ms (Calls s callee) (rest is)

pub found_at : (s : ℕ) (callee : Callee) (ms : List Mention) → callee_at s ms ≡ Some callee → Contains ms (Calls s callee)
found_at s callee [] is = absurd cc
found_at s callee (Named f ∷ ms) is = is_later (Named f) ms (Calls s callee) (found_at s callee ms is)
found_at s callee (Calls r c ∷ ms) is = found_by s r c callee ms (nat_eq s r) refl is (found_at s callee ms)

some_site : (s n : ℕ) (p : Program) (callee : Callee) → IsProgram p n → callee_at s (mentions_of_program p) ≡ Some callee → s < n
some_site s n p callee typed is =
    let has : Contains (sites_in (mentions_of_program p)) s = site_among s callee (mentions_of_program p) (found_at s callee (mentions_of_program p) is) in
    let at : Contains (range_with_len 0 n) s = subst (λ ss. Contains ss s) (in_program p ∙ typed.sites) has in
    let r = (from_range 0 n s at).1 in
    omega (arith, r)

none_by : (s n : ℕ) (p : Program) (o : Option Callee) → IsProgram p n → n ≤ s → callee_at s (mentions_of_program p) ≡ o → o ≡ None
none_by s n p None typed past is = refl
none_by s n p (Some callee) typed past is = absurd (let lt = some_site s n p callee typed is in omega (arith, lt, past))

-- past the sites there is no call
pub no_site : (s n : ℕ) (p : Program) → IsProgram p n → n ≤ s → callee_at s (mentions_of_program p) ≡ None
no_site s n p typed past = none_by s n p (callee_at s (mentions_of_program p)) typed past refl

-- a name that stands there
name_test : (f : ℕ) (m : Mention) → names f m ≡ true → Named f ≡ m
name_test f (Named g) h = ap Named (eqb-true f g h)
name_test f (Calls s callee) h = absurd (false≢true h)

pub name_told : (f : ℕ) (ms : List Mention) → Contains ms (Named f) ↔ (has_one (names f) ms ≡ true)
name_told f ms = (
  λ has. one_found (names f) ms (Named f) has (eq-eqb f f refl),
  λ h. let r = one_passes (names f) ms h in subst (Contains ms) (sym (name_test f r.0 r.2)) r.1,
)

pub taken_told : (p : Program) (f : ℕ) → Contains (mentions_of_program p) (Named f) ↔ (is_taken p f ≡ true)
taken_told p f = name_told f (mentions_of_program p)
