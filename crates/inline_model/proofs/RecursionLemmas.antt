-- A chain that ends in a cycle goes on as long as one likes.
use Rattle.std.proofs.Common.{◌≡◌, ℕ, zero, suc, ◌≤◌, List, [], ◌∷◌, ◌++◌, length, refl, sym, ◌∙◌, ap, subst, arith}
use Rattle.std.proofs.lemmas.List.{length-append}
use Rattle.flow_model.specs.Graph.{Graph}
use Rattle.inline_model.specs.Chains.{Opens, LeadsOn, IsChain, HasNoGreatest, IsRecursion}
use Rattle.inline_model.specs.Chains.LeadsOn.{ends, opens}
use Rattle.inline_model.specs.Chains.IsChain.{first}

last_of : ℕ → List ℕ → ℕ
last_of s [] = s
last_of s (u ∷ sites) = last_of u sites

last_of-append : (s : ℕ) (xs : List ℕ) (u : ℕ) → last_of s (xs ++ u ∷ []) ≡ u
unfolding last_of
last_of-append s [] u = refl
last_of-append s (x ∷ xs) u = last_of-append x xs u

-- where two begin alike, and the one is told by its last site
last_is : (o : ℕ) (sites before : List ℕ) (u : ℕ) → o ∷ sites ≡ before ++ u ∷ [] → last_of o sites ≡ u
unfolding last_of
last_is o sites [] u same = let empty_now : sites ≡ [] = cc in let here : o ≡ u = cc in ap (last_of o) empty_now ∙ here
last_is o sites (x ∷ before) u same =
    let tail : sites ≡ before ++ u ∷ [] = cc in
    ap (last_of o) tail ∙ last_of-append o before u

-- from the last of some sites on
leads_append : {g : Graph} (s : ℕ) (xs : List ℕ) (o : ℕ) (ys : List ℕ) → LeadsOn g s xs → Opens g (last_of s xs) o → LeadsOn g o ys → LeadsOn g s (xs ++ o ∷ ys)
unfolding last_of
leads_append s [] o ys ends opening rest = opens opening rest
leads_append s (u ∷ xs) o ys (opens step more) opening rest = opens step (leads_append u xs o ys more opening rest)

-- rounds of the cycle
rounds : {g : Graph} (o : ℕ) (sites : List ℕ) → LeadsOn g o sites → Opens g (last_of o sites) o → (n : ℕ) → (ys : List ℕ) × LeadsOn g o ys × (n ≤ length ys)
rounds o sites leads back zero = (sites, leads, omega arith)
rounds o sites leads back (suc n) =
    let before = rounds o sites leads back n in
    (sites ++ o ∷ before.0, leads_append o sites o before.0 leads back before.1, omega (arith, before.2, length-append sites (o ∷ before.0)))

-- what leads on after some sites
leads_tail : {g : Graph} (s : ℕ) (xs : List ℕ) (o : ℕ) (ys : List ℕ) → LeadsOn g s (xs ++ o ∷ ys) → LeadsOn g o ys
leads_tail s [] o ys (opens step rest) = rest
leads_tail s (u ∷ xs) o ys (opens step rest) = leads_tail u xs o ys rest

chain_leads : {g : Graph} (xs : List ℕ) (o : ℕ) (ys : List ℕ) → IsChain g (xs ++ o ∷ ys) → LeadsOn g o ys
chain_leads [] o ys (first is leads) = leads
chain_leads (s ∷ xs) o ys (first is leads) = leads_tail s xs o ys leads

leads_other : {g : Graph} (s : ℕ) (xs : List ℕ) (o : ℕ) (ys zs : List ℕ) → LeadsOn g s (xs ++ o ∷ ys) → LeadsOn g o zs → LeadsOn g s (xs ++ o ∷ zs)
leads_other s [] o ys zs (opens step rest) other = opens step other
leads_other s (u ∷ xs) o ys zs (opens step rest) other = opens step (leads_other u xs o ys zs rest other)

chain_other : {g : Graph} (xs : List ℕ) (o : ℕ) (ys zs : List ℕ) → IsChain g (xs ++ o ∷ ys) → LeadsOn g o zs → IsChain g (xs ++ o ∷ zs)
chain_other [] o ys zs (first is leads) other = first is other
chain_other (s ∷ xs) o ys zs (first is leads) other = first is (leads_other s xs o ys zs leads other)

pub recursion_unbounded : (g : Graph) (before cycle : List ℕ) → IsRecursion g before cycle → HasNoGreatest g
recursion_unbounded g before cycle recursion n =
    let o = recursion.oldest in
    let sites = recursion.begins.0 in
    let chain : IsChain g (before ++ o ∷ sites) = subst (λ c. IsChain g (before ++ c)) recursion.begins.1 recursion.chain in
    let last = last_is o sites recursion.ends.0 recursion.newest (sym recursion.begins.1 ∙ recursion.ends.1) in
    let more = rounds o sites (chain_leads before o sites chain) (subst (λ s. Opens g s o) (sym last) recursion.opens) n in
    (before ++ o ∷ more.0, chain_other before o sites more.0 chain more.1, omega (arith, more.2, length-append before (o ∷ more.0)))
