-- The calls that a program mentions stand at its sites, in the same order, and each site stands once: so the call at a site is found.
use Rattle.std.proofs.Common.{◌≡◌, inl, inr, ℕ, zero, suc, ◌+◌, nat_eq, if◌then◌else◌, List, [], ◌∷◌, ◌++◌, flat_map, Contains, Option, Some, None, refl, ap, sym, ◌∙◌, subst, append-nil, arith}
use Rattle.std.specs.Cmp.{nat_eq_equiv}
use Rattle.std.specs.List.{range_with_len}
use Rattle.c_tree.specs.declared.value.Value.{Value}
use Rattle.c_tree.specs.declared.value.Value.TheVariants as v
use Rattle.c_tree.specs.Tree.{Function, Static, Program}
use Rattle.c_tree.specs.Program.{IsProgram}
use Rattle.c_tree.specs.Sites.{all_sites, sites_of_function, sites_of_program}
use Rattle.c_tree.proofs.GatheredLemmas.{Becomes, stmt_becomes}
use Rattle.c_meaning.specs.Mentions.{all_mentions, Callee, Mention, Named, Calls, mentions_of_function, mention_of_cell, mentions_of_static, mentions_of_program}
use Rattle.c_meaning.specs.CallGraph.{callee_at}
use Rattle.c_meaning.proofs.Members.{is_later, cases, none_in, other_number, from_range}

-- the sites of the calls among what is mentioned
abbrev pub sites_in : List Mention → List ℕ
sites_in [] = []
sites_in (Named f ∷ ms) = sites_in ms
sites_in (Calls s callee ∷ ms) = s ∷ sites_in ms

sites_append : (xs ys : List Mention) → sites_in (xs ++ ys) ≡ sites_in xs ++ sites_in ys
sites_append [] ys = refl
sites_append (Named f ∷ xs) ys = sites_append xs ys
sites_append (Calls s callee ∷ xs) ys = ap (λ z. s ∷ z) (sites_append xs ys)

both : (xs ys : List Mention) (ss rs : List ℕ) → sites_in xs ≡ ss → sites_in ys ≡ rs → sites_in (xs ++ ys) ≡ ss ++ rs
both xs ys ss rs h k = sites_append xs ys ∙ (ap (λ z. z ++ sites_in ys) h ∙ ap (λ z. ss ++ z) k)

-- what is mentioned at a call has its site
mentions_become_sites : Becomes all_mentions all_sites sites_in
mentions_become_sites = record {
  none = refl;
  joined = sites_append;
  named = λ n. refl;
  direct = λ site n xs ys e. ap (λ z. site ∷ z) e;
  through = λ site t xs ys e. ap (λ z. site ∷ z) e;
}

in_functions : (fs : List Function) → sites_in (flat_map mentions_of_function fs) ≡ flat_map sites_of_function fs
in_functions [] = refl
in_functions (f ∷ fs) = both (mentions_of_function f) (flat_map mentions_of_function fs) (sites_of_function f) (flat_map sites_of_function fs) (stmt_becomes all_mentions all_sites sites_in mentions_become_sites f.body) (in_functions fs)

in_cell : (x : Value) → sites_in (mention_of_cell x) ≡ []
in_cell (v.Func f) = refl
in_cell _ = refl

in_cells : (xs : List Value) → sites_in (flat_map mention_of_cell xs) ≡ []
in_cells [] = refl
in_cells (x ∷ xs) = both (mention_of_cell x) (flat_map mention_of_cell xs) [] [] (in_cell x) (in_cells xs)

in_statics : (ss : List Static) → sites_in (flat_map mentions_of_static ss) ≡ []
in_statics [] = refl
in_statics (s ∷ ss) = both (mentions_of_static s) (flat_map mentions_of_static ss) [] [] (in_cells s.cells) (in_statics ss)

pub in_program : (p : Program) → sites_in (mentions_of_program p) ≡ sites_of_program p
in_program p = both (flat_map mentions_of_function p.functions) (flat_map mentions_of_static p.statics) (sites_of_program p) [] (in_functions p.functions) (in_statics p.statics) ∙ append-nil (sites_of_program p)

-- each number once
abbrev Apart : List ℕ → Type 0
Apart [] = Unit {0}
Apart (x ∷ xs) = ((y : ℕ) → Contains xs y → x ≡ y → ⊥) × Apart xs

range_apart : (a n : ℕ) → Apart (range_with_len a n)
range_apart a zero = tt
range_apart a (suc n) = ((λ y k e. let r = from_range (a + 1) n y k in omega (arith, e, r.0)), range_apart (a + 1) n)

abbrev IsCalls : Mention → Type 0
IsCalls (Named f) = ⊥
IsCalls (Calls s callee) = Unit {0}

abbrev site_of : Mention → ℕ
site_of (Named f) = 0
site_of (Calls s callee) = s

abbrev callee_of : Mention → Option Callee
callee_of (Named f) = None
callee_of (Calls s callee) = Some callee

pub site_among : (s : ℕ) (c : Callee) (ms : List Mention) → Contains ms (Calls s c) → Contains (sites_in ms) s
site_among s c [] h = absurd (none_in (Calls s c) h)
site_among s c (Named f ∷ ms) h = elim (cases (Named f) ms (Calls s c) h) as (λ k. Contains (sites_in ms) s) [ inl is ↦ absurd (subst IsCalls (sym is) tt) | inr k ↦ site_among s c ms k ]
site_among s c (Calls r d ∷ ms) h = elim (cases (Calls r d) ms (Calls s c) h) as (λ k. Contains (r ∷ sites_in ms) s) [ inl is ↦ (0, omega arith, ap site_of is) | inr k ↦ is_later r (sites_in ms) s (site_among s c ms k) ]

at_first : (s r : ℕ) (d : Callee) (o : Option Callee) → r ≡ s → (if nat_eq s r then Some d else o) ≡ Some d
at_first s r d o e = ap (λ b. if b then Some d else o) (ap (nat_eq s) e ∙ nat_eq_equiv.refl s)

at_other : (s r : ℕ) (d : Callee) (o : Option Callee) → (s ≡ r → ⊥) → (if nat_eq s r then Some d else o) ≡ o
at_other s r d o ne = ap (λ b. if b then Some d else o) (other_number s r ne)

found : (s : ℕ) (c : Callee) (ms : List Mention) → Apart (sites_in ms) → Contains ms (Calls s c) → callee_at s ms ≡ Some c
found s c [] a h = absurd (none_in (Calls s c) h)
found s c (Named f ∷ ms) a h = elim (cases (Named f) ms (Calls s c) h) as (λ k. callee_at s ms ≡ Some c) [ inl is ↦ absurd (subst IsCalls (sym is) tt) | inr k ↦ found s c ms a k ]
found s c (Calls r d ∷ ms) a h = elim (cases (Calls r d) ms (Calls s c) h) as (λ k. (if nat_eq s r then Some d else callee_at s ms) ≡ Some c) [
  | inl is ↦ at_first s r d (callee_at s ms) (ap site_of is) ∙ ap callee_of is
  | inr k ↦ at_other s r d (callee_at s ms) (λ e. a.0 s (site_among s c ms k) (sym e)) ∙ found s c ms a.1 k
]

-- the call at its site
pub callee_found : (p : Program) (n : ℕ) → IsProgram p n → (s : ℕ) (c : Callee) → Contains (mentions_of_program p) (Calls s c) → callee_at s (mentions_of_program p) ≡ Some c
callee_found p n h s c k =
    found s c (mentions_of_program p) (subst Apart (sym (in_program p ∙ h.sites)) (range_apart 0 n)) k
