-- A site stands at most as often in a shape as in its tree.
use Rattle.std.proofs.Common.{◌≡◌, ◌≢◌, ℕ, zero, suc, ◌+◌, ◌-◌, ◌<◌, ◌≤◌, Bool, nat_eq, if◌then◌else◌, List, [], ◌∷◌, ◌++◌, map, flat_map, Contains, AllPairs, Option, None, ℤ, inl, inr, sym, ap, ◌∙◌, subst, refl, arith}
use Rattle.std.proofs.lemmas.Grind.{flat_map-append}
use Rattle.std.specs.List.{range_with_len}
use Rattle.std.specs.Cmp.{nat_eq_equiv}
use Rattle.std.proofs.lemmas.Bool.Decides.{eqb_tells}
use Rattle.sys_table.specs.Table.{recorded_of}
use Rattle.c_meaning.specs.Tree.{Stmt}
use Rattle.c_meaning.specs.Tree.{Function, Program}
use Rattle.c_meaning.specs.Constants.{pattern_of}
use Rattle.c_meaning.specs.Functions.{defined}
use Rattle.c_meaning.specs.Sites.{all_sites, sites_of_stmt, sites_of_function, sites_of_program}
use Rattle.c_meaning.specs.Shape.{Shape, Sys, Exit, Parts, Part, exit_call}
use Rattle.c_meaning.specs.ShapeOf.{shape_of_stmt, shape_of_function, any_call}
use Rattle.c_meaning.proofs.Lists.{other_number, if_has, one, counted, counted_append}
use Rattle.c_meaning.specs.Premises.{sites, sites_of_parts}
use Rattle.c_meaning.proofs.ShapesOfTrees.{Spreads, Stands, tree_has}
use Rattle.c_meaning.proofs.Rising.{pairs_cons, pairs_nil}

-- how often the site stands in the list
abbrev pub often : ℕ → List ℕ → ℕ
often s rs = counted (nat_eq s) rs

-- the same for shapes
abbrev at : ℕ → Shape → ℕ
at s S = often s (sites S)

abbrev at_parts : ℕ → Parts → ℕ
at_parts s ps = often s (sites_of_parts ps)

at_part : (s : ℕ) (S : Shape) (ps : Parts) → at_parts s (Part S ps) ≡ at s S + at_parts s ps
at_part s S ps = counted_append (nat_eq s) (sites S) (sites_of_parts ps)

at_system : (s x : ℕ) (q : List (Option ℤ)) (b : Bool) → at s (if b then Exit q else Sys x q) ≡ 0
at_system s x q b = if_has (λ S. at s S ≡ 0) b (Exit q) (Sys x q) (λ h. refl) (λ h. refl)

-- that a shape has the site at most so often
few_spread : (s : ℕ) → Spreads (λ S n. at s S ≤ n) (λ ps n. at_parts s ps ≤ n)
few_spread s = record {
  skip = λ n. omega arith;
  none = λ n. omega arith;
  some = λ S ps m n h k. let i = at_part s S ps in omega (arith, h, k, i);
  split = λ S ps n h. (at s S, at_parts s ps, (let i = at_part s S ps in omega (arith, h, i)), omega arith, omega arith);
  row = λ S ps n h. h;
  either = λ S T m n h k. let i = counted_append (nat_eq s) (sites S) (sites T) in omega (arith, h, k, i);
  more = λ S m n h le. omega (arith, h, le);
  parts_more = λ ps m n h le. omega (arith, h, le);
}

few_stand : (s : ℕ) → Stands (λ S n. at s S ≤ n) (λ ps n. at_parts s ps ≤ n)
few_stand s = record {
  loop = λ C B T l m n h i k. let j = counted_append (nat_eq s) (sites C) (sites B ++ sites T) in let q = counted_append (nat_eq s) (sites B) (sites T) in omega (arith, h, i, k, j, q);
  until = λ B C m n h k. let i = counted_append (nat_eq s) (sites B) (sites C) in omega (arith, h, k, i);
  cases = λ ps d n h. h;
  breaks = λ n. omega arith;
  continues = λ n. omega arith;
  returns = λ n. omega arith;
}

module _ (p : Program) (s : ℕ) where
  in_stmt : (u : Stmt) → at s (shape_of_stmt p u) ≤ often s (sites_of_stmt u)
  in_stmt u = tree_has (λ S n. at s S ≤ n) (λ ps n. at_parts s ps ≤ n) (few_spread s) all_sites (often s) (counted_append (nat_eq s)) p (λ r f h. omega arith) (λ r t h. omega arith) (λ r f es h i. let k = at_system s (f - defined p) (pattern_of (f - defined p) es) (nat_eq (f - defined p) exit_call) in omega (arith, k)) (few_stand s) u

  at_functions : (fs : List Function) → often s (flat_map sites (map (shape_of_function p) fs)) ≤ often s (flat_map sites_of_function fs)
  at_functions [] = omega arith
  at_functions (f ∷ fs) =
      let k = counted_append (nat_eq s) (sites (shape_of_function p f)) (flat_map sites (map (shape_of_function p) fs)) in
      let j = counted_append (nat_eq s) (sites_of_function f) (flat_map sites_of_function fs) in
      let h = in_stmt (f.body) in
      let i = at_functions fs in
      omega (arith, k, j, h, i)

  at_calls : (xs : List ℕ) → often s (flat_map sites (map any_call xs)) ≡ 0
  at_calls [] = refl
  at_calls (x ∷ xs) =
      let k = counted_append (nat_eq s) (sites (any_call x)) (flat_map sites (map any_call xs)) in
      let h = at_system s x (map (λ kind. None) (recorded_of x)) (nat_eq x exit_call) in
      let i = at_calls xs in
      omega (arith, k, h, i)

-- a list in which nothing stands twice
often_more : (s : ℕ) (xs : List ℕ) → Contains xs s → 1 ≤ often s xs
often_more s [] h = absurd (omega (arith, h.1))
often_more s (r ∷ rs) (zero, lt, is) = let k : one (nat_eq s r) ≡ 1 = ap one (ap (λ z. nat_eq s z) is ∙ nat_eq_equiv.refl s) in omega (arith, k)
often_more s (r ∷ rs) (suc k, lt, is) = let i = often_more s rs (k, omega arith, is) in omega (arith, i)

pub differ_from_often : (xs : List ℕ) → ((s : ℕ) → often s xs ≤ 1) → AllPairs (λ s r. s ≢ r) xs
differ_from_often [] h = pairs_nil (λ s r. s ≢ r)
differ_from_often (x ∷ xs) h = pairs_cons (λ s r. s ≢ r) x xs (λ z has e. let k : one (nat_eq x x) ≡ 1 = ap one (nat_eq_equiv.refl x) in let i = h x in let j = often_more x xs (subst (λ y. Contains xs y) (sym e) has) in omega (arith, k, i, j)) (differ_from_often xs (λ s. let k = h s in omega (arith, k)))

below_range : (s a n : ℕ) → s < a → often s (range_with_len a n) ≡ 0
below_range s a zero lt = refl
below_range s a (suc n) lt = let k = ap one (other_number s a (λ e. omega (arith, e, lt))) in let i = below_range s (a + 1) n (omega (arith, lt)) in omega (arith, k, i)

pub once_in_range : (s a n : ℕ) → often s (range_with_len a n) ≤ 1
once_in_range s a zero = omega arith
once_in_range s a (suc n) =
    elim (eqb_tells s a) as (λ k. often s (range_with_len a (suc n)) ≤ 1) [
      | inl k ↦ (let i : one (nat_eq s a) ≡ 1 = ap one k.0 in let same = k.1 in let j = below_range s (a + 1) n (omega (arith, same)) in omega (arith, i, j))
      | inr k ↦ (let i : one (nat_eq s a) ≡ 0 = ap one k.0 in let j = once_in_range s (a + 1) n in omega (arith, i, j))
    ]

pub sites_differ : (p : Program) (n : ℕ) (xs : List ℕ) → sites_of_program p ≡ range_with_len 0 n → AllPairs (λ s r. s ≢ r) (flat_map sites (map (shape_of_function p) p.functions ++ map any_call xs))
sites_differ p n xs numbered = differ_from_often (flat_map sites (map (shape_of_function p) p.functions ++ map any_call xs)) (λ s.
    let e = flat_map-append sites (map (shape_of_function p) p.functions) (map any_call xs) in
    let k = ap (often s) e ∙ counted_append (nat_eq s) (flat_map sites (map (shape_of_function p) p.functions)) (flat_map sites (map any_call xs)) in
    let i = at_functions p s p.functions in
    let j = at_calls p s xs in
    let m : often s (flat_map sites_of_function p.functions) ≡ often s (range_with_len 0 n) = ap (often s) numbered in
    let l = once_in_range s 0 n in
    omega (arith, k, i, j, m, l))
