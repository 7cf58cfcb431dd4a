-- How many processes the records of a group make known.
use Rattle.std.proofs.Common.{◌≡◌, ◌≢◌, ℕ, zero, suc, ◌≤◌, Bool, true, false, ◌||◌, nat_eq, List, [], ◌∷◌, ◌++◌, length, refl, sym, ap, subst, inl, inr, append_assoc, Contains, All, arith}
use Rattle.std.specs.Prelude.{flat_map, if◌then◌else◌}
use Rattle.std.specs.List.{list_any}
use Rattle.std.proofs.lemmas.Bool.{eq-eqb, false≢true, true≢false}
use Rattle.std.proofs.lemmas.List.{append-nil}
use Rattle.std.proofs.lemmas.List.Elements.{All-nil, All-cons, All-head, All-tail, All-push, Contains-push_cases}
use Rattle.indexmap.specs.IndexSet.{insert_key}
use Rattle.trace_file.specs.declared.record.Record.{Record}
use Rattle.trace_file.specs.declared.version.TracesVersion.TheVariants.{One}
use Rattle.trace_file.specs.Known.{known_count, made_known}
use Rattle.trace_file.specs.Processes.{AreKnown}
use Rattle.std.specs.FinSet.{len-empty}
use Rattle.std.specs.Ordering.{nat_cmp}
use Rattle.trace_file.proofs.ProcessesLemmas.{known_push, known_length}
use Rattle.dm_base.proofs.Without.{without, without_less, in_without}

-- numbers that differ

AreApart : List ℕ → Type 0
AreApart [] = Unit {0}
AreApart (k ∷ ks) = (Contains ks k → ⊥) × AreApart ks

-- different numbers of a list are no more than it
few_of : (ks xs : List ℕ) → AreApart ks → All (Contains xs) ks → length ks ≤ length xs
unfolding AreApart
few_of [] xs apart among = omega arith
few_of (k ∷ ks) xs apart among =
    let fewer = without_less k xs (All-head (Contains xs) k ks among) in
    let rest = few_of ks (without k xs) apart.1 (left ks apart.0 (All-tail (Contains xs) k ks among)) in
    omega arith
  where
    left : (ls : List ℕ) → (Contains ls k → ⊥) → All (Contains xs) ls → All (Contains (without k xs)) ls
    left [] none all = All-nil (Contains (without k xs))
    left (l ∷ ls) none all =
        All-cons (Contains (without k xs)) l ls
        (in_without k l xs (λ same. none (0, omega arith, same)) (All-head (Contains xs) l ls all))
        (left ls (λ has. none (suc has.0, omega (arith, has.1), has.2)) (All-tail (Contains xs) l ls all))

-- one number after another

gather : List ℕ → List ℕ → List ℕ
gather ks [] = ks
gather ks (x ∷ xs) = gather (insert_key nat_eq ks x) xs

gathered : (ks numbers xs : List ℕ) → AreKnown ks numbers → AreKnown (gather ks xs) (numbers ++ xs)
unfolding gather
gathered ks numbers [] are = subst (AreKnown ks) (sym (append-nil numbers)) are
gathered ks numbers (x ∷ xs) are =
    subst (AreKnown (gather (insert_key nat_eq ks x) xs)) (append_assoc numbers (x ∷ []) xs) (gathered (insert_key nat_eq ks x) (numbers ++ x ∷ []) xs (known_push ks numbers x are))

any_has : (x : ℕ) (ks : List ℕ) → list_any (nat_eq x) ks ≡ false → Contains ks x → ⊥
any_has x [] none has = omega (arith, has.1)
any_has x (k ∷ ks) none (zero, within, is) = first (nat_eq x k) (eq-eqb x k (sym is)) none where
  first : (t : Bool) → t ≡ true → (t || list_any (nat_eq x) ks) ≡ false → ⊥
  first true same none = true≢false none
  first false same none = false≢true same
any_has x (k ∷ ks) none (suc n, within, is) = later (nat_eq x k) none (λ rest. any_has x ks rest (n, omega (arith, within), is)) where
  later : (t : Bool) → (t || list_any (nat_eq x) ks) ≡ false → (list_any (nat_eq x) ks ≡ false → ⊥) → ⊥
  later true none never = true≢false none
  later false none never = never none

apart_push : (ks : List ℕ) (x : ℕ) → AreApart ks → (Contains ks x → ⊥) → AreApart (ks ++ x ∷ [])
unfolding AreApart
apart_push [] x apart none = ((λ has. omega (arith, has.1)), tt)
apart_push (k ∷ ks) x apart none = (
  λ has. elim (Contains-push_cases ks x k has) [ inl before ↦ apart.0 before | inr same ↦ none (0, omega arith, sym same) ],
  apart_push ks x apart.1 (λ has. none (suc has.0, omega (arith, has.1), has.2)),
)

-- what is gathered differs, and is among the numbers of the list
gather_few : (P ks xs : List ℕ) → AreApart ks → All (Contains P) ks → All (Contains P) xs → length (gather ks xs) ≤ length P
unfolding gather
gather_few P ks [] apart among all = few_of ks P apart among
gather_few P ks (x ∷ xs) apart among all =
    by_test (list_any (nat_eq x) ks) refl (gather_few P ks xs apart among rest) (λ none. gather_few P (ks ++ x ∷ []) xs (apart_push ks x apart (any_has x ks none)) (All-push (Contains P) ks x among (All-head (Contains P) x xs all)) rest)
  where
    rest : All (Contains P) xs
    rest = All-tail (Contains P) x xs all

    by_test : (t : Bool) → list_any (nat_eq x) ks ≡ t → length (gather ks xs) ≤ length P → (list_any (nat_eq x) ks ≡ false → length (gather (ks ++ x ∷ []) xs) ≤ length P) → length (gather (insert_key nat_eq ks x) xs) ≤ length P
    by_test true is old new = subst (λ (l : List ℕ). length (gather l xs) ≤ length P) (sym (ap (λ (t : Bool). if t then ks else ks ++ x ∷ []) is)) old
    by_test false is old new = subst (λ (l : List ℕ). length (gather l xs) ≤ length P) (sym (ap (λ (t : Bool). if t then ks else ks ++ x ∷ []) is)) (new is)

made : List Record → List ℕ
made records = flat_map (made_known One) records

made_among : (P : List ℕ) (records : List Record) → All (λ r. Contains P r.pid) records → All (Contains P) (made records)
unfolding made
made_among P [] all = All-nil (Contains P)
made_among P (r ∷ records) all = All-cons (Contains P) r.pid (flat_map (made_known One) records) (All-head (λ (s : Record). Contains P s.pid) r records all) (made_among P records (All-tail (λ (s : Record). Contains P s.pid) r records all))

-- records of some processes make no more processes known
pub few_known : (P : List ℕ) (records : List Record) → All (λ r. Contains P r.pid) records → known_count One records ≤ length P
unfolding made AreApart
few_known P records all =
    let none : AreKnown [] [] = record { same = refl; apart = len-empty nat_cmp } in
    let count = known_length One (gather [] (made records)) records (gathered [] [] (made records) none) in
    let few = gather_few P [] (made records) tt (All-nil (Contains P)) (made_among P records all) in
    omega arith
