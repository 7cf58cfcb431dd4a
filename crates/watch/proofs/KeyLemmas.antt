-- The keys of a table of processes, and the processes that records make known.
use Rattle.std.proofs.Common.{◌≡◌, ◌||◌, ℕ, Bool, true, false, nat_eq, List, [], ◌∷◌, ◌++◌, Some, is_some, refl, sym, ◌∙◌, ap, true≢false}
use Rattle.std.specs.Prelude.{if◌then◌else◌, flat_map, Result, Ok, Err, OnOk, IsOk}
use Rattle.std.specs.Cmp.{nat_eq_equiv}
use Rattle.std.specs.List.{list_any}
use Rattle.std.specs.Map.{keys_of}
use Rattle.std.specs.Ordering.{nat_cmp}
use Rattle.std.specs.FinSet.{FinSet, contains, contains-from_list_nat}
use Rattle.std.proofs.lemmas.Bool.{eq-eqb}
use Rattle.std.proofs.lemmas.List.Folds.{list_any-append}
use Rattle.std.proofs.lemmas.Map.Made.{is_some-lookup}
use Rattle.indexmap.specs.IndexMap.{IndexMap, get, keys, insert_entry}
use Rattle.indexmap.specs.IndexSet.{insert_key}
use Rattle.trace_file.specs.declared.record.Record.{Record}
use Rattle.trace_file.specs.declared.version.TracesVersion.{TracesVersion}
use Rattle.trace_file.specs.Known.{made_known}
use Rattle.trace_file.specs.Processes.{AreKnown}
use Rattle.watch.specs.Own.{is_among, is_known}

-- what is put under a key that is new goes last
pub keys_inserted : {X : Type 0} (es : List (ℕ × X)) (k : ℕ) (v : X) → keys_of (insert_entry nat_eq es k v) ≡ insert_key nat_eq (keys_of es) k
keys_inserted [] k v = refl
keys_inserted (e ∷ es) k v =
    elim (nat_eq k e.0) as (λ b. keys_of (if b then (e.0, v) ∷ es else e ∷ insert_entry nat_eq es k v) ≡ (if b || is_among (keys_of es) k then e.0 ∷ keys_of es else (e.0 ∷ keys_of es) ++ k ∷ [])) [
      | true ↦ refl
      | false ↦ ap (λ (ks : List ℕ). e.0 ∷ ks) (keys_inserted es k v)
          ∙ elim (is_among (keys_of es) k) as (λ b. e.0 ∷ (if b then keys_of es else keys_of es ++ k ∷ []) ≡ (if b then e.0 ∷ keys_of es else (e.0 ∷ keys_of es) ++ k ∷ [])) [ true ↦ refl | false ↦ refl ]
    ]

-- a key that is there stays where it is
pub keys_there : (ks : List ℕ) (k : ℕ) → is_among ks k ≡ true → insert_key nat_eq ks k ≡ ks
keys_there ks k there = ap (λ (b : Bool). if b then ks else ks ++ k ∷ []) there

module _ {X S : Type 0} (m : IndexMap ℕ X S) where
  -- a process of the table has its number among the keys
  pub among_keys : (k : ℕ) → is_among (keys m) k ≡ is_some (get nat_eq m k)
  among_keys k = sym (is_some-lookup (nat_eq k) m.entries)

  -- what was written leaves the keys, where the key is there
  pub keys_written : {T E : Type 0} (r : Result T E) (n : IndexMap ℕ X S) (k : ℕ) (x : X) → keys n ≡ keys m → get nat_eq m k ≡ Some x → OnOk r (keys n ≡ insert_key nat_eq (keys m) k)
  keys_written (Ok t) n k x same there = same ∙ sym (keys_there (keys m) k (among_keys k ∙ ap is_some there))
  keys_written (Err e) n k x same there = tt

-- an any of lists is an any of all their items
any_of_lists : {X : Type 0} (f : X → List ℕ) (p : ℕ) (xs : List X) → is_among (flat_map f xs) p ≡ list_any (λ x. is_among (f x) p) xs
any_of_lists f p [] = refl
any_of_lists f p (x ∷ xs) = list_any-append (nat_eq p) (f x) (flat_map f xs) ∙ ap (λ (b : Bool). is_among (f x) p || b) (any_of_lists f p xs)

any_either_way : (p : ℕ) (ks : List ℕ) → list_any (λ y. nat_eq y p) ks ≡ is_among ks p
any_either_way p [] = refl
any_either_way p (k ∷ ks) = λ i. nat_eq_equiv.symm k p i || any_either_way p ks i

-- the keys are exactly the known processes
pub keys_known : (version : TracesVersion) (ks : List ℕ) (records : List Record) (p : ℕ) → AreKnown ks (flat_map (made_known version) records) → is_among ks p ≡ is_known version records p
keys_known version ks records p are =
    sym (contains-from_list_nat ks p ∙ any_either_way p ks)
    ∙ ap (λ (s : FinSet nat_cmp). contains s p) are.same
    ∙ contains-from_list_nat (flat_map (made_known version) records) p
    ∙ any_either_way p (flat_map (made_known version) records)
    ∙ any_of_lists (made_known version) p records

-- what an answer says of its success, where it succeeded
pub keys_added : {X S T E : Type 0} (r : Result T E) (m n : IndexMap ℕ X S) (k : ℕ) (v : X) → IsOk r → OnOk r (n.entries ≡ insert_entry nat_eq m.entries k v) → keys n ≡ insert_key nat_eq (keys m) k
keys_added (Ok t) m n k v ok entries = ap keys_of entries ∙ keys_inserted m.entries k v
keys_added (Err e) m n k v ok entries = absurd (true≢false (sym ok))

-- among the keys after one more
pub among_self : (ks : List ℕ) (k : ℕ) → is_among (insert_key nat_eq ks k) k ≡ true
among_self ks k = by (is_among ks k) refl
  where
    by : (b : Bool) → is_among ks k ≡ b → is_among (insert_key nat_eq ks k) k ≡ true
    by true is = ap (λ (t : List ℕ). is_among t k) (keys_there ks k is) ∙ is
    by false is =
        let grown : insert_key nat_eq ks k ≡ ks ++ k ∷ [] = ap (λ (b : Bool). if b then ks else ks ++ k ∷ []) is in
        ap (λ (t : List ℕ). is_among t k) grown ∙ list_any-append (nat_eq k) ks (k ∷ []) ∙ (λ i. is i || (eq-eqb k k refl i || false))

pub among_kept : (ks : List ℕ) (k q : ℕ) → is_among ks q ≡ true → is_among (insert_key nat_eq ks k) q ≡ true
among_kept ks k q there = by (is_among ks k) refl
  where
    by : (b : Bool) → is_among ks k ≡ b → is_among (insert_key nat_eq ks k) q ≡ true
    by true is = ap (λ (t : List ℕ). is_among t q) (keys_there ks k is) ∙ there
    by false is =
        let grown : insert_key nat_eq ks k ≡ ks ++ k ∷ [] = ap (λ (b : Bool). if b then ks else ks ++ k ∷ []) is in
        ap (λ (t : List ℕ). is_among t q) grown ∙ list_any-append (nat_eq q) ks (k ∷ []) ∙ (λ i. there i || is_among (k ∷ []) q)
