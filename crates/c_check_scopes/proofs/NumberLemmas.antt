-- The map as the first places of names, after one more.
use Rattle.std.proofs.Common.{◌≡◌, ℕ, suc, List, [], ◌∷◌, ◌++◌, Option, Some, None, Bool, true, false, cond, length, refl, ap, sym, ◌∙◌, arith, Bor}
use Rattle.std.specs.Prelude.{option_map, is_some, bytes_eq}
use Rattle.std.specs.HashMap.{HashMap, get_by}
use Rattle.c_rules.specs.Names.{Name, number_among, is_among, with_new}
use Rattle.c_check_scopes.specs.Numbers.{seen, AreNumbers}
use Rattle.c_check_scopes.proofs.CountLemmas.{same_name, none_not_some}

pub length_seen : (names : List (Bor (List ℕ))) → length (seen names) ≡ length names
length_seen [] = refl
length_seen (x ∷ names) = ap suc (length_seen names)

pub seen_push : (names : List (Bor (List ℕ))) (x : Bor (List ℕ)) → seen (names ++ x ∷ []) ≡ seen names ++ x.now ∷ []
seen_push [] x = refl
seen_push (y ∷ names) x = ap (λ ys. y.now ∷ ys) (seen_push names x)

-- the number that a name has, or a new one
abbrev pub or_new : Option ℕ → Bool → ℕ → Option ℕ
or_new (Some i) t n = Some i
or_new None t n = cond t (Some n) None

or_new_map : (o : Option ℕ) (t : Bool) (n : ℕ) → option_map suc (or_new o t n) ≡ or_new (option_map suc o) t (suc n)
or_new_map (Some i) t n = refl
or_new_map None true n = refl
or_new_map None false n = refl

or_new_cond : (s : Bool) (o : Option ℕ) (t : Bool) (n : ℕ) → cond s (Some 0) (or_new o t n) ≡ or_new (cond s (Some 0) o) t n
or_new_cond true o t n = refl
or_new_cond false o t n = refl

pub number_pushed : (ys : List Name) (x y : Name) → number_among (ys ++ x ∷ []) y ≡ or_new (number_among ys y) (bytes_eq x y) (length ys)
number_pushed [] x y = refl
number_pushed (z ∷ ys) x y =
    ap (λ o. cond (bytes_eq z y) (Some 0) (option_map suc o)) (number_pushed ys x y) ∙ (ap (cond (bytes_eq z y) (Some 0)) (or_new_map (number_among ys y) (bytes_eq x y) (length ys)) ∙ or_new_cond (bytes_eq z y) (option_map suc (number_among ys y)) (bytes_eq x y) (suc (length ys)))

old_stays : (o : Option ℕ) (t : Bool) (n : ℕ) → (t ≡ true → (i : ℕ) × (o ≡ Some i)) → o ≡ or_new o t n
old_stays (Some i) t n h = refl
old_stays None true n h = let w = h refl in absurd (none_not_some w.0 w.1)
old_stays None false n h = refl

-- a name that is there already
pub known_pushed : {S : Type 0} (first : HashMap (Bor (List ℕ)) ℕ S) (names : List (Bor (List ℕ))) (x : Bor (List ℕ)) (i : ℕ) → number_among (seen names) x.now ≡ Some i → AreNumbers first names → AreNumbers first (names ++ x ∷ [])
known_pushed first names x i k h = record {
  finds = λ y. h.finds y ∙ (old_stays (number_among (seen names) y) (bytes_eq x.now y) (length (seen names)) (λ t. (i, ap (number_among (seen names)) (sym (same_name x.now y t)) ∙ k))
      ∙ (sym (number_pushed (seen names) x.now y) ∙ sym (ap (λ ys. number_among ys y) (seen_push names x))));
}

new_there : (o : Option ℕ) (t : Bool) (n : ℕ) → (t ≡ true → o ≡ None) → cond t (Some n) o ≡ or_new o t n
new_there (Some i) true n h = absurd (none_not_some i (sym (h refl)))
new_there (Some i) false n h = refl
new_there None t n h = refl

-- a new name
pub new_pushed : {S : Type 0} (first after : HashMap (Bor (List ℕ)) ℕ S) (names : List (Bor (List ℕ))) (x : Bor (List ℕ)) (n : ℕ) → number_among (seen names) x.now ≡ None → n ≡ length names
    → ((q : Bor (List ℕ)) → get_by (λ b. bytes_eq q.now b.now) after ≡ cond (bytes_eq x.now q.now) (Some n) (get_by (λ b. bytes_eq q.now b.now) first)) → AreNumbers first names → AreNumbers after (names ++ x ∷ [])
new_pushed first after names x n k l u h = record {
  finds = λ y. u (record x { now = y }) ∙ (ap (cond (bytes_eq x.now y) (Some n)) (h.finds y)
      ∙ (new_there (number_among (seen names) y) (bytes_eq x.now y) n (λ t. ap (number_among (seen names)) (sym (same_name x.now y t)) ∙ k)
      ∙ (ap (or_new (number_among (seen names) y) (bytes_eq x.now y)) (l ∙ sym (length_seen names))
      ∙ (sym (number_pushed (seen names) x.now y) ∙ sym (ap (λ ys. number_among ys y) (seen_push names x))))));
}

pub added : (ys zs : List Name) (x : Name) → is_among ys x ≡ false → zs ≡ ys ++ x ∷ [] → zs ≡ with_new ys x
added ys zs x h q = q ∙ sym (rw h refl)

pub not_so : false ≡ true → ⊥
not_so h = cc

some_by : (o : Option ℕ) → is_some o ≡ true → (i : ℕ) × (o ≡ Some i)
some_by None h = absurd (not_so h)
some_by (Some i) h = (i, refl)

none_by : (o : Option ℕ) → is_some o ≡ false → o ≡ None
none_by None h = refl
none_by (Some i) h = absurd (not_so (sym h))

-- a name that is there, and one that isn't
pub known_in : {S : Type 0} (first : HashMap (Bor (List ℕ)) ℕ S) (names : List (Bor (List ℕ))) (x : Bor (List ℕ)) (now : List Name) (t : Bool) → seen names ≡ now → t ≡ is_among now x.now → t ≡ true → AreNumbers first names → AreNumbers first (names ++ x ∷ [])
known_in first names x now t v e q h =
    let w = some_by (number_among (seen names) x.now) (ap (λ z. is_among z x.now) v ∙ (sym e ∙ q)) in known_pushed first names x w.0 w.1 h

pub new_in : {S : Type 0} (first after : HashMap (Bor (List ℕ)) ℕ S) (names : List (Bor (List ℕ))) (x : Bor (List ℕ)) (n : ℕ) (now : List Name) (t : Bool) → seen names ≡ now → t ≡ is_among now x.now → t ≡ false → n ≡ length names
    → ((q : Bor (List ℕ)) → get_by (λ b. bytes_eq q.now b.now) after ≡ cond (bytes_eq x.now q.now) (Some n) (get_by (λ b. bytes_eq q.now b.now) first)) → AreNumbers first names → AreNumbers after (names ++ x ∷ [])
new_in first after names x n now t v e q l u h = new_pushed first after names x n (none_by (number_among (seen names) x.now) (ap (λ z. is_among z x.now) v ∙ (sym e ∙ q))) l u h
