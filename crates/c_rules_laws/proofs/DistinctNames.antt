-- Lists of names: which stand in them, and that names that differ are no more than the names of a list in which they all stand.
use Rattle.std.proofs.Common.{◌≡◌, ◌≢◌, ℕ, suc, ◌≤◌, ◌<◌, Bool, true, false, ◌||◌, if◌then◌else◌, List, [], ◌∷◌, ◌++◌, length, length-append, Option, Some, nat_lt, refl, ap, sym, ◌∙◌, arith}
use Rattle.std.specs.Prelude.{is_some, option_map, bytes_eq}
use Rattle.std.proofs.lemmas.Bool.{ltb-true}
use Rattle.std.proofs.lemmas.Slice.Eq.{bytes_eq-Decides}
use Rattle.std.proofs.lemmas.Bool.{or_right}
use Rattle.c_rules.specs.Names.{Name, number_among, is_among, with_new}
use Rattle.c_rules_laws.proofs.Holding.{either, Each, each_both}

-- no name stands twice
abbrev pub Differ : List Name → Type 0
Differ [] = Unit {0}
Differ (x ∷ xs) = Each (λ y. x ≢ y) xs × Differ xs

pub differ_both : (xs ys : List Name) → Differ xs → Differ ys → Each (λ x. Each (λ y. x ≢ y) ys) xs → Differ (xs ++ ys)
differ_both [] ys h k c = k
differ_both (x ∷ xs) ys h k c = (each_both (λ y. x ≢ y) xs ys h.0 c.0, differ_both xs ys h.1 k c.1)

-- ## Whether a name stands in a list

or_map : (b c d : Bool) → (c ≡ true → d ≡ true) → (b || c) ≡ true → (b || d) ≡ true
or_map true c d h e = refl
or_map false c d h e = h e

pub itself : (x : Name) → bytes_eq x x ≡ true
itself x = (bytes_eq-Decides x x).1 refl

pub among_split : (y x : Name) (ys : List Name) → is_among (y ∷ ys) x ≡ (bytes_eq y x || is_among ys x)
among_split y x ys = by_test (bytes_eq y x) (number_among ys x)
  where
    by_test : (b : Bool) (o : Option ℕ) → is_some (if b then Some 0 else option_map suc o) ≡ (b || is_some o)
    by_test false (Some n) = refl
    by_test b o = refl

pub among_first : (y x : Name) (ys : List Name) → bytes_eq y x ≡ true → is_among (y ∷ ys) x ≡ true
among_first y x ys e = among_split y x ys ∙ ap (λ b. b || is_among ys x) e

pub among_rest : (y x : Name) (ys : List Name) → is_among ys x ≡ true → is_among (y ∷ ys) x ≡ true
among_rest y x ys e = among_split y x ys ∙ or_right (bytes_eq y x) (is_among ys x) e

none_among : (x : Name) → is_among [] x ≡ true → ⊥
none_among x e = (let q : false ≡ true = e in cc)

among_map : (y x : Name) (xs ys : List Name) → (is_among xs x ≡ true → is_among ys x ≡ true) → is_among (y ∷ xs) x ≡ true → is_among (y ∷ ys) x ≡ true
among_map y x xs ys h e = among_split y x ys ∙ or_map (bytes_eq y x) (is_among xs x) (is_among ys x) h (sym (among_split y x xs) ∙ e)

pub among_left : (xs ys : List Name) (x : Name) → is_among xs x ≡ true → is_among (xs ++ ys) x ≡ true
among_left [] ys x e = absurd (none_among x e)
among_left (y ∷ xs) ys x e = among_map y x xs (xs ++ ys) (among_left xs ys x) e

pub among_right : (xs ys : List Name) (x : Name) → is_among ys x ≡ true → is_among (xs ++ ys) x ≡ true
among_right [] ys x e = e
among_right (y ∷ xs) ys x e = among_rest y x (xs ++ ys) (among_right xs ys x e)

-- ## A list with a name at its end, where it isn't there yet

pub new_kept : (ys : List Name) (x z : Name) → is_among ys z ≡ true → is_among (with_new ys x) z ≡ true
new_kept ys x z e = either (λ zs. is_among zs z ≡ true) (is_among ys x) ys (ys ++ x ∷ []) (λ _. e) (among_left ys (x ∷ []) z e)

pub new_there : (ys : List Name) (x : Name) → is_among (with_new ys x) x ≡ true
new_there ys x = either (λ zs. is_among zs x ≡ true) (is_among ys x) ys (ys ++ x ∷ []) (λ q. q) (among_right ys (x ∷ []) x (among_first x x [] (itself x)))

pub new_few : (ys : List Name) (x : Name) (m n : ℕ) → m ≤ n → length ys ≤ n → (is_among ys x || nat_lt (length ys) m) ≡ true → length (with_new ys x) ≤ n
new_few ys x m n l h e = by_test (is_among ys x) e
  where
    by_test : (b : Bool) → (b || nat_lt (length ys) m) ≡ true → length (if b then ys else ys ++ x ∷ []) ≤ n
    by_test true q = h
    by_test false q = (let k : length ys < m = ltb-true (length ys) m q in let a = length-append ys (x ∷ []) in omega (arith, k, l, a))

-- ## Names that differ

abbrev without : Name → List Name → List Name
without x [] = []
without x (y ∷ ys) = if bytes_eq y x then ys else y ∷ without x ys

without_short : (x : Name) (ys : List Name) → is_among ys x ≡ true → suc (length (without x ys)) ≤ length ys
without_short x [] e = absurd (none_among x e)
without_short x (y ∷ ys) e = by_test (bytes_eq y x) (without_short x ys) (sym (among_split y x ys) ∙ e)
  where
    by_test : (b : Bool) → (is_among ys x ≡ true → suc (length (without x ys)) ≤ length ys) → (b || is_among ys x) ≡ true → suc (length (if b then ys else y ∷ without x ys)) ≤ length (y ∷ ys)
    by_test true h q = omega arith
    by_test false h q = (let k = h q in omega (arith, k))

without_other : (x z : Name) → (x ≡ z → ⊥) → (ys : List Name) → is_among ys z ≡ true → is_among (without x ys) z ≡ true
without_other x z n [] e = absurd (none_among z e)
without_other x z n (y ∷ ys) e =
    either (λ zs. is_among zs z ≡ true) (bytes_eq y x) ys (y ∷ without x ys) (λ q. apart (bytes_eq y z) refl ((bytes_eq-Decides y x).0 q) (sym (among_split y z ys) ∙ e)) (among_map y z ys (without x ys) (without_other x z n ys) e)
  where
    apart : (b : Bool) → bytes_eq y z ≡ b → y ≡ x → (b || is_among ys z) ≡ true → is_among ys z ≡ true
    apart true q s f = absurd (n (sym s ∙ (bytes_eq-Decides y z).0 q))
    apart false q s f = f

-- names that differ are no more than those of a list in which they all stand
pub few_names : (xs ys : List Name) → Differ xs → Each (λ x. is_among ys x ≡ true) xs → length xs ≤ length ys
few_names [] ys d h = omega arith
few_names (x ∷ xs) ys d h =
    let rest : Each (λ y. is_among (without x ys) y ≡ true) xs = both xs d.0 h.1 in
    let l = few_names xs (without x ys) d.1 rest in
    let k = without_short x ys h.0 in
    omega (arith, l, k)
  where
    both : (xs : List Name) → Each (λ y. x ≢ y) xs → Each (λ y. is_among ys y ≡ true) xs → Each (λ y. is_among (without x ys) y ≡ true) xs
    both [] a b = tt
    both (y ∷ xs) a b = (without_other x y a.0 ys b.0, both xs a.1 b.1)
