-- That variables have numbers: those of a part, those behind it, and those of a body.
use Rattle.std.proofs.Common.{◌≡◌, ℕ, ◌+◌, ◌<◌, ◌≤◌, suc, Bool, true, false, List, [], ◌∷◌, ◌++◌, length, drop, get_or, Bor, sym, ap, subst, ◌∙◌, arith, length-append}
use Rattle.std.specs.Prelude.{if◌then◌else◌, Some, None, nat_le}
use Rattle.std.proofs.lemmas.Bool.{le-leb, lt-leb}
use Rattle.std.proofs.lemmas.List.{drop_more, length-map}
use Rattle.c_check_scopes.specs.Limits.{most_local_cells}
use Rattle.c_check_scopes.specs.Names.{Name, is_added}
use Rattle.c_check_scopes.specs.Variables.{Next, first_numbers, names_of_block, past_name, past_names}
use Rattle.c_check_counts.specs.declared.numbers.Next.{Next as NextTree}
use Rattle.c_check_counts.specs.Numbered.{AreFirst, HaveNumbers, next_of}
use Rattle.c_syntax.specs.SeenNames.{bytes_of, seen}
use Rattle.c_syntax.specs.Tree.{BlockItems}
use Rattle.dm_base.specs.declared.mode.Mode.{Mode}

-- ## Behind one name

abbrev past_by : Bool → Next → Next
past_by t next = if t then record next { added = suc next.added } else record next { plain = suc next.plain }

past_has : (t : Bool) (next : Next) (x : Name) (names : List Name) → HaveNumbers next (x ∷ names) → HaveNumbers (past_by t next) names
past_has true next x names h = record { plain = omega (arith, h.plain); added = omega (arith, h.added) }
past_has false next x names h = record { plain = omega (arith, h.plain); added = omega (arith, h.added) }

pub past_have : (next : Next) (x : Name) (names : List Name) → HaveNumbers next (x ∷ names) → HaveNumbers (past_name next x) names
past_have next x names h = past_has (is_added x) next x names h

-- ## Of two parts

pub first_have : (next : Next) (xs ys : List Name) → HaveNumbers next (xs ++ ys) → HaveNumbers next xs
first_have next xs ys h =
    let more : length (xs ++ ys) ≡ length xs + length ys = length-append xs ys in
    record { plain = omega (arith, h.plain, more); added = omega (arith, h.added, more) }

pub second_have : (next : Next) (xs ys : List Name) → HaveNumbers next (xs ++ ys) → HaveNumbers (past_names next xs) ys
second_have next [] ys h = h
second_have next (x ∷ xs) ys h = second_have (past_name next x) xs ys (past_have next x (xs ++ ys) h)

-- behind a first part, by what the next numbers are there
pub later_have : (next later : Next) (xs ys : List Name) → later ≡ past_names next xs → HaveNumbers next (xs ++ ys) → HaveNumbers later ys
later_have next later xs ys is h = subst (λ n. HaveNumbers n ys) (sym is) (second_have next xs ys h)

-- ## Along a list

module _ (xs : List (Bor (List ℕ))) (i : ℕ) (none : Bor (List ℕ)) where
  abbrev fewer : List Name
  fewer = seen (drop (i + 1) xs)

  seen_at : i < length xs → seen (drop i xs) ≡ (get_or xs i none).now ∷ fewer
  seen_at lt = ap seen (drop_more xs i none lt)

  pub one_has : (next : Next) → i < length xs → HaveNumbers next (seen (drop i xs)) → HaveNumbers next ((get_or xs i none).now ∷ [])
  one_has next lt h = first_have next ((get_or xs i none).now ∷ []) fewer (subst (HaveNumbers next) (seen_at lt) h)

  pub others_have : (next later : Next) → i < length xs → later ≡ past_name next (get_or xs i none).now → HaveNumbers next (seen (drop i xs)) → HaveNumbers later (seen (drop (i + 1) xs))
  others_have next later lt past h = later_have next later ((get_or xs i none).now ∷ []) fewer past (subst (HaveNumbers next) (seen_at lt) h)

  pub past_more : (next later whole : Next) → i < length xs → later ≡ past_name next (get_or xs i none).now → past_names next (seen (drop i xs)) ≡ whole → past_names later (seen (drop (i + 1) xs)) ≡ whole
  past_more next later whole lt past before = ap (λ n. past_names n fewer) past ∙ (sym (ap (past_names next) (seen_at lt)) ∙ before)

-- ## The first ones

abbrev pub started : ℕ → Next
started k = record { plain = k; added = 0 }

abbrev pub begun : ℕ → List Name → Next
begun k names = record { plain = k; added = (past_names (started k) names).plain }

plain_by : (t : Bool) (next : Next) → (past_by t next).plain ≤ next.plain + 1
plain_by true next = omega arith
plain_by false next = omega arith

plain_past : (next : Next) (xs : List Name) → (past_names next xs).plain ≤ next.plain + length xs
plain_past next [] = omega arith
plain_past next (x ∷ xs) = omega (arith, plain_past (past_name next x) xs, plain_by (is_added x) next)

pub few_started : (k : ℕ) (names : List (Bor (List ℕ))) → k + length names ≤ 262144 → HaveNumbers (started k) (seen names)
few_started k names few =
    let same : length (seen names) ≡ length names = length-map names bytes_of in
    record { plain = omega (arith, few, same); added = omega (arith, few, same) }

few_begun : (k : ℕ) (names : List Name) → k + length names ≤ 262144 → HaveNumbers (begun k names) names
few_begun k names few = let low = plain_past (started k) names in record { plain = omega (arith, few); added = omega (arith, few, low) }

few_first : (k most : ℕ) (names : List Name) → k + length names ≤ most → most ≤ 262144 → k + length names ≤ 262144
few_first k most names lower upper = omega (arith, lower, upper)

-- the first numbers of variables with these names, of which there are few
pub first_are : (m : Mode) (k most : ℕ) (is : BlockItems) (n : NextTree) (names : List (Bor (List ℕ))) → seen names ≡ names_of_block is → most ≡ most_local_cells m → most ≤ 262144 → k + length names ≤ most
    → next_of n ≡ begun k (seen names) → AreFirst m k is (Some n)
first_are m k most is n names are exact upper few numbered =
    let same : length (seen names) ≡ length names = length-map names bytes_of in
    let below : k + length (seen names) ≤ most = omega (arith, few, same) in
    let all : HaveNumbers (begun k (seen names)) (seen names) = few_begun k (seen names) (few_first k most (seen names) below upper) in
    let test : nat_le (k + length (names_of_block is)) (most_local_cells m) ≡ true = ap (λ ns. nat_le (k + length ns) (most_local_cells m)) (sym are) ∙ (ap (nat_le (k + length (seen names))) (sym exact) ∙ le-leb (k + length (seen names)) most below) in
    let found : next_of n ≡ first_numbers k is = numbered ∙ ap (begun k) are in
    (test, found, subst (λ ns. HaveNumbers (next_of n) ns) are (subst (λ x. HaveNumbers x (seen names)) (sym numbered) all))

pub none_first : (m : Mode) (k most : ℕ) (is : BlockItems) (names : List (Bor (List ℕ))) → seen names ≡ names_of_block is → most ≡ most_local_cells m → most < k + length names → AreFirst m k is None
none_first m k most is names are exact many =
    let same : length (seen names) ≡ length names = length-map names bytes_of in
    let above : most < k + length (seen names) = omega (arith, many, same) in
    ap (λ ns. nat_le (k + length ns) (most_local_cells m)) (sym are) ∙ (ap (nat_le (k + length (seen names))) (sym exact) ∙ lt-leb (k + length (seen names)) most above)
