-- The cells of arrays, of members and of structs, by the numbers of cells of structs.
use Rattle.std.proofs.Common.{◌≡◌, ◌⊎◌, inl, inr, ℕ, zero, suc, ◌+◌, ◌-◌, ◌*◌, ◌≤◌, List, [], ◌∷◌, ◌++◌, length, length-append, drop, drop-cons, get_or, Some, slice_get, ap, sym, subst, ◌∙◌, refl, ◌<◌, arith}
use Rattle.std.specs.Prelude.{map}
use Rattle.std.proofs.lemmas.List.{length-map, drop_all, get_or_past}
use Rattle.std.proofs.lemmas.Bool.{cases_lt}
pub use Rattle.std.proofs.lemmas.Option.{slice_get_past as none_there}
use Rattle.c_tree.specs.declared.tree.CType.{CType as TypeTree}
use Rattle.c_tree.specs.declared.tree.StructMembers.{StructMembers}
use Rattle.c_tree.specs.Tree.{CType, array}
use Rattle.c_tree.specs.Layout.{Structs, flat_with, flat_all_with, layout, or_none}
use Rattle.c_tree.specs.View.{ctype_of, ctypes_of, members_in}
use Rattle.ref_machine_frames.specs.Cells.{AreCells, AreCounted, kept}
use Rattle.c_tree.proofs.CountLemmas.{length-repeat}

-- a sum of numbers as they are kept
kept_sum : (a b rest : ℕ) → kept (kept (a + kept b) + rest) ≡ kept (a + (b + rest))
kept_sum a b rest = omega arith

-- so many of a number as it is kept
kept_times : (n a : ℕ) → kept (kept a * n) ≡ kept (n * a)
kept_times zero a = let e : kept a * 0 ≡ 0 = grind arith in let f : 0 * a ≡ 0 = grind arith in omega (arith, e, f)
kept_times (suc n) a =
    let e : kept a * suc n ≡ kept a * n + kept a = grind arith in
    let f : suc n * a ≡ n * a + a = grind arith in
    let h : kept (kept a * n) ≡ kept (n * a) = kept_times n a in
    omega (arith, e, f, h)

-- so many elements
pub array_counted : (types : ℕ → List CType) (t u : CType) (n each all : ℕ) → u ≡ array t n → each ≡ kept (length (flat_with types t)) → all ≡ kept (each * n) → all ≡ kept (length (flat_with types u))
array_counted types t u n each all is one product =
    product
    ∙ (ap (λ k. kept (k * n)) one
    ∙ (kept_times n (length (flat_with types t))
    ∙ (ap kept (sym (length-repeat n (flat_with types t)))
    ∙ ap (λ u. kept (length (flat_with types u))) (sym is))))

-- the types from one place on begin with that at the place
first_left : (ts : List TypeTree) (i : ℕ) (t : TypeTree) → i < length ts → t ≡ get_or ts i t → ctypes_of (drop i ts) ≡ ctype_of t ∷ ctypes_of (drop (i + 1) ts)
first_left ts i t lt is =
    let next : suc i ≡ i + 1 = omega arith in
    ap ctypes_of (drop-cons ts i t lt) ∙ (ap (λ u. ctype_of u ∷ ctypes_of (drop (suc i) ts)) (sym is) ∙ ap (λ k. ctype_of t ∷ ctypes_of (drop k ts)) next)

-- one type more
pub type_step : (types : ℕ → List CType) (ts : List TypeTree) (i : ℕ) (t : TypeTree) (all sum count more : ℕ) → i < length ts → t ≡ get_or ts i t → all ≡ kept (sum + length (flat_all_with types (ctypes_of (drop i ts)))) → count ≡ kept (length (flat_with types (ctype_of t))) → more ≡ kept (sum + count) → all ≡ kept (more + length (flat_all_with types (ctypes_of (drop (i + 1) ts))))
type_step types ts i t all sum count more lt is before each sums =
    let rest = flat_all_with types (ctypes_of (drop (i + 1) ts)) in
    before
    ∙ (ap (λ us. kept (sum + length (flat_all_with types us))) (first_left ts i t lt is)
    ∙ (ap (λ k. kept (sum + k)) (length-append (flat_with types (ctype_of t)) rest)
    ∙ (sym (kept_sum sum (length (flat_with types (ctype_of t))) (length rest))
    ∙ (ap (λ k. kept (kept (sum + k) + length rest)) (sym each)
    ∙ ap (λ k. kept (k + length rest)) (sym sums)))))

-- no type is left
pub types_done : (types : ℕ → List CType) (ts : List TypeTree) (i all sum : ℕ) → length ts ≤ i → sum ≤ 65537 → all ≡ kept (sum + length (flat_all_with types (ctypes_of (drop i ts)))) → sum ≡ all
types_done types ts i all sum le small before =
    let none : kept (sum + length (flat_all_with types (ctypes_of (drop i ts)))) ≡ kept (sum + 0) = ap (λ us. kept (sum + length (flat_all_with types (ctypes_of us)))) (drop_all i ts le) in
    omega (arith, before, none, small)

-- the structs so far have these numbers
abbrev pub CountedTo : (ℕ → List CType) → List ℕ → Type 0
CountedTo types counts = (s : ℕ) → s < length counts → get_or counts s 0 ≡ kept (length (types s))

-- one struct more
struct_counted : (types : ℕ → List CType) (counts : List ℕ) (k : ℕ) → CountedTo types counts → k ≡ kept (length (types (length counts))) → CountedTo types (counts ++ (k ∷ []))
struct_counted types [] k h e zero lt = e
struct_counted types [] k h e (suc s) lt = absurd (omega (arith, lt))
struct_counted types (c ∷ cs) k h e zero lt = h zero (omega arith)
struct_counted types (c ∷ cs) k h e (suc s) lt = struct_counted (λ s. types (suc s)) cs k (λ s l. h (suc s) (omega (arith, l))) e s (omega (arith, lt))

-- the members of the struct at its place
at_its_place : (structs : Structs) (depth i : ℕ) (members : _) (k : ℕ) → slice_get structs i ≡ Some members → k ≡ kept (length (flat_all_with (layout structs depth) (or_none (Some members)))) → k ≡ kept (length (layout structs (suc depth) i))
at_its_place structs depth i members k found e =
    e ∙ ap (λ o. kept (length (flat_all_with (layout structs depth) (or_none o)))) (sym found)

found_at : (xs : List StructMembers) (i : ℕ) (m : StructMembers) → i < length xs → m ≡ get_or xs i m → slice_get (map members_in xs) i ≡ Some (members_in m)
found_at [] i m lt is = absurd (omega (arith, lt))
found_at (x ∷ xs) zero m lt is = ap (λ y. Some (members_in y)) (sym is)
found_at (x ∷ xs) (suc i) m lt is = found_at xs i m (omega (arith, lt)) is

-- the loop over structs
pub struct_step : (structs : List StructMembers) (counts next new : List ℕ) (i : ℕ) (m : StructMembers) (count : ℕ) → i < length structs → m ≡ get_or structs i m → length next ≡ i → ((depth : ℕ) → AreCounted (layout (map members_in structs) depth) counts → CountedTo (layout (map members_in structs) (suc depth)) next) → ((types : ℕ → List CType) → AreCounted types counts → count ≡ kept (length (flat_all_with types (or_none (Some (members_in m)))))) → new ≡ next ++ (count ∷ []) → (depth : ℕ) → AreCounted (layout (map members_in structs) depth) counts → CountedTo (layout (map members_in structs) (suc depth)) new
struct_step structs counts next new i m count lt is many before here grown depth h =
    let S : Structs = map members_in structs in
    let at : count ≡ kept (length (layout S (suc depth) i)) = at_its_place S depth i (members_in m) count (found_at structs i m lt is) (here (layout S depth) h) in
    subst (CountedTo (layout S (suc depth))) (sym grown) (struct_counted (layout S (suc depth)) next count (before depth h) (at ∙ ap (λ k. kept (length (layout S (suc depth) k))) (sym many)))

-- all structs have their numbers, and there are no others
pub structs_done : (structs : List StructMembers) (next : List ℕ) (i depth : ℕ) → length next ≡ i → length structs ≤ i → i ≤ length structs → CountedTo (layout (map members_in structs) (suc depth)) next → AreCounted (layout (map members_in structs) (suc depth)) next
structs_done structs next i depth many le ge h s = at (cases_lt s (length next))
  where
    S : Structs
    S = map members_in structs

    at : (s < length next) ⊎ (length next ≤ s) → get_or next s 0 ≡ kept (length (layout S (suc depth) s))
    at (inl lt) = h s lt
    at (inr past) =
        let all : length S ≤ s = omega (arith, past, many, le, length-map structs members_in) in
        get_or_past next s 0 past ∙ ap (λ o. kept (length (flat_all_with (layout S depth) (or_none o)))) (sym (none_there S s all))

-- where one level more changes nothing, none does
settled : (structs : Structs) (counts : List ℕ) → ((depth : ℕ) → AreCounted (layout structs depth) counts → AreCounted (layout structs (suc depth)) counts) → (more depth all : ℕ) → all ≡ more + depth → AreCounted (layout structs depth) counts → AreCounted (layout structs all) counts
settled structs counts deeper zero depth all e h =
    let same : depth ≡ all = omega (arith, e) in subst (λ d. AreCounted (layout structs d) counts) same h
settled structs counts deeper (suc more) depth all e h =
    let same : suc (more + depth) ≡ all = omega (arith, e) in
    subst (λ d. AreCounted (layout structs d) counts) same (deeper (more + depth) (settled structs counts deeper more depth (more + depth) refl h))

-- the loop over structs that hold none
pub none_step : (counts new : List ℕ) → AreCounted (λ s. []) counts → new ≡ counts ++ (0 ∷ []) → AreCounted (λ s. []) new
none_step counts new h grown = subst (AreCounted (λ s. [])) (sym grown) (at counts h)
  where
    at : (counts : List ℕ) → AreCounted (λ s. []) counts → AreCounted (λ s. []) (counts ++ (0 ∷ []))
    at [] h zero = refl
    at [] h (suc s) = refl
    at (c ∷ cs) h zero = h zero
    at (c ∷ cs) h (suc s) = at cs (λ s. h (suc s)) s

-- a round of all structs
pub round_step : (structs seen : List StructMembers) (counts copy next : List ℕ) (depth : ℕ) → seen ≡ structs → copy ≡ counts → ((depth : ℕ) → AreCounted (layout (map members_in seen) depth) copy → AreCounted (layout (map members_in seen) (suc depth)) next) → AreCounted (layout (map members_in structs) depth) counts → AreCounted (layout (map members_in structs) (depth + 1)) next
round_step structs seen counts copy next depth e f deeper h =
    let more : suc depth ≡ depth + 1 = omega arith in
    subst (λ d. AreCounted (layout (map members_in structs) d) next) more
    (subst (λ s. AreCounted (layout (map members_in s) (suc depth)) next) e (deeper depth (subst (λ s. AreCounted (layout (map members_in s) depth) copy) (sym e) (subst (AreCounted (layout (map members_in structs) depth)) (sym f) h))))

-- all rounds are done
pub rounds_done : (structs all : List StructMembers) (counts : List ℕ) (depth : ℕ) → structs ≡ all → depth ≡ length structs → AreCounted (layout (map members_in structs) depth) counts → AreCells (map members_in all) counts
rounds_done structs all counts depth e d h =
    subst (λ s. AreCounted (layout (map members_in s) (length (map members_in s))) counts) e (subst (λ k. AreCounted (layout (map members_in structs) k) counts) (d ∙ sym (length-map structs members_in)) h)

-- a round changed nothing
pub rounds_settled : (structs all : List StructMembers) (counts copy next : List ℕ) (depth : ℕ) → structs ≡ all → copy ≡ counts → next ≡ counts → depth < length structs → ((depth : ℕ) → AreCounted (layout (map members_in structs) depth) copy → AreCounted (layout (map members_in structs) (suc depth)) next) → AreCounted (layout (map members_in structs) depth) counts → AreCells (map members_in all) counts
rounds_settled structs all counts copy next depth e f same lt deeper h =
    let steps : (d : ℕ) → AreCounted (layout (map members_in structs) d) counts → AreCounted (layout (map members_in structs) (suc d)) counts = λ d k. subst (AreCounted (layout (map members_in structs) (suc d))) same (deeper d (subst (AreCounted (layout (map members_in structs) d)) (sym f) k)) in
    let left : length structs ≡ (length structs - depth) + depth = omega (arith, lt) in
    rounds_done structs all counts (length structs) e refl (settled (map members_in structs) counts steps (length structs - depth) depth (length structs) left h)
