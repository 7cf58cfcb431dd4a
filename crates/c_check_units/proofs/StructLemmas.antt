-- The structs of an environment, one after another.
use Rattle.std.proofs.Common.{◌≡◌, inl, inr, ℕ, zero, suc, ◌+◌, ◌<◌, ◌≤◌, List, [], ◌∷◌, ◌++◌, length, map, take, get_or, Option, Some, None, slice_get, refl, ap, sym, subst, ◌∙◌, arith}
use Rattle.std.specs.Prelude.{unwrap_or}
use Rattle.std.proofs.lemmas.List.{length-map, map-append, length_push, take_all, take_more}
use Rattle.c_check_values.specs.StructMember.{StructMember}
use Rattle.c_check_values.specs.Known.{Known, type_of}
use Rattle.c_check_values.specs.Shown.{knowns_of, members_types}
use Rattle.c_rules.specs.Scopes.{Struct, incomplete, types_of_struct, type_of_member}
use Rattle.c_check_values.specs.View.{member_of}
use Rattle.c_tree.specs.Counts.{AreCounts}
use Rattle.c_tree.specs.declared.tree.CType.{CType as TypeTree}
use Rattle.c_tree.specs.declared.tree.StructMembers.{StructMembers}
use Rattle.c_tree.specs.Layout.{Structs, cells}
use Rattle.c_tree.specs.Tree.{CType, struct}
use Rattle.c_tree.specs.View.{ctype_of, ctypes_of, members_in}
use Rattle.c_rules.proofs.FileScopeLemmas.{within_or}

-- ## Members

known_types : (ks : List Known) → map type_of_member (map member_of ks) ≡ map type_of ks
known_types [] = refl
known_types (k ∷ ks) = ap (λ ts. type_of k ∷ ts) (known_types ks)

pub types_shown : (ms : List StructMember) (ts : List CType) → ts ≡ members_types ms → Some ts ≡ Some (map type_of_member (map member_of (knowns_of ms)))
types_shown ms ts is = ap Some (is ∙ sym (known_types (knowns_of ms)))

shown_append : (xs ys : List StructMember) → members_types (xs ++ ys) ≡ members_types xs ++ members_types ys
shown_append [] ys = refl
shown_append (x ∷ xs) ys = ap (λ ts. ctype_of x.ctype ∷ ts) (shown_append xs ys)

pub types_more : (ms : List StructMember) (i : ℕ) (m : StructMember) (old new : List TypeTree) (t : TypeTree) → i < length ms → m ≡ get_or ms i m → ctypes_of old ≡ members_types (take i ms) → ctype_of t ≡ ctype_of m.ctype → new ≡ old ++ t ∷ []
    → ctypes_of new ≡ members_types (take (i + 1) ms)
types_more ms i m old new t lt is before same step =
    let more : take (i + 1) ms ≡ take i ms ++ m ∷ [] = take_more ms i m lt ∙ ap (λ y. take i ms ++ y ∷ []) (sym is) in
    let shown : members_types (take i ms ++ m ∷ []) ≡ members_types (take i ms) ++ ctype_of m.ctype ∷ [] = shown_append (take i ms) (m ∷ []) in
    ap ctypes_of step
    ∙ (map-append ctype_of old (t ∷ []) ∙ (λ j. before j ++ same j ∷ []) ∙ sym (ap members_types more ∙ shown))

pub types_all : (ms : List StructMember) (i : ℕ) (ts : List CType) → length ms ≤ i → ts ≡ members_types (take i ms) → ts ≡ members_types ms
types_all ms i ts over is = is ∙ ap members_types (take_all i ms over)

-- ## Structs

struct_at : (xs : List Struct) (i : ℕ) → i < length xs → get_or (map types_of_struct xs) i None ≡ types_of_struct (unwrap_or (slice_get xs i) incomplete)
struct_at [] i lt = absurd (omega (arith, lt))
struct_at (x ∷ xs) zero lt = refl
struct_at (x ∷ xs) (suc i) lt = struct_at xs i (omega (arith, lt))

pub structs_more : (xs : List Struct) (n i : ℕ) (m : StructMembers) (old new : List StructMembers) → i < n → members_in m ≡ types_of_struct (unwrap_or (slice_get xs i) incomplete)
    → (length xs ≡ n → map members_in old ≡ take i (map types_of_struct xs)) → new ≡ old ++ m ∷ [] → length xs ≡ n → map members_in new ≡ take (i + 1) (map types_of_struct xs)
structs_more xs n i m old new lt is before step size =
    let within : i < length xs = subst (λ k. i < k) (sym size) lt in
    let long : i < length (map types_of_struct xs) = subst (λ k. i < k) (sym (length-map xs types_of_struct)) within in
    ap (map members_in) step
    ∙ (map-append members_in old (m ∷ [])
    ∙ ((λ j. before size j ++ (is ∙ sym (struct_at xs i within)) j ∷ []) ∙ sym (take_more (map types_of_struct xs) i None long)))

pub structs_all : (xs : List Struct) (n i : ℕ) (ms : List StructMembers) → n ≤ i → (length xs ≡ n → map members_in ms ≡ take i (map types_of_struct xs)) → length xs ≡ n → map members_in ms ≡ map types_of_struct xs
structs_all xs n i ms over before size =
    let long : length (map types_of_struct xs) ≤ i = subst (λ k. k ≤ i) (sym (length-map xs types_of_struct ∙ size)) over in
    before size ∙ take_all i (map types_of_struct xs) long

-- ## Cells

abbrev none_or_some : {A : Type 0} → Option A → Type 0
none_or_some None = Unit {0}
none_or_some (Some x) = ⊥

none_some : {A : Type 0} (x : A) → None ≡ Some x → ⊥
none_some x h = subst none_or_some h tt

some_within : {A : Type 0} (xs : List A) (i : ℕ) (x : A) → slice_get xs i ≡ Some x → i < length xs
some_within [] i x h = absurd (none_some x h)
some_within (y ∷ ys) zero x h = omega arith
some_within (y ∷ ys) (suc i) x h = let k : i < length ys = some_within ys i x h in omega (arith, k)

get_pushed : (xs : List ℕ) (y i : ℕ) → i ≡ length xs → slice_get (xs ++ y ∷ []) i ≡ Some y
get_pushed [] y zero h = refl
get_pushed [] y (suc i) h = absurd (omega (arith, h))
get_pushed (x ∷ xs) y zero h = absurd (omega (arith, h))
get_pushed (x ∷ xs) y (suc i) h = get_pushed xs y i (omega (arith, h))

get_kept : (xs : List ℕ) (y i : ℕ) → i < length xs → slice_get (xs ++ y ∷ []) i ≡ slice_get xs i
get_kept [] y i h = absurd (omega (arith, h))
get_kept (x ∷ xs) y zero h = refl
get_kept (x ∷ xs) y (suc i) h = get_kept xs y i (omega (arith, h))

pub record HaveCells (structs : Structs) (n : ℕ) (counts : List ℕ) : Type 0 where
  pub long : length counts ≡ n
  pub each : (k : ℕ) → k < n → slice_get counts k ≡ Some (cells structs (struct k))

pub cells_none : (structs : Structs) → HaveCells structs 0 []
cells_none structs = record { long = refl; each = λ k h. absurd (omega (arith, h)) }

last_or : (structs : Structs) (n c : ℕ) (old : List ℕ) (k : ℕ) → HaveCells structs n old → c ≡ cells structs (struct n) → k < n + 1 → slice_get (old ++ c ∷ []) k ≡ Some (cells structs (struct k))
last_or structs n c old k have is h =
    elim (within_or k n) as (λ _. slice_get (old ++ c ∷ []) k ≡ Some (cells structs (struct k))) [
      | inl l ↦ get_kept old c k (subst (λ m. k < m) (sym have.long) l) ∙ have.each k l
      | inr l ↦ (let same : k ≡ n = omega (arith, l, h) in get_pushed old c k (same ∙ sym have.long) ∙ ap Some (is ∙ ap (λ m. cells structs (struct m)) (sym same)))
    ]

pub cells_more : (structs : Structs) (n c : ℕ) (old new : List ℕ) → HaveCells structs n old → c ≡ cells structs (struct n) → new ≡ old ++ c ∷ [] → HaveCells structs (n + 1) new
cells_more structs n c old new have is step = record {
  long = (let l : length (old ++ c ∷ []) ≡ length old + 1 = length_push old c in ap length step ∙ (l ∙ ap (λ k. k + 1) have.long));
  each = λ k h. ap (λ xs. slice_get xs k) step ∙ last_or structs n c old k have is h;
}

pub cells_all : (structs : Structs) (n i : ℕ) (counts : List ℕ) → n ≤ i → HaveCells structs i counts → length structs ≡ n → AreCounts structs counts
cells_all structs n i counts over have size = λ s ts h. have.each s (let w : s < length structs = some_within structs s (Some ts) h in let z : length structs ≡ n = size in omega (arith, w, z, over))
