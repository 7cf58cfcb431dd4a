-- The structs of an environment as the layout of objects has them.
use Rattle.std.proofs.Common.{◌≡◌, ℕ, suc, Bool, true, false, ◌||◌, cond, List, [], ◌∷◌, ◌++◌, length, map, Option, Some, None, slice_get, refl, ap, sym, subst, ◌∙◌, Bor}
use Rattle.std.specs.Prelude.{◌<◌, ◌^◌, option_map, unwrap_or, is_some, SomeIff, bytes_eq, reverse}
use Rattle.std.proofs.lemmas.List.{length-map, reverse-append}
use Rattle.std.proofs.lemmas.Option.{slice_get-map}
use Rattle.c_tree.specs.Layout.{Structs, cells, cells_of_all}
use Rattle.c_tree.specs.Tree.{struct}
use Rattle.c_check_scopes.specs.declared.structs.StructMember.{StructMember}
use Rattle.c_check_scopes.specs.Shown.{defined_in, knowns_of, members_types}
use Rattle.c_rules.specs.Names.{Name, number_among, is_among}
use Rattle.c_check_scopes.proofs.NumberLemmas.{or_new, number_pushed}
use Rattle.c_check_scopes.specs.Known.{Known, layout_of, type_of}
use Rattle.c_rules.specs.Scopes.{Member, defined_struct, incomplete, types_of_struct, type_of_member}
use Rattle.c_check_scopes.specs.View.{member_of, struct_known, structs_of, struct_in}

types_seen : (ks : List Known) → map type_of_member (map member_of ks) ≡ map type_of ks
types_seen [] = refl
types_seen (k ∷ ks) = ap (λ ts. type_of k ∷ ts) (types_seen ks)

struct_seen : (o : Option (List Known)) → types_of_struct (struct_known o) ≡ option_map (map type_of) o
struct_seen None = refl
struct_seen (Some ks) = ap Some (types_seen ks)

pub layout_seen : (v : List (Option (List Known))) → map types_of_struct (structs_of v) ≡ layout_of v
layout_seen [] = refl
layout_seen (o ∷ v) = ap (λ x. x ∷ map types_of_struct (structs_of v)) (struct_seen o) ∙ ap (λ ys. option_map (map type_of) o ∷ ys) (layout_seen v)

known_or : (o : Option (Option (List Known))) → unwrap_or (option_map struct_known o) incomplete ≡ struct_known (unwrap_or o None)
known_or None = refl
known_or (Some o) = refl

-- a struct by its number
pub struct_at : (v : List (Option (List Known))) (s : ℕ) → unwrap_or (slice_get (structs_of v) s) incomplete ≡ struct_known (unwrap_or (slice_get v s) None)
struct_at v s = ap (λ o. unwrap_or o incomplete) (slice_get-map struct_known v s) ∙ known_or (slice_get v s)

-- what a table of structs tells of an environment, where it is below 2^32
pub number_told : (F : Structs → ℕ) (v : List (Option (List Known))) (r : Option ℕ) → SomeIff r (F (layout_of v) < 2 ^ 32) (F (layout_of v))
    → SomeIff r (F (map types_of_struct (structs_of v)) < 2 ^ 32) (F (map types_of_struct (structs_of v)))
number_told F v r h = subst (λ l. SomeIff r (F l < 2 ^ 32) (F l)) (sym (layout_seen v)) h

pub number_is : (F : Structs → ℕ) (v : List (Option (List Known))) (n : ℕ) → n ≡ F (layout_of v) → n ≡ F (map types_of_struct (structs_of v))
number_is F v n h = h ∙ ap F (sym (layout_seen v))

pub few_seen : (F : Structs → ℕ) (v : List (Option (List Known))) → F (map types_of_struct (structs_of v)) < 2 ^ 32 → F (layout_of v) < 2 ^ 32
few_seen F v few = subst (λ l. F l < 2 ^ 32) (layout_seen v) few

same_members : (xs ys : List Member) → defined_struct xs ≡ defined_struct ys → xs ≡ ys
same_members xs ys h = cc

not_defined : (xs : List Member) → incomplete ≡ defined_struct xs → ⊥
not_defined xs h = cc

members_there : (o : Option (Option (List Known))) (ms : List Member) → struct_known (unwrap_or o None) ≡ defined_struct ms → (us : List Known) × (o ≡ Some (Some us)) × (map type_of us ≡ map type_of_member ms)
members_there None ms h = absurd (not_defined ms h)
members_there (Some None) ms h = absurd (not_defined ms h)
members_there (Some (Some us)) ms h = (us, refl, sym (types_seen us) ∙ ap (λ xs. map type_of_member xs) (same_members (map member_of us) ms h))

-- the members of a struct with a definition have few cells
pub few_members : (v : List (Option (List Known))) (s : ℕ) (ms : List StructMember) → ((ks : List Known) → slice_get v s ≡ Some (Some ks) → cells_of_all (layout_of v) (map type_of ks) < 2 ^ 32)
    → unwrap_or (slice_get (structs_of v) s) incomplete ≡ defined_struct (map member_of (knowns_of ms)) → cells_of_all (map types_of_struct (structs_of v)) (members_types ms) < 2 ^ 32
few_members v s ms few is =
    let w = members_there (slice_get v s) (map member_of (knowns_of ms)) (sym (struct_at v s) ∙ is) in
    subst (λ l. cells_of_all l (members_types ms) < 2 ^ 32) (sym (layout_seen v)) (subst (λ ts. cells_of_all (layout_of v) ts < 2 ^ 32) (w.2 ∙ types_seen (knowns_of ms)) (few w.0 w.1))

-- a struct with a definition has the cells of its members
pub whole_seen : (v : List (Option (List Known))) (s : ℕ) (ms : List Member) → ((ks : List Known) → slice_get v s ≡ Some (Some ks) → cells (layout_of v) (struct s) ≡ cells_of_all (layout_of v) (map type_of ks))
    → unwrap_or (slice_get (structs_of v) s) incomplete ≡ defined_struct ms → cells (map types_of_struct (structs_of v)) (struct s) ≡ cells_of_all (map types_of_struct (structs_of v)) (map type_of_member ms)
whole_seen v s ms whole is =
    let w = members_there (slice_get v s) ms (sym (struct_at v s) ∙ is) in
    subst (λ l. cells l (struct s) ≡ cells_of_all l (map type_of_member ms)) (sym (layout_seen v)) (whole w.0 w.1 ∙ ap (cells_of_all (layout_of v)) w.2)

-- how many structs there are
pub count_seen : (v : List (Option (List Known))) (n : ℕ) → n ≡ length v → n ≡ length (map types_of_struct (structs_of v))
count_seen v n is = is ∙ sym (length-map (structs_of v) types_of_struct ∙ length-map v struct_known)

pub struct_told : (v : List (Option (List Known))) (s : ℕ) (r : Option (Bor (List StructMember))) → defined_in r ≡ unwrap_or (slice_get v s) None → unwrap_or (slice_get (structs_of v) s) incomplete ≡ struct_in r
struct_told v s r h = struct_at v s ∙ ap struct_known (sym h)

-- a name among names the other way round
new_or : (o : Option ℕ) (t : Bool) (n : ℕ) → is_some (or_new o t n) ≡ (is_some o || t)
new_or None true n = refl
new_or None false n = refl
new_or (Some i) t n = refl

among_pushed : (ys : List Name) (y x : Name) → is_among (ys ++ y ∷ []) x ≡ (is_among ys x || bytes_eq y x)
among_pushed ys y x = ap is_some (number_pushed ys y x) ∙ new_or (number_among ys x) (bytes_eq y x) (length ys)

among_head : (t : Bool) (o : Option ℕ) → is_some (cond t (Some 0) (option_map suc o)) ≡ (t || is_some o)
among_head true o = refl
among_head false None = refl
among_head false (Some i) = refl

or_swapped : (a b : Bool) → (a || b) ≡ (b || a)
or_swapped true true = refl
or_swapped true false = refl
or_swapped false true = refl
or_swapped false false = refl

reverse_cons : (y : Name) (ys : List Name) → reverse (y ∷ ys) ≡ reverse ys ++ y ∷ []
reverse_cons y ys = reverse-append (y ∷ []) ys

pub among_reverse : (ys : List Name) (x : Name) → is_among (reverse ys) x ≡ is_among ys x
among_reverse [] x = refl
among_reverse (y ∷ ys) x =
    ap (λ zs. is_among zs x) (reverse_cons y ys)
    ∙ (among_pushed (reverse ys) y x ∙ (ap (λ t. t || bytes_eq y x) (among_reverse ys x) ∙ (or_swapped (is_among ys x) (bytes_eq y x) ∙ sym (among_head (bytes_eq y x) (number_among ys x)))))
