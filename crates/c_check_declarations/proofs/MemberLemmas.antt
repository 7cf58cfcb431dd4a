-- Members of structs of Rust, as the rules have them.
use Rattle.std.proofs.Common.{◌≡◌, ℕ, zero, suc, ◌≤◌, List, [], ◌∷◌, length, map, Option, Some, None, slice_get, slice_set, refl, sym, ap, subst, ◌∙◌}
use Rattle.std.specs.Prelude.{unwrap_or}
use Rattle.std.proofs.lemmas.List.{length-map, map-set}
use Rattle.c_check_values.specs.StructMember.{StructMember}
use Rattle.c_check_values.specs.Known.{Known, layout_of}
use Rattle.c_check_values.specs.Shown.{known_of, knowns_of, members_types}
use Rattle.c_rules.specs.Scopes.{Env, defined_struct, incomplete, type_of_member, types_of_struct, tag_number, with_struct}
use Rattle.c_rules.specs.Limits.{most_cells}
use Rattle.c_check_values.specs.Held.{AllInAll, IsDefined}
use Rattle.c_check_values.proofs.SeenLemmas.{layout_seen}
use Rattle.c_tree.specs.Layout.{cells_of_all}
use Rattle.c_check_values.specs.View.{member_of, struct_known, structs_of}
use Rattle.c_check_declarations.specs.Members.{members_of}
use Rattle.c_tree.specs.View.{ctype_of}

pub types_are : (ms : List StructMember) → map type_of_member (members_of ms) ≡ members_types ms
types_are [] = refl
types_are (m ∷ ms) = ap (λ ts. ctype_of m.ctype ∷ ts) (types_are ms)

pub count_is : (ms : List StructMember) → length (members_of ms) ≡ length ms
count_is ms = length-map (knowns_of ms) member_of ∙ length-map ms known_of

-- a struct with its members
defined_at : (v : List (Option (List Known))) (s : ℕ) (ks : List Known) → structs_of (slice_set v s (Some ks)) ≡ slice_set (structs_of v) s (defined_struct (map member_of ks))
defined_at v s ks = map-set struct_known v s (Some ks)

put_in : (env : Env) (tag : List ℕ) (number : ℕ) (v new : List (Option (List Known))) (ks : List Known) → env.structs ≡ structs_of v → number ≡ tag_number env tag → new ≡ slice_set v number (Some ks)
    → structs_of new ≡ slice_set env.structs (tag_number env tag) (defined_struct (map member_of ks))
put_in env tag number v new ks seen is step =
    ap structs_of step ∙ (defined_at v number ks ∙ (λ i. slice_set (sym seen i) (is i) (defined_struct (map member_of ks))))

pub put_is : (env : Env) (tag : List ℕ) (number : ℕ) (v new : List (Option (List Known))) (ks : List Known) → env.structs ≡ structs_of v → number ≡ tag_number env tag → new ≡ slice_set v number (Some ks)
    → record env { structs = structs_of new } ≡ with_struct env tag (defined_struct (map member_of ks))
put_is env tag number v new ks seen is step = let h : structs_of new ≡ slice_set env.structs (tag_number env tag) (defined_struct (map member_of ks)) = put_in env tag number v new ks seen is step in λ i. record env { structs = h i }

struct_defined : (ks : List Known) → defined_struct (map member_of ks) ≡ incomplete → ⊥
struct_defined ks h = cc

-- a struct without a definition, by its number in Rust
pub still_open : (v : List (Option (List Known))) (s : ℕ) → unwrap_or (slice_get (structs_of v) s) incomplete ≡ incomplete → unwrap_or (slice_get v s) None ≡ None
still_open [] s h = refl
still_open (None ∷ v) zero h = refl
still_open (Some ks ∷ v) zero h = absurd (struct_defined ks h)
still_open (o ∷ v) (suc s) h = still_open v s h

-- members that hold structs with definitions, and their cells
pub members_known : (v : List (Option (List Known))) (ms : List StructMember) → AllInAll (IsDefined (map types_of_struct (structs_of v))) (map type_of_member (members_of ms)) → AllInAll (IsDefined (layout_of v)) (members_types ms)
members_known v ms known = subst (λ l. AllInAll (IsDefined l) (members_types ms)) (layout_seen v) (subst (AllInAll (IsDefined (map types_of_struct (structs_of v)))) (types_are ms) known)

pub members_few : (v : List (Option (List Known))) (ms : List StructMember) → cells_of_all (map types_of_struct (structs_of v)) (map type_of_member (members_of ms)) ≤ most_cells → cells_of_all (layout_of v) (members_types ms) ≤ most_cells
members_few v ms few = subst (λ l. cells_of_all l (members_types ms) ≤ most_cells) (layout_seen v) (subst (λ ts. cells_of_all (map types_of_struct (structs_of v)) ts ≤ most_cells) (types_are ms) few)
