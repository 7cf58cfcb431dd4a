-- The number of a member's name.
use Rattle.std.proofs.Common.{◌≡◌, ℕ, ◌+◌, ◌<◌, ◌≤◌, Bool, true, false, cond, zero, suc, List, [], ◌∷◌, length, map, drop, get_or, Option, Some, None, refl, ap, sym, ◌∙◌, arith}
use Rattle.std.specs.Prelude.{option_map, bytes_eq, slice_index_or}
use Rattle.std.proofs.lemmas.List.{drop_all}
use Rattle.c_check_values.specs.StructMember.{StructMember}
use Rattle.c_check_values.specs.Known.{Known, type_of}
use Rattle.c_check_values.specs.Shown.{knowns_of, members_types}
use Rattle.c_rules.specs.Scopes.{type_of_member}
use Rattle.c_tree.specs.Layout.{Structs, cells, first_cell}
use Rattle.c_tree.specs.Tree.{void}
use Rattle.c_tree.specs.View.{ctype_of}
use Rattle.c_check_values.proofs.PartsOfTypes.{at_place}
use Rattle.c_rules.specs.Names.{Name, number_among}
use Rattle.c_rules.specs.PostfixExpressions.{name_of_member}
use Rattle.c_check_values.specs.View.{member_of as member_seen}

abbrev pub names : List StructMember → List Name
names ms = map name_of_member (map member_seen (knowns_of ms))

-- the number of a name among members of which so many stand before
abbrev pub number_from : ℕ → List StructMember → Name → Option ℕ
number_from i ms x = option_map (λ k. i + k) (number_among (names ms) x)

from_none : (o : Option ℕ) → option_map (λ k. 0 + k) o ≡ o
from_none None = refl
from_none (Some k) = ap Some (omega arith)

pub from_first : (ms : List StructMember) (x : Name) → number_from 0 ms x ≡ number_among (names ms) x
from_first ms x = from_none (number_among (names ms) x)

one_later : (i : ℕ) (o : Option ℕ) → option_map (λ k. i + k) (option_map suc o) ≡ option_map (λ k. (i + 1) + k) o
one_later i None = refl
one_later i (Some k) = ap Some (omega arith)

abbrev chosen : Bool → ℕ → Option ℕ → Option ℕ
chosen t i o = option_map (λ k. i + k) (cond t (Some 0) (option_map suc o))

not_this : (i : ℕ) (t : Bool) (o : Option ℕ) → t ≡ false → chosen t i o ≡ option_map (λ k. (i + 1) + k) o
not_this i t o h = ap (λ b. chosen b i o) h ∙ one_later i o

this : (i : ℕ) (t : Bool) (o : Option ℕ) → t ≡ true → chosen t i o ≡ Some i
this i t o h = ap (λ b. chosen b i o) h ∙ ap Some (omega arith)

-- another member has this number
pub another : (ms : List StructMember) (x : Name) (i : ℕ) (m : StructMember) → i < length ms → m ≡ get_or ms i m → bytes_eq m.name.now x ≡ false → number_from i (drop i ms) x ≡ number_from (i + 1) (drop (i + 1) ms) x
another ms x i m h q e = ap (λ l. number_from i l x) (at_place ms i m h q) ∙ not_this i (bytes_eq m.name.now x) (number_among (names (drop (i + 1) ms)) x) e

pub no_more : (ms : List StructMember) (x : Name) (i : ℕ) → length ms ≤ i → number_from i (drop i ms) x ≡ None
no_more ms x i h = ap (λ l. number_from i l x) (drop_all i ms h)

-- ## Types and cells

types_of_knowns : (ks : List Known) → map type_of_member (map member_seen ks) ≡ map type_of ks
types_of_knowns [] = refl
types_of_knowns (k ∷ ks) = ap (λ ts. type_of k ∷ ts) (types_of_knowns ks)

pub types_are : (ms : List StructMember) → map type_of_member (map member_seen (knowns_of ms)) ≡ members_types ms
types_are ms = types_of_knowns (knowns_of ms)

pub type_is : (ms : List StructMember) (k : ℕ) (m : StructMember) → k < length ms → m ≡ get_or ms k m → ctype_of m.ctype ≡ slice_index_or (map type_of_member (map member_seen (knowns_of ms))) k void
type_is [] k m h q = absurd (omega (arith, h))
type_is (x ∷ ms) zero m h q = ap (λ y. ctype_of y.ctype) q
type_is (x ∷ ms) (suc k) m h q = type_is ms k m (omega (arith, h)) q

pub cell_told : (n : ℕ) (l : Structs) (ms : List StructMember) (k : ℕ) → n ≡ first_cell l (members_types ms) k → n ≡ first_cell l (map type_of_member (map member_seen (knowns_of ms))) k
cell_told n l ms k h = h ∙ ap (λ ts. first_cell l ts k) (sym (types_are ms))

pub cells_told : (n : ℕ) (l : Structs) (ms : List StructMember) (k : ℕ) → n ≡ cells l (slice_index_or (members_types ms) k void) → n ≡ cells l (slice_index_or (map type_of_member (map member_seen (knowns_of ms))) k void)
cells_told n l ms k h = h ∙ ap (λ ts. cells l (slice_index_or ts k void)) (sym (types_are ms))
