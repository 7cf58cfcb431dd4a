-- The marks of sites, and the functions of a program one after another.
use Rattle.std.proofs.Common.{◌≡◌, inl, inr, ℕ, zero, suc, ◌+◌, ◌<◌, ◌≤◌, Bool, true, false, if◌then◌else◌, List, [], ◌∷◌, ◌++◌, map, filter, length, take, get_or, replicate, Some, None, slice_get, slice_index_or, refl, sym, ap, ap₂, ◌∙◌, arith}
use Rattle.std.specs.List.{range_with_len}
use Rattle.std.proofs.lemmas.List.Elements.{filter-append}
use Rattle.std.proofs.lemmas.List.{append_assoc, append-nil, take_more, take_all, map-append}
use Rattle.std.proofs.lemmas.Option.{slice_get_within, get_or_from_slice_get}
use Rattle.sys_table.specs.declared.kinds.ArgKind.{ArgKind}
use Rattle.c_tree.specs.declared.tree.Function.{Function as FunctionTree}
use Rattle.c_tree.specs.Tree.{Function, Program}
use Rattle.c_tree.specs.Functions.{defined}
use Rattle.c_tree.specs.Program.{IsProgram}
use Rattle.c_tree.specs.View.{stmt_of, function_of}
use Rattle.c_meaning.specs.Shape.{Shape}
use Rattle.c_meaning.specs.CallGraph.{marked, marked_where}
use Rattle.c_meaning.specs.ShapeOf.{any_call, taken_calls, shapes_of_functions}
use Rattle.flow_graph.proofs.SitesLemmas.{no_site}
use Rattle.flow_graph.specs.declared.shape.Shape.{Shape as Tree}
use Rattle.flow_graph.specs.View.{shape_of, shapes_in}
use Rattle.flow_graph.specs.Sited.{stmt_at}
use Rattle.flow_graph.proofs.Told.{defined_told}
pub use Rattle.flow_graph.proofs.BelowOrAt.{below_or_at}
use Rattle.c_meaning.proofs.Rounds.{range_append}
pub use Rattle.flow_graph.proofs.ArgumentLemmas.{nothing}

past_end : (xs : List Bool) (s : ℕ) → length xs ≤ s → slice_index_or xs s false ≡ false
past_end [] zero le = refl
past_end [] (suc s) le = refl
past_end (x ∷ xs) zero le = absurd (omega (arith, le))
past_end (x ∷ xs) (suc s) le = past_end xs s (omega (arith, le))

at_end : (xs : List Bool) (b : Bool) (k : ℕ) → k ≡ length xs → slice_index_or (xs ++ b ∷ []) k false ≡ b
at_end [] b zero e = refl
at_end [] b (suc k) e = absurd (omega (arith, e))
at_end (x ∷ xs) b zero e = absurd (omega (arith, e))
at_end (x ∷ xs) b (suc k) e = at_end xs b k (omega (arith, e))

before_end : (xs : List Bool) (b : Bool) (k : ℕ) → k < length xs → slice_index_or (xs ++ b ∷ []) k false ≡ slice_index_or xs k false
before_end [] b k lt = absurd (omega (arith, lt))
before_end (x ∷ xs) b zero lt = refl
before_end (x ∷ xs) b (suc k) lt = before_end xs b k (omega (arith, lt))

-- the sites below i have their marks
pub record AreMarks (mark : ℕ → Bool) (i : ℕ) (xs : List Bool) : Type 0 where
  pub many : length xs ≡ i
  pub are : (s : ℕ) → s < i → slice_index_or xs s false ≡ mark s

pub mark_more : (mark : ℕ → Bool) (i : ℕ) (old new : List Bool) (b : Bool) → AreMarks mark i old → new ≡ old ++ b ∷ [] → b ≡ mark i → AreMarks mark (i + 1) new
mark_more mark i old new b before is right = record {
  many = let e : length new ≡ length (old ++ b ∷ []) = ap length is in let l = long old in omega (arith, e, l, before.many);
  are = λ s lt. ap (λ xs. slice_index_or xs s false) is
      ∙ (elim (below_or_at s i) as (λ _. slice_index_or (old ++ b ∷ []) s false ≡ mark s) [
        | inl below ↦ before_end old b s (omega (arith, below, before.many)) ∙ before.are s below
        | inr over ↦ (let at : s ≡ i = omega (arith, over, lt) in at_end old b s (omega (arith, at, before.many)) ∙ right ∙ ap mark (sym at))
      ]);
}
  where
    long : (xs : List Bool) → length (xs ++ b ∷ []) ≡ length xs + 1
    long [] = refl
    long (x ∷ xs) = let k = long xs in omega (arith, k)

-- all sites have their marks
pub all_marked : (p : Program) (n : ℕ) → IsProgram p n → (i : ℕ) (xs : List Bool) → n ≤ i → i ≤ n → AreMarks (λ s. marked p s) i xs → (s : ℕ) → slice_index_or xs s false ≡ marked p s
all_marked p n h i xs over within marks s = elim (below_or_at s i) as (λ _. slice_index_or xs s false ≡ marked p s) [
  | inl lt ↦ marks.are s lt
  | inr le ↦ past_end xs s (omega (arith, le, marks.many)) ∙ sym (ap (marked_where p) (no_site s n p h (omega (arith, le, over))))
]

-- one defined function more
pub function_more : (shape : FunctionTree → Shape) (fs : List FunctionTree) (i : ℕ) (f : FunctionTree) (mid new : List Tree) (part : Tree) → slice_get fs i ≡ Some f → shapes_in mid ≡ map shape (take i fs) → shape_of part ≡ shape f → new ≡ mid ++ part ∷ [] → shapes_in new ≡ map shape (take (i + 1) fs)
function_more shape fs i f mid new part has before is step =
    let lt : i < length fs = slice_get_within fs i f has in
    let at : get_or fs i f ≡ f = get_or_from_slice_get fs i f f has in
    ap shapes_in step
    ∙ map-append shape_of mid (part ∷ [])
    ∙ ap₂ (λ xs S. xs ++ S ∷ []) before is
    ∙ sym (ap (map shape) (take_more fs i f lt ∙ ap (λ y. take i fs ++ y ∷ []) at) ∙ map-append shape (take i fs) (f ∷ []))

map_map : {X Y Z : Type 0} (f : X → Y) (g : Y → Z) (xs : List X) → map (λ x. g (f x)) xs ≡ map g (map f xs)
map_map f g [] = refl
map_map f g (x ∷ xs) = ap (λ ys. g (f x) ∷ ys) (map_map f g xs)

pub functions_end : (n : ℕ) (ms : List Bool) (fs : List FunctionTree) (i : ℕ) (new : List Tree) → length fs ≤ i → shapes_in new ≡ map (λ (f : FunctionTree). stmt_at n ms (stmt_of f.body)) (take i fs) → shapes_in new ≡ map (λ (f : Function). stmt_at n ms f.body) (map function_of fs)
functions_end n ms fs i new over is = is ∙ ap (map (λ (f : FunctionTree). stmt_at n ms (stmt_of f.body))) (take_all i fs over) ∙ map_map function_of (λ (f : Function). stmt_at n ms f.body) fs

pub length_functions : (fs : List FunctionTree) → length (map function_of fs) ≡ length fs
length_functions [] = refl
length_functions (f ∷ fs) = let k = length_functions fs in omega (arith, k)

pub any_pattern : (kinds : List ArgKind) → replicate (length kinds) nothing ≡ map (λ kind. None) kinds
any_pattern [] = refl
any_pattern (kind ∷ kinds) = ap (λ xs. None ∷ xs) (any_pattern kinds)

-- a system call that is taken, or is not
pub call_added : (b : Bool) (x : ℕ) (old new : List Tree) (s : Tree) → b ≡ true → shape_of s ≡ any_call x → new ≡ old ++ s ∷ [] → shapes_in new ≡ shapes_in old ++ map any_call (if b then x ∷ [] else [])
call_added b x old new s taken shape is =
    ap shapes_in is ∙ map-append shape_of old (s ∷ []) ∙ ap (λ S. shapes_in old ++ S ∷ []) shape ∙ sym (ap (λ b. shapes_in old ++ map any_call (if b then x ∷ [] else [])) taken)

pub call_left : (b : Bool) (x : ℕ) (old : List Tree) → b ≡ false → shapes_in old ≡ shapes_in old ++ map any_call (if b then x ∷ [] else [])
call_left b x old taken = sym (append-nil (shapes_in old)) ∙ sym (ap (λ b. shapes_in old ++ map any_call (if b then x ∷ [] else [])) taken)

pub range_more : (a n : ℕ) → range_with_len a (n + 1) ≡ range_with_len a n ++ (a + n) ∷ []
range_more a n = range_append a n 1

pub taken_more : (test : ℕ → Bool) (k : ℕ) (start mid new : List Shape) (b : Bool) → mid ≡ start ++ map any_call (filter test (range_with_len 0 k)) → b ≡ test k → new ≡ mid ++ map any_call (if b then k ∷ [] else []) → new ≡ start ++ map any_call (filter test (range_with_len 0 (k + 1)))
taken_more test k start mid new b before is step =
    let xs = range_with_len 0 k in
    let z : 0 + k ≡ k = omega arith in
    step
    ∙ ap₂ (λ ys c. ys ++ map any_call (if c then k ∷ [] else [])) before is
    ∙ append_assoc start (map any_call (filter test xs)) (map any_call (filter test (k ∷ [])))
    ∙ ap (λ ys. start ++ ys) (sym (map-append any_call (filter test xs) (filter test (k ∷ []))) ∙ ap (map any_call) (sym (filter-append test xs (k ∷ [])) ∙ ap (filter test) (ap (λ m. xs ++ m ∷ []) (sym z) ∙ sym (range_more 0 k))))

pub taken_end : (test : ℕ → Bool) (k : ℕ) (start new : List Shape) → 24 ≤ k → k ≤ 24 → new ≡ start ++ map any_call (filter test (range_with_len 0 k)) → new ≡ start ++ map any_call (filter test (range_with_len 0 24))
taken_end test k start new over within is = let e : k ≡ 24 = omega arith in is ∙ ap (λ n. start ++ map any_call (filter test (range_with_len 0 n))) e

-- the functions of the program
pub all_shapes : (p : Program) (n : ℕ) → IsProgram p n → (ms : List Bool) → ((s : ℕ) → slice_index_or ms s false ≡ marked p s) → (mid new : List Shape) → mid ≡ map (λ (f : Function). stmt_at (defined p) ms f.body) p.functions → new ≡ mid ++ map any_call (taken_calls p) → new ≡ shapes_of_functions p
all_shapes p n h ms are mid new first step = step ∙ ap (λ xs. xs ++ map any_call (taken_calls p)) (first ∙ defined_told p n h ms are)
