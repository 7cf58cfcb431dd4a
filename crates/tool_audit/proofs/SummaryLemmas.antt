-- Marked sites are counted.
use Rattle.std.proofs.Common.{◌≡◌, ℕ, ◌+◌, ◌≤◌, Bool, true, false, if◌then◌else◌, List, [], ◌∷◌, ◌++◌, length, length-append, filter, refl, sym, ◌∙◌, ap, arith}
use Rattle.std.specs.List.{range_with_len}
use Rattle.c_meaning.specs.CallGraph.{marked}
use Rattle.c_tree.specs.Program.{IsProgram}
use Rattle.c_tree.specs.Tree.{Program}
use Rattle.flow_graph.proofs.TypesLemmas.{passed_true, passed_false}
use Rattle.generated_program.specs.Bounds.{marked_sites}

pub at_most_one : (b : Bool) (one : ℕ) → one ≡ (if b then 1 else 0) → one ≤ 1
at_most_one true one is = omega (arith, is)
at_most_one false one is = omega (arith, is)

-- one more number was tested
pub counted_more : (test : ℕ → Bool) (k count one : ℕ) (b : Bool) → count ≡ length (filter test (range_with_len 0 k)) → b ≡ test k → one ≡ (if b then 1 else 0) → count + one ≡ length (filter test (range_with_len 0 (k + 1)))
counted_more test k count one true before is unit =
    let xs : List ℕ = filter test (range_with_len 0 k) in
    let grown : xs ++ k ∷ [] ≡ filter test (range_with_len 0 (k + 1)) = passed_true test xs (xs ++ k ∷ []) k (sym is) refl refl in
    let long : length (xs ++ k ∷ []) ≡ length xs + length (k ∷ []) = length-append xs (k ∷ []) in
    let same : length (xs ++ k ∷ []) ≡ length (filter test (range_with_len 0 (k + 1))) = ap length grown in
    omega (arith, before, unit, long, same)
counted_more test k count one false before is unit =
    let kept : filter test (range_with_len 0 k) ≡ filter test (range_with_len 0 (k + 1)) = passed_false test (filter test (range_with_len 0 k)) k (sym is) refl in
    let same : length (filter test (range_with_len 0 k)) ≡ length (filter test (range_with_len 0 (k + 1))) = ap length kept in
    omega (arith, before, unit, same)

-- all sites were tested
pub counted_all : (p : Program) (n k count : ℕ) → IsProgram p n → n ≤ k → k ≤ n → count ≡ length (filter (marked p) (range_with_len 0 k)) → count ≡ length (marked_sites p)
counted_all p n k count typed over within is =
    let last : k ≡ n = omega (arith, over, within) in
    is ∙ ap (λ (xs : List ℕ). length (filter (marked p) xs)) (ap (range_with_len 0) last ∙ sym typed.sites)
