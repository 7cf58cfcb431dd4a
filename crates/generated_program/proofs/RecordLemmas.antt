-- Results one after another.
use Rattle.std.proofs.Common.{◌≡◌, ℕ, zero, suc, List, [], ◌∷◌, ◌++◌, append_assoc, append-nil, ap, ap₂, sym, ◌∙◌}
use Rattle.sys_table.specs.declared.sys_result.SysResult.{SysResult}
use Rattle.generated_program.specs.Generator.{result_of, results_behind}

-- no result was added
pub results_begun : (count k : ℕ) (before : List SysResult) → k ≡ count → before ≡ [] → before ++ results_behind 0 k ≡ results_behind 0 count
results_begun count k before e h = ap₂ (λ w n. w ++ results_behind 0 n) h e

-- one more result was added
pub result_added : (value next k left : ℕ) (one : SysResult) (before after all : List SysResult) → next ≡ suc value → k ≡ suc left → one ≡ result_of next → after ≡ before ++ one ∷ []
    → before ++ results_behind value k ≡ all → after ++ results_behind next left ≡ all
result_added value next k left one before after all e more is wrote h =
    let items : one ∷ results_behind next left ≡ results_behind value k =
    ap (λ x. x ∷ results_behind next left) is ∙ ap (λ n. result_of n ∷ results_behind n left) e ∙ sym (ap (results_behind value) more) in
    ap (λ w. w ++ results_behind next left) wrote
    ∙ append_assoc before (one ∷ []) (results_behind next left)
    ∙ ap (λ w. before ++ w) items
    ∙ h

-- none is left
pub results_added : (value k : ℕ) (before all : List SysResult) → k ≡ zero → before ++ results_behind value k ≡ all → before ≡ all
results_added value k before all none h = sym (append-nil before) ∙ sym (ap (λ n. before ++ results_behind value n) none) ∙ h
