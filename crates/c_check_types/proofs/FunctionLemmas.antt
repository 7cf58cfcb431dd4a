-- Types of functions with few and with many parameters.
use Rattle.std.proofs.Common.{◌≡◌, ℕ, ◌<◌, ◌≤◌, true, false, suc, List, [], ◌∷◌, length, Vec, Global, refl, ap, sym, subst, ◌∙◌, arith}
use Rattle.std.specs.Prelude.{Box, nat_le, Result, Contains}
use Rattle.std.proofs.lemmas.Bool.{le-leb, lt-leb}
use Rattle.c_check_values.specs.CType.{CType as TypeTree}
use Rattle.c_check_values.specs.CType.TheVariants.{Function}
use Rattle.c_check_values.specs.Tree.{CType, function}
use Rattle.c_tree.specs.View.{ctype_of, types_of}
use Rattle.c_check_values.proofs.Rows.{function_is}
use Rattle.c_check_values.specs.declared.error.CheckError.{CheckError}
use Rattle.c_check_values.specs.Agreement.{AgreesWith}
use Rattle.c_rules.specs.Checked.{faults, demand, on, met}
use Rattle.c_rules.specs.Types.{is_result, count}
use Rattle.c_rules.specs.Declarators.{within_parts, function_of}
use Rattle.c_check_values.proofs.FaultLemmas.{faulted}

count_types : (ts : List TypeTree) → count (types_of ts) ≡ length ts
count_types [] = refl
count_types (t ∷ ts) = ap suc (count_types ts)

few_types : (ts : List TypeTree) → length ts ≤ 16 → nat_le (count (types_of ts)) 16 ≡ true
few_types ts h = ap (λ n. nat_le n 16) (count_types ts) ∙ le-leb (length ts) 16 h

many_types : (ts : List TypeTree) → 16 < length ts → nat_le (count (types_of ts)) 16 ≡ false
many_types ts h = ap (λ n. nat_le n 16) (count_types ts) ∙ lt-leb (length ts) 16 h

-- with more than 16 parameters
pub many : (at : ℕ) (t : CType) (ts : List TypeTree) → is_result t ≡ true → 16 < length ts → Contains (faults (function_of at t (types_of ts))) (record { code = 13; at = at })
many at t ts r h =
    faulted 13 at (function_of at t (types_of ts))
    (ap (λ b. on (demand b 3 at met) (λ _. on (demand (nat_le (count (types_of ts)) 16) 13 at met) (λ _. within_parts at (function t (types_of ts))))) r
    ∙ ap (λ b. on (demand b 13 at met) (λ _. within_parts at (function t (types_of ts)))) (many_types ts h))

few : (at : ℕ) (t : CType) (ts : List TypeTree) → is_result t ≡ true → length ts ≤ 16 → function_of at t (types_of ts) ≡ within_parts at (function t (types_of ts))
few at t ts r h =
    ap (λ b. on (demand b 3 at met) (λ _. on (demand (nat_le (count (types_of ts)) 16) 13 at met) (λ _. within_parts at (function t (types_of ts))))) r
    ∙ ap (λ b. on (demand b 13 at met) (λ _. within_parts at (function t (types_of ts)))) (few_types ts h)

-- with 16 at most
pub within_few : (at : ℕ) (t : TypeTree) (b : Box TypeTree Global) (v : Vec TypeTree Global) (result : Result TypeTree CheckError) → b.value ≡ t → is_result (ctype_of t) ≡ true → length v.items ≤ 16 → AgreesWith ctype_of result (within_parts at (ctype_of (Function b v))) → AgreesWith ctype_of result (function_of at (ctype_of t) (types_of v.items))
within_few at t b v result is r h j =
    subst (AgreesWith ctype_of result) (ap (within_parts at) (function_is b v ∙ ap (λ x. function (ctype_of x) (types_of v.items)) is) ∙ sym (few at (ctype_of t) v.items r h)) j
