-- The generated unit has the grammar's forms, names and constants that there are, low nodes, and a short text.
use Rattle.std.proofs.Common.{◌≡◌, ℕ, zero, suc, ◌+◌, ◌*◌, ◌/◌, ◌%◌, ◌<◌, ◌≤◌, Bool, true, false, lit<, List, [], ◌++◌, length, codes, decimal, refl, sym, subst, arith}
use Rattle.std.specs.Prelude.{nat_eq, if◌then◌else◌}
use Rattle.std.proofs.lemmas.Fmt.{length-decimal-le}
use Rattle.std.proofs.lemmas.List.{length-append}
use Rattle.std.proofs.lemmas.Nat.{mod_below}
use Rattle.dm_base.specs.Name.{IsName}
use Rattle.c_syntax.specs.Tree.{Items}
use Rattle.c_syntax.specs.Limits.{height_of_unit}
use Rattle.c_syntax.specs.Print.{unit_kinds}
use Rattle.c_syntax.specs.Text.{unit_text}
use Rattle.c_syntax.specs.Tokens.IsAssignment.{assigns}
use Rattle.c_syntax.specs.Tokens.IsInfix.{is_less}
use Rattle.c_syntax_printing.specs.FineUnits.{IsFineItem, AreFineItems, AreSomeItems}
use Rattle.c_syntax_printing.specs.Writable.{IsWritableItem, AreWritableItems}
use Rattle.generated_program.specs.Generator.{drawn, called_by, system_call_by, later_function, main_function, functions_behind, main_items, generated_unit}
use Rattle.generated_program.specs.Pieces.{front_text, function_text, main_text}
use Rattle.generated_program.proofs.TextLemmas.{front_written, function_written, main_written, text_of}
use Rattle.generated_program.proofs.Names.{function_named, getpid_named, getppid_named, main_named, counter_named}

-- ## Forms

main_fine : (last : ℕ) → IsFineItem (main_function last)
main_fine last = ((tt, tt, tt), tt, ((tt, tt, tt, tt), refl, (((assigns, tt, tt), (record { level = 3; low = omega arith; is = is_less }, tt, tt), tt, ((tt, tt), tt)), (tt, tt))))

fine_behind : (number last i count : ℕ) → AreFineItems (functions_behind number i count (main_items last))
fine_behind number last i zero = (main_fine last, tt)
fine_behind number last i (suc count) = (((tt, tt, tt), tt, ((tt, tt), ((tt, tt), (tt, tt)))), fine_behind number last (suc i) count)

pub unit_fine : (number last : ℕ) → AreSomeItems (generated_unit number last)
unit_fine number last = (((tt, tt, tt), tt, tt, tt), (((tt, tt, tt), tt, tt, tt), (((tt, tt, tt), tt, ((tt, tt), (tt, tt))), fine_behind number last 0 last)))

-- ## Names and constants

system_named : (x : ℕ) → IsName (system_call_by x)
system_named x = by (nat_eq (x / 16 % 2) 0)
  where
    by : (b : Bool) → IsName (if b then codes "getpid" else codes "getppid")
    by true = getpid_named
    by false = getppid_named

main_writable : (last : ℕ) → last < 500 → IsWritableItem (main_function last)
main_writable last small =
    (tt, (main_named, tt), ((tt, (counter_named, tt, tt)), (((lit< tt, counter_named, lit< tt), (lit< tt, counter_named, omega (arith, small)), counter_named, ((function_named last small, tt), tt)), (lit< tt, tt))))

later_writable : (x i : ℕ) → i < 499 → IsWritableItem (later_function x (suc i))
later_writable x i small =
    let before : called_by x (suc i) < suc i = mod_below (x / 65536) (suc i) (omega arith) in
    (tt, (function_named (suc i) (omega (arith, small)), tt), ((function_named (called_by x (suc i)) (omega (arith, before, small)), tt), ((system_named x, tt), (lit< tt, tt))))

writable_behind : (number last i count : ℕ) → last < 500 → i + count ≡ last → AreWritableItems (functions_behind number i count (main_items last))
writable_behind number last i zero small e = (main_writable last small, tt)
writable_behind number last i (suc count) small e = (later_writable (drawn number (suc i)) i (omega (arith, small, e)), writable_behind number last (suc i) count small (omega (arith, e)))

pub unit_writable : (number last : ℕ) → last < 500 → AreWritableItems (generated_unit number last)
unit_writable number last small =
    ((tt, ((getpid_named, tt), tt, tt)), ((tt, ((getppid_named, tt), tt, tt)), ((tt, (function_named 0 (omega arith), tt), ((getpid_named, tt), (lit< tt, tt))), writable_behind number last 0 last small (omega arith))))

-- ## Depth

low_behind : (number last i count : ℕ) → height_of_unit (functions_behind number i count (main_items last)) ≤ 200
low_behind number last i zero = omega arith
low_behind number last i (suc count) = let k = low_behind number last (suc i) count in omega (arith, k)

pub unit_low : (number last : ℕ) → height_of_unit (generated_unit number last) ≤ 200
unit_low number last = let k = low_behind number last 0 last in omega (arith, k)

-- ## Length

short_number : (n : ℕ) → n ≤ 500 → length (decimal n) ≤ 3
short_number n small = length-decimal-le 3 n (omega arith) (omega (arith, small)) (omega (arith, small))

short_call : (x : ℕ) → length (system_call_by x) ≤ 7
short_call x = by (nat_eq (x / 16 % 2) 0)
  where
    by : (b : Bool) → length (if b then codes "getpid" else codes "getppid") ≤ 7
    by true = omega arith
    by false = omega arith

function_short : (i callee : ℕ) (call : List ℕ) → length (decimal i) ≤ 3 → length (decimal callee) ≤ 3 → length call ≤ 7 → length (function_text i callee call) ≤ 80
function_short i callee call a b c = simp length-append (omega (arith, a, b, c))

main_short : (last : ℕ) → length (decimal (last + 1)) ≤ 3 → length (decimal last) ≤ 3 → length (main_text last) ≤ 120
main_short last a b = simp length-append (omega (arith, a, b))

short_behind : (number last i count : ℕ) → last < 500 → i + count ≡ last → length (text_of (functions_behind number i count (main_items last))) ≤ 80 * count + 120
short_behind number last i zero small e =
    subst (λ w. length w ≤ 80 * 0 + 120) (sym (main_written last)) (let k = main_short last (short_number (last + 1) (omega (arith, small))) (short_number last (omega (arith, small))) in omega (arith, k))
short_behind number last i (suc count) small e =
    let x : ℕ = drawn number (suc i) in
    let callee : ℕ = called_by x (suc i) in
    let before : callee < suc i = mod_below (x / 65536) (suc i) (omega arith) in
    let piece : List ℕ = function_text (suc i) callee (system_call_by x) in
    let later : Items = functions_behind number (suc i) count (main_items last) in
    let h = function_short (suc i) callee (system_call_by x) (short_number (suc i) (omega (arith, small, e))) (short_number callee (omega (arith, before, small, e))) (short_call x) in
    let k = short_behind number last (suc i) count small (omega (arith, e)) in
    let sum : length (piece ++ text_of later) ≡ length piece + length (text_of later) = length-append piece (text_of later) in
    subst (λ w. length w ≤ 80 * suc count + 120) (sym (function_written x (suc i) (unit_kinds later []))) (omega (arith, h, k, sum))

pub unit_short : (number last : ℕ) → last < 500 → length (unit_text (generated_unit number last)) ≤ 1048576
unit_short number last small =
    let later : Items = functions_behind number 0 last (main_items last) in
    let k = short_behind number last 0 last small (omega arith) in
    let sum : length (front_text ++ text_of later) ≡ length front_text + length (text_of later) = length-append front_text (text_of later) in
    subst (λ w. length w ≤ 1048576) (sym (front_written (unit_kinds later []))) (omega (arith, k, sum, small))
