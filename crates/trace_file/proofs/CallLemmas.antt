-- The line of a system call, part by part.
use Rattle.std.proofs.Common.{◌≡◌, ℕ, ◌<◌, ◌≤◌, ℤ, pos, List, [], ◌++◌, length, refl, sym, ap, subst, append_assoc, arith}
use Rattle.std.specs.Prelude.{flat_map, codes, Err}
use Rattle.std.specs.List.{AllZip}
use Rattle.dm_base.specs.declared.event.Arg.{Arg}
use Rattle.dm_base.specs.declared.event.Event.{Event}
use Rattle.dm_base.specs.declared.event.Event.TheVariants.{Sys}
use Rattle.line_text.specs.declared.miss.Miss.{Miss}
use Rattle.line_text.specs.Reading.{StandsFirst, Reads}
use Rattle.line_text.proofs.Splits.{IsSplit, err_first, err_next, ok_both}
use Rattle.std.specs.Int.{w64}
use Rattle.std.proofs.Common.{to_z, of_z}
use Rattle.std.proofs.lemmas.Int.{to_z-of_z}
use Rattle.sys_table.specs.declared.kinds.ArgKind.{ArgKind}
use Rattle.sys_table.specs.declared.kinds.ResultKind.{ResultKind}
use Rattle.sys_table.specs.Table.{name_word, recorded_of, result_of, FitsResult}
use Rattle.trace_file.specs.EventText.{argument_word}
use Rattle.trace_file.specs.LineParts.{IsWrittenCall, IsWrittenArgument, GoOn, words_after, result_line}
use Rattle.trace_file.specs.Lines.{event_line}
use Rattle.trace_file.proofs.ArgumentLemmas.{wide_result, zero_fits, zip_both, zip_fits, zip_bytes, some_arguments}
use Rattle.trace_file.proofs.Parts.{word_split}
use Rattle.trace_file.proofs.PlainWords.{name_plain, arguments_plain}

-- what follows `S `
abbrev pub named : Event → List ℕ
named (Sys x arguments outcome) = name_word x ++ (flat_map argument_word arguments ++ result_line outcome)
named a = []

-- what follows the name
abbrev pub given : Event → List ℕ
given (Sys x arguments outcome) = flat_map argument_word arguments ++ result_line outcome
given a = []

-- a call of this name that a file may hold
abbrev pub IsCallOf : ℕ → Event → Type 0
IsCallOf x (Sys y arguments outcome) = (y ≡ x) × AllZip IsWrittenArgument (recorded_of x) arguments × FitsResult (result_of x) outcome
IsCallOf x a = ⊥

is_written : (x : ℕ) (arguments : List Arg) (outcome : ℤ) → x < 24 → AllZip IsWrittenArgument (recorded_of x) arguments → FitsResult (result_of x) outcome → IsWrittenCall (Sys x arguments outcome)
is_written x arguments outcome known fits right =
    (known, (zip_fits (recorded_of x) arguments fits, right), zip_bytes (recorded_of x) arguments fits)

some_outcome : (x : ℕ) → FitsResult (result_of x) (pos 0)
some_outcome x = zero_fits (result_of x)

-- `S ` and what follows
pub letter_split : IsSplit IsWrittenCall event_line (λ (u : Unit {0}). Unit {0}) (λ u. codes "S ") (λ u. IsWrittenCall) (λ u. named) (λ u e. e)
letter_split =
    let arguments = some_arguments (recorded_of 0) in
    word_split IsWrittenCall event_line named (codes "S ") refl text (Sys 0 arguments.0 (pos 0)) (is_written 0 arguments.0 (pos 0) (omega arith) arguments.1 (some_outcome 0))
  where
    text : (e : Event) → IsWrittenCall e → event_line e ≡ codes "S " ++ named e
    text (Sys x arguments outcome) fits = simp append_assoc
    text e fits = absurd fits

-- the name and what follows
pub name_split : IsSplit IsWrittenCall named (λ x. (0 ≤ x) × (x < 24)) name_word IsCallOf (λ x. given) (λ x e. e)
name_split = record {
  apart = apart;
  joined = joined;
  goes_on = λ x known. let arguments = some_arguments (recorded_of x) in (Sys x arguments.0 (pos 0), (refl, arguments.1, some_outcome x));
  plain = λ x known. name_plain x known.1;
} where
  apart : (e : Event) → IsWrittenCall e → (x : ℕ) × (d : Event) × ((0 ≤ x) × (x < 24)) × IsCallOf x d × (e ≡ d)
  apart (Sys x arguments outcome) fits =
      (x, Sys x arguments outcome, (omega arith, fits.0), (refl, zip_both (recorded_of x) arguments fits.1.0 fits.2, fits.1.1), refl)
  apart e fits = absurd fits

  joined : (x : ℕ) (e : Event) → (0 ≤ x) × (x < 24) → IsCallOf x e → IsWrittenCall e × (named e ≡ name_word x ++ given e)
  joined x (Sys y arguments outcome) known (same, fits, right) =
      let known' : y < 24 = omega (arith, known.1) in
      let fits' = subst (λ (k : ℕ). AllZip IsWrittenArgument (recorded_of k) arguments) (sym same) fits in
      let right' = subst (λ (k : ℕ). FitsResult (result_of k) outcome) (sym same) right in
      (is_written y arguments outcome known' fits' right', ap (λ (k : ℕ). name_word k ++ (flat_map argument_word arguments ++ result_line outcome)) same)
  joined x e known fits = absurd fits

-- the arguments and the result
pub arguments_result_split : (x : ℕ) → IsSplit (IsCallOf x) given (GoOn [] (recorded_of x)) (words_after 0) (λ arguments. FitsResult (result_of x)) (λ arguments. result_line) (λ arguments outcome. Sys x arguments outcome)
arguments_result_split x = record {
  apart = apart;
  joined = λ arguments outcome goes right. ((refl, subst (AllZip IsWrittenArgument (recorded_of x)) (sym goes.1) goes.2, right), refl);
  goes_on = λ arguments goes. (pos 0, some_outcome x);
  plain = λ arguments goes. arguments_plain (recorded_of x) arguments (subst (AllZip IsWrittenArgument (recorded_of x)) (sym goes.1) goes.2);
} where
  apart : (e : Event) → IsCallOf x e → (arguments : List Arg) × (outcome : ℤ) × GoOn [] (recorded_of x) arguments × FitsResult (result_of x) outcome × (e ≡ Sys x arguments outcome)
  apart (Sys y arguments outcome) (same, fits, right) = (arguments, outcome, (arguments, refl, fits), right, ap (λ k. Sys k arguments outcome) same)
  apart e fits = absurd fits

-- what is read, where something is not or all is

pub letter_missed : (old new : List ℕ) (e : Miss) → Reads (λ (u : Unit {0}). Unit {0}) (λ u. codes "S ") old new (Err e) → Reads IsWrittenCall event_line old new (Err e)
letter_missed old new e reads = err_first letter_split old new new e reads

pub name_missed : (old mid new : List ℕ) (e : Miss) → StandsFirst (λ (u : Unit {0}). Unit {0}) (λ u. codes "S ") old mid tt → Reads (λ x. (0 ≤ x) × (x < 24)) name_word mid new (Err e) → Reads IsWrittenCall event_line old new (Err e)
name_missed old mid new e letter reads =
    err_next letter_split old mid new tt letter e (err_first name_split mid new new e reads)

pub arguments_missed : (old mid rest new : List ℕ) (x : ℕ) (kinds : List ArgKind) (first : List Arg) (e : Miss) → StandsFirst (λ (u : Unit {0}). Unit {0}) (λ u. codes "S ") old mid tt → StandsFirst (λ x. (0 ≤ x) × (x < 24)) name_word mid rest x → kinds ≡ recorded_of x → first ≡ [] → Reads (GoOn first kinds) (words_after (length first)) rest new (Err e) → Reads IsWrittenCall event_line old new (Err e)
arguments_missed old mid rest new x kinds first e letter name recorded none reads =
    let reads' : Reads (GoOn [] (recorded_of x)) (words_after 0) rest new (Err e) = subst (λ (w : List Arg). Reads (GoOn w (recorded_of x)) (words_after (length w)) rest new (Err e)) none (subst (λ (ks : List ArgKind). Reads (GoOn first ks) (words_after (length first)) rest new (Err e)) recorded reads) in
    err_next letter_split old mid new tt letter e (err_next name_split mid rest new x name e (err_first (arguments_result_split x) rest new new e reads'))

-- all arguments were taken
module _ (old mid rest last new : List ℕ) (x : ℕ) (kinds : List ArgKind) (kind : ResultKind) (first arguments : List Arg) (letter : StandsFirst (λ (u : Unit {0}). Unit {0}) (λ u. codes "S ") old mid tt) (name : StandsFirst (λ x. (0 ≤ x) × (x < 24)) name_word mid rest x) (recorded : kinds ≡ recorded_of x) (none : first ≡ []) (taken : StandsFirst (GoOn first kinds) (words_after (length first)) rest last arguments) (answers : kind ≡ result_of x) where
  all_taken : StandsFirst (GoOn [] (recorded_of x)) (words_after 0) rest last arguments
  all_taken = subst (λ (w : List Arg). StandsFirst (GoOn w (recorded_of x)) (words_after (length w)) rest last arguments) none (subst (λ (ks : List ArgKind). StandsFirst (GoOn first ks) (words_after (length first)) rest last arguments) recorded taken)

  pub result_missed : (e : Miss) → Reads (FitsResult kind) result_line last new (Err e) → Reads IsWrittenCall event_line old new (Err e)
  result_missed e reads =
      let reads' = subst (λ (k : ResultKind). Reads (FitsResult k) result_line last new (Err e)) answers reads in
      err_next letter_split old mid new tt letter e (err_next name_split mid rest new x name e (err_next (arguments_result_split x) rest last new arguments all_taken e reads'))

  pub call_taken : (outcome : ℤ) → StandsFirst (FitsResult kind) result_line last new outcome → StandsFirst IsWrittenCall event_line old new (Sys x arguments (to_z w64 (of_z w64 outcome)))
  call_taken outcome right =
      let right' = subst (λ (k : ResultKind). StandsFirst (FitsResult k) result_line last new outcome) answers right in
      let whole : StandsFirst IsWrittenCall event_line old new (Sys x arguments outcome) = ok_both letter_split old mid new tt (Sys x arguments outcome) letter (ok_both name_split mid rest new x (Sys x arguments outcome) name (ok_both (arguments_result_split x) rest last new arguments outcome all_taken right')) in
      subst (λ (z : ℤ). StandsFirst IsWrittenCall event_line old new (Sys x arguments z)) (sym (to_z-of_z w64 outcome (wide_result kind outcome right.fits))) whole
