-- The arguments of a call and its result.
use Rattle.std.proofs.Common.{◌≡◌, ℕ, zero, suc, ◌-◌, ◌≤◌, ℤ, pos, List, [], ◌∷◌, ◌++◌, length, take, drop, slice_index_or, refl, sym, ◌∙◌, ap, subst, append_assoc, arith}
use Rattle.std.specs.Prelude.{FitsSigned, All, flat_map, Result, Err}
use Rattle.std.specs.Int.{FitsUnsigned, w32, w64}
use Rattle.std.specs.List.{AllZip}
use Rattle.std.proofs.lemmas.Int.{ints}
use Rattle.std.proofs.lemmas.List.{drop_at, take_all}
use Rattle.hex.specs.Hex.{IsBytes}
use Rattle.dm_base.specs.declared.event.Arg.{Arg}
use Rattle.dm_base.specs.declared.event.Arg.TheVariants as args
use Rattle.line_text.specs.declared.miss.Miss.{Miss}
use Rattle.line_text.specs.Reading.{StandsFirst, Reads}
use Rattle.line_text.specs.Words.{integer_word, bytes_word}
use Rattle.line_text.proofs.Splits.{IsSplit, IsCase, err_first}
use Rattle.sys_table.specs.declared.kinds.ArgKind.{ArgKind}
use Rattle.sys_table.specs.declared.kinds.ArgKind.TheVariants.{Signed, Unsigned, Bytes}
use Rattle.sys_table.specs.declared.kinds.ResultKind.{ResultKind}
use Rattle.sys_table.specs.declared.kinds.ResultKind.TheVariants.{Int, UnsignedInt, Void}
use Rattle.sys_table.specs.Table.{FitsArgument, FitsResult}
use Rattle.trace_file.specs.EventText.{argument_word, HasBytes}
use Rattle.trace_file.specs.LineParts.{IsWrittenArgument, GoOn, words_after, result_line}
use Rattle.trace_file.proofs.Parts.{word_split, then_next}
use Rattle.trace_file.proofs.PlainWords.{argument_plain, wide_signed, wide_unsigned}

-- an argument by its kind

pub signed_case : (old : List ℕ) → IsCase (IsWrittenArgument Signed) argument_word (FitsSigned w32) (integer_word 32) args.Int old
signed_case old = record { made = λ z fits. ((fits, tt), refl); only = λ argument fits agree. number argument fits } where
  number : (argument : Arg) → IsWrittenArgument Signed argument → (z : ℤ) × FitsSigned w32 z × (argument ≡ args.Int z)
  number (args.Int z) fits = (z, fits.0, refl)
  number (args.Bytes bytes) fits = let same : Signed ≡ Bytes = fits.0 in cc

pub unsigned_case : (old : List ℕ) → IsCase (IsWrittenArgument Unsigned) argument_word (FitsUnsigned w32) (integer_word 32) args.Int old
unsigned_case old = record { made = λ z fits. ((fits, tt), refl); only = λ argument fits agree. number argument fits } where
  number : (argument : Arg) → IsWrittenArgument Unsigned argument → (z : ℤ) × FitsUnsigned w32 z × (argument ≡ args.Int z)
  number (args.Int z) fits = (z, fits.0, refl)
  number (args.Bytes bytes) fits = let same : Unsigned ≡ Bytes = fits.0 in cc

pub bytes_case : (old : List ℕ) → IsCase (IsWrittenArgument Bytes) argument_word IsBytes (bytes_word 32) args.Bytes old
bytes_case old = record { made = λ bytes fits. ((refl, fits), refl); only = λ argument fits agree. some argument fits } where
  some : (argument : Arg) → IsWrittenArgument Bytes argument → (bytes : List ℕ) × IsBytes bytes × (argument ≡ args.Bytes bytes)
  some (args.Int z) fits = absurd fits.0
  some (args.Bytes bytes) fits = (bytes, fits.1, refl)

-- the result

pub zero_fits : (kind : ResultKind) → FitsResult kind (pos 0)
zero_fits Int = record { sfits = omega arith }
zero_fits UnsignedInt = (omega (arith, ints), omega (arith, ints))
zero_fits Void = refl

pub wide_result : (kind : ResultKind) (z : ℤ) → FitsResult kind z → FitsSigned w64 z
wide_result Int z fits = wide_signed z fits
wide_result UnsignedInt z fits = wide_unsigned z fits
wide_result Void z fits = subst (FitsSigned w64) (sym fits) (record { sfits = omega arith })

pub result_split : (kind : ResultKind) → IsSplit (FitsResult kind) result_line (λ (u : Unit {0}). Unit {0}) (λ u. 61 ∷ 32 ∷ []) (λ u. FitsResult kind) (λ u. integer_word 10) (λ u z. z)
result_split kind = word_split (FitsResult kind) result_line (integer_word 10) (61 ∷ 32 ∷ []) refl (λ z fits. refl) (pos 0) (zero_fits kind)

-- the arguments

pub zip_both : (kinds : List ArgKind) (arguments : List Arg) → AllZip FitsArgument kinds arguments → All HasBytes arguments → AllZip IsWrittenArgument kinds arguments
zip_both [] [] fits bytes = tt
zip_both (kind ∷ kinds) (a ∷ arguments) fits bytes =
    ((fits.0, bytes 0 a (omega arith)), zip_both kinds arguments fits.1 (λ k d within. bytes (suc k) d (omega arith)))
zip_both kinds arguments fits bytes = absurd fits

pub zip_fits : (kinds : List ArgKind) (arguments : List Arg) → AllZip IsWrittenArgument kinds arguments → AllZip FitsArgument kinds arguments
zip_fits [] [] both = tt
zip_fits (kind ∷ kinds) (a ∷ arguments) both = (both.0.0, zip_fits kinds arguments both.1)
zip_fits kinds arguments both = absurd both

pub zip_bytes : (kinds : List ArgKind) (arguments : List Arg) → AllZip IsWrittenArgument kinds arguments → All HasBytes arguments
zip_bytes kinds [] both k d within = absurd (omega arith)
zip_bytes [] (a ∷ arguments) both k d within = absurd both
zip_bytes (kind ∷ kinds) (a ∷ arguments) both zero d within = both.0.1
zip_bytes (kind ∷ kinds) (a ∷ arguments) both (suc k) d within = zip_bytes kinds arguments both.1 k d (omega arith)

some_argument : (kind : ArgKind) → (argument : Arg) × IsWrittenArgument kind argument
some_argument Signed = (args.Int (pos 0), (record { sfits = omega arith }, tt))
some_argument Unsigned = (args.Int (pos 0), ((omega (arith, ints), omega (arith, ints)), tt))
some_argument Bytes = (args.Bytes [], (refl, λ i. omega arith))

pub some_arguments : (kinds : List ArgKind) → (arguments : List Arg) × AllZip IsWrittenArgument kinds arguments
some_arguments [] = ([], tt)
some_arguments (kind ∷ kinds) =
    let one = some_argument kind in
    let others = some_arguments kinds in
    (one.0 ∷ others.0, (one.1, others.1))

-- the next argument and those after it
pub arguments_split : (kind : ArgKind) (kinds : List ArgKind) (first : List Arg) → IsSplit (GoOn first (kind ∷ kinds)) (words_after (length first)) (IsWrittenArgument kind) argument_word (λ a. GoOn (first ++ a ∷ []) kinds) (λ a. words_after (length (first ++ a ∷ []))) (λ a all. all)
arguments_split kind kinds first = record {
  apart = λ all goes. apart all goes.0 goes.1 goes.2;
  joined = λ a all fits goes. ((a ∷ goes.0, goes.1 ∙ append_assoc first (a ∷ []) goes.0, (fits, goes.2)), text a all goes.0 goes.1);
  goes_on = λ a fits. let others = some_arguments kinds in ((first ++ a ∷ []) ++ others.0, (others.0, refl, others.1));
  plain = argument_plain kind;
} where
  apart : (all others : List Arg) → all ≡ first ++ others → AllZip IsWrittenArgument (kind ∷ kinds) others → (a : Arg) × (rest : List Arg) × IsWrittenArgument kind a × GoOn (first ++ a ∷ []) kinds rest × (all ≡ rest)
  apart all [] is fits = absurd fits
  apart all (a ∷ others) is fits = (a, all, fits.0, (others, is ∙ sym (append_assoc first (a ∷ []) others), fits.1), refl)

  text : (a : Arg) (all others : List Arg) → all ≡ (first ++ a ∷ []) ++ others → words_after (length first) all ≡ argument_word a ++ words_after (length (first ++ a ∷ [])) all
  text a all others is =
      let front : drop (length first) all ≡ a ∷ others = ap (drop (length first)) (is ∙ append_assoc first (a ∷ []) others) ∙ drop_at first (a ∷ others) _ refl in
      let back : drop (length (first ++ a ∷ [])) all ≡ others = ap (drop (length (first ++ a ∷ []))) is ∙ drop_at (first ++ a ∷ []) others _ refl in
      ap (flat_map argument_word) front ∙ ap (λ xs. argument_word a ++ flat_map argument_word xs) (sym back)

pub argument_missed : (kinds : List ArgKind) (first : List Arg) (old mid : List ℕ) (e : Miss) → 1 ≤ length kinds → Reads (IsWrittenArgument (slice_index_or kinds 0 Signed)) argument_word old mid (Err e) → Reads (GoOn first kinds) (words_after (length first)) old mid (Err e)
argument_missed [] first old mid e some reads = absurd (omega arith)
argument_missed (kind ∷ kinds) first old mid e some reads = err_first (arguments_split kind kinds first) old mid mid e reads

pub argument_taken : (kinds : List ArgKind) (first next : List Arg) (old mid new : List ℕ) (a : Arg) (r : Result (List Arg) Miss) → 1 ≤ length kinds → StandsFirst (IsWrittenArgument (slice_index_or kinds 0 Signed)) argument_word old mid a → next ≡ first ++ a ∷ [] → Reads (GoOn next (take (length kinds - 1) (drop 1 kinds))) (words_after (length next)) mid new r → Reads (GoOn first kinds) (words_after (length first)) old new r
argument_taken [] first next old mid new a r some taken is reads = absurd (omega arith)
argument_taken (kind ∷ kinds) first next old mid new a r some taken is reads =
    let others : take (suc (length kinds) - 1) kinds ≡ kinds = take_all _ kinds (omega arith) in
    let reads' : Reads (GoOn (first ++ a ∷ []) kinds) (words_after (length (first ++ a ∷ []))) mid new r = subst (λ (w : List Arg). Reads (GoOn w kinds) (words_after (length w)) mid new r) is (subst (λ (ks : List ArgKind). Reads (GoOn next ks) (words_after (length next)) mid new r) others reads) in
    then_next (arguments_split kind kinds first) old mid new a taken r reads'
