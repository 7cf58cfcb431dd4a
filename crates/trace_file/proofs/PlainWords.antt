-- Words of a line that have no line feed.
use Rattle.std.proofs.Common.{ℕ, ◌<◌, ◌^◌, ℤ, pos, negsuc, List, [], ◌∷◌, ◌++◌, decimal, refl, inl, inr, arith}
use Rattle.std.specs.Prelude.{Contains, FitsSigned, flat_map}
use Rattle.std.specs.Int.{FitsUnsigned, w32, w64}
use Rattle.std.specs.List.{AllZip}
use Rattle.std.specs.Fmt.{signed_decimal}
use Rattle.std.proofs.lemmas.Int.{ints}
use Rattle.std.proofs.lemmas.List.Elements.{Contains-append_cases}
use Rattle.dm_base.specs.declared.event.Arg.{Arg}
use Rattle.dm_base.specs.declared.event.Arg.TheVariants as args
use Rattle.line_text.specs.Words.{bytes_text}
use Rattle.line_text.proofs.HexadecimalLemmas.{bytes-IsPlain}
use Rattle.line_text.proofs.IntegerLemmas.{signed-IsPlain}
use Rattle.line_text.proofs.VersionLemmas.{decimal-no_feed}
use Rattle.line_text.proofs.WordLemmas.{IsPlain-no_feed}
use Rattle.sys_table.specs.declared.kinds.ArgKind.{ArgKind}
use Rattle.sys_table.specs.declared.kinds.ArgKind.TheVariants.{Signed, Unsigned, Bytes}
use Rattle.sys_table.specs.Table.{name_of, name_word}
use Rattle.sys_table.proofs.Names.{name_of-IsPlain}
use Rattle.trace_file.specs.EventText.{argument_word}
use Rattle.trace_file.specs.LineParts.{IsWrittenArgument}
use Rattle.trace_file.proofs.Parts.{no_feed_within}

-- a word and its space
spaced : (word : List ℕ) → (Contains word 10 → ⊥) → Contains (word ++ 32 ∷ []) 10 → ⊥
spaced word plain has = elim (Contains-append_cases word (32 ∷ []) 10 has) [ inl front ↦ plain front | inr back ↦ no_feed_within (32 ∷ []) refl back ]

-- numbers

pub number_plain : (n : ℕ) → n < 2 ^ 64 → Contains (decimal n ++ 32 ∷ []) 10 → ⊥
number_plain n small = spaced (decimal n) (decimal-no_feed n small)

signed_plain : (z : ℤ) → FitsSigned w64 z → Contains (signed_decimal z) 10 → ⊥
signed_plain z fits has = IsPlain-no_feed (signed_decimal z) (signed-IsPlain z fits) has

pub wide_signed : (z : ℤ) → FitsSigned w32 z → FitsSigned w64 z
wide_signed z fits = record { sfits = omega (arith, fits.sfits) }

pub wide_unsigned : (z : ℤ) → FitsUnsigned w32 z → FitsSigned w64 z
wide_unsigned (pos n) fits = record { sfits = omega (arith, ints, fits.1) }
wide_unsigned (negsuc n) fits = absurd (omega (arith, ints, fits.0))

-- arguments

pub argument_plain : (kind : ArgKind) (argument : Arg) → IsWrittenArgument kind argument → Contains (argument_word argument) 10 → ⊥
argument_plain Signed (args.Int z) fits = spaced (signed_decimal z) (signed_plain z (wide_signed z fits.0))
argument_plain Unsigned (args.Int z) fits = spaced (signed_decimal z) (signed_plain z (wide_unsigned z fits.0))
argument_plain Bytes (args.Int z) fits = absurd fits.0
argument_plain kind (args.Bytes bytes) fits = spaced (bytes_text bytes) (IsPlain-no_feed (bytes_text bytes) (bytes-IsPlain bytes fits.1))

pub arguments_plain : (kinds : List ArgKind) (arguments : List Arg) → AllZip IsWrittenArgument kinds arguments → Contains (flat_map argument_word arguments) 10 → ⊥
arguments_plain kinds [] fits has = omega (arith, has.1)
arguments_plain [] (a ∷ arguments) fits has = absurd fits
arguments_plain (kind ∷ kinds) (a ∷ arguments) fits has =
    elim (Contains-append_cases (argument_word a) (flat_map argument_word arguments) 10 has) [
      | inl front ↦ argument_plain kind a fits.0 front
      | inr back ↦ arguments_plain kinds arguments fits.1 back
    ]

-- names of calls

pub name_plain : (x : ℕ) → x < 24 → Contains (name_word x) 10 → ⊥
name_plain x within = spaced (name_of x) (IsPlain-no_feed (name_of x) (name_of-IsPlain x within))
