-- No line begins another: the lines of traces, and of interleaved traces, are prefix-free.
use Rattle.std.proofs.Common.{◌≡◌, ◌≢◌, ℕ, ◌<◌, ◌≤◌, ◌^◌, List, [], ◌∷◌, ◌++◌, length, get_or, decimal, refl, sym, ◌∙◌, ap, subst, inl, inr, arith, length-append}
use Rattle.std.specs.Prelude.{FitsSigned, codes}
use Rattle.std.specs.Int.{w32, w64}
use Rattle.std.specs.List.{AllZip}
use Rattle.std.specs.Fmt.{signed_decimal}
use Rattle.std.proofs.lemmas.Fmt.{decimal_injective}
use Rattle.hex.specs.Hex.{IsBytes}
use Rattle.std.proofs.lemmas.List.{append-nil}
use Rattle.dm_base.specs.declared.event.Arg.{Arg}
use Rattle.dm_base.specs.declared.event.Arg.TheVariants as args
use Rattle.dm_base.specs.declared.event.Event.{Event}
use Rattle.dm_base.specs.declared.event.Event.TheVariants.{Sys, Pre, Post}
use Rattle.dm_base.specs.declared.outcome.Outcome.TheVariants.{Exit, Undefined, Turns, Results, BadResult}
use Rattle.dm_base.specs.declared.outcome.TraceEnd.{TraceEnd}
use Rattle.dm_base.specs.declared.outcome.TraceEnd.TheVariants.{Open, Ended}
use Rattle.line_text.specs.Reading.{Agree}
use Rattle.line_text.specs.Words.{IsEnd, IsPlain, number_word, integer_word, bytes_word, bytes_text}
use Rattle.line_text.proofs.HexadecimalLemmas.{bytes-IsPlain, bytes-injective}
use Rattle.line_text.proofs.IntegerLemmas.{signed-IsPlain, signed_injective}
use Rattle.line_text.proofs.NumberLemmas.{decimal-IsPlain}
use Rattle.line_text.proofs.Splits.{IsSplit, IsCase, agree_front, agree_next}
use Rattle.line_text.proofs.WordLemmas.{word_stands}
use Rattle.sys_table.specs.declared.kinds.ArgKind.{ArgKind}
use Rattle.sys_table.specs.declared.kinds.ArgKind.TheVariants.{Signed, Unsigned, Bytes}
use Rattle.sys_table.specs.declared.kinds.ResultKind.{ResultKind}
use Rattle.sys_table.specs.Table.{name_of, name_word, recorded_of, result_of, FitsResult}
use Rattle.sys_table.proofs.Names.{same_call, name_of-IsPlain}
use Rattle.trace_file.specs.declared.lines.TraceLine.TheVariants as trace
use Rattle.trace_file.specs.declared.lines.TracesLine.TheVariants as traces
use Rattle.trace_file.specs.declared.record.Record.{Record}
use Rattle.trace_file.specs.EventText.{argument_word, IsWritten, IsRightEnd}
use Rattle.trace_file.specs.LineParts.{IsWrittenCall, IsWrittenArgument, GoOn, words_after, result_line, ending_line}
use Rattle.trace_file.specs.Lines.{event_line, end_line, record_line, IsWrittenRecord}
use Rattle.trace_file.specs.LineParts.{trace_line, IsTraceLine, traces_line, IsTracesLine}
use Rattle.trace_file.proofs.ArgumentLemmas.{result_split, wide_result, arguments_split}
use Rattle.trace_file.proofs.CallLemmas.{letter_split, name_split, arguments_result_split}
use Rattle.trace_file.proofs.EndLemmas.{end_split, open_case, exit_case, undefined_case, turns_case, results_case, bad_result_case}
use Rattle.trace_file.proofs.EventLemmas.{call_case, pre_case, post_case, record_split}
use Rattle.trace_file.proofs.PlainWords.{wide_signed, wide_unsigned}
use Rattle.trace_file.proofs.WholeLines.{event_case, end_case, last_case, record_case}
use Rattle.line_text.proofs.Cases.{agree_back, one_free}
pub use Rattle.line_text.proofs.Cases.{IsPrefixFree}

-- two parts

module _ {V A B : Type 0} {Fits : V → Type 0} {text : V → List ℕ} {First : A → Type 0} {first : A → List ℕ} {Next : A → B → Type 0} {next : A → B → List ℕ} {join : A → B → V} where
  split_free : IsSplit Fits text First first Next next join → IsPrefixFree First first → ((a : A) → First a → IsPrefixFree (Next a) (next a)) → IsPrefixFree Fits text
  split_free split first_free next_free v w fits_v fits_w agree =
      let p = split.apart v fits_v in
      let q = split.apart w fits_w in
      let v_is : text v ≡ first p.0 ++ next p.0 p.1 = ap text p.4 ∙ (split.joined p.0 p.1 p.2 p.3).1 in
      let w_is : text w ≡ first q.0 ++ next q.0 q.1 = ap text q.4 ∙ (split.joined q.0 q.1 q.2 q.3).1 in
      let both : Agree (first q.0 ++ next q.0 q.1) (first p.0 ++ next p.0 p.1) =
      subst (λ (t : List ℕ). Agree t (first p.0 ++ next p.0 p.1)) w_is (subst (Agree (text w)) v_is agree) in
      let same : q.0 ≡ p.0 = first_free p.0 q.0 p.2 q.2 (agree_back (first q.0) (first p.0) (next p.0 p.1) (agree_front (first q.0) (next q.0 q.1) (first p.0 ++ next p.0 p.1) both)) in
      let both' : Agree (first p.0 ++ next p.0 q.1) (first p.0 ++ next p.0 p.1) = subst (λ (a : A). Agree (first a ++ next a q.1) (first p.0 ++ next p.0 p.1)) same both in
      let fits' : Next p.0 q.1 = subst (λ (a : A). Next a q.1) same q.3 in
      let last : q.1 ≡ p.1 = next_free p.0 p.2 p.1 q.1 p.3 fits' (agree_next (first p.0) (next p.0 q.1) (next p.0 p.1) both') in
      q.4 ∙ ap (λ (a : A). join a q.1) same ∙ ap (join p.0) last ∙ sym p.4

module _ {V A : Type 0} {Fits : V → Type 0} {text : V → List ℕ} {Part : A → Type 0} {part : A → List ℕ} {make : A → V} where
  case_free : (a : A) → Part a → IsCase Fits text Part part make (text (make a)) → IsPrefixFree Part part → (w : V) → Fits w → Agree (text w) (text (make a)) → w ≡ make a
  case_free a fits one free w fits_w agree =
      let p = one.only w fits_w agree in
      let w_is : text w ≡ part p.0 = ap text p.2 ∙ (one.made p.0 p.1).1 in
      let both : Agree (part p.0) (part a) = subst (λ (t : List ℕ). Agree t (part a)) w_is (subst (Agree (text w)) (one.made a fits).1 agree) in
      p.2 ∙ ap make (free a p.0 fits p.1 both)

narrower : {V : Type 0} (F G : V → Type 0) (text : V → List ℕ) → ((v : V) → F v → G v) → IsPrefixFree G text → IsPrefixFree F text
narrower F G text on free v w fits_v fits_w agree = free v w (on v fits_v) (on w fits_w) agree

-- words

word_free : {V : Type 0} (Fits : V → Type 0) (text : V → List ℕ) (end : ℕ) → IsEnd end → ((v : V) → Fits v → IsPlain (text v)) → ((v w : V) → Fits v → Fits w → text w ≡ text v → w ≡ v) → IsPrefixFree Fits (λ v. text v ++ end ∷ [])
word_free Fits text end ends plain one v w fits_v fits_w agree =
    one v w fits_v fits_w ((word_stands end (text v ++ end ∷ []) [] (text v) ends (plain v fits_v) refl).only (text w) (plain w fits_w) agree)

number_free : (end : ℕ) → IsEnd end → IsPrefixFree (λ n. n < 2 ^ 64) (number_word end)
number_free end ends = word_free (λ n. n < 2 ^ 64) decimal end ends decimal-IsPlain (λ v w small small' same. decimal_injective w v small' small same)

integer_free : (end : ℕ) → IsEnd end → IsPrefixFree (FitsSigned w64) (integer_word end)
integer_free end ends = word_free (FitsSigned w64) signed_decimal end ends signed-IsPlain (λ v w fits_v fits_w same. signed_injective w v fits_w fits_v same)

bytes_free : (end : ℕ) → IsEnd end → IsPrefixFree IsBytes (bytes_word end)
bytes_free end ends = word_free IsBytes bytes_text end ends bytes-IsPlain (λ v w fits_v fits_w same. bytes-injective w v fits_w fits_v same)

name_free : IsPrefixFree (λ x. (0 ≤ x) × (x < 24)) name_word
name_free = word_free (λ x. (0 ≤ x) × (x < 24)) name_of 32 (inl refl) (λ x known. name_of-IsPlain x known.1) (λ x y known known' same. same_call y x known'.1 known.1 same)

-- calls

argument_free : (kind : ArgKind) → IsPrefixFree (IsWrittenArgument kind) argument_word
argument_free Signed (args.Int y) (args.Int z) fits_y fits_z agree = ap args.Int (integer_free 32 (inl refl) y z (wide_signed y fits_y.0) (wide_signed z fits_z.0) agree)
argument_free Signed (args.Bytes bytes) w fits_v fits_w agree = let same : Signed ≡ Bytes = fits_v.0 in cc
argument_free Signed (args.Int y) (args.Bytes bytes) fits_v fits_w agree = let same : Signed ≡ Bytes = fits_w.0 in cc
argument_free Unsigned (args.Int y) (args.Int z) fits_y fits_z agree = ap args.Int (integer_free 32 (inl refl) y z (wide_unsigned y fits_y.0) (wide_unsigned z fits_z.0) agree)
argument_free Unsigned (args.Bytes bytes) w fits_v fits_w agree = let same : Unsigned ≡ Bytes = fits_v.0 in cc
argument_free Unsigned (args.Int y) (args.Bytes bytes) fits_v fits_w agree = let same : Unsigned ≡ Bytes = fits_w.0 in cc
argument_free Bytes (args.Bytes a) (args.Bytes b) fits_a fits_b agree = ap args.Bytes (bytes_free 32 (inl refl) a b fits_a.1 fits_b.1 agree)
argument_free Bytes (args.Int z) w fits_v fits_w agree = absurd fits_v.0
argument_free Bytes (args.Bytes a) (args.Int z) fits_v fits_w agree = absurd fits_w.0

none_left : (first all others : List Arg) → all ≡ first ++ others → AllZip IsWrittenArgument [] others → all ≡ first
none_left first all [] is fits = is ∙ append-nil first
none_left first all (a ∷ others) is fits = absurd fits

arguments_free : (kinds : List ArgKind) (first : List Arg) → IsPrefixFree (GoOn first kinds) (words_after (length first))
arguments_free [] first = λ v w fits_v fits_w agree.
    none_left first w fits_w.0 fits_w.1 fits_w.2 ∙ sym (none_left first v fits_v.0 fits_v.1 fits_v.2)
arguments_free (kind ∷ kinds) first = split_free (arguments_split kind kinds first) (argument_free kind) (λ a fits. arguments_free kinds (first ++ a ∷ []))

result_free : (kind : ResultKind) → IsPrefixFree (FitsResult kind) result_line
result_free kind =
    split_free (result_split kind) (one_free (61 ∷ 32 ∷ [])) (λ u one. narrower (FitsResult kind) (FitsSigned w64) (integer_word 10) (wide_result kind) (integer_free 10 (inr refl)))

call_free : IsPrefixFree IsWrittenCall event_line
call_free =
    split_free letter_split (one_free (codes "S ")) (λ u one. split_free name_split name_free (λ x known. split_free (arguments_result_split x) (arguments_free (recorded_of x) []) (λ arguments goes. result_free (result_of x))))

-- events and records

site_free : (letter : List ℕ) → IsPrefixFree (λ n. n < 2 ^ 32) (λ n. letter ++ number_word 10 n)
site_free letter v w small small' agree = number_free 10 (inr refl) v w (omega (arith, small)) (omega (arith, small')) (agree_next letter (number_word 10 w) (number_word 10 v) agree)

pub event_free : IsPrefixFree IsWritten event_line
event_free (Sys x arguments outcome) w fits fits_w agree = case_free {make = λ e. e} (Sys x arguments outcome) fits (call_case (event_line (Sys x arguments outcome)) (omega arith) refl) call_free w fits_w agree
event_free (Pre site) w fits fits_w agree = case_free {make = Pre} site fits (pre_case (event_line (Pre site)) (omega arith) refl) (site_free (codes "B ")) w fits_w agree
event_free (Post site) w fits fits_w agree = case_free {make = Post} site fits (post_case (event_line (Post site)) (omega arith) refl) (site_free (codes "E ")) w fits_w agree

pub record_free : IsPrefixFree IsWrittenRecord record_line
record_free =
    split_free record_split (narrower (λ n. (0 ≤ n) × (n ≤ 4294967295)) (λ n. n < 2 ^ 64) (number_word 32) (λ n within. omega (arith, within.1)) (number_free 32 (inl refl))) (λ n within. event_free)

-- ends

labelled_free : (Fits : ℕ → Type 0) (label : List ℕ) → ((n : ℕ) → Fits n → n < 2 ^ 64) → IsPrefixFree Fits (λ n. label ++ number_word 10 n)
labelled_free Fits label small v w fits_v fits_w agree =
    number_free 10 (inr refl) v w (small v fits_v) (small w fits_w) (agree_next label (number_word 10 w) (number_word 10 v) agree)

exit_free : IsPrefixFree (FitsSigned w32) (λ z. codes "exit " ++ integer_word 10 z)
exit_free v w fits_v fits_w agree = integer_free 10 (inr refl) v w (wide_signed v fits_v) (wide_signed w fits_w) (agree_next (codes "exit ") (integer_word 10 w) (integer_word 10 v) agree)

ending_free : IsPrefixFree IsRightEnd ending_line
ending_free Open w fits fits_w agree = case_free {make = λ u. Open} tt tt (open_case (ending_line Open) (omega arith) refl) (one_free (codes "open\n")) w fits_w agree
ending_free (Ended (Exit z)) w fits fits_w agree = case_free {make = λ z. Ended (Exit z)} z fits (exit_case (ending_line (Ended (Exit z))) (omega arith) refl) exit_free w fits_w agree
ending_free (Ended (Undefined n)) w fits fits_w agree = case_free {make = λ n. Ended (Undefined n)} n fits (undefined_case (ending_line (Ended (Undefined n))) (omega arith) refl) (labelled_free (λ n. (1 ≤ n) × (n ≤ 12)) (codes "undefined U") (λ n within. omega (arith, within.1))) w fits_w agree
ending_free (Ended Turns) w fits fits_w agree = case_free {make = λ u. Ended Turns} tt tt (turns_case (ending_line (Ended Turns)) (omega arith) refl) (one_free (codes "turns\n")) w fits_w agree
ending_free (Ended Results) w fits fits_w agree = case_free {make = λ u. Ended Results} tt tt (results_case (ending_line (Ended Results)) (omega arith) refl) (one_free (codes "results\n")) w fits_w agree
ending_free (Ended (BadResult n)) w fits fits_w agree = case_free {make = λ n. Ended (BadResult n)} n (fits.0, omega (arith, fits.1)) (bad_result_case (ending_line (Ended (BadResult n))) (omega arith) refl) (labelled_free (λ n. (1 ≤ n) × (n ≤ 18446744073709551615)) (codes "badresult ") (λ n within. omega (arith, within.1))) w fits_w agree

pub end_free : IsPrefixFree IsRightEnd end_line
end_free = split_free end_split (one_free (codes "end ")) (λ u one. ending_free)

-- lines

pub trace_line_free : IsPrefixFree IsTraceLine trace_line
trace_line_free (trace.Event e) w fits fits_w agree = case_free {make = trace.Event} e fits (event_case (event_line e) (some_bytes e) (other_letter e)) event_free w fits_w agree
  where
    some_bytes : (e : Event) → 0 < length (event_line e)
    some_bytes (Sys x arguments outcome) = omega arith
    some_bytes e = omega arith

    other_letter : (e : Event) → get_or (event_line e) 0 0 ≢ 101
    other_letter (Sys x arguments outcome) = λ is. omega arith
    other_letter e = λ is. omega arith
trace_line_free (trace.End end) w fits fits_w agree = case_free {make = trace.End} end fits (end_case (end_line end) (some_bytes end) (first_letter end)) end_free w fits_w agree
  where
    some_bytes : (end : TraceEnd) → 0 < length (end_line end)
    some_bytes Open = omega arith
    some_bytes (Ended outcome) = omega arith

    first_letter : (end : TraceEnd) → get_or (end_line end) 0 0 ≡ 101
    first_letter Open = refl
    first_letter (Ended outcome) = refl

record_some : (r : Record) → 0 < length (record_line r)
record_some r = let e = length-append (decimal r.pid) (32 ∷ event_line r.event) in omega (arith, e)

other_digit : (r : Record) → IsWrittenRecord r → get_or (record_line r) 0 0 ≢ 101
other_digit r fits is = no_end_line r fits (record_line r) (same_agrees (record_line r)) (record_some r) is
  where
    same_agrees : (t : List ℕ) → Agree t t
    same_agrees t = ([], inl (append-nil t))

    no_end_line : (r : Record) → IsWrittenRecord r → (old : List ℕ) → Agree (record_line r) old → 0 < length old → get_or old 0 0 ≢ 101
    no_end_line r fits old agree some first =
        let p = (last_case old some first).only (traces.Record r) fits agree in
        let same : traces.Record r ≡ traces.End = p.2 in
        cc

pub traces_line_free : IsPrefixFree IsTracesLine traces_line
traces_line_free (traces.Record r) w fits fits_w agree = case_free {make = traces.Record} r fits (record_case (record_line r) (record_some r) (other_digit r fits)) record_free w fits_w agree
traces_line_free traces.End w fits fits_w agree = case_free {make = λ u. traces.End} tt tt (last_case (codes "end\n") (omega arith) refl) (one_free (codes "end\n")) w fits_w agree
