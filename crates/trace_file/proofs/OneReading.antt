-- A text is that of one trace, or of one list of records, and then it isn't refused.
use Rattle.std.proofs.Common.{◌≡◌, ◌≤◌, ◌<◌, ℕ, ◌+◌, Bool, true, false, cond, List, [], ◌∷◌, ◌++◌, length, All, refl, sym, ◌∙◌, ap, subst, inl, inr, append_assoc, arith, length-append}
use Rattle.std.specs.Prelude.{codes, flat_map}
use Rattle.std.specs.Cmp.{nat_cmp_total}
use Rattle.std.specs.FinSet.{from_list, len, contains, len-insert, from_list_push, nat_cmp-IsAntisymmetric}
use Rattle.std.specs.Ordering.{nat_cmp}
use Rattle.std.proofs.lemmas.List.{append-nil, append_cancel_left}
use Rattle.std.proofs.lemmas.List.Concat.{flat_map-append}
use Rattle.std.proofs.lemmas.List.Elements.{All-head, All-tail}
use Rattle.dm_base.specs.declared.event.Event.{Event}
use Rattle.dm_base.specs.declared.outcome.TraceEnd.{TraceEnd}
use Rattle.line_text.specs.Files.{IsBadLine}
use Rattle.line_text.specs.Reading.{Agree}
use Rattle.line_text.proofs.Cases.{one_free}
use Rattle.line_text.proofs.FirstLines.{through_begins}
use Rattle.line_text.proofs.Splits.{prefixes_agree}
use Rattle.trace_file.specs.declared.error.TraceError.{TraceError}
use Rattle.trace_file.specs.declared.error.TraceError.TheVariants.{OutOfMemory, BadLine, NoEnd, TooLong, TooManyProcesses, Version}
use Rattle.trace_file.specs.declared.lines.TraceLine.TheVariants as trace
use Rattle.trace_file.specs.declared.lines.TracesLine.TheVariants as traces
use Rattle.trace_file.specs.declared.record.Record.{Record}
use Rattle.trace_file.specs.declared.version.TracesVersion.{TracesVersion}
use Rattle.trace_file.specs.EventText.{IsWritten, IsRightEnd}
use Rattle.trace_file.specs.Known.{made_known, known_count}
use Rattle.trace_file.specs.Lines.{event_line, end_line, record_line, IsWrittenRecord}
use Rattle.trace_file.specs.Trace.{trace_head, IsTrace, IsFormedTrace, IsTraceWithin, HasOtherTraceVersion, IsTraceRefusal}
use Rattle.trace_file.specs.Traces.{most_processes, traces_head, AreTraces, AreFormedTraces, AreTracesWithin, PassesALimit, HasOtherTracesVersion, IsTracesRefusal}
use Rattle.trace_file.proofs.PrefixFree.{IsPrefixFree, event_free, end_free, record_free, trace_line_free, traces_line_free}
use Rattle.trace_file.proofs.TraceLemmas.{head_reached}
use Rattle.trace_file.proofs.TracesLemmas as many

-- a formed text has no bad line
no_bad_line : (Formed : List ℕ → Type 0) (text : List ℕ) (k : ℕ) → Formed text → IsBadLine Formed text k → ⊥
no_bad_line Formed text k formed bad =
    let part = through_begins k text in
    bad.bad (part.0, subst Formed part.1 formed)

-- lines of items, and then one of another kind

module _ {X E : Type 0} (Fits : X → Type 0) (item : X → List ℕ) (FitsEnd : E → Type 0) (ending : E → List ℕ) (free : IsPrefixFree Fits item) (end_one : IsPrefixFree FitsEnd ending) (apart : (x : X) (e : E) → Fits x → FitsEnd e → Agree (item x) (ending e) → ⊥) where
  -- lines of items that stand first are of the first items
  first_items : (xs front : List X) (e : E) (tail rest : List ℕ) → All Fits xs → All Fits front → FitsEnd e → flat_map item xs ++ (ending e ++ tail) ≡ flat_map item front ++ rest → (more : List X) × All Fits more × (xs ≡ front ++ more) × (flat_map item more ++ (ending e ++ tail) ≡ rest)
  first_items xs [] e tail rest fits fits' fits_e is = (xs, fits, refl, is)
  first_items [] (y ∷ front) e tail rest fits fits' fits_e is =
      absurd (apart y e (All-head Fits y front fits') fits_e (prefixes_agree (item y) (ending e) (flat_map item front ++ rest) tail (sym (append_assoc (item y) (flat_map item front) rest) ∙ sym is)))
  first_items (x ∷ xs) (y ∷ front) e tail rest fits fits' fits_e is =
      let whole : item x ++ (flat_map item xs ++ (ending e ++ tail)) ≡ item y ++ (flat_map item front ++ rest) = sym (append_assoc (item x) (flat_map item xs) (ending e ++ tail)) ∙ is ∙ append_assoc (item y) (flat_map item front) rest in
      let same : y ≡ x = free x y (All-head Fits x xs fits) (All-head Fits y front fits') (prefixes_agree (item y) (item x) (flat_map item front ++ rest) (flat_map item xs ++ (ending e ++ tail)) (sym whole)) in
      let tails : flat_map item xs ++ (ending e ++ tail) ≡ flat_map item front ++ rest = append_cancel_left (item x) _ _ (whole ∙ ap (λ z. item z ++ (flat_map item front ++ rest)) same) in
      let more = first_items xs front e tail rest (All-tail Fits x xs fits) (All-tail Fits y front fits') fits_e tails in
      (more.0, more.1, (λ i. sym same i ∷ more.2 i), more.3)

  no_items : (xs : List X) (e d : E) (rest rest' : List ℕ) → All Fits xs → FitsEnd e → FitsEnd d → flat_map item xs ++ (ending e ++ rest) ≡ ending d ++ rest' → (xs ≡ []) × (d ≡ e) × (rest' ≡ rest)
  no_items [] e d rest rest' fits fits_e fits_d is =
      let same : d ≡ e = end_one e d fits_e fits_d (prefixes_agree (ending d) (ending e) rest' rest (sym is)) in
      (refl, same, sym (append_cancel_left (ending e) rest rest' (is ∙ ap (λ z. ending z ++ rest') same)))
  no_items (x ∷ xs) e d rest rest' fits fits_e fits_d is =
      absurd (apart x d (All-head Fits x xs fits) fits_d (prefixes_agree (item x) (ending d) (flat_map item xs ++ (ending e ++ rest)) rest' (sym (append_assoc (item x) (flat_map item xs) (ending e ++ rest)) ∙ is)))

  -- lines of items, a last line and a rest are so in one way
  one_way : (xs ys : List X) (e d : E) (rest rest' : List ℕ) → All Fits xs → All Fits ys → FitsEnd e → FitsEnd d → flat_map item xs ++ (ending e ++ rest) ≡ flat_map item ys ++ (ending d ++ rest') → (ys ≡ xs) × (d ≡ e) × (rest' ≡ rest)
  one_way xs ys e d rest rest' fits fits' fits_e fits_d is =
      let front = first_items xs ys e rest (ending d ++ rest') fits fits' fits_e is in
      let last = no_items front.0 e d rest rest' front.1 fits_e fits_d front.3 in
      (sym (front.2 ∙ ap (λ (zs : List X). ys ++ zs) last.0 ∙ append-nil ys), last.1, last.2)

-- traces

event_apart : (e : Event) (end : TraceEnd) → IsWritten e → IsRightEnd end → Agree (event_line e) (end_line end) → ⊥
event_apart e end written right agree = let same : trace.Event e ≡ trace.End end = trace_line_free (trace.End end) (trace.Event e) right written agree in cc

-- a trace that begins a trace is that trace
pub one_trace : (text more : List ℕ) (events later : List Event) (end last : TraceEnd) → IsTrace text events end → IsTrace (text ++ more) later last → (later ≡ events) × (last ≡ end) × (more ≡ [])
one_trace text more events later end last first whole_one =
    let whole : trace_head ++ (flat_map event_line events ++ (end_line end ++ more)) ≡ trace_head ++ (flat_map event_line later ++ (end_line last ++ [])) =
    ap (λ (t : List ℕ). trace_head ++ t) (sym (append_assoc (flat_map event_line events) (end_line end) more)) ∙ sym (append_assoc trace_head (flat_map event_line events ++ end_line end) more)
    ∙ ap (λ (t : List ℕ). t ++ more) (sym (append_assoc trace_head (flat_map event_line events) (end_line end)) ∙ sym first.is) ∙ whole_one.is
    ∙ append_assoc trace_head (flat_map event_line later) (end_line last) ∙ ap (λ (t : List ℕ). trace_head ++ (flat_map event_line later ++ t)) (sym (append-nil (end_line last))) in
    let same = one_way IsWritten event_line IsRightEnd end_line event_free end_free event_apart events later end last more [] first.written whole_one.written first.right whole_one.right (append_cancel_left trace_head _ _ whole) in
    (same.0, same.1, sym same.2)

pub trace_unrefused : (text : List ℕ) (events : List Event) (end : TraceEnd) (error : TraceError) → IsTraceWithin text events end → IsTraceRefusal error text → error ≡ OutOfMemory
trace_unrefused text events end OutOfMemory within refused = refl
trace_unrefused text events end TooLong within (inl long) = absurd (let short = within.short in omega (arith, long, short))
trace_unrefused text events end TooLong within (inr much) =
    let whole = append_cancel_left trace_head _ _ (sym (append_assoc trace_head (flat_map event_line events) (end_line end)) ∙ sym within.trace.is ∙ much.is ∙ append_assoc trace_head (flat_map event_line much.events) much.rest) in
    let front = first_items IsWritten event_line IsRightEnd end_line event_free end_free event_apart events much.events end [] much.rest within.trace.written much.written within.trace.right (ap (λ (t : List ℕ). flat_map event_line events ++ t) (append-nil (end_line end)) ∙ whole) in
    let less = ap length front.2 ∙ length-append much.events front.0 in
    let few = within.few in
    let many = much.many in
    absurd (omega (arith, less, few, many))
trace_unrefused text events end Version within refused =
    absurd (head_reached.own (flat_map event_line events ++ end_line end) (subst HasOtherTraceVersion (within.trace.is ∙ append_assoc trace_head (flat_map event_line events) (end_line end)) refused.1))
trace_unrefused text events end (BadLine k) within refused = absurd (no_bad_line IsFormedTrace text k (events, end, within.trace) refused.3)
trace_unrefused text events end NoEnd within (short, few, (more, some, (later, last, whole_one))) =
    absurd (some (one_trace text more events later end last within.trace whole_one).2)
trace_unrefused text events end (TooManyProcesses k) within refused = absurd refused

-- interleaved traces

record_apart : (r : Record) (u : Unit {0}) → IsWrittenRecord r → Unit {0} → Agree (record_line r) (codes "end\n") → ⊥
record_apart r u written right agree = let same : traces.Record r ≡ traces.End = traces_line_free traces.End (traces.Record r) tt written agree in cc

pub one_traces : (text more : List ℕ) (v v' : TracesVersion) (records later : List Record) → AreTraces text v records → AreTraces (text ++ more) v' later → (v' ≡ v) × (later ≡ records) × (more ≡ [])
one_traces text more v v' records later first whole_one =
    let whole : traces_head v ++ (flat_map record_line records ++ (codes "end\n" ++ more)) ≡ traces_head v' ++ (flat_map record_line later ++ (codes "end\n" ++ [])) =
    ap (λ (t : List ℕ). traces_head v ++ t) (sym (append_assoc (flat_map record_line records) (codes "end\n") more)) ∙ sym (append_assoc (traces_head v) (flat_map record_line records ++ codes "end\n") more)
    ∙ ap (λ (t : List ℕ). t ++ more) (sym (append_assoc (traces_head v) (flat_map record_line records) (codes "end\n")) ∙ sym first.is) ∙ whole_one.is
    ∙ append_assoc (traces_head v') (flat_map record_line later) (codes "end\n") in
    let heads = many.head_same v v' (flat_map record_line records ++ (codes "end\n" ++ more)) (flat_map record_line later ++ (codes "end\n" ++ [])) whole in
    let same = one_way IsWrittenRecord record_line (λ (u : Unit {0}). Unit {0}) (λ u. codes "end\n") record_free (one_free (codes "end\n")) record_apart records later tt tt more [] first.written whole_one.written tt tt heads.1 in
    (heads.0, same.0, sym same.2)

-- more numbers are no fewer known
pub len_more : (front numbers : List ℕ) → len (from_list {R = nat_cmp} front) ≤ len (from_list {R = nat_cmp} (front ++ numbers))
len_more front [] = let same = ap (λ (t : List ℕ). len (from_list {R = nat_cmp} t)) (append-nil front) in omega (arith, same)
len_more front (p ∷ numbers) =
    let pushed : len (from_list {R = nat_cmp} (front ++ p ∷ [])) ≡ cond (contains (from_list {R = nat_cmp} front) p) (len (from_list {R = nat_cmp} front)) (len (from_list {R = nat_cmp} front) + 1) =
    ap len (from_list_push nat_cmp_total nat_cmp-IsAntisymmetric front p) ∙ len-insert nat_cmp_total (from_list front) p in
    let one : len (from_list {R = nat_cmp} front) ≤ len (from_list {R = nat_cmp} (front ++ p ∷ [])) = not_less (contains (from_list {R = nat_cmp} front) p) (len (from_list {R = nat_cmp} front)) _ pushed in
    let others = len_more (front ++ p ∷ []) numbers in
    let same = ap (λ (t : List ℕ). len (from_list {R = nat_cmp} t)) (append_assoc front (p ∷ []) numbers) in
    omega (arith, one, others, same)
  where
    not_less : (b : Bool) (n m : ℕ) → m ≡ cond b n (n + 1) → n ≤ m
    not_less true n m is = omega (arith, is)
    not_less false n m is = omega (arith, is)

pub known_more : (v : TracesVersion) (front more : List Record) → known_count v front ≤ known_count v (front ++ more)
known_more v front more =
    let whole = len_more (flat_map (made_known v) front) (flat_map (made_known v) more) in
    let same = ap (λ (t : List ℕ). len (from_list {R = nat_cmp} t)) (flat_map-append (made_known v) front more) in
    omega (arith, whole, same)

-- records that pass a limit are the first of those that stand there
passed_first : (text : List ℕ) (v v' : TracesVersion) (records before : List Record) (last : Record) → AreTraces text v records → PassesALimit text v' before last → (v' ≡ v) × ((more : List Record) × (records ≡ (before ++ last ∷ []) ++ more))
passed_first text v v' records before last are passes =
    let whole : traces_head v ++ (flat_map record_line records ++ codes "end\n") ≡ traces_head v' ++ (flat_map record_line (before ++ last ∷ []) ++ passes.rest) =
    sym (append_assoc (traces_head v) (flat_map record_line records) (codes "end\n")) ∙ sym are.is ∙ passes.is ∙ append_assoc (traces_head v') (flat_map record_line (before ++ last ∷ [])) passes.rest in
    let heads = many.head_same v v' (flat_map record_line records ++ codes "end\n") (flat_map record_line (before ++ last ∷ []) ++ passes.rest) whole in
    let front = first_items IsWrittenRecord record_line (λ (u : Unit {0}). Unit {0}) (λ u. codes "end\n") record_free (one_free (codes "end\n")) record_apart records (before ++ last ∷ []) tt [] passes.rest are.written passes.written tt heads.1 in
    (heads.0, (front.0, front.2))

pub traces_unrefused : (text : List ℕ) (v : TracesVersion) (records : List Record) (error : TraceError) → AreTracesWithin text v records → IsTracesRefusal error text → error ≡ OutOfMemory
traces_unrefused text v records OutOfMemory within refused = refl
traces_unrefused text v records TooLong within (inl long) = absurd (let short = within.short in omega (arith, long, short))
traces_unrefused text v records TooLong within (inr (v', before, last, passes, full)) =
    let front = passed_first text v v' records before last within.traces passes in
    let len_all = ap length front.1.1 ∙ length-append (before ++ last ∷ []) front.1.0 in
    let len_front = length-append before (last ∷ []) in
    let few = within.few in
    absurd (omega (arith, len_all, len_front, few, full))
traces_unrefused text v records (TooManyProcesses k) within (short, (v', before, last, passes, less, much, number)) =
    let front = passed_first text v v' records before last within.traces passes in
    let more = known_more v (before ++ last ∷ []) front.1.0 in
    let all = ap (known_count v) front.1.1 in
    let known = within.known in
    let much' : most_processes < known_count v (before ++ last ∷ []) = subst (λ (u : TracesVersion). most_processes < known_count u (before ++ last ∷ [])) front.0 much in
    absurd (omega (arith, more, all, known, much'))
traces_unrefused text v records Version within refused =
    absurd ((many.head_reached v).own (flat_map record_line records ++ codes "end\n") (subst HasOtherTracesVersion (within.traces.is ∙ append_assoc (traces_head v) (flat_map record_line records) (codes "end\n")) refused.1))
traces_unrefused text v records (BadLine k) within refused = absurd (no_bad_line AreFormedTraces text k (v, records, within.traces) refused.3)
traces_unrefused text v records NoEnd within (short, few, (more, some, (v', later, whole_one))) =
    absurd (some (one_traces text more v v' records later within.traces whole_one).2)
