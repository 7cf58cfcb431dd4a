-- The entries of a pattern, word by word.
use Rattle.std.proofs.Common.{◌≡◌, ◌≢◌, ℕ, zero, suc, ◌+◌, ◌<◌, List, [], ◌∷◌, ◌++◌, length, drop, refl, sym, ◌∙◌, ap, subst, inl, inr, Contains, arith}
use Rattle.std.specs.Prelude.{Option, Some, None, ℤ, Err, IfSome, IfNone, slice_get}
use Rattle.std.specs.List.{AllZip}
use Rattle.std.specs.declared.cmp.Ordering.TheVariants.{Less, Equal}
use Rattle.std.specs.Option.{option_cmp}
use Rattle.std.specs.Ordering.{int_cmp, ordering_then}
use Rattle.std.proofs.lemmas.List.{append-nil}
use Rattle.dm_base.specs.Pattern.{pattern_cmp}
use Rattle.line_text.specs.declared.miss.Miss.{Miss}
use Rattle.line_text.specs.Reading.{StandsFirst, Reads}
use Rattle.line_text.proofs.IntegerLemmas.{signed-IsPlain}
use Rattle.sys_table.specs.declared.kinds.ArgKind.{ArgKind}
use Rattle.sys_table.specs.Table.{FitsEntry}
use Rattle.model_file.specs.ModelText.{entry_text}
use Rattle.model_file.specs.SysBounds.{AreEntries, IsFrom, end_after, entry_word, entries_words}
use Rattle.model_file.specs.declared.version.ModelVersion.TheVariants.{Two}
use Rattle.model_file.proofs.LineLemmas.{plain_word, plain_spaced}
use Rattle.model_file.proofs.Narrowing.{Leads, IsEndedPart, IsWhole, With, leads_start, ends_on, ends_miss, whole_miss, whole_stands}
use Rattle.model_file.proofs.PatternLemmas.{IsLeastEntry, wide, then_cases, entries_tie, entry_ties, drop_next, none_after}

abbrev pub head_of : List (Option ℤ) → Option ℤ
head_of [] = None
head_of (x ∷ es) = x

abbrev pub tail_of : List (Option ℤ) → List (Option ℤ)
tail_of [] = []
tail_of (x ∷ es) = es

plain_entry : (kind : ArgKind) (x : Option ℤ) → FitsEntry kind x → Contains (entry_word 32 x) 10 → ⊥
plain_entry kind None fits = plain_word (42 ∷ 32 ∷ []) refl
plain_entry kind (Some z) fits = plain_spaced (entry_text (Some z)) (signed-IsPlain z (wide kind z fits))

-- some entries
module _ (kind : ArgKind) (others : List ArgKind) (last : Option (List (Option ℤ))) (place : ℕ) (least : Option ℤ) (bound : IsLeastEntry others last place least) where
  abbrev pub All_ : List (Option ℤ) → Type 0
  All_ = AreEntries (kind ∷ others) last place

  abbrev pub First : Option ℤ → Type 0
  First x = FitsEntry kind x × IsFrom least x

  into : (es : List (Option ℤ)) → All_ es → First (head_of es)
  into [] fits = absurd fits.0
  into (x ∷ es) fits = (fits.0.0, (bound kind x fits.0.0).1 (es, fits))

  some : (x : Option ℤ) → First x → (es : List (Option ℤ)) × All_ es × (head_of es ≡ x)
  some x first = let more = (bound kind x first.0).0 first.1 in (x ∷ more.0, more.1, refl)

  splits_by : (kinds : List ArgKind) (x : Option ℤ) (es : List (Option ℤ)) → AllZip FitsEntry kinds es → entries_words (x ∷ es) ≡ entry_word (end_after Two kinds) x ++ entries_words es
  splits_by [] x [] fits = sym (append-nil (entry_word 10 x))
  splits_by (k ∷ kinds) x (y ∷ es) fits = refl
  splits_by kinds x es fits = absurd fits

  splits : (es : List (Option ℤ)) → All_ es → entries_words es ≡ entry_word (end_after Two others) (head_of es) ++ entries_words (tail_of es)
  splits [] fits = absurd fits.0
  splits (x ∷ es) fits = splits_by others x es fits.0.1

  plain_by : (kinds : List ArgKind) (x : Option ℤ) (es : List (Option ℤ)) → FitsEntry kind x → AllZip FitsEntry kinds es → entries_words es ≢ [] → Contains (entry_word (end_after Two kinds) x) 10 → ⊥
  plain_by [] x [] fits zip more has = more refl
  plain_by [] x (y ∷ es) fits zip more has = zip
  plain_by (k ∷ kinds) x es fits zip more has = plain_entry kind x fits has

  plain : (es : List (Option ℤ)) → All_ es → entries_words (tail_of es) ≢ [] → Contains (entry_word (end_after Two others) (head_of es)) 10 → ⊥
  plain [] fits more has = fits.0
  plain (x ∷ es) fits more has = plain_by others x es fits.0.0 fits.0.1 more has

  pub entry_part : IsEndedPart All_ entries_words head_of First (entry_word (end_after Two others)) (λ es. entries_words (tail_of es))
  entry_part = record { into = into; some = some; splits = splits; plain = plain }

-- once an entry was read, what is left of the last pattern
abbrev pub IsTiedEntry : Option (List (Option ℤ)) → ℕ → Option ℤ → Option (List (Option ℤ)) → Type 0
IsTiedEntry last place entry tied = IfSome tied (λ d. (last ≡ Some d) × (slice_get d place ≡ Some entry)) × IfNone tied (IfSome last (λ d. slice_get d place ≢ Some entry))

drop_none : (d : List (Option ℤ)) (place : ℕ) → slice_get d place ≡ None → drop place d ≡ []
drop_none (y ∷ d) zero is = cc
drop_none (y ∷ d) (suc k) is = drop_none d k is
drop_none [] zero is = refl
drop_none [] (suc k) is = refl

not_itself : (x : Option ℤ) → option_cmp int_cmp x x ≡ Less → ⊥
not_itself x less = let e : Less ≡ Equal = sym less ∙ entry_ties x in cc

abbrev pub IsPast : Option (List (Option ℤ)) → ℕ → List (Option ℤ) → Type 0
IsPast last place es = IfSome last (λ d. pattern_cmp (drop place d) es ≡ Less)

rest_past : (last tied : Option (List (Option ℤ))) (place : ℕ) (x : Option ℤ) (es : List (Option ℤ)) → IsTiedEntry last place x tied → IsPast last place (x ∷ es) → IsPast tied (place + 1) es
rest_past last None place x es tied past = tt
rest_past last (Some d) place x es tied past =
    let less : pattern_cmp (drop place d) (x ∷ es) ≡ Less = subst (λ l. IsPast l place (x ∷ es)) tied.0.0 past in
    elim (then_cases (option_cmp int_cmp x x) (pattern_cmp (drop (place + 1) d) es) (sym (ap (λ t. pattern_cmp t (x ∷ es)) (drop_next d place x tied.0.1)) ∙ less)) [
      | inl first ↦ absurd (not_itself x first)
      | inr both ↦ both.1
    ]

by_get : (d es more : List (Option ℤ)) (place : ℕ) (x : Option ℤ) (got : Option (Option ℤ)) → slice_get d place ≡ got → (got ≢ Some x) → pattern_cmp (drop place d) (x ∷ more) ≡ Less → pattern_cmp (drop place d) (x ∷ es) ≡ Less
by_get d es more place x None is other less = ap (λ t. pattern_cmp t (x ∷ es)) (drop_none d place is)
by_get d es more place x (Some l) is other less =
    elim (then_cases (option_cmp int_cmp l x) (pattern_cmp (drop (place + 1) d) more) (sym (ap (λ t. pattern_cmp t (x ∷ more)) (drop_next d place l is)) ∙ less)) [
      | inl first ↦ ap (λ t. pattern_cmp t (x ∷ es)) (drop_next d place l is) ∙ ap (λ o. ordering_then o (pattern_cmp (drop (place + 1) d) es)) first
      | inr both ↦ absurd (other (ap Some (entries_tie l x both.0)))
    ]

free_past : (last : Option (List (Option ℤ))) (place : ℕ) (x : Option ℤ) (es more : List (Option ℤ)) → IfSome last (λ d. slice_get d place ≢ Some x) → IsPast last place (x ∷ more) → IsPast last place (x ∷ es)
free_past None place x es more other past = tt
free_past (Some d) place x es more other past = by_get d es more place x (slice_get d place) refl other past

past_rest : (last tied : Option (List (Option ℤ))) (place : ℕ) (x : Option ℤ) (es more : List (Option ℤ)) → IsTiedEntry last place x tied → IsPast last place (x ∷ more) → IsPast tied (place + 1) es → IsPast last place (x ∷ es)
past_rest last None place x es more tied room past = free_past last place x es more tied.1 room
past_rest last (Some d) place x es more tied room past =
    subst (λ l. IsPast l place (x ∷ es)) (sym tied.0.0)
    (ap (λ t. pattern_cmp t (x ∷ es)) (drop_next d place x tied.0.1) ∙ ap (λ o. ordering_then o (pattern_cmp (drop (place + 1) d) es)) (entry_ties x) ∙ past)

-- the others follow the entry
others_whole : (kind : ArgKind) (others : List ArgKind) (last tied : Option (List (Option ℤ))) (place : ℕ) (entry : Option ℤ) → IsTiedEntry last place entry tied → ((more : List (Option ℤ)) × AreEntries (kind ∷ others) last place (entry ∷ more)) → IsWhole (With (AreEntries (kind ∷ others) last place) head_of entry) (λ es. entries_words (tail_of es)) (AreEntries others tied (place + 1)) entries_words (λ es. entry ∷ es)
others_whole kind others last tied place entry is_tied room = record {
  made = λ es fits. ((((room.1.0.0, fits.0), past_rest last tied place entry es room.0 is_tied room.1.1 fits.1), refl), refl);
  only = only;
} where
  only : (es : List (Option ℤ)) → With (AreEntries (kind ∷ others) last place) head_of entry es → (rest : List (Option ℤ)) × AreEntries others tied (place + 1) rest × (es ≡ entry ∷ rest)
  only [] fits = absurd fits.0.0
  only (x ∷ es) fits =
      let moved : IsPast last place (entry ∷ es) = subst (λ y. IsPast last place (y ∷ es)) fits.1 fits.0.1 in
      (es, (fits.0.0.1, rest_past last tied place entry es is_tied moved), ap (λ y. y ∷ es) fits.1)

-- the readers

pub entry_miss : (kinds : List ArgKind) (kind : ArgKind) (others : List ArgKind) (last : Option (List (Option ℤ))) (place end : ℕ) (least : Option ℤ) (old new : List ℕ) (miss : Miss) → kinds ≡ kind ∷ others → end ≡ end_after Two others → IsLeastEntry others last place least → Reads (λ x. FitsEntry kind x × IsFrom least x) (entry_word end) old new (Err miss) → Reads (AreEntries kinds last place) entries_words old new (Err miss)
entry_miss kinds kind others last place end least old new miss parts end_is bound reads =
    subst (λ ks. Reads (AreEntries ks last place) entries_words old new (Err miss)) (sym parts)
    (ends_miss old old new (leads_start old) (entry_part kind others last place least bound) miss (subst (λ e. Reads (λ x. FitsEntry kind x × IsFrom least x) (entry_word e) old new (Err miss)) end_is reads))

begun : (kind : ArgKind) (others : List ArgKind) (last : Option (List (Option ℤ))) (place end : ℕ) (least entry : Option ℤ) (old mid : List ℕ) → end ≡ end_after Two others → IsLeastEntry others last place least → StandsFirst (λ x. FitsEntry kind x × IsFrom least x) (entry_word end) old mid entry → Leads (AreEntries (kind ∷ others) last place) entries_words old (With (AreEntries (kind ∷ others) last place) head_of entry) (λ es. entries_words (tail_of es)) mid
begun kind others last place end least entry old mid end_is bound stands =
    ends_on old old mid (leads_start old) (entry_part kind others last place least bound) entry (subst (λ e. StandsFirst (λ x. FitsEntry kind x × IsFrom least x) (entry_word e) old mid entry) end_is stands)

pub others_miss : (kinds : List ArgKind) (kind : ArgKind) (others : List ArgKind) (last tied : Option (List (Option ℤ))) (place end : ℕ) (least entry : Option ℤ) (old mid new : List ℕ) (miss : Miss) → kinds ≡ kind ∷ others → end ≡ end_after Two others → IsLeastEntry others last place least → StandsFirst (λ x. FitsEntry kind x × IsFrom least x) (entry_word end) old mid entry → IsTiedEntry last place entry tied → Reads (AreEntries others tied (place + 1)) entries_words mid new (Err miss) → Reads (AreEntries kinds last place) entries_words old new (Err miss)
others_miss kinds kind others last tied place end least entry old mid new miss parts end_is bound stands is_tied reads =
    let lead = begun kind others last place end least entry old mid end_is bound stands in
    let room = (bound kind entry stands.fits.0).0 stands.fits.1 in
    subst (λ ks. Reads (AreEntries ks last place) entries_words old new (Err miss)) (sym parts)
    (lead.err new miss (whole_miss mid new (others_whole kind others last tied place entry is_tied room) miss reads))

pub entries_stand : (kinds : List ArgKind) (kind : ArgKind) (others : List ArgKind) (last tied : Option (List (Option ℤ))) (place end : ℕ) (least entry : Option ℤ) (rest : List (Option ℤ)) (old mid new : List ℕ) → kinds ≡ kind ∷ others → end ≡ end_after Two others → IsLeastEntry others last place least → StandsFirst (λ x. FitsEntry kind x × IsFrom least x) (entry_word end) old mid entry → IsTiedEntry last place entry tied → StandsFirst (AreEntries others tied (place + 1)) entries_words mid new rest → StandsFirst (AreEntries kinds last place) entries_words old new (entry ∷ rest)
entries_stand kinds kind others last tied place end least entry rest old mid new parts end_is bound stands is_tied next =
    let lead = begun kind others last place end least entry old mid end_is bound stands in
    let room = (bound kind entry stands.fits.0).0 stands.fits.1 in
    subst (λ ks. StandsFirst (AreEntries ks last place) entries_words old new (entry ∷ rest)) (sym parts)
    (lead.ok new (entry ∷ rest) (whole_stands mid new (others_whole kind others last tied place entry is_tied room) rest next))

pub none_left : (kinds : List ArgKind) (d : List (Option ℤ)) (place : ℕ) → length kinds < 1 → (es : List (Option ℤ)) → AreEntries kinds (Some d) place es → ⊥
none_left [] d place none es fits = none_after (drop place d) (es, fits.0, fits.1)
none_left (kind ∷ kinds) d place none es fits = absurd (omega arith)
