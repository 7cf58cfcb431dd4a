-- Patterns: which entries go after those of another.
use Rattle.std.proofs.Common.{◌≡◌, ◌≢◌, ℕ, zero, suc, ◌+◌, ◌<◌, ◌≤◌, List, [], ◌∷◌, ◌++◌, replicate, length, take, drop, get_or, ◌-◌, true, false, refl, sym, ◌∙◌, ap, ap₂, subst, inl, inr, All, arith}
use Rattle.std.proofs.Math.ListN.{drop_of_length-le}
use Rattle.std.proofs.Math.Seq.{take-length}
use Rattle.std.proofs.lemmas.Int.{ints}
use Rattle.std.specs.Prelude.{◌⊎◌, ◌↔◌, Option, Some, None, ℤ, pos, negsuc, slice_get, slice_set, IfSome, FitsSigned, decimal}
use Rattle.std.specs.List.{AllZip}
use Rattle.std.specs.Cmp.{int_cmp_total}
use Rattle.std.specs.Cmp.Lexicographic.{options_total}
use Rattle.std.specs.Option.{option_cmp}
use Rattle.std.specs.declared.cmp.Ordering.{Ordering}
use Rattle.std.specs.declared.cmp.Ordering.TheVariants.{Less, Equal, Greater}
use Rattle.std.specs.Ordering.{int_cmp, ordering_then, is_lt}
use Rattle.std.specs.Int.{w64}
use Rattle.std.proofs.lemmas.Bool.{false≢true}
use Rattle.std.proofs.lemmas.Fmt.{decimal_nonempty, digits_decimal}
use Rattle.std.proofs.lemmas.Str.Parse.{not_in_digits}
use Rattle.flow_model.specs.declared.records.SysEdge.{SysEdge}
use Rattle.line_text.specs.Reading.{Agree, StandsFirst, IsCutShort}
use Rattle.line_text.specs.Words.{integer_word}
use Rattle.dm_base.proofs.Decimals.{own}
use Rattle.line_text.proofs.Splits.{IsCase, agree_head, nothing_left}
use Rattle.sys_table.specs.declared.kinds.ArgKind.TheVariants.{Bytes}
use Rattle.std.proofs.lemmas.Cmp.{tied_itself, int_ranked, by_ranked}
use Rattle.std.proofs.lemmas.List.Elements.{All-head, All-tail}
use Rattle.dm_base.specs.Pattern.{pattern_cmp}
use Rattle.sys_table.specs.declared.kinds.ArgKind.{ArgKind}
use Rattle.sys_table.specs.Table.{FitsEntry, FitsNumber, recorded_of}
use Rattle.model_file.specs.declared.version.ModelVersion.TheVariants.{One}
use Rattle.model_file.specs.SysBounds.{entry_word, pattern_rest, IsNextPattern, AreEntries, IsFrom, HasEntriesAfter, HasEntryAfter, HasPatternAfter, IsPattern}
use Rattle.model_file.proofs.SysLemmas.{nones, free_entries, all_none}

-- orders of two parts

pub then_cases : (p q : Ordering) → ordering_then p q ≡ Less → (p ≡ Less) ⊎ ((p ≡ Equal) × (q ≡ Less))
then_cases Less q less = inl refl
then_cases Equal q less = inr (refl, less)
then_cases Greater q less = cc

pub entries_tie : (x y : Option ℤ) → option_cmp int_cmp x y ≡ Equal → x ≡ y
entries_tie None None is = refl
entries_tie (Some x) (Some y) is = ap Some (by_ranked _ _ _ (int_cmp x y) (int_ranked x y (int_cmp x y) refl) (λ less lt. cc) (λ equal same. same) (λ greater gt. cc))
entries_tie x y is = cc

pub entry_ties : (x : Option ℤ) → option_cmp int_cmp x x ≡ Equal
entry_ties x = tied_itself (options_total int_cmp_total) x

-- what goes after some entries

-- entries of the kinds that go after these
abbrev pub GoAfter : List ArgKind → List (Option ℤ) → Type 0
GoAfter kinds ls = (es : List (Option ℤ)) × AllZip FitsEntry kinds es × (pattern_cmp ls es ≡ Less)

pub none_after : (ls : List (Option ℤ)) → GoAfter [] ls → ⊥
none_after [] ([], fits, less) = cc
none_after (l ∷ ls) ([], fits, less) = cc
none_after ls (e ∷ es, fits, less) = fits

pub after_none : (kind : ArgKind) (kinds : List ArgKind) (ls : List (Option ℤ)) → ls ≡ [] → GoAfter (kind ∷ kinds) ls
after_none kind kinds ls is = (None ∷ nones kinds, (tt, free_entries kinds), ap (λ t. pattern_cmp t (None ∷ nones kinds)) is)

pub after_entry : (kind : ArgKind) (kinds : List ArgKind) (l : Option ℤ) (ls : List (Option ℤ)) → HasEntryAfter kind l → GoAfter (kind ∷ kinds) (l ∷ ls)
after_entry kind kinds l ls (x, fits, less) = (x ∷ nones kinds, (fits, free_entries kinds), ap (λ o. ordering_then o (pattern_cmp ls (nones kinds))) less)

pub after_same : (kind : ArgKind) (kinds : List ArgKind) (l : Option ℤ) (ls : List (Option ℤ)) → FitsEntry kind l → GoAfter kinds ls → GoAfter (kind ∷ kinds) (l ∷ ls)
after_same kind kinds l ls fits (es, fit, less) = (l ∷ es, (fits, fit), ap (λ o. ordering_then o (pattern_cmp ls es)) (entry_ties l) ∙ less)

pub after_cases : (kind : ArgKind) (kinds : List ArgKind) (l : Option ℤ) (ls : List (Option ℤ)) → GoAfter (kind ∷ kinds) (l ∷ ls) → HasEntryAfter kind l ⊎ (FitsEntry kind l × GoAfter kinds ls)
after_cases kind kinds l ls ([], fits, less) = absurd fits
after_cases kind kinds l ls (x ∷ es, fits, less) = elim (then_cases (option_cmp int_cmp l x) (pattern_cmp ls es) less) [
  | inl first ↦ inl (x, fits.0, first)
  | inr both ↦ inr (subst (FitsEntry kind) (sym (entries_tie l x both.0)) fits.0, (es, fits.1, both.1))
]

-- the entries from a place on

pub drop_at : (d : List (Option ℤ)) (place : ℕ) (x : Option ℤ) → slice_get d place ≡ Some x → drop place d ≡ x ∷ drop (suc place) d
drop_at (y ∷ d) zero x is = let same : y ≡ x = cc in ap (λ t. t ∷ d) same
drop_at (y ∷ d) (suc k) x is = drop_at d k x is
drop_at [] place x is = cc

-- the one pattern of version 1

pub only_nones : (kinds : List ArgKind) (p : List (Option ℤ)) → AllZip FitsEntry kinds p → All (λ entry. entry ≡ None) p → p ≡ nones kinds
only_nones [] [] fits all = refl
only_nones (kind ∷ kinds) (x ∷ p) fits all = ap₂ ◌∷◌ (All-head (λ entry. entry ≡ None) x p all) (only_nones kinds p fits.1 (All-tail (λ entry. entry ≡ None) x p all))
only_nones kinds p fits all = absurd fits

pub nones_are : (kinds : List ArgKind) → nones kinds ≡ replicate (length kinds) None
nones_are [] = refl
nones_are (kind ∷ kinds) = ap (λ t. None ∷ t) (nones_are kinds)

-- a list of at least one item

pub list_parts : (kinds : List ArgKind) (d : ArgKind) → 1 ≤ length kinds → kinds ≡ get_or kinds 0 d ∷ take (length kinds - 1) (drop 1 kinds)
list_parts [] d some = absurd (omega arith)
list_parts (kind ∷ kinds) d some =
    let same : length (kind ∷ kinds) - 1 ≡ length kinds = omega arith in
    ap (λ t. kind ∷ t) (sym (ap (λ n. take n kinds) same ∙ take-length kinds))

pub drop_next : (d : List (Option ℤ)) (place : ℕ) (l : Option ℤ) → slice_get d place ≡ Some l → drop place d ≡ l ∷ drop (place + 1) d
drop_next d place l is = let same : suc place ≡ place + 1 = omega arith in drop_at d place l is ∙ ap (λ n. l ∷ drop n d) same

module _ (kinds : List ArgKind) (kind : ArgKind) (others : List ArgKind) (parts : kinds ≡ kind ∷ others) (d : List (Option ℤ)) (place : ℕ) where
  pub past_after : length d ≤ place → HasEntriesAfter kinds d place
  past_after past = subst (λ ks. GoAfter ks (drop place d)) (sym parts) (after_none kind others (drop place d) (drop_of_length-le d past))

  pub entry_goes_after : (l : Option ℤ) → slice_get d place ≡ Some l → HasEntryAfter kind l → HasEntriesAfter kinds d place
  entry_goes_after l is has = subst (λ ks. GoAfter ks (drop place d)) (sym parts) (subst (GoAfter (kind ∷ others)) (sym (drop_next d place l is)) (after_entry kind others l (drop (place + 1) d) has))

  pub others_go_after : (l : Option ℤ) → slice_get d place ≡ Some l → FitsEntry kind l → HasEntriesAfter others d (place + 1) → HasEntriesAfter kinds d place
  others_go_after l is fits has = subst (λ ks. GoAfter ks (drop place d)) (sym parts) (subst (GoAfter (kind ∷ others)) (sym (drop_next d place l is)) (after_same kind others l (drop (place + 1) d) fits has))

  pub either_goes_after : (l : Option ℤ) → slice_get d place ≡ Some l → HasEntriesAfter kinds d place → HasEntryAfter kind l ⊎ (FitsEntry kind l × HasEntriesAfter others d (place + 1))
  either_goes_after l is has = after_cases kind others l (drop (place + 1) d) (subst (GoAfter (kind ∷ others)) (drop_next d place l is) (subst (λ ks. GoAfter ks (drop place d)) parts has))

pub no_kinds : (kinds : List ArgKind) (d : List (Option ℤ)) (place : ℕ) → length kinds < 1 → HasEntriesAfter kinds d place → ⊥
no_kinds [] d place none has = none_after (drop place d) has
no_kinds (kind ∷ kinds) d place none has = omega arith

-- version 1

pub plain_after : (name : ℕ) (args any : List (Option ℤ)) → any ≡ replicate (length (recorded_of name)) None → pattern_cmp args any ≡ Less → HasPatternAfter One name args
plain_after name args any is less = (nones (recorded_of name), (free_entries (recorded_of name), all_none (recorded_of name)), subst (λ p. pattern_cmp args p ≡ Less) (is ∙ sym (nones_are (recorded_of name))) less)

pub after_plain : (name : ℕ) (args any : List (Option ℤ)) → any ≡ replicate (length (recorded_of name)) None → HasPatternAfter One name args → pattern_cmp args any ≡ Less
after_plain name args any is (p, pattern, less) = subst (λ q. pattern_cmp args q ≡ Less) (only_nones (recorded_of name) p pattern.0 pattern.1 ∙ nones_are (recorded_of name) ∙ sym is) less

pub lt_tells : (o : Ordering) → is_lt o ≡ true → o ≡ Less
lt_tells Less is = refl
lt_tells o is = cc

-- entries

entry_le : (l x : Option ℤ) → IsFrom l x → (option_cmp int_cmp l x ≡ Less) ⊎ (l ≡ x)
entry_le None None from = inr refl
entry_le None (Some y) from = inl refl
entry_le (Some n) None from = absurd from
entry_le (Some n) (Some m) from = by_ranked _ _ _ (int_cmp n m) (int_ranked n m (int_cmp n m) refl) (λ less lt. inl less) (λ equal same. inr (ap Some same)) (λ greater gt. absurd (omega (arith, ints)))

entry_from : (l x : Option ℤ) → (option_cmp int_cmp l x ≡ Less) ⊎ (l ≡ x) → IsFrom l x
entry_from None x order = tt
entry_from (Some n) None (inl less) = cc
entry_from (Some n) None (inr same) = cc
entry_from (Some n) (Some m) (inl is) = by_ranked _ _ _ (int_cmp n m) (int_ranked n m (int_cmp n m) refl) (λ less lt. omega (arith, ints)) (λ equal same. absurd (cc)) (λ greater gt. absurd (cc))
entry_from (Some n) (Some m) (inr same) = let is : n ≡ m = cc in omega (arith, ints, is)

-- the least entry that some entries of the kinds may follow
abbrev pub IsLeastEntry : List ArgKind → Option (List (Option ℤ)) → ℕ → Option ℤ → Type 0
IsLeastEntry others last place least = (kind : ArgKind) (x : Option ℤ) → FitsEntry kind x → (IsFrom least x ↔ ((es : List (Option ℤ)) × AreEntries (kind ∷ others) last place (x ∷ es)))

pub least_without : (others : List ArgKind) (place : ℕ) → IsLeastEntry others None place None
least_without others place kind x fits = (λ from. (nones others, ((fits, free_entries others), tt)), λ has. tt)

pub least_past : (others : List ArgKind) (d : List (Option ℤ)) (place : ℕ) → length d ≤ place → IsLeastEntry others (Some d) place None
least_past others d place past kind x fits = (λ from. (nones others, ((fits, free_entries others), ap (λ t. pattern_cmp t (x ∷ nones others)) (drop_of_length-le d past))), λ has. tt)

pub least_same : (others : List ArgKind) (d : List (Option ℤ)) (place : ℕ) (l : Option ℤ) → slice_get d place ≡ Some l → HasEntriesAfter others d (place + 1) → IsLeastEntry others (Some d) place l
least_same others d place l is room kind x fits = (forward, back) where
  forward : IsFrom l x → (es : List (Option ℤ)) × AreEntries (kind ∷ others) (Some d) place (x ∷ es)
  forward from = elim (entry_le l x from) [
    | inl less ↦ (nones others, ((fits, free_entries others), ap (λ t. pattern_cmp t (x ∷ nones others)) (drop_next d place l is) ∙ ap (λ o. ordering_then o (pattern_cmp (drop (place + 1) d) (nones others))) less))
    | inr same ↦ (room.0, ((fits, room.1), ap (λ t. pattern_cmp t (x ∷ room.0)) (drop_next d place l is) ∙ ap (λ o. ordering_then o (pattern_cmp (drop (place + 1) d) room.0)) (ap (λ y. option_cmp int_cmp l y) (sym same) ∙ entry_ties l) ∙ room.2))
  ]

  back : ((es : List (Option ℤ)) × AreEntries (kind ∷ others) (Some d) place (x ∷ es)) → IsFrom l x
  back (es, both') = elim (then_cases (option_cmp int_cmp l x) (pattern_cmp (drop (place + 1) d) es) (sym (ap (λ t. pattern_cmp t (x ∷ es)) (drop_next d place l is)) ∙ both'.1)) [
    | inl first ↦ entry_from l x (inl first)
    | inr both ↦ entry_from l x (inr (entries_tie l x both.0))
  ]

pub least_next : (others : List ArgKind) (d : List (Option ℤ)) (place : ℕ) (l next : Option ℤ) → slice_get d place ≡ Some l → (HasEntriesAfter others d (place + 1) → ⊥) → ((kind : ArgKind) (x : Option ℤ) → FitsEntry kind x → (IsFrom next x ↔ (option_cmp int_cmp l x ≡ Less))) → IsLeastEntry others (Some d) place next
least_next others d place l next is full goes kind x fits = (forward, back) where
  forward : IsFrom next x → (es : List (Option ℤ)) × AreEntries (kind ∷ others) (Some d) place (x ∷ es)
  forward from = (nones others, ((fits, free_entries others), ap (λ t. pattern_cmp t (x ∷ nones others)) (drop_next d place l is) ∙ ap (λ o. ordering_then o (pattern_cmp (drop (place + 1) d) (nones others))) ((goes kind x fits).0 from)))

  back : ((es : List (Option ℤ)) × AreEntries (kind ∷ others) (Some d) place (x ∷ es)) → IsFrom next x
  back (es, both') = elim (then_cases (option_cmp int_cmp l x) (pattern_cmp (drop (place + 1) d) es) (sym (ap (λ t. pattern_cmp t (x ∷ es)) (drop_next d place l is)) ∙ both'.1)) [
    | inl first ↦ (goes kind x fits).1 first
    | inr both ↦ absurd (full (es, both'.0.1, both.1))
  ]

-- version 1 has one pattern for each call

plain_is : (name : ℕ) (any p : List (Option ℤ)) → any ≡ replicate (length (recorded_of name)) None → IsPattern One name p → p ≡ any
plain_is name any p is pattern = only_nones (recorded_of name) p pattern.0 pattern.1 ∙ nones_are (recorded_of name) ∙ sym is

plain_fits : (name : ℕ) (any : List (Option ℤ)) → any ≡ replicate (length (recorded_of name)) None → IsPattern One name any
plain_fits name any is = subst (IsPattern One name) (nones_are (recorded_of name) ∙ sym is) (free_entries (recorded_of name), all_none (recorded_of name))

pub plain_taken : (name : ℕ) (last : Option SysEdge) (any : List (Option ℤ)) (rest : List ℕ) → any ≡ replicate (length (recorded_of name)) None → IfSome last (λ d. pattern_cmp d.args any ≡ Less) → StandsFirst (IsNextPattern One name last) (pattern_rest One) rest rest any
plain_taken name last any rest is after = record {
  fits = (plain_fits name any is, after);
  stands = refl;
  only = λ p fits agree. plain_is name any p is fits.0;
}

pub plain_missed : (name : ℕ) (d : SysEdge) (any : List (Option ℤ)) (rest : List ℕ) → any ≡ replicate (length (recorded_of name)) None → is_lt (pattern_cmp d.args any) ≡ false → (p : List (Option ℤ)) → IsNextPattern One name (Some d) p → Agree (pattern_rest One p) rest → ⊥
plain_missed name d any rest is not_less p fits agree =
    let less : pattern_cmp d.args any ≡ Less = subst (λ q. pattern_cmp d.args q ≡ Less) (plain_is name any p is fits.0) fits.1 in
    false≢true (sym not_less ∙ ap is_lt less)

-- an entry with its end

star_or_integer : (z : ℤ) (end : ℕ) (rest : List ℕ) → FitsSigned w64 z → Agree (integer_word end z) (42 ∷ rest) → ⊥
star_or_integer (pos n) end rest fits agree = digits (decimal n) refl agree where
  digits : (text : List ℕ) → text ≡ decimal n → Agree (text ++ end ∷ []) (42 ∷ rest) → ⊥
  digits [] is agree' = let some = decimal_nonempty n (omega (arith, ints)) in absurd (omega (arith, ap length is))
  digits (b ∷ text) is agree' =
      let same : b ≡ 42 = agree_head b 42 (text ++ end ∷ []) rest agree' in
      not_in_digits own (decimal n) 42 (digits_decimal own n (omega (arith, ints))) (λ digit. omega (arith, digit.0)) 0 (omega (arith, ap length is)) (sym (ap (λ t. get_or t 0 0) is) ∙ same)
star_or_integer (negsuc n) end rest fits agree = absurd (apart (agree_head 45 42 (decimal (suc n) ++ end ∷ []) rest agree)) where
  apart : ◌≡◌ {A = ℕ} 45 42 → ⊥
  apart is = omega (arith, is)

pub wide : (kind : ArgKind) (z : ℤ) → FitsNumber kind z → FitsSigned w64 z
wide Bytes z fits = absurd fits
wide kind z fits = omega (arith, ints)

pub nothing_is_cut : (kind : ArgKind) (end : ℕ) → IsCutShort (FitsEntry kind) (entry_word end) []
nothing_is_cut kind end = nothing_left None tt (λ none. cc)

pub star_case : (kind : ArgKind) (end : ℕ) (rest old : List ℕ) → old ≡ 42 ∷ rest → IsCase {A = Unit {0}} (FitsEntry kind) (entry_word end) (λ u. Unit {0}) (λ u. entry_word end None) (λ u. None) old
star_case kind end rest old is = record {
  made = λ u fits. (tt, refl);
  only = only;
} where
  only : (x : Option ℤ) → FitsEntry kind x → Agree (entry_word end x) old → (u : Unit {0}) × Unit {0} × (x ≡ None)
  only None fits agree = (tt, tt, refl)
  only (Some z) fits agree = absurd (star_or_integer z end rest (wide kind z fits) (subst (Agree (integer_word end z)) is agree))

pub integer_case : (kind : ArgKind) (end first : ℕ) (rest old : List ℕ) → old ≡ first ∷ rest → first ≢ 42 → IsCase (FitsEntry kind) (entry_word end) (λ z. FitsNumber kind z × IsFrom None (Some z)) (integer_word end) Some old
integer_case kind end first rest old is other = record {
  made = λ z fits. (fits.0, refl);
  only = only;
} where
  only : (x : Option ℤ) → FitsEntry kind x → Agree (entry_word end x) old → (z : ℤ) × (FitsNumber kind z × IsFrom None (Some z)) × (x ≡ Some z)
  only None fits agree = absurd (other (sym (agree_head 42 first (end ∷ []) rest (subst (Agree (entry_word end None)) is agree))))
  only (Some z) fits agree = (z, (fits, tt), refl)

pub no_bytes : (text : List ℕ) → length text < 1 → text ≡ []
no_bytes [] none = refl
no_bytes (b ∷ text) none = absurd (omega arith)

-- the entries of a row, filled in from the first on

abbrev pub filled : List (Option ℤ) → ℕ → List (Option ℤ)
filled [] i = []
filled (x ∷ r) zero = None ∷ filled r zero
filled (x ∷ r) (suc i) = x ∷ filled r i

pub filled_none : (r : List (Option ℤ)) → filled r 0 ≡ replicate (length r) None
filled_none [] = refl
filled_none (x ∷ r) = ap (λ t. None ∷ t) (filled_none r)

pub filled_all : (r : List (Option ℤ)) (n : ℕ) → length r ≤ n → filled r n ≡ r
filled_all [] n past = refl
filled_all (x ∷ r) zero past = absurd (omega arith)
filled_all (x ∷ r) (suc n) past = ap (λ t. x ∷ t) (filled_all r n (omega (arith, past)))

pub length-filled : (r : List (Option ℤ)) (i : ℕ) → length (filled r i) ≡ length r
length-filled [] i = refl
length-filled (x ∷ r) zero = let more = length-filled r zero in omega arith
length-filled (x ∷ r) (suc i) = let more = length-filled r i in omega arith

filled_set : (r : List (Option ℤ)) (i : ℕ) (x : Option ℤ) → slice_get r i ≡ Some x → slice_set (filled r i) i x ≡ filled r (suc i)
filled_set (y ∷ r) zero x is = let same : y ≡ x = cc in ap (λ t. t ∷ filled r zero) (sym same)
filled_set (y ∷ r) (suc i) x is = ap (λ t. y ∷ t) (filled_set r i x is)
filled_set [] i x is = cc

pub filled_skip : (r : List (Option ℤ)) (i : ℕ) → slice_get r i ≡ Some None → filled r i ≡ filled r (suc i)
filled_skip (y ∷ r) zero is = let same : y ≡ None = cc in ap (λ t. t ∷ filled r zero) (sym same)
filled_skip (y ∷ r) (suc i) is = ap (λ t. y ∷ t) (filled_skip r i is)
filled_skip [] i is = cc

pub row_set : (e : Option ℤ) (r : List (Option ℤ)) (i : ℕ) (x : Option ℤ) → slice_get r i ≡ Some x → slice_set (e ∷ filled r i) (i + 1) x ≡ e ∷ filled r (i + 1)
row_set e r i x is =
    let next : i + 1 ≡ suc i = omega arith in
    ap (λ n. slice_set (e ∷ filled r i) n x) next ∙ ap (λ t. e ∷ t) (filled_set r i x is) ∙ ap (λ n. e ∷ filled r n) (sym next)

pub row_skip : (e : Option ℤ) (r : List (Option ℤ)) (i : ℕ) → slice_get r i ≡ Some None → (e ∷ filled r i) ≡ e ∷ filled r (i + 1)
row_skip e r i is = let next : suc i ≡ i + 1 = omega arith in ap (λ t. e ∷ t) (filled_skip r i is) ∙ ap (λ n. e ∷ filled r n) next

pub row_first : (entry x : Option ℤ) (any rest pattern : List (Option ℤ)) (n : ℕ) → n ≡ length rest → any ≡ replicate (n + 1) None → entry ≡ x → pattern ≡ slice_set any 0 x → pattern ≡ entry ∷ filled rest 0
row_first entry x any rest pattern n count is same set =
    let more : n + 1 ≡ suc (length rest) = omega arith in
    set ∙ ap (λ t. slice_set t 0 x) (is ∙ ap (λ k. replicate k None) more) ∙ ap (λ t. x ∷ t) (sym (filled_none rest)) ∙ ap (λ y. y ∷ filled rest 0) (sym same)

pub row_none : (entry : Option ℤ) (any rest pattern : List (Option ℤ)) (n : ℕ) → n ≡ length rest → any ≡ replicate (n + 1) None → entry ≡ None → pattern ≡ any → pattern ≡ entry ∷ filled rest 0
row_none entry any rest pattern n count is same pattern_is =
    let more : n + 1 ≡ suc (length rest) = omega arith in
    pattern_is ∙ is ∙ ap (λ k. replicate k None) more ∙ ap (λ t. None ∷ t) (sym (filled_none rest)) ∙ ap (λ y. y ∷ filled rest 0) (sym same)
