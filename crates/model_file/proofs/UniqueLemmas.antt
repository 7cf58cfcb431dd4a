-- A text is that of one version and of one model's lists, and no such text goes on as another.
use Rattle.std.proofs.Common.{◌≡◌, ℕ, zero, suc, ◌<◌, ◌^◌, ℤ, pos, negsuc, List, [], ◌∷◌, ◌++◌, length, get_or, Option, None, Some, decimal, refl, sym, ◌∙◌, ap, subst, inl, inr, append_assoc, arith}
use Rattle.std.specs.Prelude.{◌⊎◌, All, FitsSigned, flat_map, codes}
use Rattle.std.specs.Fmt.{signed_decimal}
use Rattle.std.specs.Int.{w64}
use Rattle.std.specs.List.{AllZip}
use Rattle.std.proofs.lemmas.Fmt.{digits_decimal, decimal_injective, decimal_nonempty}
use Rattle.std.proofs.lemmas.Int.{ints}
use Rattle.std.proofs.lemmas.List.{append-nil, append_cancel_left}
use Rattle.std.proofs.lemmas.Str.Parse.{not_in_digits}
use Rattle.line_text.specs.Words.{IsEnd, IsPlain}
use Rattle.dm_base.proofs.Decimals.{own}
use Rattle.line_text.proofs.IntegerLemmas.{signed-IsPlain, signed_injective}
use Rattle.line_text.proofs.NumberLemmas.{decimal-IsPlain}
use Rattle.line_text.proofs.WordLemmas.{same_word}
use Rattle.sys_table.specs.declared.kinds.ArgKind.{ArgKind}
use Rattle.sys_table.specs.declared.kinds.ArgKind.TheVariants.{Bytes}
use Rattle.sys_table.specs.Table.{name_of, recorded_of, FitsEntry}
use Rattle.sys_table.proofs.Names.{same_call, name_of-IsPlain}
use Rattle.flow_model.specs.declared.records.ModelFunction.{ModelFunction}
use Rattle.flow_model.specs.declared.records.SilentEdge.{SilentEdge}
use Rattle.flow_model.specs.declared.records.SysEdge.{SysEdge}
use Rattle.flow_model.specs.Call.{Call}
use Rattle.flow_model.specs.Graph.{Graph}
use Rattle.model_file.specs.declared.version.ModelVersion.{ModelVersion}
use Rattle.model_file.specs.declared.version.ModelVersion.TheVariants.{One, Two}
use Rattle.model_file.specs.ModelText.{head_line, functions_line, function_line, nodes_line, silent_line, sys_line, call_line, start_line, ending, entry_text, pattern_text, model_text, IsSmall, HasPattern, IsSpelledFunction, IsSpelledSilent, IsSpelledSys, IsSpelledCall, IsSpelled, IsModelText}
use Rattle.model_file.proofs.HeadLemmas.{after_head, text_is}
use Rattle.model_file.proofs.NameLemmas.{name-IsPlain}
use Rattle.model_file.proofs.OrderLemmas.{all_at, all_more}
use Rattle.model_file.proofs.PatternLemmas.{only_nones}
use Rattle.line_text.proofs.Separators.{space, feed}

-- words

-- the same word stands first, and the same follows
word_code : (a b : List ℕ) (d e : ℕ) (r s : List ℕ) → IsPlain a → IsPlain b → IsEnd d → IsEnd e → a ++ d ∷ r ≡ b ++ e ∷ s → (a ≡ b) × (d ≡ e) × (r ≡ s)
word_code a b d e r s in_a in_b end_d end_e is =
    let same = same_word a b d e r s in_a in_b end_d end_e is in
    let rest : d ∷ r ≡ e ∷ s = append_cancel_left b (d ∷ r) (e ∷ s) (ap (λ (t : List ℕ). t ++ d ∷ r) (sym same.0) ∙ is) in
    (same.0, same.1, tail d e r s rest)
  where
    tail : (d e : ℕ) (r s : List ℕ) → d ∷ r ≡ e ∷ s → r ≡ s
    tail d e r s is = cc

number_code : (m n d e : ℕ) (r s : List ℕ) → IsSmall m → IsSmall n → IsEnd d → IsEnd e → decimal m ++ d ∷ r ≡ decimal n ++ e ∷ s → (m ≡ n) × (d ≡ e) × (r ≡ s)
number_code m n d e r s small_m small_n end_d end_e is =
    let wide_m : m < 2 ^ 64 = omega (arith, small_m) in
    let wide_n : n < 2 ^ 64 = omega (arith, small_n) in
    let same = word_code (decimal m) (decimal n) d e r s (decimal-IsPlain m wide_m) (decimal-IsPlain n wide_n) end_d end_e is in
    (decimal_injective m n wide_m wide_n same.0, same.1, same.2)

-- words, each after a space, and the line feed

module _ {X : Type 0} (text : X → List ℕ) (Fits : X → Type 0) (plain : (x : X) → Fits x → IsPlain (text x)) (injective : (x y : X) → Fits x → Fits y → text x ≡ text y → x ≡ y) where
  words_end : (xs : List X) (r : List ℕ) → (d : ℕ) × (rest : List ℕ) × IsEnd d × (flat_map (λ x. 32 ∷ text x) xs ++ 10 ∷ r ≡ d ∷ rest)
  words_end [] r = (10, r, feed, refl)
  words_end (x ∷ xs) r = (32, text x ++ flat_map (λ y. 32 ∷ text y) xs ++ 10 ∷ r, space, refl)

  words_code : (xs ys : List X) (r s : List ℕ) → All Fits xs → All Fits ys → flat_map (λ x. 32 ∷ text x) xs ++ 10 ∷ r ≡ flat_map (λ x. 32 ∷ text x) ys ++ 10 ∷ s → (xs ≡ ys) × (r ≡ s)
  words_code [] [] r s all_x all_y is = (refl, cc)
  words_code [] (y ∷ ys) r s all_x all_y is = let first : ◌≡◌ {A = ℕ} 10 32 = cc in absurd (omega (arith, first))
  words_code (x ∷ xs) [] r s all_x all_y is = let first : ◌≡◌ {A = ℕ} 32 10 = cc in absurd (omega (arith, first))
  words_code (x ∷ xs) (y ∷ ys) r s all_x all_y is =
      let fits_x : Fits x = all_at Fits [] x xs all_x in
      let fits_y : Fits y = all_at Fits [] y ys all_y in
      let left : text x ++ (flat_map (λ z. 32 ∷ text z) xs ++ 10 ∷ r) ≡ text y ++ (flat_map (λ z. 32 ∷ text z) ys ++ 10 ∷ s) = without_space (text x) (flat_map (λ z. 32 ∷ text z) xs) (10 ∷ r) (text y) (flat_map (λ z. 32 ∷ text z) ys) (10 ∷ s) is in
      let end_x = words_end xs r in
      let end_y = words_end ys s in
      let one = word_code (text x) (text y) end_x.0 end_y.0 end_x.1 end_y.1 (plain x fits_x) (plain y fits_y) end_x.2 end_y.2 (ap (λ (t : List ℕ). text x ++ t) (sym end_x.3) ∙ left ∙ ap (λ (t : List ℕ). text y ++ t) end_y.3) in
      let rest : flat_map (λ z. 32 ∷ text z) xs ++ 10 ∷ r ≡ flat_map (λ z. 32 ∷ text z) ys ++ 10 ∷ s = append_cancel_left (text y) _ _ (ap (λ (t : List ℕ). t ++ (flat_map (λ z. 32 ∷ text z) xs ++ 10 ∷ r)) (sym one.0) ∙ left) in
      let more = words_code xs ys r s (all_more Fits (x ∷ []) xs all_x) (all_more Fits (y ∷ []) ys all_y) rest in
      let same : x ≡ y = injective x y fits_x fits_y one.0 in
      (λ i. same i ∷ more.0 i, more.1)
    where
      without_space : (a b c p q u : List ℕ) → 32 ∷ (a ++ b ++ c) ≡ 32 ∷ (p ++ q ++ u) → a ++ (b ++ c) ≡ p ++ (q ++ u)
      without_space a b c p q u is =
          let tails : a ++ b ++ c ≡ p ++ q ++ u = cc in
          sym (append_assoc a b c) ∙ tails ∙ append_assoc p q u

candidates_code : (xs ys : List ℕ) (r s : List ℕ) → All IsSmall xs → All IsSmall ys → flat_map (λ f. 32 ∷ decimal f) xs ++ 10 ∷ r ≡ flat_map (λ f. 32 ∷ decimal f) ys ++ 10 ∷ s → (xs ≡ ys) × (r ≡ s)
candidates_code = words_code decimal IsSmall (λ n small. decimal-IsPlain n (omega (arith, small))) (λ m n small_m small_n is. decimal_injective m n (omega (arith, small_m)) (omega (arith, small_n)) is)

-- patterns

abbrev IsWide : Option ℤ → Type 0
IsWide None = Unit {0}
IsWide (Some n) = FitsSigned w64 n

wide_entry : (kind : ArgKind) (entry : Option ℤ) → FitsEntry kind entry → IsWide entry
wide_entry kind None fits = tt
wide_entry Bytes (Some n) fits = absurd fits
wide_entry kind (Some n) fits = omega (arith, ints)

wide_entries : (kinds : List ArgKind) (entries : List (Option ℤ)) → AllZip FitsEntry kinds entries → All IsWide entries
wide_entries kinds [] all k d within = absurd (omega (arith, within))
wide_entries [] (entry ∷ entries) all k d within = absurd all
wide_entries (kind ∷ kinds) (entry ∷ entries) all zero d within = wide_entry kind entry all.0
wide_entries (kind ∷ kinds) (entry ∷ entries) all (suc k) d within = wide_entries kinds entries all.1 k d (omega (arith, within))

star_plain : IsPlain (codes "*")
star_plain = (no_end, tt)
  where
    no_end : IsEnd 42 → ⊥
    no_end (inl is) = omega arith
    no_end (inr is) = omega arith

entry_plain : (entry : Option ℤ) → IsWide entry → IsPlain (entry_text entry)
entry_plain None wide = star_plain
entry_plain (Some n) wide = signed-IsPlain n wide

-- a decimal is digits
no_digit : (n : ℕ) → n < 2 ^ 64 → decimal n ≡ 42 ∷ [] → ⊥
no_digit n small is =
    let first : get_or (decimal n) 0 0 ≡ 42 = ap (λ w. get_or w 0 0) is in
    not_in_digits own (decimal n) 42 (digits_decimal own n small) (λ digit. omega (arith, digit.0)) 0 (decimal_nonempty n small) first

no_star : (n : ℤ) → FitsSigned w64 n → 42 ∷ [] ≡ signed_decimal n → ⊥
no_star (pos n) wide is = no_digit n (omega (arith, wide.sfits)) (sym is)
no_star (negsuc n) wide is = let same : ◌≡◌ {A = ℕ} 42 45 = cc in absurd (omega (arith, same))

entry_injective : (d e : Option ℤ) → IsWide d → IsWide e → entry_text d ≡ entry_text e → d ≡ e
entry_injective None None wide_d wide_e is = refl
entry_injective None (Some n) wide_d wide_e is = absurd (no_star n wide_e is)
entry_injective (Some n) None wide_d wide_e is = absurd (no_star n wide_d (sym is))
entry_injective (Some m) (Some n) wide_d wide_e is = ap (λ z. Some z) (signed_injective m n wide_d wide_e is)

pattern_end : (v : ModelVersion) (entries : List (Option ℤ)) (r : List ℕ) → (d : ℕ) × (rest : List ℕ) × IsEnd d × (pattern_text v entries ++ 10 ∷ r ≡ d ∷ rest)
pattern_end One entries r = (10, r, feed, refl)
pattern_end Two entries r = words_end entry_text IsWide entry_plain entry_injective entries r

pattern_code : (v : ModelVersion) (kinds : List ArgKind) (xs ys : List (Option ℤ)) (r s : List ℕ) → AllZip FitsEntry kinds xs → AllZip FitsEntry kinds ys → HasPattern v xs → HasPattern v ys → pattern_text v xs ++ 10 ∷ r ≡ pattern_text v ys ++ 10 ∷ s → (xs ≡ ys) × (r ≡ s)
pattern_code One kinds xs ys r s zip_x zip_y any_x any_y is = (only_nones kinds xs zip_x any_x ∙ sym (only_nones kinds ys zip_y any_y), cc)
pattern_code Two kinds xs ys r s zip_x zip_y any_x any_y is = words_code entry_text IsWide entry_plain entry_injective xs ys r s (wide_entries kinds xs zip_x) (wide_entries kinds ys zip_y) is

-- lines

-- the same value's line stands first, and the same follows
abbrev IsCode : {X : Type 0} → (X → Type 0) → (X → List ℕ) → Type 0
IsCode {X} Fits line = (x y : X) (r s : List ℕ) → Fits x → Fits y → line x ++ r ≡ line y ++ s → (x ≡ y) × (r ≡ s)

number_line : (word : List ℕ) (n : ℕ) (r : List ℕ) → word ++ decimal n ++ 10 ∷ [] ++ r ≡ word ++ (decimal n ++ 10 ∷ r)
number_line word n r = append_assoc (word ++ decimal n) (10 ∷ []) r ∙ append_assoc word (decimal n) (10 ∷ r)

number_line_code : (word : List ℕ) → IsCode IsSmall (λ n. word ++ decimal n ++ 10 ∷ [])
number_line_code word m n r s small_m small_n is =
    let same = number_code m n 10 10 r s small_m small_n feed feed (append_cancel_left word _ _ (sym (number_line word m r) ∙ is ∙ number_line word n s)) in
    (same.0, same.2)

function_code : IsCode IsSpelledFunction function_line
function_code x y r s fits_x fits_y is =
    let name = word_code x.name y.name 32 32 _ _ (name-IsPlain x.name fits_x.name) (name-IsPlain y.name fits_y.name) space space (append_cancel_left (codes "f ") _ _ (simp append_assoc at is)) in
    let entry = number_code x.entry y.entry 32 32 _ _ fits_x.entry fits_y.entry space space name.2 in
    let exit = number_code x.exit y.exit 10 10 _ _ fits_x.exit fits_y.exit feed feed entry.2 in
    (λ i. record { name = name.0 i; entry = entry.0 i; exit = exit.0 i }, exit.2)

silent_code : IsCode IsSpelledSilent silent_line
silent_code x y r s fits_x fits_y is =
    let from = number_code x.from y.from 32 32 _ _ fits_x.from fits_y.from space space (append_cancel_left (codes "e ") _ _ (simp append_assoc at is)) in
    let to = number_code x.to y.to 10 10 _ _ fits_x.to fits_y.to feed feed from.2 in
    (λ i. record { from = from.0 i; to = to.0 i }, to.2)

-- the parts of a line, whatever they are
six_parts : (word from name to pattern r : List ℕ) → word ++ from ++ 32 ∷ name ++ 32 ∷ to ++ pattern ++ 10 ∷ [] ++ r ≡ word ++ (from ++ 32 ∷ (name ++ 32 ∷ (to ++ (pattern ++ 10 ∷ r))))
six_parts word from name to pattern r = seven word from (32 ∷ name) (32 ∷ to) pattern (10 ∷ []) r
  where
    seven : (a b c d e f g : List ℕ) → a ++ b ++ c ++ d ++ e ++ f ++ g ≡ a ++ (b ++ (c ++ (d ++ (e ++ (f ++ g)))))
    seven a b c d e f g = simp append_assoc

sys_parts : (v : ModelVersion) (e : SysEdge) (r : List ℕ) → sys_line v e ++ r ≡ codes "s " ++ (decimal e.from ++ 32 ∷ (name_of e.name ++ 32 ∷ (decimal e.to ++ (pattern_text v e.args ++ 10 ∷ r))))
sys_parts v e r = six_parts (codes "s ") (decimal e.from) (name_of e.name) (decimal e.to) (pattern_text v e.args) r

sys_code : (v : ModelVersion) → IsCode (IsSpelledSys v) (sys_line v)
sys_code v x y r s fits_x fits_y is =
    let from = number_code x.from y.from 32 32 _ _ fits_x.from fits_y.from space space (append_cancel_left (codes "s ") _ _ (sym (sys_parts v x r) ∙ is ∙ sys_parts v y s)) in
    let name = word_code (name_of x.name) (name_of y.name) 32 32 _ _ (name_of-IsPlain x.name fits_x.name) (name_of-IsPlain y.name fits_y.name) space space from.2 in
    let same : x.name ≡ y.name = same_call x.name y.name fits_x.name fits_y.name name.0 in
    let end_x = pattern_end v x.args r in
    let end_y = pattern_end v y.args s in
    let to = number_code x.to y.to end_x.0 end_y.0 end_x.1 end_y.1 fits_x.to fits_y.to end_x.2 end_y.2 (ap (λ (t : List ℕ). decimal x.to ++ t) (sym end_x.3) ∙ name.2 ∙ ap (λ (t : List ℕ). decimal y.to ++ t) end_y.3) in
    let patterns : pattern_text v x.args ++ 10 ∷ r ≡ pattern_text v y.args ++ 10 ∷ s = append_cancel_left (decimal y.to) _ _ (ap (λ (k : ℕ). decimal k ++ (pattern_text v x.args ++ 10 ∷ r)) (sym to.0) ∙ name.2) in
    let right : AllZip FitsEntry (recorded_of y.name) x.args = subst (λ (k : ℕ). AllZip FitsEntry (recorded_of k) x.args) same fits_x.right in
    let args = pattern_code v (recorded_of y.name) x.args y.args r s right fits_y.right fits_x.pattern fits_y.pattern patterns in
    (λ i. record { from = from.0 i; name = same i; to = to.0 i; args = args.0 i }, args.1)

call_code : IsCode IsSpelledCall call_line
call_code x y r s fits_x fits_y is =
    let from = number_code x.from y.from 32 32 _ _ fits_x.from fits_y.from space space (append_cancel_left (codes "c ") _ _ (simp append_assoc at is)) in
    let site = number_code x.site y.site 32 32 _ _ fits_x.site fits_y.site space space from.2 in
    let end_x = words_end decimal IsSmall (λ n small. decimal-IsPlain n (omega (arith, small))) (λ m n small_m small_n same. decimal_injective m n (omega (arith, small_m)) (omega (arith, small_n)) same) x.candidates r in
    let end_y = words_end decimal IsSmall (λ n small. decimal-IsPlain n (omega (arith, small))) (λ m n small_m small_n same. decimal_injective m n (omega (arith, small_m)) (omega (arith, small_n)) same) y.candidates s in
    let to = number_code x.to y.to end_x.0 end_y.0 end_x.1 end_y.1 fits_x.to fits_y.to end_x.2 end_y.2 (ap (λ (t : List ℕ). decimal x.to ++ t) (sym end_x.3) ∙ site.2 ∙ ap (λ (t : List ℕ). decimal y.to ++ t) end_y.3) in
    let rest : flat_map (λ f. 32 ∷ decimal f) x.candidates ++ 10 ∷ r ≡ flat_map (λ f. 32 ∷ decimal f) y.candidates ++ 10 ∷ s = append_cancel_left (decimal y.to) _ _ (ap (λ (k : ℕ). decimal k ++ (flat_map (λ f. 32 ∷ decimal f) x.candidates ++ 10 ∷ r)) (sym to.0) ∙ site.2) in
    let candidates = candidates_code x.candidates y.candidates r s fits_x.candidates fits_y.candidates rest in
    (λ i. record { from = from.0 i; site = site.0 i; to = to.0 i; candidates = candidates.0 i }, candidates.1)

-- lines of one kind, and then what is none of them

module _ {X : Type 0} (Fits : X → Type 0) (line : X → List ℕ) (code : IsCode Fits line) where
  listed_code : (Other : List ℕ → Type 0) → ((x : X) (r : List ℕ) → Other (line x ++ r) → ⊥) → (xs ys : List X) (r s : List ℕ) → Other r → Other s → All Fits xs → All Fits ys → flat_map line xs ++ r ≡ flat_map line ys ++ s → (xs ≡ ys) × (r ≡ s)
  listed_code Other apart [] [] r s other_r other_s all_x all_y is = (refl, is)
  listed_code Other apart [] (y ∷ ys) r s other_r other_s all_x all_y is = absurd (apart y (flat_map line ys ++ s) (subst Other (is ∙ append_assoc (line y) (flat_map line ys) s) other_r))
  listed_code Other apart (x ∷ xs) [] r s other_r other_s all_x all_y is = absurd (apart x (flat_map line xs ++ r) (subst Other (sym is ∙ append_assoc (line x) (flat_map line xs) r) other_s))
  listed_code Other apart (x ∷ xs) (y ∷ ys) r s other_r other_s all_x all_y is =
      let one = code x y (flat_map line xs ++ r) (flat_map line ys ++ s) (all_at Fits [] x xs all_x) (all_at Fits [] y ys all_y) (sym (append_assoc (line x) (flat_map line xs) r) ∙ is ∙ append_assoc (line y) (flat_map line ys) s) in
      let more = listed_code Other apart xs ys r s other_r other_s (all_more Fits (x ∷ []) xs all_x) (all_more Fits (y ∷ []) ys all_y) one.1 in
      (λ i. one.0 i ∷ more.0 i, more.1)

-- the text begins with this byte
abbrev Begins : ℕ → List ℕ → Type 0
Begins b text = (rest : List ℕ) × (text ≡ b ∷ rest)

-- what may follow the silent edges, the system-call edges, and the call edges
abbrev NoSilent : List ℕ → Type 0
NoSilent text = Begins 115 text ⊎ Begins 99 text

abbrev NoSys : List ℕ → Type 0
NoSys text = Begins 99 text ⊎ ((rest : List ℕ) × (text ≡ 115 ∷ 116 ∷ rest))

function_apart : (one : ModelFunction) (r : List ℕ) → Begins 110 (function_line one ++ r) → ⊥
function_apart one r begins = let same : ◌≡◌ {A = ℕ} 102 110 = cc in absurd (omega (arith, same))

after_nodes : (n : ℕ) (r : List ℕ) → Begins 110 (nodes_line n ++ r)
after_nodes n r = (codes "odes " ++ decimal n ++ 10 ∷ [] ++ r, refl)

silent_apart : (e : SilentEdge) (r : List ℕ) → NoSilent (silent_line e ++ r) → ⊥
silent_apart e r (inl begins) = let same : ◌≡◌ {A = ℕ} 101 115 = cc in absurd (omega (arith, same))
silent_apart e r (inr begins) = let same : ◌≡◌ {A = ℕ} 101 99 = cc in absurd (omega (arith, same))

sys_apart : (v : ModelVersion) (e : SysEdge) (r : List ℕ) → NoSys (sys_line v e ++ r) → ⊥
sys_apart v e r (inl begins) = let same : ◌≡◌ {A = ℕ} 115 99 = cc in absurd (omega (arith, same))
sys_apart v e r (inr begins) = let same : ◌≡◌ {A = ℕ} 32 116 = cc in absurd (omega (arith, same))

call_apart : (c : Call) (r : List ℕ) → Begins 115 (call_line c ++ r) → ⊥
call_apart c r begins = let same : ◌≡◌ {A = ℕ} 99 115 = cc in absurd (omega (arith, same))

after_calls : (start : ℕ) (r : List ℕ) → Begins 115 (ending start ++ r)
after_calls start r = (codes "tart " ++ decimal start ++ 10 ∷ [] ++ codes "end\n" ++ r, refl)

after_sys : (cs : List Call) (start : ℕ) (r : List ℕ) → NoSys (flat_map call_line cs ++ (ending start ++ r))
after_sys [] start r = inr (codes "art " ++ decimal start ++ 10 ∷ [] ++ codes "end\n" ++ r, refl)
after_sys (c ∷ cs) start r = inl (codes " " ++ decimal c.from ++ 32 ∷ decimal c.site ++ 32 ∷ decimal c.to ++ flat_map (λ f. 32 ∷ decimal f) c.candidates ++ 10 ∷ [] ++ flat_map call_line cs ++ (ending start ++ r), refl)

after_silent : (v : ModelVersion) (ss : List SysEdge) (cs : List Call) (start : ℕ) (r : List ℕ) → NoSilent (flat_map (sys_line v) ss ++ (flat_map call_line cs ++ (ending start ++ r)))
after_silent v [] cs start r = elim (after_sys cs start r) [ inl calls ↦ inr calls | inr begins ↦ inl (116 ∷ begins.0, begins.1) ]
after_silent v (e ∷ ss) cs start r = inl (codes " " ++ decimal e.from ++ 32 ∷ name_of e.name ++ 32 ∷ decimal e.to ++ pattern_text v e.args ++ 10 ∷ [] ++ flat_map (sys_line v) ss ++ (flat_map call_line cs ++ (ending start ++ r)), refl)

-- whole texts

nested : (a b c d e f h r : List ℕ) → a ++ (b ++ (c ++ (d ++ (e ++ (f ++ h))))) ++ r ≡ a ++ (b ++ (c ++ (d ++ (e ++ (f ++ (h ++ r))))))
nested a b c d e f h r = simp append_assoc

rest_parts : (v : ModelVersion) (g : Graph) (r : List ℕ) → after_head v g ++ r ≡ functions_line (length g.functions) ++ (flat_map function_line g.functions ++ (nodes_line g.nodes ++ (flat_map silent_line g.silent ++ (flat_map (sys_line v) g.sys ++ (flat_map call_line g.calls ++ (ending g.start ++ r))))))
rest_parts v g r = nested (functions_line (length g.functions)) (flat_map function_line g.functions) (nodes_line g.nodes) (flat_map silent_line g.silent) (flat_map (sys_line v) g.sys) (flat_map call_line g.calls) (ending g.start) r

ending_code : (m n : ℕ) (r s : List ℕ) → IsSmall m → IsSmall n → ending m ++ r ≡ ending n ++ s → (m ≡ n) × (r ≡ s)
ending_code m n r s small_m small_n is =
    let same = number_line_code (codes "start ") m n (codes "end\n" ++ r) (codes "end\n" ++ s) small_m small_n (sym (append_assoc (start_line m) (codes "end\n") r) ∙ is ∙ append_assoc (start_line n) (codes "end\n") s) in
    (same.0, append_cancel_left (codes "end\n") r s same.1)

rest_code : (v : ModelVersion) (g h : Graph) (r s : List ℕ) → IsSpelled v g → IsSpelled v h → after_head v g ++ r ≡ after_head v h ++ s → (g ≡ h) × (r ≡ s)
rest_code v g h r s in_g in_h is =
    let count = number_line_code (codes "functions ") (length g.functions) (length h.functions) _ _ in_g.count in_h.count (sym (rest_parts v g r) ∙ is ∙ rest_parts v h s) in
    let functions = listed_code IsSpelledFunction function_line function_code (Begins 110) function_apart g.functions h.functions _ _ (after_nodes g.nodes _) (after_nodes h.nodes _) in_g.functions in_h.functions count.1 in
    let nodes = number_line_code (codes "nodes ") g.nodes h.nodes _ _ in_g.nodes in_h.nodes functions.1 in
    let silent = listed_code IsSpelledSilent silent_line silent_code NoSilent silent_apart g.silent h.silent _ _ (after_silent v g.sys g.calls g.start r) (after_silent v h.sys h.calls h.start s) in_g.silent in_h.silent nodes.1 in
    let sys = listed_code (IsSpelledSys v) (sys_line v) (sys_code v) NoSys (sys_apart v) g.sys h.sys _ _ (after_sys g.calls g.start r) (after_sys h.calls h.start s) in_g.sys in_h.sys silent.1 in
    let calls = listed_code IsSpelledCall call_line call_code (Begins 115) call_apart g.calls h.calls _ _ (after_calls g.start r) (after_calls h.start s) in_g.calls in_h.calls sys.1 in
    let start = ending_code g.start h.start r s in_g.start in_h.start calls.1 in
    (λ i. record { nodes = nodes.0 i; start = start.0 i; functions = functions.0 i; silent = silent.0 i; sys = sys.0 i; calls = calls.0 i }, start.1)

-- the byte after the same word is the same
digit : (word : List ℕ) (b c : ℕ) (r s : List ℕ) → word ++ b ∷ r ≡ word ++ c ∷ s → b ≡ c
digit word b c r s is = let rest : b ∷ r ≡ c ∷ s = append_cancel_left word (b ∷ r) (c ∷ s) is in cc

head_code : (v u : ModelVersion) (r s : List ℕ) → head_line v ++ r ≡ head_line u ++ s → (v ≡ u) × (r ≡ s)
head_code One One r s is = (refl, append_cancel_left (head_line One) r s is)
head_code One Two r s is = let same : ◌≡◌ {A = ℕ} 49 50 = digit (codes "dyckmon-model ") 49 50 (10 ∷ r) (10 ∷ s) is in absurd (omega (arith, same))
head_code Two One r s is = let same : ◌≡◌ {A = ℕ} 50 49 = digit (codes "dyckmon-model ") 50 49 (10 ∷ r) (10 ∷ s) is in absurd (omega (arith, same))
head_code Two Two r s is = (refl, append_cancel_left (head_line Two) r s is)

-- texts that begin alike are those of the same lists, in one version
pub text_code : (v u : ModelVersion) (g h : Graph) (r s : List ℕ) → IsSpelled v g → IsSpelled u h → model_text v g ++ r ≡ model_text u h ++ s → (v ≡ u) × (g ≡ h) × (r ≡ s)
text_code v u g h r s in_g in_h is =
    let head = head_code v u (after_head v g ++ r) (after_head u h ++ s) (sym (append_assoc (head_line v) (after_head v g) r) ∙ ap (λ (t : List ℕ). t ++ r) (sym (text_is v g)) ∙ is ∙ ap (λ (t : List ℕ). t ++ s) (text_is u h) ∙ append_assoc (head_line u) (after_head u h) s) in
    let spelled : IsSpelled v h = subst (λ (x : ModelVersion). IsSpelled x h) (sym head.0) in_h in
    let same = rest_code v g h r s in_g spelled (head.1 ∙ ap (λ (x : ModelVersion). after_head x h ++ s) (sym head.0)) in
    (head.0, same.0, same.1)

-- one text, one model
pub one_graph : (text : List ℕ) (v u : ModelVersion) (g h : Graph) → IsModelText v text g → IsModelText u text h → g ≡ h
one_graph text v u g h in_g in_h =
    let is : model_text v g ++ [] ≡ model_text u h ++ [] = ap (λ (t : List ℕ). t ++ []) (sym in_g.is ∙ in_h.is) in
    (text_code v u g h [] [] in_g.spelled in_h.spelled is).1

-- no text of lists begins another one
pub no_longer : (text rest : List ℕ) (v u : ModelVersion) (g h : Graph) → IsModelText v text g → IsModelText u (text ++ rest) h → rest ≡ []
no_longer text rest v u g h in_g in_h =
    let is : model_text v g ++ rest ≡ model_text u h ++ [] = ap (λ (t : List ℕ). t ++ rest) (sym in_g.is) ∙ in_h.is ∙ sym (append-nil (model_text u h)) in
    (text_code v u g h rest [] in_g.spelled in_h.spelled is).2
