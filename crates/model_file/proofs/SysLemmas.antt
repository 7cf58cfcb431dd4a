-- The lines of system-call edges.
use Rattle.std.proofs.Common.{◌≡◌, ◌≢◌, ℕ, ◌+◌, ◌<◌, ◌≤◌, List, [], ◌∷◌, ◌++◌, decimal, refl, sym, ◌∙◌, ap, subst, inl, inr, Contains, append_assoc, All, arith}
use Rattle.std.specs.Prelude.{Option, Some, None, ℤ, codes}
use Rattle.std.specs.List.{AllZip}
use Rattle.std.specs.Ordering.{nat_cmp, ordering_then}
use Rattle.dm_base.specs.Pattern.{pattern_cmp}
use Rattle.std.proofs.lemmas.List.{append-nil}
use Rattle.std.proofs.lemmas.List.Elements.{All-cons, All-nil}
use Rattle.flow_model.specs.declared.records.SysEdge.{SysEdge}
use Rattle.flow_model.specs.Order.{sys_order}
use Rattle.line_text.specs.Reading.{StandsFirst}
use Rattle.line_text.specs.Words.{number_word}
use Rattle.sys_table.specs.declared.kinds.ArgKind.{ArgKind}
use Rattle.sys_table.specs.Table.{name_of, name_word, recorded_of, FitsEntry, IsRight}
use Rattle.sys_table.proofs.Names.{name_of-IsPlain}
use Rattle.model_file.specs.declared.version.ModelVersion.{ModelVersion}
use Rattle.model_file.specs.declared.version.ModelVersion.TheVariants.{One, Two}
use Rattle.model_file.specs.Bounds.{IsNextSys}
use Rattle.model_file.specs.ModelText.{sys_line, entries_text, entry_text, pattern_text, IsSpelledSys}
use Rattle.model_file.specs.SysBounds.{pattern_order, end_order, name_order, IsAfter, BeginsAt, IsNamed, EndsAt, HasNameAfter, HasEndAfter, HasPatternAfter, IsPattern, IsNextPattern, HasNumber, IsLeastBelow, end_after, entries_words, pattern_rest}
use Rattle.model_file.proofs.LineLemmas.{first_word, plain_number, plain_word, plain_spaced}
use Rattle.model_file.proofs.Levels.{Fitting, IsFree, IsTied, step, rest_after, number_part, least_room, least_full}
use Rattle.model_file.proofs.Orders.{less_first, less_next, less_cases}
use Rattle.model_file.proofs.Narrowing.{IsPart, IsEndedPart, IsWhole, Leads, leads_start, leads_on, leads_same, ends_on}

-- there is a pattern for each call

-- None for each kind
abbrev pub nones : List ArgKind → List (Option ℤ)
nones [] = []
nones (kind ∷ kinds) = None ∷ nones kinds

pub free_entries : (kinds : List ArgKind) → AllZip FitsEntry kinds (nones kinds)
free_entries [] = tt
free_entries (kind ∷ kinds) = (tt, free_entries kinds)

pub all_none : (kinds : List ArgKind) → All (λ entry. entry ≡ None) (nones kinds)
all_none [] = All-nil (λ entry. entry ≡ None)
all_none (kind ∷ kinds) = All-cons (λ entry. entry ≡ None) None (nones kinds) refl (all_none kinds)

pub free_pattern : (version : ModelVersion) (name : ℕ) → (p : List (Option ℤ)) × IsPattern version name p
free_pattern One name = (nones (recorded_of name), (free_entries (recorded_of name), all_none (recorded_of name)))
free_pattern Two name = (nones (recorded_of name), (free_entries (recorded_of name), tt))

edge_of : (version : ModelVersion) (from name to : ℕ) (p : List (Option ℤ)) → from < 4294967296 → name < 24 → to < 4294967296 → IsPattern version name p → IsSpelledSys version (record { from = from; name = name; to = to; args = p })
edge_of version from name to p small_from known small_to pattern = record { from = small_from; name = known; to = small_to; right = pattern.0; pattern = pattern.1 }

-- each number of a part has an edge

pub free_from : (version : ModelVersion) → IsFree (IsSpelledSys version) (λ e. e.from) 4294967296
free_from version n small =
    let p = free_pattern version 0 in
    (record { from = n; name = 0; to = 0; args = p.0 }, edge_of version n 0 0 p.0 small (omega arith) (omega arith) p.1, refl)

pub free_name : (version : ModelVersion) (from : ℕ) → from < 4294967296 → IsFree (BeginsAt version from) (λ e. e.name) 24
free_name version from small_from n known =
    let p = free_pattern version n in
    (record { from = from; name = n; to = 0; args = p.0 }, (edge_of version from n 0 p.0 small_from known (omega arith) p.1, refl), refl)

pub free_to : (version : ModelVersion) (from name : ℕ) → from < 4294967296 → name < 24 → IsFree (IsNamed version from name) (λ e. e.to) 4294967296
free_to version from name small_from known n small =
    let p = free_pattern version name in
    (record { from = from; name = name; to = n; args = p.0 }, ((edge_of version from name n p.0 small_from known small p.1, refl), refl), refl)

-- the text in parts

words_of_entries : (x : Option ℤ) (xs : List (Option ℤ)) → entries_text (x ∷ xs) ++ 10 ∷ [] ≡ 32 ∷ entries_words (x ∷ xs)
words_of_entries x [] = ap (λ t. 32 ∷ (t ++ 10 ∷ [])) (append-nil (entry_text x))
words_of_entries x (y ∷ rest) =
    let more = words_of_entries y rest in
    ap (λ t. 32 ∷ t) (append_assoc (entry_text x) (entries_text (y ∷ rest)) (10 ∷ []) ∙ ap (λ t. entry_text x ++ t) more ∙ sym (append_assoc (entry_text x) (32 ∷ []) (entries_words (y ∷ rest))))

abbrev pub after_name : ModelVersion → SysEdge → List ℕ
after_name version e = decimal e.to ++ (pattern_text version e.args ++ 10 ∷ [])

abbrev pub after_from : ModelVersion → SysEdge → List ℕ
after_from version e = name_word e.name ++ after_name version e

abbrev pub after_word : ModelVersion → SysEdge → List ℕ
after_word version e = number_word 32 e.from ++ after_from version e

two_parts : (n : ℕ) (kinds : List ArgKind) (args : List (Option ℤ)) → AllZip FitsEntry kinds args → decimal n ++ (entries_text args ++ 10 ∷ []) ≡ number_word (end_after Two kinds) n ++ entries_words args
two_parts n [] [] right = sym (append-nil (decimal n ++ 10 ∷ []))
two_parts n (kind ∷ kinds) (x ∷ args) right = ap (λ t. decimal n ++ t) (words_of_entries x args) ∙ sym (append_assoc (decimal n) (32 ∷ []) (entries_words (x ∷ args)))
two_parts n kinds args right = absurd right

pub to_parts : (version : ModelVersion) (e : SysEdge) → IsRight e.name e.args → after_name version e ≡ number_word (end_after version (recorded_of e.name)) e.to ++ pattern_rest version e.args
to_parts One e right = sym (append-nil (decimal e.to ++ 10 ∷ []))
to_parts Two e right = two_parts e.to (recorded_of e.name) e.args right

-- bounds

pub first_room : (version : ModelVersion) (d : SysEdge) → HasNameAfter version d → IsLeastBelow 4294967296 (HasNumber (λ e. IsSpelledSys version e × IsAfter sys_order (Some d) e) (λ e. e.from)) d.from
first_room version d (name, to, p, known, small_to, pattern, less) =
    least_room (IsSpelledSys version) (λ e. e.from) name_order 4294967296 (free_from version) d
    (λ small. (record { from = d.from; name = name; to = to; args = p }, (edge_of version d.from name to p small known small_to pattern, refl), less))

pub first_full : (version : ModelVersion) (d : SysEdge) → (HasNameAfter version d → ⊥) → IsLeastBelow 4294967296 (HasNumber (λ e. IsSpelledSys version e × IsAfter sys_order (Some d) e) (λ e. e.from)) (d.from + 1)
first_full version d full =
    least_full (IsSpelledSys version) (λ e. e.from) name_order 4294967296 (free_from version) d
    (λ room. let spelled = room.1.0 in full (room.0.name, room.0.to, room.0.args, spelled.name, spelled.to, (spelled.right, spelled.pattern), room.2))

pub name_room : (version : ModelVersion) (from : ℕ) (d : SysEdge) → from < 4294967296 → HasEndAfter version d → IsLeastBelow 24 (HasNumber (λ e. BeginsAt version from e × IsAfter name_order (Some d) e) (λ e. e.name)) d.name
name_room version from d small (to, p, small_to, pattern, less) =
    least_room (BeginsAt version from) (λ e. e.name) end_order 24 (free_name version from small) d
    (λ known. (record { from = from; name = d.name; to = to; args = p }, ((edge_of version from d.name to p small known small_to pattern, refl), refl), less))

pub name_full : (version : ModelVersion) (from : ℕ) (d : SysEdge) → from < 4294967296 → (HasEndAfter version d → ⊥) → IsLeastBelow 24 (HasNumber (λ e. BeginsAt version from e × IsAfter name_order (Some d) e) (λ e. e.name)) (d.name + 1)
name_full version from d small full =
    least_full (BeginsAt version from) (λ e. e.name) end_order 24 (free_name version from small) d
    (λ room. let spelled = room.1.0.0 in full (room.0.to, room.0.args, spelled.to, subst (λ x. IsPattern version x room.0.args) room.1.1 (spelled.right, spelled.pattern), room.2))

pub to_room : (version : ModelVersion) (from name : ℕ) (d : SysEdge) → d.name ≡ name → from < 4294967296 → name < 24 → HasPatternAfter version d.name d.args → IsLeastBelow 4294967296 (HasNumber (λ e. IsNamed version from name e × IsAfter end_order (Some d) e) (λ e. e.to)) d.to
to_room version from name d same small known (p, pattern, less) =
    least_room (IsNamed version from name) (λ e. e.to) pattern_order 4294967296 (free_to version from name small known) d
    (λ small_to. (record { from = from; name = name; to = d.to; args = p }, (((edge_of version from name d.to p small known small_to (subst (λ x. IsPattern version x p) same pattern), refl), refl), refl), less))

pub to_full : (version : ModelVersion) (from name : ℕ) (d : SysEdge) → d.name ≡ name → from < 4294967296 → name < 24 → (HasPatternAfter version d.name d.args → ⊥) → IsLeastBelow 4294967296 (HasNumber (λ e. IsNamed version from name e × IsAfter end_order (Some d) e) (λ e. e.to)) (d.to + 1)
to_full version from name d same small known full =
    least_full (IsNamed version from name) (λ e. e.to) pattern_order 4294967296 (free_to version from name small known) d
    (λ room. let spelled = room.1.0.0.0 in full (room.0.args, subst (λ x. IsPattern version x room.0.args) (room.1.0.1 ∙ sym same) (spelled.right, spelled.pattern), room.2))

-- whether something goes after

pub name_after_past : (version : ModelVersion) (d : SysEdge) → d.name < 23 → HasNameAfter version d
name_after_past version d below =
    let p = free_pattern version (d.name + 1) in
    (d.name + 1, 0, p.0, omega arith, omega arith, p.1, less_first d.name (d.name + 1) (ordering_then (nat_cmp d.to 0) (pattern_cmp d.args p.0)) (omega arith))

pub name_after_same : (version : ModelVersion) (d : SysEdge) → d.name < 24 → HasEndAfter version d → HasNameAfter version d
name_after_same version d known (to, p, small, pattern, less) =
    (d.name, to, p, known, small, pattern, less_next d.name d.name (ordering_then (nat_cmp d.to to) (pattern_cmp d.args p)) refl less)

pub name_after_only : (version : ModelVersion) (d : SysEdge) → 23 ≤ d.name → HasNameAfter version d → HasEndAfter version d
name_after_only version d last (name, to, p, known, small, pattern, less) =
    elim (less_cases d.name name (ordering_then (nat_cmp d.to to) (pattern_cmp d.args p)) less) [
      | inl lt ↦ absurd (omega arith)
      | inr same ↦ (to, p, small, subst (λ x. IsPattern version x p) (sym same.0) pattern, same.1)
    ]

pub end_after_past : (version : ModelVersion) (d : SysEdge) → d.to < 4294967295 → HasEndAfter version d
end_after_past version d below =
    let p = free_pattern version d.name in
    (d.to + 1, p.0, omega arith, p.1, less_first d.to (d.to + 1) (pattern_cmp d.args p.0) (omega arith))

pub end_after_same : (version : ModelVersion) (d : SysEdge) → d.to < 4294967296 → HasPatternAfter version d.name d.args → HasEndAfter version d
end_after_same version d small (p, pattern, less) = (d.to, p, small, pattern, less_next d.to d.to (pattern_cmp d.args p) refl less)

pub end_after_only : (version : ModelVersion) (d : SysEdge) → 4294967295 ≤ d.to → HasEndAfter version d → HasPatternAfter version d.name d.args
end_after_only version d last (to, p, small, pattern, less) =
    elim (less_cases d.to to (pattern_cmp d.args p) less) [
      | inl lt ↦ absurd (omega arith)
      | inr same ↦ (p, pattern, same.1)
    ]

-- parts

pub sys_word : (version : ModelVersion) (last : Option SysEdge) (least : ℕ) → IsLeastBelow 4294967296 (HasNumber (λ e. IsSpelledSys version e × IsAfter sys_order last e) (λ e. e.from)) least → least ≤ 4294967295 → IsPart (IsNextSys version last) (sys_line version) (λ e. tt {0}) (λ u. Unit {0}) (λ u. codes "s ") (after_word version)
sys_word version last least bound small =
    let found = bound.above least (omega arith) (omega arith) in
    first_word (codes "s ") found.0 (record { spelled = found.1.0; after = found.1.1 }) (λ e fits. simp append_assoc) (plain_word (codes "s ") refl)

pub from_part : (version : ModelVersion) (last : Option SysEdge) (least : ℕ) → IsLeastBelow 4294967296 (HasNumber (λ e. IsSpelledSys version e × IsAfter sys_order last e) (λ e. e.from)) least → IsPart (Fitting (IsSpelledSys version) (λ e. e.from) name_order last) (after_word version) (λ e. e.from) (λ n. (least ≤ n) × (n < 4294967296)) (number_word 32) (after_from version)
from_part version last least bound = number_part (IsSpelledSys version) (λ e. e.from) name_order 4294967296 least last (number_word 32) bound (λ e base. base.from) (λ e base. refl) (λ n small. plain_number n (omega arith))

pub name_part : (version : ModelVersion) (from : ℕ) (last : Option SysEdge) (least : ℕ) → IsLeastBelow 24 (HasNumber (λ e. BeginsAt version from e × IsAfter name_order last e) (λ e. e.name)) least → IsPart (Fitting (BeginsAt version from) (λ e. e.name) end_order last) (after_from version) (λ e. e.name) (λ n. (least ≤ n) × (n < 24)) name_word (after_name version)
name_part version from last least bound = number_part (BeginsAt version from) (λ e. e.name) end_order 24 least last name_word bound (λ e base. base.0.name) (λ e base. refl) (λ x known. plain_spaced (name_of x) (name_of-IsPlain x known))

plain_to : (version : ModelVersion) (name n : ℕ) (args : List (Option ℤ)) → n < 4294967296 → IsRight name args → pattern_rest version args ≢ [] → Contains (number_word (end_after version (recorded_of name)) n) 10 → ⊥
plain_to One name n args small right more has = more refl
plain_to Two name n args small right more has = two (recorded_of name) args right more has where
  two : (kinds : List ArgKind) (ps : List (Option ℤ)) → AllZip FitsEntry kinds ps → entries_words ps ≢ [] → Contains (number_word (end_after Two kinds) n) 10 → ⊥
  two [] [] r some h = some refl
  two [] (x ∷ ps) r some h = r
  two (kind ∷ kinds) ps r some h = plain_number n (omega arith) h

pub to_part : (version : ModelVersion) (from name : ℕ) (last : Option SysEdge) (least : ℕ) → IsLeastBelow 4294967296 (HasNumber (λ e. IsNamed version from name e × IsAfter end_order last e) (λ e. e.to)) least → IsEndedPart (Fitting (IsNamed version from name) (λ e. e.to) pattern_order last) (after_name version) (λ e. e.to) (λ n. (least ≤ n) × (n < 4294967296)) (number_word (end_after version (recorded_of name))) (λ e. pattern_rest version e.args)
to_part version from name last least bound = record {
  into = λ e fits. (bound.below e.to (e, fits, refl), fits.0.0.0.to);
  some = λ n in_n. bound.above n in_n.0 in_n.1;
  splits = λ e fits. to_parts version e fits.0.0.0.right ∙ ap (λ x. number_word (end_after version (recorded_of x)) e.to ++ pattern_rest version e.args) fits.0.1;
  plain = λ e fits more has. plain_to version name e.to e.args fits.0.0.0.to (subst (λ x. IsRight x e.args) fits.0.1 fits.0.0.0.right) more has;
}

-- the pattern is the last part
pub pattern_whole : (version : ModelVersion) (from name to : ℕ) (last : Option SysEdge) → from < 4294967296 → name < 24 → to < 4294967296 → IsWhole (λ e. EndsAt version from name to e × IsAfter pattern_order last e) (λ e. pattern_rest version e.args) (IsNextPattern version name last) (pattern_rest version) (λ p. record { from = from; name = name; to = to; args = p })
pattern_whole version from name to last small known small_to = record {
  made = λ p next. (((((edge_of version from name to p small known small_to next.0, refl), refl), refl), next.1), refl);
  only = λ e fits.
      let base = fits.0 in
      (e.args, ((subst (λ x. IsRight x e.args) base.0.1 base.0.0.0.right, base.0.0.0.pattern), fits.1), λ i. record { from = base.0.0.1 i; name = base.0.1 i; to = base.1 i; args = e.args });
}

-- what is left after each part

-- after `s `
pub worded : {version : ModelVersion} {last : Option SysEdge} {least : ℕ} {old mid : List ℕ} → IsLeastBelow 4294967296 (HasNumber (λ e. IsSpelledSys version e × IsAfter sys_order last e) (λ e. e.from)) least → least ≤ 4294967295 → StandsFirst {V = Unit {0}} (λ u. Unit {0}) (λ u. codes "s ") old mid (tt {0}) → Leads (IsNextSys version last) (sys_line version) old (Fitting (IsSpelledSys version) (λ e. e.from) name_order last) (after_word version) mid
worded {version} {last} {least} {old} {mid} bound small stands =
    leads_same old mid (leads_on old old mid (leads_start old) (sys_word version last least bound small) tt stands) (λ e fits. (record { spelled = fits.0; after = fits.1 }, refl)) (λ e fits. (fits.0.spelled, fits.0.after)) (λ e fits. refl)

-- after the first node
pub begun_at : {version : ModelVersion} {last : Option SysEdge} {least from : ℕ} {old mid new : List ℕ} (begun : Option SysEdge) → IsLeastBelow 4294967296 (HasNumber (λ e. IsSpelledSys version e × IsAfter sys_order last e) (λ e. e.from)) least → least ≤ 4294967295 → StandsFirst {V = Unit {0}} (λ u. Unit {0}) (λ u. codes "s ") old mid (tt {0}) → StandsFirst (λ n. (least ≤ n) × (n < 4294967296)) (number_word 32) mid new from → IsTied (λ e. e.from) from last begun → Leads (IsNextSys version last) (sys_line version) old (Fitting (BeginsAt version from) (λ e. e.name) end_order begun) (after_from version) new
begun_at {version} {last} {least} {from} {old} {mid} {new} begun bound small word stands tied =
    step (λ e. e.from) name_order (IsSpelledSys version) from last begun old new (leads_on old mid new (worded bound small word) (from_part version last least bound) from stands) (bound.above from stands.fits.0 stands.fits.1) tied

-- after the name
pub named_at : {version : ModelVersion} {last : Option SysEdge} {from least name : ℕ} {old mid new : List ℕ} (begun named : Option SysEdge) → Leads (IsNextSys version last) (sys_line version) old (Fitting (BeginsAt version from) (λ e. e.name) end_order begun) (after_from version) mid → IsLeastBelow 24 (HasNumber (λ e. BeginsAt version from e × IsAfter name_order begun e) (λ e. e.name)) least → StandsFirst (λ n. (least ≤ n) × (n < 24)) name_word mid new name → IsTied (λ e. e.name) name begun named → Leads (IsNextSys version last) (sys_line version) old (Fitting (IsNamed version from name) (λ e. e.to) pattern_order named) (after_name version) new
named_at {version} {last} {from} {least} {name} {old} {mid} {new} begun named leads bound stands tied =
    step (λ e. e.name) end_order (BeginsAt version from) name begun named old new (leads_on old mid new leads (name_part version from begun least bound) name stands) (bound.above name stands.fits.0 stands.fits.1) tied

-- after the second node
pub ended_at : {version : ModelVersion} {last : Option SysEdge} {from name least to end : ℕ} {old mid new : List ℕ} (named ended : Option SysEdge) → Leads (IsNextSys version last) (sys_line version) old (Fitting (IsNamed version from name) (λ e. e.to) pattern_order named) (after_name version) mid → IsLeastBelow 4294967296 (HasNumber (λ e. IsNamed version from name e × IsAfter end_order named e) (λ e. e.to)) least → end ≡ end_after version (recorded_of name) → StandsFirst (λ n. (least ≤ n) × (n < 4294967296)) (number_word end) mid new to → IsTied (λ e. e.to) to named ended → Leads (IsNextSys version last) (sys_line version) old (λ e. EndsAt version from name to e × IsAfter pattern_order ended e) (λ e. pattern_rest version e.args) new
ended_at {version} {last} {from} {name} {least} {to} {end} {old} {mid} {new} named ended leads bound is stands tied =
    let read = subst (λ (b : ℕ). StandsFirst (λ n. (least ≤ n) × (n < 4294967296)) (number_word b) mid new to) is stands in
    step (λ e. e.to) pattern_order (IsNamed version from name) to named ended old new (ends_on old mid new leads (to_part version from name named least bound) to read) (bound.above to stands.fits.0 stands.fits.1) tied

-- the least name is one, since some edge may follow with the first node that was read
pub least_in : (version : ModelVersion) (last begun : Option SysEdge) (least_from from least : ℕ) → IsLeastBelow 4294967296 (HasNumber (λ e. IsSpelledSys version e × IsAfter sys_order last e) (λ e. e.from)) least_from → (least_from ≤ from) × (from < 4294967296) → IsTied (λ e. e.from) from last begun → IsLeastBelow 24 (HasNumber (λ e. BeginsAt version from e × IsAfter name_order begun e) (λ e. e.name)) least → least < 24
least_in version last begun least_from from least bound fits tied names =
    let e = bound.above from fits.0 fits.1 in
    let low = names.below e.0.name (e.0, ((e.1.0, e.2), rest_after (λ d. d.from) name_order from last begun tied e.0 e.2 e.1.1), refl) in
    let known = e.1.0.name in
    omega arith
