-- What the first bytes of a line leave.
use Rattle.std.proofs.Common.{◌≡◌, ◌≢◌, ℕ, List, [], ◌∷◌, ◌++◌, decimal, refl, sym, subst, inl, inr, Contains, arith}
use Rattle.std.specs.Prelude.{Option, None, codes, flat_map}
use Rattle.sys_table.specs.Table.{name_of}
use Rattle.flow_model.specs.declared.records.SilentEdge.{SilentEdge}
use Rattle.flow_model.specs.declared.records.SysEdge.{SysEdge}
use Rattle.flow_model.specs.Call.{Call}
use Rattle.line_text.specs.Reading.{Agree, IsCutShort}
use Rattle.line_text.proofs.Splits.{IsCase, agree_head}
use Rattle.model_file.specs.declared.lines.ModelLine.{ModelLine}
use Rattle.model_file.specs.declared.lines.ModelLine.TheVariants as lines
use Rattle.model_file.specs.declared.lines.Kind.TheVariants as kinds
use Rattle.model_file.specs.declared.lines.Section.{Section}
use Rattle.model_file.specs.declared.lines.Section.TheVariants as sections
use Rattle.model_file.specs.declared.version.ModelVersion.{ModelVersion}
use Rattle.model_file.specs.Bounds.{IsNextSilent, IsNextSys, IsNextCall}
use Rattle.model_file.specs.Kinds.{HasKind, IsOther, site_of}
use Rattle.model_file.specs.Lines.{model_line, MayFollow}
use Rattle.model_file.proofs.LineLemmas.{plain_word}
use Rattle.model_file.specs.ModelText.{silent_line, sys_line, call_line, start_line, pattern_text, IsSmall}

apart : (m n : ℕ) (x y : List ℕ) → Agree (m ∷ x) (n ∷ y) → m ≢ n → ⊥
apart m n x y agree other = other (agree_head m n x y agree)

agree_tail : (m : ℕ) (x y : List ℕ) → Agree (m ∷ x) (m ∷ y) → Agree x y
agree_tail m x y (rest, inl is) = (rest, inl cc)
agree_tail m x y (rest, inr is) = (rest, inr cc)

-- the lines of a kind

only_silent : (version : ModelVersion) (rest : List ℕ) (w : ModelLine) → Agree (model_line version w) (101 ∷ rest) → (e : SilentEdge) × (w ≡ lines.Silent e)
only_silent version rest (lines.Silent e) agree = (e, refl)
only_silent version rest (lines.Call c) agree = absurd (apart 99 101 _ rest agree (λ is. omega (arith, is)))
only_silent version rest w agree = absurd (apart 115 101 _ rest agree (λ is. omega (arith, is)))

only_call : (version : ModelVersion) (rest : List ℕ) (w : ModelLine) → Agree (model_line version w) (99 ∷ rest) → (c : Call) × (w ≡ lines.Call c)
only_call version rest (lines.Silent e) agree = absurd (apart 101 99 _ rest agree (λ is. omega (arith, is)))
only_call version rest (lines.Call c) agree = (c, refl)
only_call version rest w agree = absurd (apart 115 99 _ rest agree (λ is. omega (arith, is)))

only_sys : (version : ModelVersion) (rest : List ℕ) (w : ModelLine) → Agree (model_line version w) (115 ∷ 32 ∷ rest) → (e : SysEdge) × (w ≡ lines.Sys e)
only_sys version rest (lines.Silent e) agree = absurd (apart 101 115 _ _ agree (λ is. omega (arith, is)))
only_sys version rest (lines.Sys e) agree = (e, refl)
only_sys version rest (lines.Call c) agree = absurd (apart 99 115 _ _ agree (λ is. omega (arith, is)))
only_sys version rest (lines.Start n) agree = absurd (apart 116 32 _ rest (agree_tail 115 _ (32 ∷ rest) agree) (λ is. omega (arith, is)))

no_sys : (first : ℕ) (rest later : List ℕ) → IsOther first rest → Agree (115 ∷ 32 ∷ later) (first ∷ rest) → ⊥
no_sys first [] later other agree = other.2 (sym (agree_head 115 first (32 ∷ later) [] agree))
no_sys first (second ∷ rest) later other agree =
    let same : 115 ≡ first = agree_head 115 first (32 ∷ later) (second ∷ rest) agree in
    let agree' : Agree (115 ∷ 32 ∷ later) (115 ∷ second ∷ rest) = subst (λ n. Agree (115 ∷ 32 ∷ later) (n ∷ second ∷ rest)) (sym same) agree in
    other.2 (sym same) (sym (agree_head 32 second later rest (agree_tail 115 (32 ∷ later) (second ∷ rest) agree')))

no_edge : (first : ℕ) (rest : List ℕ) → IsOther first rest → (first ≢ 101) × (first ≢ 99)
no_edge first [] other = (other.0, other.1)
no_edge first (second ∷ rest) other = (other.0, other.1)

only_start : (version : ModelVersion) (first : ℕ) (rest : List ℕ) → IsOther first rest → (w : ModelLine) → Agree (model_line version w) (first ∷ rest) → (n : ℕ) × (w ≡ lines.Start n)
only_start version first rest other (lines.Silent e) agree = absurd ((no_edge first rest other).0 (sym (agree_head 101 first _ rest agree)))
only_start version first rest other (lines.Sys e) agree = absurd (no_sys first rest _ other agree)
only_start version first rest other (lines.Call c) agree = absurd ((no_edge first rest other).1 (sym (agree_head 99 first _ rest agree)))
only_start version first rest other (lines.Start n) agree = (n, refl)

-- cases

-- the lines that agree with the bytes are all of one form
kind_case : {X : Type 0} (version : ModelVersion) (section : Section) (old : List ℕ) (Fits : X → Type 0) (line : X → List ℕ) (form : X → ModelLine) → ((x : X) → Fits x → MayFollow version section (form x)) → ((x : X) → MayFollow version section (form x) → Fits x) → ((x : X) → model_line version (form x) ≡ line x) → ((w : ModelLine) → Agree (model_line version w) old → (x : X) × (w ≡ form x)) → IsCase (MayFollow version section) (model_line version) Fits line form old
kind_case version section old Fits line form may fits same only = record {
  made = λ x x_fits. (may x x_fits, same x);
  only = λ w follows agree. let found = only w agree in (found.0, fits found.0 (subst (MayFollow version section) found.1 follows), found.1);
}

pub silent_case : (version : ModelVersion) (last : Option SilentEdge) (old : List ℕ) → HasKind kinds.Silent old → IsCase (MayFollow version (sections.Silent last)) (model_line version) (IsNextSilent last) silent_line lines.Silent old
silent_case version last old (rest, is) =
    kind_case version (sections.Silent last) old (IsNextSilent last) silent_line lines.Silent (λ e fits. (fits.spelled, fits.after)) (λ e may. record { spelled = may.0; after = may.1 }) (λ e. refl)
    (λ w agree. only_silent version rest w (subst (Agree (model_line version w)) is agree))

pub first_sys_case : (version : ModelVersion) (last : Option SilentEdge) (old : List ℕ) → HasKind kinds.Sys old → IsCase (MayFollow version (sections.Silent last)) (model_line version) (IsNextSys version None) (sys_line version) lines.Sys old
first_sys_case version last old (rest, is) =
    kind_case version (sections.Silent last) old (IsNextSys version None) (sys_line version) lines.Sys (λ e fits. fits.spelled) (λ e may. record { spelled = may; after = tt }) (λ e. refl)
    (λ w agree. only_sys version rest w (subst (Agree (model_line version w)) is agree))

pub sys_case : (version : ModelVersion) (last : Option SysEdge) (old : List ℕ) → HasKind kinds.Sys old → IsCase (MayFollow version (sections.Sys last)) (model_line version) (IsNextSys version last) (sys_line version) lines.Sys old
sys_case version last old (rest, is) =
    kind_case version (sections.Sys last) old (IsNextSys version last) (sys_line version) lines.Sys (λ e fits. (fits.spelled, fits.after)) (λ e may. record { spelled = may.0; after = may.1 }) (λ e. refl)
    (λ w agree. only_sys version rest w (subst (Agree (model_line version w)) is agree))

call_may : (version : ModelVersion) (section : Section) (c : Call) → IsNextCall (site_of section) c → MayFollow version section (lines.Call c)
call_may version (sections.Call last) c fits = (fits.spelled, fits.after)
call_may version section c fits = fits.spelled

may_call : (version : ModelVersion) (section : Section) (c : Call) → MayFollow version section (lines.Call c) → IsNextCall (site_of section) c
may_call version (sections.Call last) c fits = record { spelled = fits.0; after = fits.1 }
may_call version section c fits = record { spelled = fits; after = tt }

pub call_case : (version : ModelVersion) (section : Section) (old : List ℕ) → HasKind kinds.Call old → IsCase (MayFollow version section) (model_line version) (IsNextCall (site_of section)) call_line lines.Call old
call_case version section old (rest, is) =
    kind_case version section old (IsNextCall (site_of section)) call_line lines.Call (call_may version section) (may_call version section) (λ c. refl)
    (λ w agree. only_call version rest w (subst (Agree (model_line version w)) is agree))

start_may : (version : ModelVersion) (section : Section) (n : ℕ) → IsSmall n → MayFollow version section (lines.Start n)
start_may version (sections.Silent last) n small = small
start_may version section n small = small

may_start : (version : ModelVersion) (section : Section) (n : ℕ) → MayFollow version section (lines.Start n) → IsSmall n
may_start version (sections.Silent last) n fits = fits
may_start version section n fits = fits

pub start_case : (version : ModelVersion) (section : Section) (old : List ℕ) → HasKind kinds.Start old → IsCase (MayFollow version section) (model_line version) IsSmall start_line lines.Start old
start_case version section old (first, rest, is, other) =
    kind_case version section old IsSmall start_line lines.Start (start_may version section) (may_start version section) (λ n. refl)
    (λ w agree. only_start version first rest other w (subst (Agree (model_line version w)) is agree))

-- where the line may be that of the start
begins_start : (version : ModelVersion) (section : Section) (old rest : List ℕ) → start_line 0 ≡ old ++ rest → rest ≢ [] → (Contains old 10 → ⊥) → IsCutShort (MayFollow version section) (model_line version) old
begins_start version section old rest is more unended = record {
  value = lines.Start 0;
  rest = rest;
  fits = start_may version section 0 (omega arith);
  more = more;
  goes_on = is;
  unended = unended;
}

pub open_is_cut : (version : ModelVersion) (section : Section) (old : List ℕ) → HasKind kinds.Open old → IsCutShort (MayFollow version section) (model_line version) old
open_is_cut version section old (inl is) = rw is (begins_start version section [] (start_line 0) refl (λ none. cc) (λ has. omega (arith, has.1)))
open_is_cut version section old (inr is) =
    rw is (begins_start version section (115 ∷ []) (116 ∷ 97 ∷ 114 ∷ 116 ∷ 32 ∷ (decimal 0 ++ 10 ∷ [])) refl (λ none. cc) (plain_word (115 ∷ []) refl))

pub ends_in_feed : (version : ModelVersion) (w : ModelLine) → (front : List ℕ) × (model_line version w ≡ front ++ 10 ∷ [])
ends_in_feed version (lines.Silent e) = (codes "e " ++ decimal e.from ++ 32 ∷ decimal e.to, refl)
ends_in_feed version (lines.Sys e) = (codes "s " ++ decimal e.from ++ 32 ∷ name_of e.name ++ 32 ∷ decimal e.to ++ pattern_text version e.args, refl)
ends_in_feed version (lines.Call c) = (codes "c " ++ decimal c.from ++ 32 ∷ decimal c.site ++ 32 ∷ decimal c.to ++ flat_map (λ f. 32 ∷ decimal f) c.candidates, refl)
ends_in_feed version (lines.Start n) = (codes "start " ++ decimal n, refl)
