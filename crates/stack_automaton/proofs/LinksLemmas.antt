-- Calls that are added one after another.
use Rattle.std.proofs.Common.{◌≡◌, ◌⊎◌, ◌↔◌, ℕ, zero, suc, ◌+◌, ◌<◌, ◌≤◌, Bool, true, false, cond, List, [], ◌∷◌, ◌++◌, Option, Some, None, Contains, IsSomeAnd, nat_eq, inl, inr, length, take, get_or, refl, subst, sym, ap, ◌∙◌, arith, slice_get}
use Rattle.std.proofs.Math.ListN.{set}
use Rattle.std.specs.Prelude.{not, option_map, is_some}
use Rattle.std.specs.List.{position_or_len}
use Rattle.std.specs.Map.{keys_of, lookup, set_value}
use Rattle.std.specs.HashMap.{HashMap, get}
use Rattle.std.specs.Cmp.{nat_eq_equiv}
use Rattle.std.proofs.lemmas.Bool.{eq-eqb, eqb-true, ne_eqb}
use Rattle.std.proofs.lemmas.Bool.Decides.{eqb_tells}
use Rattle.std.proofs.lemmas.List.{get_or_default, length-append, map-append}
use Rattle.std.proofs.lemmas.List.Edits.{insert_end}
use Rattle.std.proofs.lemmas.List.Elements.{Contains-push, Contains-append_left, Contains-push_cases}
use Rattle.std.proofs.lemmas.List.Folds.{position_or_len_push}
use Rattle.std.proofs.lemmas.Map.{lookup-insert, lookup-set_value, none_passes_from_lookup}
use Rattle.std.proofs.lemmas.Option.{same_Some, slice_get-map, slice_get_past, slice_get_read}
use Rattle.dm_base.specs.Adding.{Has, Gains}
use Rattle.stack_automaton.specs.Links.{Links, HasLink, AddsLinks, HasOneMore, IsPlaceOf, ArePlaced}
use Rattle.stack_automaton.specs.declared.place.Link.{Link}
use Rattle.dm_base.proofs.AddingLemmas.{gains_same, gains_nothing, gains_init, gains_step, gains_end}
use Rattle.stack_automaton.proofs.FactLemmas.{length_keys}

-- Where a function stands in the list, and its calls.
module _ {X : Type 0} where
  abbrev calls_of : ℕ × X → X
  calls_of e = e.1

  later : (e : ℕ × X) (es : List (ℕ × X)) (n : ℕ) → slice_get (e ∷ es) (1 + n) ≡ slice_get es n
  later e es n = let next : 1 + n ≡ suc n = omega arith in ap (slice_get (e ∷ es)) next

  set_later : (e w : ℕ × X) (es : List (ℕ × X)) (n : ℕ) → set (e ∷ es) (1 + n) w ≡ e ∷ set es n w
  set_later e w es n = let next : 1 + n ≡ suc n = omega arith in ap (λ k. set (e ∷ es) k w) next

  lookup_first : (f : ℕ) (e : ℕ × X) (es : List (ℕ × X)) (b : Bool) → lookup (nat_eq f) es ≡ option_map calls_of (slice_get es (position_or_len (nat_eq f) (keys_of es)))
      → cond b (Some e.1) (lookup (nat_eq f) es) ≡ option_map calls_of (slice_get (e ∷ es) (cond (not b) (1 + position_or_len (nat_eq f) (keys_of es)) 0))
  lookup_first f e es true rest = refl
  lookup_first f e es false rest = rest ∙ sym (ap (option_map calls_of) (later e es (position_or_len (nat_eq f) (keys_of es))))

  -- the calls of a function stand at its place
  lookup_at : (f : ℕ) (es : List (ℕ × X)) → lookup (nat_eq f) es ≡ option_map calls_of (slice_get es (position_or_len (nat_eq f) (keys_of es)))
  lookup_at f [] = refl
  lookup_at f (e ∷ es) = lookup_first f e es (nat_eq f e.0) (lookup_at f es)

  set_first : (f : ℕ) (v : X) (d e : ℕ × X) (es : List (ℕ × X)) (b : Bool) → (slice_get es (position_or_len (nat_eq f) (keys_of es)) ≡ Some d → set es (position_or_len (nat_eq f) (keys_of es)) (d.0, v) ≡ set_value (nat_eq f) es v)
      → slice_get (e ∷ es) (cond (not b) (1 + position_or_len (nat_eq f) (keys_of es)) 0) ≡ Some d
      → set (e ∷ es) (cond (not b) (1 + position_or_len (nat_eq f) (keys_of es)) 0) (d.0, v) ≡ cond b ((e.0, v) ∷ es) (e ∷ set_value (nat_eq f) es v)
  set_first f v d e es true rest at = let equal : e ≡ d = same_Some e d at in λ i. ((sym equal i).0, v) ∷ es
  set_first f v d e es false rest at =
      let place : ℕ = position_or_len (nat_eq f) (keys_of es) in
      set_later e (d.0, v) es place ∙ ap (λ xs. e ∷ xs) (rest (sym (later e es place) ∙ at))

  -- what is set at the place of a function is its value
  set_at : (f : ℕ) (v : X) (d : ℕ × X) (es : List (ℕ × X)) → slice_get es (position_or_len (nat_eq f) (keys_of es)) ≡ Some d → set es (position_or_len (nat_eq f) (keys_of es)) (d.0, v) ≡ set_value (nat_eq f) es v
  set_at f v d [] at = absurd cc
  set_at f v d (e ∷ es) at = set_first f v d e es (nat_eq f e.0) (set_at f v d es) at

  -- the functions stay where one of them stays
  pub functions_kept : (es : List (ℕ × X)) (place : ℕ) (e w : ℕ × X) → slice_get es place ≡ Some e → w.0 ≡ e.0 → keys_of (set es place w) ≡ keys_of es
  functions_kept [] place e w at same = absurd cc
  functions_kept (d ∷ es) zero e w at same = let equal : d ≡ e = same_Some d e at in λ i. (same ∙ ap (λ x. x.0) (sym equal)) i ∷ keys_of es
  functions_kept (d ∷ es) (suc place) e w at same = ap (λ fs. d.0 ∷ fs) (functions_kept es place e w at same)

-- the function at a place
pub function_there : (xs es : List (ℕ × List Link)) (place f : ℕ) (e : ℕ × List Link) → xs ≡ es → place < length xs → e ≡ get_or xs place e → f ≡ e.0 → Some f ≡ slice_get (keys_of es) place
function_there xs es place f e same lt at is =
    subst (λ ys. Some f ≡ slice_get (keys_of ys) place) same (ap Some is ∙ sym (slice_get-map (λ x. x.0) xs place ∙ ap (option_map (λ x. x.0)) (slice_get_read xs (length xs) place e refl lt at)))

pub function_past : (xs es : List (ℕ × List Link)) (place : ℕ) → xs ≡ es → length xs ≤ place → None ≡ slice_get (keys_of es) place
function_past xs es place same past = subst (λ ys. None ≡ slice_get (keys_of ys) place) same (sym (slice_get_past (keys_of xs) place (omega (arith, past, length_keys xs))))

-- the calls at the place of a function
pub calls_there : (xs es : List (ℕ × List Link)) (f place : ℕ) (e : ℕ × List Link) (calls : List Link) → xs ≡ es → place ≡ position_or_len (nat_eq f) (keys_of es) → place < length xs → e ≡ get_or xs place e → calls ≡ e.1
    → (l : Link) → Contains calls l ↔ IsSomeAnd (lookup (nat_eq f) es) (λ v. Contains v l)
calls_there xs es f place e calls both is lt at same l =
    let read : slice_get es place ≡ Some e = subst (λ ys. slice_get ys place ≡ Some e) both (slice_get_read xs (length xs) place e refl lt at) in
    let found : lookup (nat_eq f) es ≡ Some calls = lookup_at f es ∙ ap (λ i. option_map calls_of (slice_get es i)) (sym is) ∙ ap (option_map calls_of) read ∙ ap Some (sym same) in
    subst (λ o. Contains calls l ↔ IsSomeAnd o (λ v. Contains v l)) (sym found) (λ has. has, λ has. has)

not_there : (es : List (ℕ × List Link)) (f : ℕ) → length es ≤ position_or_len (nat_eq f) (keys_of es) → lookup (nat_eq f) es ≡ None
not_there es f past = lookup_at f es ∙ ap (option_map calls_of) (slice_get_past es (position_or_len (nat_eq f) (keys_of es)) past)

pub no_calls_there : (xs es : List (ℕ × List Link)) (f place : ℕ) → xs ≡ es → place ≡ position_or_len (nat_eq f) (keys_of es) → length xs ≤ place → (l : Link) → Contains [] l ↔ IsSomeAnd (lookup (nat_eq f) es) (λ v. Contains v l)
no_calls_there xs es f place both is past l =
    subst (λ o. Contains [] l ↔ IsSomeAnd o (λ v. Contains v l)) (sym (not_there es f (omega (arith, is, past, ap length both)))) (λ has. absurd (omega (arith, has.1)), λ has. absurd has)

-- The place of each function, with one function more.
before_last : (fs : List ℕ) (f q : ℕ) → position_or_len (nat_eq q) fs < length fs → position_or_len (nat_eq q) (fs ++ f ∷ []) ≡ position_or_len (nat_eq q) fs
before_last fs f q lt =
    position_or_len_push (nat_eq q) fs f
    ∙ ap (λ b. cond b (length fs + cond (nat_eq q f) 0 1) (position_or_len (nat_eq q) fs)) (ne_eqb (position_or_len (nat_eq q) fs) (length fs) (λ e. omega (arith, e, lt)))

at_last : (fs : List ℕ) (f q : ℕ) (b : Bool) → position_or_len (nat_eq q) fs ≡ length fs → nat_eq q f ≡ b → position_or_len (nat_eq q) (fs ++ f ∷ []) ≡ length fs + cond b 0 1
at_last fs f q b past is =
    position_or_len_push (nat_eq q) fs f
    ∙ ap (λ c. cond c (length fs + cond (nat_eq q f) 0 1) (position_or_len (nat_eq q) fs)) (eq-eqb (position_or_len (nat_eq q) fs) (length fs) past)
    ∙ ap (λ c. length fs + cond c 0 1) is

place_more : (fs : List ℕ) (f q : ℕ) (b : Bool) (place : Option ℕ) → position_or_len (nat_eq f) fs ≡ length fs → nat_eq f q ≡ b → IsPlaceOf fs q place → IsPlaceOf (fs ++ f ∷ []) q (cond b (Some (length fs)) place)
place_more fs f q true place other is before =
    let same : f ≡ q = eqb-true f q is in
    let past : position_or_len (nat_eq q) fs ≡ length fs = ap (λ g. position_or_len (nat_eq g) fs) (sym same) ∙ other in
    (omega (arith, at_last fs f q true past (eq-eqb q f (sym same))), omega (arith, length-append fs (f ∷ [])))
place_more fs f q false None other is before = omega (arith, at_last fs f q false before (nat_eq_equiv.symm q f ∙ is), length-append fs (f ∷ []))
place_more fs f q false (Some i) other is (at, lt) =
    let less : position_or_len (nat_eq q) fs < length fs = omega (arith, at, lt) in
    (omega (arith, at, before_last fs f q less), omega (arith, lt, length-append fs (f ∷ [])))

pub placed_more : {S : Type 0} (old new : HashMap ℕ ℕ S) (fs : List ℕ) (f place : ℕ) → position_or_len (nat_eq f) fs ≡ length fs → place ≡ length fs
    → ((q : ℕ) → get nat_eq new q ≡ cond (nat_eq f q) (Some place) (get nat_eq old q)) → ArePlaced old fs → ArePlaced new (fs ++ f ∷ [])
placed_more old new fs f place other last is before q =
    subst (IsPlaceOf (fs ++ f ∷ []) q) (sym (is q ∙ ap (λ n. cond (nat_eq f q) (Some n) (get nat_eq old q)) last)) (place_more fs f q (nat_eq f q) (get nat_eq old q) other refl (before q))

pub placed_kept : {S : Type 0} (old new : HashMap ℕ ℕ S) (fs : List ℕ) → new.entries ≡ old.entries → ArePlaced old fs → ArePlaced new fs
placed_kept old new fs same before q = subst (λ es. IsPlaceOf fs q (lookup (nat_eq q) es)) (sym same) (before q)

pub begun_placed : {S : Type 0} (old new : HashMap ℕ ℕ S) (es pushed : List (ℕ × List Link)) (e : ℕ × List Link) (f place : ℕ) → f ≡ e.0 → place ≡ length es → pushed ≡ es ++ e ∷ []
    → position_or_len (nat_eq e.0) (keys_of es) ≡ length (keys_of es) → ((q : ℕ) → get nat_eq new q ≡ cond (nat_eq f q) (Some place) (get nat_eq old q)) → ArePlaced old (keys_of es) → ArePlaced new (keys_of pushed)
begun_placed old new es pushed e f place same last is other updates before =
    subst (ArePlaced new) (sym (ap keys_of is ∙ map-append (λ x. x.0) es (e ∷ [])))
    (placed_more old new (keys_of es) e.0 place other (last ∙ length_keys es) (λ q. updates q ∙ ap (λ g. cond (nat_eq g q) (Some place) (get nat_eq old q)) same) before)

pub place_within : (es : List (ℕ × List Link)) (place : ℕ) → place < length (keys_of es) → place < length es
place_within es place lt = omega (arith, lt, length_keys es)

-- a call that is added to those of its function
links_put : (old new : ℕ → Option (List Link)) (function : ℕ) (link : Link) (written : List Link) → ((l : Link) → Contains written l ↔ (IsSomeAnd (old function) (λ v. Contains v l) ⊎ (l ≡ link)))
    → ((q : ℕ) → new q ≡ cond (nat_eq function q) (Some written) (old q))
    → (f : ℕ) (l : Link) → IsSomeAnd (new f) (λ v. Contains v l) ↔ (IsSomeAnd (old f) (λ v. Contains v l) ⊎ ((f ≡ function) × (l ≡ link)))
links_put old new function link written more is f l =
    subst (λ o. IsSomeAnd o P ↔ (IsSomeAnd (old f) P ⊎ ((f ≡ function) × (l ≡ link)))) (sym (is f)) (elim (eqb_tells function f) [
      | inl (e, same) ↦
          subst (λ b. IsSomeAnd (cond b (Some written) (old f)) P ↔ (IsSomeAnd (old f) P ⊎ ((f ≡ function) × (l ≡ link)))) (sym e) (
            λ has. elim ((more l).0 has) as (λ _. IsSomeAnd (old f) P ⊎ ((f ≡ function) × (l ≡ link))) [
              | inl before ↦ inl (subst (λ g. IsSomeAnd (old g) P) same before)
              | inr last ↦ inr (sym same, last)
            ],
            λ has. (more l).1 (elim has as (λ _. IsSomeAnd (old function) P ⊎ (l ≡ link)) [
              | inl before ↦ inl (subst (λ g. IsSomeAnd (old g) P) (sym same) before)
              | inr last ↦ inr last.1
            ]),
          )
      | inr (e, other) ↦
          subst (λ b. IsSomeAnd (cond b (Some written) (old f)) P ↔ (IsSomeAnd (old f) P ⊎ ((f ≡ function) × (l ≡ link)))) (sym e) (
            λ has. inl has,
            λ has. elim has [
              | inl before ↦ before
              | inr last ↦ absurd (other (sym last.0))
            ],
          )
    ])
  where
    P : List Link → Type 0
    P v = Contains v l

held_more : (o : Option (List Link)) (held : List Link) (link : Link) → o ≡ Some held → (l : Link) → Contains (held ++ link ∷ []) l ↔ (IsSomeAnd o (λ v. Contains v l) ⊎ (l ≡ link))
held_more o held link is l = subst (λ o. Contains (held ++ link ∷ []) l ↔ (IsSomeAnd o (λ v. Contains v l) ⊎ (l ≡ link))) (sym is) (
  λ has. elim (Contains-push_cases held link l has) as (λ _. Contains held l ⊎ (l ≡ link)) [ inl was ↦ inl was | inr last ↦ inr (sym last) ],
  λ has. elim has as (λ _. Contains (held ++ link ∷ []) l) [ inl was ↦ Contains-append_left held (link ∷ []) l was | inr last ↦ subst (Contains (held ++ link ∷ [])) (sym last) (Contains-push held link) ],
)

none_more : (o : Option (List Link)) (link : Link) → o ≡ None → (l : Link) → Contains (link ∷ []) l ↔ (IsSomeAnd o (λ v. Contains v l) ⊎ (l ≡ link))
none_more o link is l = subst (λ o. Contains (link ∷ []) l ↔ (IsSomeAnd o (λ v. Contains v l) ⊎ (l ≡ link))) (sym is) (
  λ has. elim (Contains-push_cases [] link l has) as (λ _. ⊥ ⊎ (l ≡ link)) [ inl none ↦ absurd (omega (arith, none.1)) | inr last ↦ inr (sym last) ],
  λ has. elim has as (λ _. Contains (link ∷ []) l) [ inl none ↦ absurd none | inr last ↦ subst (Contains (link ∷ [])) (sym last) (Contains-push [] link) ],
)

pub put_at : (es : List (ℕ × List Link)) (place : ℕ) (e w : ℕ × List Link) (link : Link) → slice_get es place ≡ Some e → w.0 ≡ e.0 → w.1 ≡ e.1 ++ link ∷ [] → HasOneMore es (set es place w) place link
put_at es place e w link at function calls = (e, at, λ i. set es place (function i, calls i))

-- a call of a function that is entered
pub links_pushed : (es new : List (ℕ × List Link)) (f place : ℕ) (link : Link) → place ≡ position_or_len (nat_eq f) (keys_of es) → HasOneMore es new place link → AddsLinks (record { lists = es }) (record { lists = new }) (λ g l. (g ≡ f) × (l ≡ link))
links_pushed es new f place link here (e, at, is) =
    let calls : List Link = e.1 ++ link ∷ [] in
    let found : slice_get es (position_or_len (nat_eq f) (keys_of es)) ≡ Some e = ap (slice_get es) (sym here) ∙ at in
    let held : lookup (nat_eq f) es ≡ Some e.1 = lookup_at f es ∙ ap (option_map calls_of) found in
    let more : new ≡ set_value (nat_eq f) es calls = is ∙ ap (λ i. set es i (e.0, calls)) here ∙ set_at f calls e es found in
    record {
      is = links_put (λ q. lookup (nat_eq q) es) (λ q. lookup (nat_eq q) new) f link calls (held_more (lookup (nat_eq f) es) e.1 link held)
          (λ q. ap (lookup (nat_eq q)) more ∙ lookup-set_value nat_eq_equiv (nat_eq f) (λ x y same. ap (λ g. nat_eq g y) (eqb-true f x same)) q calls es (ap is_some held));
    }

-- a call of a function that isn't entered yet
pub links_begun : (es new : List (ℕ × List Link)) (f : ℕ) (link : Link) → position_or_len (nat_eq f) (keys_of es) ≡ length (keys_of es) → new ≡ es ++ (f, link ∷ []) ∷ [] → AddsLinks (record { lists = es }) (record { lists = new }) (λ g l. (g ≡ f) × (l ≡ link))
links_begun es new f link other is =
    let none : lookup (nat_eq f) es ≡ None = not_there es f (omega (arith, other, length_keys es)) in
    record {
      is = links_put (λ q. lookup (nat_eq q) es) (λ q. lookup (nat_eq q) new) f link (link ∷ []) (none_more (lookup (nat_eq f) es) link none)
          (λ q. ap (lookup (nat_eq q)) (is ∙ sym (insert_end es (f, link ∷ []))) ∙ lookup-insert nat_eq_equiv f (link ∷ []) q es (length es) (none_passes_from_lookup (nat_eq f) es none));
    }

abbrev pub linked : Links → ℕ × Link → Type 0
linked links (f, l) = HasLink links f l

gained : {old new : Links} {P : ℕ → Link → Type 0} → AddsLinks old new P → Gains (linked old) (linked new) (λ p. P p.0 p.1)
gained adds p = adds.is p.0 p.1

pub links_nothing : (old : Links) (P : ℕ → Link → Type 0) → ((f : ℕ) (l : Link) → P f l → ⊥) → AddsLinks old old P
links_nothing old P none = record { is = λ f l. gains_nothing (linked old) (λ p. P p.0 p.1) (λ p. none p.0 p.1) (f, l) }

pub links_same : (old new : Links) (P Q : ℕ → Link → Type 0) → ((f : ℕ) (l : Link) → P f l ↔ Q f l) → AddsLinks old new P → AddsLinks old new Q
links_same old new P Q same adds = record { is = λ f l. gains_same (linked old) (linked new) (λ p. P p.0 p.1) (λ p. Q p.0 p.1) (λ p. same p.0 p.1) (gained adds) (f, l) }

module _ {X : Type 0} (P : X → ℕ → Link → Type 0) where
  pub links_init : (old : Links) → AddsLinks old old (λ f l. Has (λ x. P x f l) [])
  links_init old = record { is = λ f l. gains_init (linked old) (λ x p. P x p.0 p.1) (f, l) }

  pub links_step : (old mid new : Links) (xs : List X) (i : ℕ) (x : X) → i < length xs → x ≡ get_or xs i x
      → AddsLinks old mid (λ f l. Has (λ x. P x f l) (take i xs)) → AddsLinks mid new (P x) → AddsLinks old new (λ f l. Has (λ x. P x f l) (take (i + 1) xs))
  links_step old mid new xs i x lt is before one =
      record { is = λ f l. gains_step (linked old) (linked mid) (linked new) (λ x p. P x p.0 p.1) xs i x lt is (gained before) (gained one) (f, l) }

  -- the same, where the item is what stands at the place
  pub links_step_at : (old mid new : Links) (xs : List X) (i : ℕ) (none : X) → i < length xs
      → AddsLinks old mid (λ f l. Has (λ x. P x f l) (take i xs)) → AddsLinks mid new (P (get_or xs i none)) → AddsLinks old new (λ f l. Has (λ x. P x f l) (take (i + 1) xs))
  links_step_at old mid new xs i none lt before one = links_step old mid new xs i (get_or xs i none) lt (get_or_default xs i none (get_or xs i none) lt) before one

  pub links_end : (old new : Links) (xs : List X) (i : ℕ) → length xs ≤ i
      → AddsLinks old new (λ f l. Has (λ x. P x f l) (take i xs)) → AddsLinks old new (λ f l. Has (λ x. P x f l) xs)
  links_end old new xs i over adds = record { is = λ f l. gains_end (linked old) (linked new) (λ x p. P x p.0 p.1) xs i over (gained adds) (f, l) }
