-- The map and the entries as scopes, after a name is declared and after it is taken back.
use Rattle.std.specs.Option.{IsSome}
use Rattle.std.proofs.Common.{◌≡◌, ℕ, zero, suc, ◌+◌, ◌<◌, ◌≤◌, List, [], ◌∷◌, ◌++◌, Option, Some, None, Bool, true, false, cond, nat_eq, length, rules, refl, ap, sym, ◌∙◌, arith, Bor, slice_get, get_or}
use Rattle.std.specs.Prelude.{option_map, bytes_eq}
use Rattle.std.specs.Option.{option_copied, IfSome, MatchOption}
use Rattle.std.specs.List.{HoldsAt}
use Rattle.std.proofs.lemmas.Option.{slice_get_past, slice_get-get_or}
use Rattle.std.proofs.lemmas.Bool.{eq-eqb}
use Rattle.std.proofs.lemmas.Bool.Decides.{eqb_tells}
use Rattle.std.specs.HashMap.{HashMap, get_by}
use Rattle.c_rules.specs.Scopes.{Binding, lookup}
use Rattle.c_check_scopes.specs.declared.scopes.Entry.{Entry}
use Rattle.c_check_scopes.specs.Bound.{Bound, binding_of, bindings_of, place}
use Rattle.c_check_scopes.specs.View.{found}
use Rattle.c_check_scopes.specs.Index.{bound_of, onto, Hides, joined, IsIndex}
use Rattle.c_check_scopes.proofs.CountLemmas.{same_name, self_eq, none_not_some}

pub onto_push : (es : List Entry) (e : Entry) (bs : List Bound) → onto (es ++ e ∷ []) bs ≡ bound_of e ∷ onto es bs
onto_push [] e bs = refl
onto_push (x ∷ es) e bs = onto_push es e (bound_of x ∷ bs)

pub length_onto : (es : List Entry) (bs : List Bound) → length (onto es bs) ≡ length es + length bs
length_onto [] bs = omega arith
length_onto (e ∷ es) bs = omega (arith, length_onto es (bound_of e ∷ bs))

pub hides_push : (bs : List Bound) (es : List Entry) (e : Entry) → Hides bs es → e.hidden ≡ place (onto es bs) e.name.now → Hides bs (es ++ e ∷ [])
hides_push bs [] e h q = (q, tt)
hides_push bs (x ∷ es) e h q = (h.0, hides_push (bound_of x ∷ bs) es e h.1 q)

pub hides_pop : (bs : List Bound) (es : List Entry) (e : Entry) → Hides bs (es ++ e ∷ []) → (e.hidden ≡ place (onto es bs) e.name.now) × Hides bs es
hides_pop bs [] e h = (h.0, tt)
hides_pop bs (x ∷ es) e h = let r = hides_pop (bound_of x ∷ bs) es e h.1 in (r.0, (h.0, r.1))

-- ## What is looked up

-- the name with so many behind it
abbrev nth : List Bound → ℕ → Option Bound
nth [] i = None
nth (b ∷ bs) i = cond (nat_eq i (length bs)) (Some b) (nth bs i)

abbrev at_place : List Bound → Option ℕ → Option Binding
at_place bs None = None
at_place bs (Some i) = option_map binding_of (nth bs i)

some_same : (n i : ℕ) → Some n ≡ Some i → n ≡ i
some_same n i q = cc

nth_none : (bs : List Bound) (i : ℕ) → length bs ≤ i → nth bs i ≡ None
nth_none [] i h = refl
nth_none (b ∷ bs) i h = let q : nat_eq i (length bs) ≡ false = grind (arith, eqb_tells i (length bs)) in rw q (nth_none bs i (omega arith))

below_more : (t : Bool) (n i : ℕ) (p : Option ℕ) → (p ≡ Some i → i < n) → cond t (Some n) p ≡ Some i → i < suc n
below_more true n i p h q = omega (arith, some_same n i q)
below_more false n i p h q = omega (arith, h q)

place_below : (bs : List Bound) (x : List ℕ) (i : ℕ) → place bs x ≡ Some i → i < length bs
place_below [] x i h = absurd (none_not_some i h)
place_below (b ∷ bs) x i h = below_more (bytes_eq b.name x) (length bs) i (place bs x) (place_below bs x i) h

below_not : (i n : ℕ) → i < n → nat_eq i n ≡ false
below_not i n h = grind (arith, eqb_tells i n)

-- at one more name
at_more : (t : Bool) (b : Bound) (bs : List Bound) (p : Option ℕ) → ((i : ℕ) → p ≡ Some i → i < length bs) → at_place (b ∷ bs) (cond t (Some (length bs)) p) ≡ cond t (Some (binding_of b)) (at_place bs p)
at_more true b bs p h = rw (eq-eqb (length bs) (length bs) refl) refl
at_more false b bs None h = refl
at_more false b bs (Some i) h = rw (below_not i (length bs) (h i refl)) refl

pub lookup_place : (bs : List Bound) (x : List ℕ) → lookup (bindings_of bs) x ≡ at_place bs (place bs x)
lookup_place [] x = refl
lookup_place (b ∷ bs) x = ap (cond (bytes_eq b.name x) (Some (binding_of b))) (lookup_place bs x) ∙ sym (at_more (bytes_eq b.name x) b bs (place bs x) (place_below bs x))

nth_below : (es : List Entry) (bs : List Bound) (i : ℕ) → i < length bs → nth (onto es bs) i ≡ nth bs i
nth_below [] bs i h = refl
nth_below (e ∷ es) bs i h = nth_below es (bound_of e ∷ bs) i (omega arith) ∙ rw (below_not i (length bs) h) refl

nth_from : (es : List Entry) (bs : List Bound) (k i : ℕ) → i ≡ k + length bs → nth (onto es bs) i ≡ option_map bound_of (slice_get es k)
nth_from [] bs k i h = nth_none bs i (omega arith)
nth_from (e ∷ es) bs zero i h = nth_below es (bound_of e ∷ bs) i (omega arith) ∙ rw (eq-eqb i (length bs) (omega arith)) refl
nth_from (e ∷ es) bs (suc k) i h = nth_from es (bound_of e ∷ bs) k i (omega arith)

-- the entry at the place of a name
pub entry_found : (es : List Entry) (x : List ℕ) (i : ℕ) → place (onto es []) x ≡ Some i → lookup (bindings_of (onto es [])) x ≡ option_map binding_of (option_map bound_of (slice_get es i))
entry_found es x i h = lookup_place (onto es []) x ∙ (ap (at_place (onto es [])) h ∙ ap (option_map binding_of) (nth_from es [] i i (omega arith)))

pub none_found : (bs : List Bound) (x : List ℕ) → place bs x ≡ None → lookup (bindings_of bs) x ≡ None
none_found bs x h = lookup_place bs x ∙ ap (at_place bs) h

-- ## The index

joined_cond : (t : Bool) (a : Option ℕ) (b : Option (Option ℕ)) → joined (cond t (Some a) b) ≡ cond t a (joined b)
joined_cond true a b = refl
joined_cond false a b = refl

-- one more entry
pushed : (es : List Entry) (e : Entry) (x : List ℕ) → cond (bytes_eq e.name.now x) (Some (length es)) (place (onto es []) x) ≡ place (onto (es ++ e ∷ []) []) x
pushed es e x =
    ap (λ n. cond (bytes_eq e.name.now x) (Some n) (place (onto es []) x)) (omega (arith, length_onto es [])) ∙ sym (ap (λ bs. place bs x) (onto_push es e []))

pub declared : {S : Type 0} (m n : HashMap (Bor (List ℕ)) (Option ℕ) S) (es : List Entry) (e : Entry) (k : ℕ) → ((q : Bor (List ℕ)) → get_by (λ b. bytes_eq q.now b.now) n ≡ cond (bytes_eq e.name.now q.now) (Some (Some k)) (get_by (λ b. bytes_eq q.now b.now) m)) → k ≡ length es → e.hidden ≡ place (onto es []) e.name.now → IsIndex m es → IsIndex n (es ++ e ∷ [])
declared m n es e k u l h i = record {
  finds = λ x. ap joined (u (record e.name { now = x })) ∙ joined_cond (bytes_eq e.name.now x) (Some k) (get_by (λ b. bytes_eq x b.now) m)
      ∙ ap (cond (bytes_eq e.name.now x) (Some k)) (i.finds x) ∙ ap (λ j. cond (bytes_eq e.name.now x) (Some j) (place (onto es []) x)) l ∙ pushed es e x;
  hides = hides_push [] es e i.hides h;
}

hidden_there : (t : Bool) (n : ℕ) (h l : Option ℕ) → (t ≡ true → h ≡ l) → cond t h (cond t (Some n) l) ≡ l
hidden_there true n h l q = q refl
hidden_there false n h l q = refl

place_pushed : (es : List Entry) (e : Entry) (x : List ℕ) → place (onto (es ++ e ∷ []) []) x ≡ cond (bytes_eq e.name.now x) (Some (length (onto es []))) (place (onto es []) x)
place_pushed es e x = ap (λ bs. place bs x) (onto_push es e [])

pub undone : {S : Type 0} (m n : HashMap (Bor (List ℕ)) (Option ℕ) S) (es : List Entry) (e : Entry) → IsIndex m (es ++ e ∷ []) → ((q : Bor (List ℕ)) → get_by (λ b. bytes_eq q.now b.now) n ≡ cond (bytes_eq e.name.now q.now) (Some e.hidden) (get_by (λ b. bytes_eq q.now b.now) m)) → IsIndex n es
undone m n es e i u = let p = hides_pop [] es e i.hides in record {
  finds = λ x. ap joined (u (record e.name { now = x })) ∙ joined_cond (bytes_eq e.name.now x) e.hidden (get_by (λ b. bytes_eq x b.now) m) ∙ ap (cond (bytes_eq e.name.now x) e.hidden) (i.finds x ∙ place_pushed es e x)
      ∙ hidden_there (bytes_eq e.name.now x) (length (onto es [])) e.hidden (place (onto es []) x) (λ t. p.0 ∙ ap (place (onto es [])) (same_name e.name.now x t));
  hides = p.1;
}

pub there : {S : Type 0} (m : HashMap (Bor (List ℕ)) (Option ℕ) S) (es : List Entry) (e : Entry) → IsIndex m (es ++ e ∷ []) → get_by (λ b. bytes_eq e.name.now b.now) m ≡ None → ⊥
there m es e i g =
    let q = sym (ap joined g) ∙ i.finds e.name.now ∙ place_pushed es e e.name.now ∙ ap (λ t. cond t (Some (length (onto es []))) (place (onto es []) e.name.now)) (self_eq e.name.now) in
    none_not_some (length (onto es [])) q

some : {A : Type 0} (o : Option A) → (o ≡ None → ⊥) → IsSome o
some None f = absurd (f refl)
some (Some x) f = search rules

pub some_there : {S : Type 0} (m : HashMap (Bor (List ℕ)) (Option ℕ) S) (es : List Entry) (e : Entry) → IsIndex m (es ++ e ∷ []) → IsSome (get_by (λ b. bytes_eq e.name.now b.now) m)
some_there m es e i = some _ (there m es e i)

pub taken : (old new : List Entry) (e : Entry) (b : Bound) (bs : List Bound) → old ≡ new ++ e ∷ [] → onto old [] ≡ b ∷ bs → onto new [] ≡ bs
taken old new e b bs p q = let r = sym (onto_push new e []) ∙ sym (ap (λ es. onto es []) p) ∙ q in cc

pub one_less : (mid outer self new : List Bound) (count : ℕ) → self ≡ mid ++ outer → length outer ≡ count → count < length self → ((b : Bound) (bs : List Bound) → self ≡ b ∷ bs → new ≡ bs) → (rest : List Bound) × (new ≡ rest ++ outer)
one_less [] outer self new count p n l u = absurd (omega (arith, ap length p))
one_less (b ∷ mid) outer self new count p n l u = (mid, u b (mid ++ outer) p)

pub shorter : (self new : List Bound) (count : ℕ) → count < length self → ((b : Bound) (bs : List Bound) → self ≡ b ∷ bs → new ≡ bs) → length new < length self
shorter [] new count l u = absurd (omega arith)
shorter (b ∷ bs) new count l u = omega (arith, ap length (u b bs refl))

found_is : (r : Option (Bor Entry)) → found r ≡ option_map binding_of (option_map bound_of (option_copied r))
found_is None = refl
found_is (Some e) = refl

pub get_told : (r : Option (Bor Entry)) (xs : List Entry) (i : ℕ) → IfSome r (λ x. x.now ≡ get_or xs i x.now) → MatchOption r (length xs ≤ i) (λ x. (i < length xs) × HoldsAt (λ y. x.now ≡ y) xs i) → option_copied r ≡ slice_get xs i
get_told None xs i h m = sym (slice_get_past xs i m)
get_told (Some e) xs i h m = ap Some h ∙ sym (slice_get-get_or xs i e.now m.0)

-- what a look-up tells
pub found_there : (r : Option (Bor Entry)) (ys xs : List Entry) (bs : List Bound) (x : List ℕ) (p : Option ℕ) (i : ℕ) → option_copied r ≡ slice_get ys i → ys ≡ xs → onto xs [] ≡ bs → p ≡ place bs x → p ≡ Some i → found r ≡ lookup (bindings_of bs) x
found_there r ys xs bs x p i g d v n q =
    found_is r ∙ (ap (λ o. option_map binding_of (option_map bound_of o)) (g ∙ ap (λ z. slice_get z i) d)
    ∙ (sym (entry_found xs x i (ap (λ z. place z x) v ∙ (sym n ∙ q))) ∙ ap (λ z. lookup (bindings_of z) x) v))

pub nothing_there : (bs : List Bound) (x : List ℕ) (p : Option ℕ) → p ≡ place bs x → p ≡ None → None ≡ lookup (bindings_of bs) x
nothing_there bs x p n q = sym (none_found bs x (sym n ∙ q))
