-- The known processes, one after another.
use Rattle.std.proofs.Common.{◌≡◌, ◌||◌, ℕ, ◌+◌, Bool, true, false, cond, nat_eq, List, [], ◌∷◌, ◌++◌, length, refl, sym, ◌∙◌, ap, subst, append_assoc, length-append}
use Rattle.std.specs.Prelude.{if◌then◌else◌, flat_map}
use Rattle.std.specs.Cmp.{Equal-is, nat_cmp_total, nat_eq_equiv}
use Rattle.std.specs.List.{list_any}
use Rattle.std.specs.Ordering.{nat_cmp, eq_by_cmp}
use Rattle.std.specs.FinSet.{FinSet, from_list, len, contains, insert, contains-insert, contains_tied, contains-from_list_nat, len-insert, same_set, from_list_push, nat_cmp-IsAntisymmetric}
use Rattle.std.proofs.lemmas.List.Concat.{flat_map-append}
use Rattle.std.proofs.lemmas.List.{append-nil}
use Rattle.trace_file.specs.declared.record.Record.{Record}
use Rattle.trace_file.specs.declared.version.TracesVersion.{TracesVersion}
use Rattle.trace_file.specs.Known.{made_known, known_count}
use Rattle.trace_file.specs.Processes.{AreKnown, with_process}

any_either_way : (p : ℕ) (ks : List ℕ) → list_any (nat_eq p) ks ≡ list_any (λ y. nat_eq y p) ks
any_either_way p [] = refl
any_either_way p (k ∷ ks) = λ i. nat_eq_equiv.symm p k i || any_either_way p ks i

-- a number that is there changes nothing
insert_there : (s : FinSet nat_cmp) (p : ℕ) → contains s p ≡ true → insert s p ≡ s
insert_there s p there = same_set nat_cmp_total nat_cmp-IsAntisymmetric (insert s p) s (λ q. contains-insert nat_cmp_total s p q ∙ one q (eq_by_cmp nat_cmp q p) refl)
  where
    one : (q : ℕ) (b : Bool) → eq_by_cmp nat_cmp q p ≡ b → (eq_by_cmp nat_cmp q p || contains s q) ≡ contains s q
    one q true is = ap (λ b. b || contains s q) is ∙ sym there ∙ contains_tied nat_cmp_total s q p ((Equal-is (nat_cmp q p)).0 is)
    one q false is = ap (λ b. b || contains s q) is

-- one more number
pub known_push : (ks numbers : List ℕ) (p : ℕ) → AreKnown ks numbers → AreKnown (with_process ks p) (numbers ++ p ∷ [])
known_push ks numbers p are = by (list_any (nat_eq p) ks) refl
  where
    has : (b : Bool) → list_any (nat_eq p) ks ≡ b → contains (from_list {R = nat_cmp} ks) p ≡ b
    has b is = contains-from_list_nat ks p ∙ sym (any_either_way p ks) ∙ is

    pushed : from_list {R = nat_cmp} (numbers ++ p ∷ []) ≡ insert (from_list ks) p
    pushed = from_list_push nat_cmp_total nat_cmp-IsAntisymmetric numbers p ∙ ap (λ s. insert s p) (sym are.same)

    by : (b : Bool) → list_any (nat_eq p) ks ≡ b → AreKnown (with_process ks p) (numbers ++ p ∷ [])
    by true is =
        let kept : with_process ks p ≡ ks = ap (λ b. if b then ks else ks ++ p ∷ []) is in
        subst (λ (t : List ℕ). AreKnown t (numbers ++ p ∷ [])) (sym kept)
        (record { same = sym (insert_there (from_list ks) p (has true is)) ∙ sym pushed; apart = are.apart })
    by false is =
        let grown : with_process ks p ≡ ks ++ p ∷ [] = ap (λ b. if b then ks else ks ++ p ∷ []) is in
        let one_more : from_list {R = nat_cmp} (ks ++ p ∷ []) ≡ insert (from_list ks) p = from_list_push nat_cmp_total nat_cmp-IsAntisymmetric ks p in
        subst (λ (t : List ℕ). AreKnown t (numbers ++ p ∷ [])) (sym grown)
        (record {
          same = one_more ∙ sym pushed;
          apart = ap len one_more ∙ len-insert nat_cmp_total (from_list ks) p ∙ ap (λ b. cond b (len (from_list {R = nat_cmp} ks)) (len (from_list {R = nat_cmp} ks) + 1)) (has false is) ∙ ap (λ n. n + 1) are.apart ∙ sym (length-append ks (p ∷ []));
        })

-- a record of version 1, or one that made no child
pub one_known : (version : TracesVersion) (r : Record) (old new : List ℕ) → made_known version r ≡ r.pid ∷ [] → new ≡ with_process old r.pid → (numbers : List ℕ) → AreKnown old numbers → AreKnown new (numbers ++ made_known version r)
one_known version r old new made is numbers are =
    subst (λ (t : List ℕ). AreKnown new (numbers ++ t)) (sym made) (subst (λ (t : List ℕ). AreKnown t (numbers ++ r.pid ∷ [])) (sym is) (known_push old numbers r.pid are))

pub two_known : (version : TracesVersion) (r : Record) (old mid new : List ℕ) (child : ℕ) → made_known version r ≡ r.pid ∷ child ∷ [] → mid ≡ with_process old r.pid → new ≡ with_process mid child → (numbers : List ℕ) → AreKnown old numbers → AreKnown new (numbers ++ made_known version r)
two_known version r old mid new child made first is numbers are =
    let one : AreKnown mid (numbers ++ r.pid ∷ []) = subst (λ (t : List ℕ). AreKnown t (numbers ++ r.pid ∷ [])) (sym first) (known_push old numbers r.pid are) in
    let two : AreKnown new ((numbers ++ r.pid ∷ []) ++ child ∷ []) = subst (λ (t : List ℕ). AreKnown t ((numbers ++ r.pid ∷ []) ++ child ∷ [])) (sym is) (known_push mid (numbers ++ r.pid ∷ []) child one) in
    subst (λ (t : List ℕ). AreKnown new t) (append_assoc numbers (r.pid ∷ []) (child ∷ []) ∙ ap (λ (t : List ℕ). numbers ++ t) (sym made)) two

-- how many are known is the length of the list
pub known_length : (version : TracesVersion) (ks : List ℕ) (records : List Record) → AreKnown ks (flat_map (made_known version) records) → known_count version records ≡ length ks
known_length version ks records are = ap len (sym are.same) ∙ are.apart

-- the numbers of one record more
pub made_push : (version : TracesVersion) (records : List Record) (r : Record) → flat_map (made_known version) records ++ made_known version r ≡ flat_map (made_known version) (records ++ r ∷ [])
made_push version records r = ap (λ (t : List ℕ). flat_map (made_known version) records ++ t) (sym (append-nil (made_known version r))) ∙ sym (flat_map-append (made_known version) records (r ∷ []))
