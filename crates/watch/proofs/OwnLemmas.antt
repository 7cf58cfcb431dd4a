-- The own histories of the processes after one record more.
use Rattle.std.proofs.Common.{◌≡◌, ◌||◌, ◌&&◌, not, ℕ, ◌+◌, ◌≤◌, Bool, true, false, nat_eq, List, [], ◌∷◌, ◌++◌, map, filter, reverse, length, refl, ◌∙◌, ap, append-nil, arith, length-append}
use Rattle.std.specs.Prelude.{if◌then◌else◌}
use Rattle.std.specs.List.{list_any}
use Rattle.std.proofs.lemmas.List.{reverse-append, map-append}
use Rattle.std.proofs.lemmas.List.Elements.{filter-append}
use Rattle.std.proofs.lemmas.List.Folds.{list_any-append}
use Rattle.trace_file.specs.declared.record.Record.{Record}
use Rattle.trace_file.specs.declared.version.TracesVersion.{TracesVersion}
use Rattle.trace_file.specs.declared.version.TracesVersion.TheVariants.{One, Two}
use Rattle.trace_file.specs.Known.{child_of, made_known}
use Rattle.watch.specs.Own.{is_among, is_known, is_born, own_forked, own}

-- the order of the records does not matter for who is known

any_reverse : {X : Type 0} (test : X → Bool) (xs : List X) → list_any test (reverse xs) ≡ list_any test xs
any_reverse test [] = refl
any_reverse test (x ∷ xs) =
    ap (list_any test) (reverse-append (x ∷ []) xs)
    ∙ list_any-append test (reverse xs) (x ∷ [])
    ∙ ap (λ (b : Bool). b || (test x || false)) (any_reverse test xs)
    ∙ swapped (list_any test xs) (test x)
  where
    swapped : (a b : Bool) → (a || (b || false)) ≡ (b || a)
    swapped true true = refl
    swapped true false = refl
    swapped false true = refl
    swapped false false = refl

pub known_reverse : (version : TracesVersion) (records : List Record) (p : ℕ) → is_known version (reverse records) p ≡ is_known version records p
known_reverse version records p = any_reverse (λ r. is_among (made_known version r) p) records

module _ (records : List Record) (r : Record) (p : ℕ) where
  newest : reverse (records ++ r ∷ []) ≡ r ∷ reverse records
  newest = reverse-append records (r ∷ [])

  one_push : own One p (records ++ r ∷ []) ≡ own One p records ++ map (λ r. r.event) (filter (λ r. nat_eq r.pid p) (r ∷ []))
  one_push =
      ap (map (λ r. r.event)) (filter-append (λ r. nat_eq r.pid p) records (r ∷ []))
      ∙ map-append (λ r. r.event) (filter (λ r. nat_eq r.pid p) records) (filter (λ r. nat_eq r.pid p) (r ∷ []))

  two_push : own Two p (records ++ r ∷ []) ≡ (if nat_eq r.pid p then own Two p records ++ r.event ∷ [] else (if is_born (reverse records) r p then own Two r.pid records ++ r.event ∷ [] else own Two p records))
  unfolding own_forked
  two_push = ap (own_forked p) newest

  -- a record of its own adds the event
  pub own_self : (version : TracesVersion) → nat_eq r.pid p ≡ true → own version p (records ++ r ∷ []) ≡ own version p records ++ r.event ∷ []
  own_self One is = one_push ∙ ap (λ (b : Bool). own One p records ++ map (λ r. r.event) (if b then r ∷ [] else [])) is
  own_self Two is = two_push ∙ ap (λ (b : Bool). if b then own Two p records ++ r.event ∷ [] else (if is_born (reverse records) r p then own Two r.pid records ++ r.event ∷ [] else own Two p records)) is

  -- the fork that makes a process gives it the parent's history with the fork
  pub own_child : nat_eq r.pid p ≡ false → is_among (child_of r.event) p ≡ true → is_known Two records p ≡ false → own Two p (records ++ r ∷ []) ≡ own Two r.pid records ++ r.event ∷ []
  own_child other child new =
      let born : is_born (reverse records) r p ≡ true = λ i. child i && not ((known_reverse Two records p ∙ new) i) in
      two_push ∙ λ i. if other i then own Two p records ++ r.event ∷ [] else (if born i then own Two r.pid records ++ r.event ∷ [] else own Two p records)

  -- no other record changes it
  pub own_other : (version : TracesVersion) → nat_eq r.pid p ≡ false → (version ≡ Two → is_among (child_of r.event) p ≡ true → is_known Two records p ≡ true) → own version p (records ++ r ∷ []) ≡ own version p records
  own_other One other old = one_push ∙ ap (λ (b : Bool). own One p records ++ map (λ r. r.event) (if b then r ∷ [] else [])) other ∙ append-nil (own One p records)
  own_other Two other old =
      two_push ∙ λ i. if other i then own Two p records ++ r.event ∷ [] else (if unborn i then own Two r.pid records ++ r.event ∷ [] else own Two p records)
    where
      by : (b : Bool) → is_among (child_of r.event) p ≡ b → (b && not (is_known Two (reverse records) p)) ≡ false
      by true is = ap not (known_reverse Two records p ∙ old refl is)
      by false is = refl

      unborn : is_born (reverse records) r p ≡ false
      unborn = by (is_among (child_of r.event) p) refl

-- no history is longer than the records

shorter : (older : List Record) (p : ℕ) → length (own_forked p older) ≤ length older
unfolding own_forked
shorter [] p = omega arith
shorter (r ∷ older) p =
    elim (nat_eq r.pid p) as (λ b. length (if b then own_forked p older ++ r.event ∷ [] else (if is_born older r p then own_forked r.pid older ++ r.event ∷ [] else own_forked p older)) ≤ length (r ∷ older)) [
      | true ↦ let le = shorter older p in omega (arith, length-append (own_forked p older) (r.event ∷ []))
      | false ↦ elim (is_born older r p) as (λ b. length (if b then own_forked r.pid older ++ r.event ∷ [] else own_forked p older) ≤ length (r ∷ older)) [
        | true ↦ let le = shorter older r.pid in omega (arith, length-append (own_forked r.pid older) (r.event ∷ []))
        | false ↦ let le = shorter older p in omega arith
      ]
    ]

length_reverse : (xs : List Record) → length (reverse xs) ≡ length xs
length_reverse [] = refl
length_reverse (x ∷ xs) = ap length (reverse-append (x ∷ []) xs) ∙ (let same = length_reverse xs in omega (arith, length-append (reverse xs) (x ∷ [])))

pub own_within : (version : TracesVersion) (records : List Record) (p : ℕ) → length (own version p records) ≤ length records
own_within One [] p = omega arith
own_within One (r ∷ records) p =
    elim (nat_eq r.pid p) as (λ b. length (map (λ r. r.event) (if b then r ∷ filter (λ r. nat_eq r.pid p) records else filter (λ r. nat_eq r.pid p) records)) ≤ length (r ∷ records)) [
      | true ↦ let le = own_within One records p in omega arith
      | false ↦ let le = own_within One records p in omega arith
    ]
own_within Two records p = let le = shorter (reverse records) p in omega (arith, length_reverse records)
