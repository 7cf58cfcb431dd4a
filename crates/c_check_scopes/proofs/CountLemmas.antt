-- Numbers of names in lists.
use Rattle.std.proofs.Common.{◌≡◌, ℕ, zero, suc, ◌+◌, ◌<◌, ◌≤◌, List, [], ◌∷◌, ◌++◌, length, Option, Some, None, Bool, true, false, cond, slice_get, length-append, refl, ap, sym, subst, ◌∙◌, arith}
use Rattle.std.specs.Prelude.{option_map, IfSome, IfNone, bytes_eq, codes}
use Rattle.std.proofs.lemmas.Slice.Eq.{bytes_eq-Decides}
use Rattle.std.proofs.lemmas.Option.{slice_get-map, slice_get-get_or, slice_get_within}
use Rattle.sys_table.specs.declared.kinds.ResultKind.TheVariants.{Void}
use Rattle.sys_table.specs.Table.{row, table, name_of}
use Rattle.dm_counts.specs.Mode.{Mode}
use Rattle.dm_counts.specs.Mode.TheVariants.{Plain, Instrumented}
use Rattle.c_rules.specs.Names.{Name, number_among, name_of_row, system_calls, null_calls, given_names}

pub same_name : (a b : List ℕ) → bytes_eq a b ≡ true → a ≡ b
same_name a b h = grind (arith, bytes_eq-Decides a b)

pub self_eq : (x : List ℕ) → bytes_eq x x ≡ true
self_eq x = grind (arith, bytes_eq-Decides x x)

pub none_not_some : (i : ℕ) → None ≡ Some i → ⊥
none_not_some i q = cc

abbrev IsAt : List Name → Name → Option ℕ → Type 0
IsAt ys x None = (i : ℕ) → slice_get ys i ≡ Some x → ⊥
IsAt ys x (Some i) = slice_get ys i ≡ Some x

no_name : (x : Name) → None ≡ Some x → ⊥
no_name x q = cc

other_name : (y x : Name) → bytes_eq y x ≡ false → Some y ≡ Some x → ⊥
other_name y x h q = let p : y ≡ x = cc in grind (arith, self_eq x)

later_none : (y x : Name) (ys : List Name) → bytes_eq y x ≡ false → ((i : ℕ) → slice_get ys i ≡ Some x → ⊥) → (i : ℕ) → slice_get (y ∷ ys) i ≡ Some x → ⊥
later_none y x ys h a zero q = other_name y x h q
later_none y x ys h a (suc i) q = a i q

later : (y x : Name) (ys : List Name) (o : Option ℕ) → bytes_eq y x ≡ false → IsAt ys x o → IsAt (y ∷ ys) x (option_map suc o)
later y x ys None h a = later_none y x ys h a
later y x ys (Some i) h a = a

at_head : (y x : Name) (ys : List Name) (t : Bool) → bytes_eq y x ≡ t → IsAt ys x (number_among ys x) → IsAt (y ∷ ys) x (cond t (Some 0) (option_map suc (number_among ys x)))
at_head y x ys true h a = ap Some (same_name y x h)
at_head y x ys false h a = later y x ys (number_among ys x) h a

pub is_at : (ys : List Name) (x : Name) → IsAt ys x (number_among ys x)
is_at [] x = λ i q. no_name x q
is_at (y ∷ ys) x = at_head y x ys (bytes_eq y x) refl (is_at ys x)

told_by : (ys : List Name) (x : Name) (r o : Option ℕ) → IsAt ys x o → IfSome r (λ i. slice_get ys i ≡ Some x) → ((i : ℕ) → slice_get ys i ≡ Some x → r ≡ Some i) → r ≡ o
told_by ys x r (Some i) a s e = e i a
told_by ys x None None a s e = refl
told_by ys x (Some i) None a s e = absurd (a i s)

-- the number of a name that is found
pub number_told : (ys : List Name) (x : Name) (r : Option ℕ) → IfSome r (λ i. slice_get ys i ≡ Some x) → ((i : ℕ) → slice_get ys i ≡ Some x → r ≡ Some i) → r ≡ number_among ys x
number_told ys x r s e = told_by ys x r (number_among ys x) (is_at ys x) s e

few_by : (ys : List Name) (x : Name) (o : Option ℕ) → IsAt ys x o → IfSome o (λ i. i < length ys)
few_by ys x None a = tt
few_by ys x (Some i) a = slice_get_within ys i x a

-- a number is below the number of names
pub number_within : (ys : List Name) (x : Name) (i : ℕ) → number_among ys x ≡ Some i → i < length ys
number_within ys x i q = slice_get_within ys i x (subst (IsAt ys x) q (is_at ys x))

-- ## System calls

table_length : length table ≡ 24
unfolding table
table_length = refl

pub name_at : (i : ℕ) → i < 24 → slice_get system_calls i ≡ Some (name_of i)
name_at i h = slice_get-map name_of_row table i ∙ ap (option_map name_of_row) (slice_get-get_or table i (row [] [] Void) (omega (arith, table_length)))

pub calls_length : length system_calls ≡ 24
unfolding table
calls_length = refl

below_24 : (i : ℕ) (x : Name) → slice_get system_calls i ≡ Some x → i < 24
below_24 i x q = omega (arith, slice_get_within system_calls i x q, calls_length)

some_name : (a b : Name) → Some a ≡ Some b → a ≡ b
some_name a b q = cc

found : (x : Name) (r : Option ℕ) → IfSome r (λ i. i < 24) → IfSome r (λ i. name_of i ≡ x) → IfSome r (λ i. slice_get system_calls i ≡ Some x)
found x None b s = tt
found x (Some i) b s = name_at i b ∙ ap Some s

pub call_told : (x : Name) (r : Option ℕ) → IfSome r (λ i. i < 24) → IfSome r (λ i. name_of i ≡ x) → ((i : ℕ) → i < 24 → x ≡ name_of i → r ≡ Some i) → r ≡ number_among system_calls x
call_told x r b s e = number_told system_calls x r (found x r b s) (λ i q. e i (below_24 i x q) (sym (some_name (name_of i) x (sym (name_at i (below_24 i x q)) ∙ q))))

-- ## Two lists

abbrev pub or_after : Option ℕ → ℕ → Option ℕ → Option ℕ
or_after (Some i) n o = Some i
or_after None n None = None
or_after None n (Some j) = Some (n + j)

after_suc : (o p : Option ℕ) (n : ℕ) → option_map suc (or_after o n p) ≡ or_after (option_map suc o) (suc n) p
after_suc (Some i) p n = refl
after_suc None None n = refl
after_suc None (Some j) n = ap Some (omega arith)

after_cond : (t : Bool) (o p : Option ℕ) (n : ℕ) → cond t (Some 0) (or_after o n p) ≡ or_after (cond t (Some 0) o) n p
after_cond true o p n = refl
after_cond false o p n = refl

after_zero : (p : Option ℕ) → p ≡ or_after None 0 p
after_zero None = refl
after_zero (Some j) = ap Some (omega arith)

pub number_joined : (xs ys : List Name) (x : Name) → number_among (xs ++ ys) x ≡ or_after (number_among xs x) (length xs) (number_among ys x)
number_joined [] ys x = after_zero (number_among ys x)
number_joined (y ∷ xs) ys x =
    ap (λ o. cond (bytes_eq y x) (Some 0) (option_map suc o)) (number_joined xs ys x)
    ∙ (ap (cond (bytes_eq y x) (Some 0)) (after_suc (number_among xs x) (number_among ys x) (length xs)) ∙ after_cond (bytes_eq y x) (option_map suc (number_among xs x)) (number_among ys x) (suc (length xs)))

-- ## What a look-up among the system calls tells

pub call_some : (x : Name) (r : Option ℕ) (i : ℕ) → r ≡ Some i → i < 24 → IfSome r (λ j. name_of j ≡ x) → ((j : ℕ) → j < 24 → x ≡ name_of j → r ≡ Some j) → Some i ≡ number_among system_calls x
call_some x r i q b s e = sym q ∙ call_told x r (subst (λ o. IfSome o (λ j. j < 24)) (sym q) b) s e

none_by : (x : Name) (o : Option ℕ) → IsAt system_calls x o → ((i : ℕ) → i < 24 → name_of i ≡ x → ⊥) → None ≡ o
none_by x None a n = refl
none_by x (Some i) a n = absurd (n i (below_24 i x a) (some_name (name_of i) x (sym (name_at i (below_24 i x a)) ∙ a)))

pub call_none : (x : Name) (r : Option ℕ) → r ≡ None → IfNone r ((i : ℕ) → i < 24 → name_of i ≡ x → ⊥) → None ≡ number_among system_calls x
call_none x r q n = none_by x (number_among system_calls x) (is_at system_calls x) (subst (λ o. IfNone o ((i : ℕ) → i < 24 → name_of i ≡ x → ⊥)) q n)

-- ## Null calls

flipped : (a b : Name) → bytes_eq a b ≡ bytes_eq b a
flipped a b = grind (arith, bytes_eq-Decides a b, bytes_eq-Decides b a)

not_so : true ≡ false → ⊥
not_so h = cc

none_of : (s t : Bool) → s ≡ false → t ≡ false → None ≡ cond s (Some 0) (option_map suc (cond t (Some 0) None))
none_of false false p q = refl
none_of true t p q = absurd (not_so p)
none_of false true p q = absurd (not_so q)

-- a name that is neither of them
pub null_none : (x : Name) → bytes_eq x (codes "__dyck_pre") ≡ false → bytes_eq x (codes "__dyck_post") ≡ false → None ≡ number_among null_calls x
null_none x p q =
    none_of (bytes_eq (codes "__dyck_pre") x) (bytes_eq (codes "__dyck_post") x) (flipped (codes "__dyck_pre") x ∙ p) (flipped (codes "__dyck_post") x ∙ q)

-- ## Functions without a definition

joined : (x : Name) (o p : Option ℕ) → o ≡ number_among system_calls x → p ≡ number_among null_calls x → or_after o (length system_calls) p ≡ number_among (given_names Instrumented) x
joined x o p h k =
    ap (λ z. or_after z (length system_calls) p) h
    ∙ (ap (or_after (number_among system_calls x) (length system_calls)) k ∙ sym (number_joined system_calls null_calls x))

pub given_call : (m : Mode) (x : Name) (i : ℕ) → Some i ≡ number_among system_calls x → Some i ≡ number_among (given_names m) x
given_call Plain x i h = h
given_call Instrumented x i h = joined x (Some i) (number_among null_calls x) h refl

pub given_null : (m : Mode) (x : Name) (i : ℕ) → m ≡ Instrumented → None ≡ number_among system_calls x → Some i ≡ number_among null_calls x → Some (24 + i) ≡ number_among (given_names m) x
given_null m x i is h k = ap Some (ap (λ n. n + i) (sym calls_length)) ∙ (joined x None (Some i) h k ∙ ap (λ z. number_among (given_names z) x) (sym is))

pub given_none : (m : Mode) (x : Name) → m ≡ Instrumented → None ≡ number_among system_calls x → None ≡ number_among null_calls x → None ≡ number_among (given_names m) x
given_none m x is h k = joined x None None h k ∙ ap (λ z. number_among (given_names z) x) (sym is)

given_count : (m : Mode) → length (given_names m) ≤ 26
given_count Plain = omega (arith, calls_length)
given_count Instrumented = omega (arith, calls_length, length-append system_calls null_calls)

some_below : (o : Option ℕ) (n : ℕ) → n ≤ 26 → IfSome o (λ i. i < n) → IfSome o (λ i. i < 26)
some_below None n h few = tt
some_below (Some i) n h few = omega (arith, h, few)

-- the numbers of the functions without a definition
pub given_few : (m : Mode) (x : Name) (r : Option ℕ) → r ≡ number_among (given_names m) x → IfSome r (λ i. i < 26)
given_few m x r q =
    let ys : List Name = given_names m in
    subst (λ o. IfSome o (λ i. i < 26)) (sym q) (some_below (number_among ys x) (length ys) (given_count m) (few_by ys x (number_among ys x) (is_at ys x)))
