-- That the test of a recorded result says what the table says.
use Rattle.std.proofs.Common.{◌≡◌, ◌⊎◌, inl, inr, ℕ, zero, suc, ◌≤◌, true, false, ◌&&◌, ℤ, pos, negsuc, List, [], ◌∷◌, length, nat_eq, nat_le, ap, refl, arith, FitsSigned}
use Rattle.std.proofs.lemmas.Int.{ints}
use Rattle.std.specs.Bool.{Decides}
use Rattle.std.specs.Int.{w32, FitsUnsigned}
use Rattle.std.proofs.lemmas.Bool.Decides.{Decides-and, Decides-like, Decides-int_eq, Decides-eqb, nat_tests}
use Rattle.sys_table.specs.declared.kinds.ResultKind.{ResultKind}
use Rattle.sys_table.specs.declared.kinds.ResultKind.TheVariants as kinds
use Rattle.sys_table.specs.Table.{result_of, FitsResult}
use Rattle.sys_table.specs.Answering.{AnswersWrite}
use Rattle.c_tree.specs.Operators.{fits_int}
use Rattle.c_meaning.specs.SystemCalls.{is_empty, fits_unsigned, fits_result, answers_read, answers_write}
use Rattle.c_meaning.specs.Records.{RecordsAreJudged}

-- 0 for a number from 0 up, and 1 for one below
abbrev side : ℤ → ℕ
side (pos n) = 0
side (negsuc n) = 1

abbrev size_of : ℤ → ℕ
size_of (pos n) = n
size_of (negsuc n) = n

decides_empty : (bytes : List ℕ) → Decides (is_empty bytes) (bytes ≡ [])
decides_empty [] = ((λ h. refl), (λ h. refl))
decides_empty (b ∷ bytes) = ((λ h. cc), (λ h. cc))

decides_fits : (z : ℤ) → Decides (fits_int z) (FitsSigned w32 z)
decides_fits z = ((λ h. grind (arith, ints, h)), (λ h. grind (arith, ints, h)))

decides_le : (a b : ℕ) → Decides (nat_le a b) (a ≤ b)
decides_le a b = ((λ h. grind (arith, nat_tests, h)), (λ h. grind (arith, nat_tests, h)))

decides_unsigned : (z : ℤ) → Decides (fits_unsigned z) (FitsUnsigned w32 z)
decides_unsigned (pos n) = ((λ h. grind (arith, ints, nat_tests, h)), (λ h. grind (arith, ints, nat_tests, h)))
decides_unsigned (negsuc n) = ((λ h. cc), (λ h. absurd (omega (arith, h.0))))

decides_result : (kind : ResultKind) (z : ℤ) → Decides (fits_result kind z) (FitsResult kind z)
decides_result kinds.Int z = decides_fits z
decides_result kinds.UnsignedInt z = decides_unsigned z
decides_result kinds.Void z = Decides-int_eq z (pos 0)

abbrev Read : ℕ → List ℕ → ℤ → Type 0
Read asked bytes z = ((z ≡ negsuc 0) × (bytes ≡ [])) ⊎ ((z ≡ pos (length bytes)) × (length bytes ≤ asked) × FitsSigned w32 z)

decides_read : (asked : ℕ) (bytes : List ℕ) (z : ℤ) → Decides (answers_read asked bytes z) (Read asked bytes z)
decides_read asked bytes (negsuc zero) = Decides-like (is_empty bytes) (λ e. inl (refl, e)) back (decides_empty bytes)
  where
    back : Read asked bytes (negsuc zero) → bytes ≡ []
    back (inl h) = h.1
    back (inr h) = let e : 1 ≡ 0 = ap side h.0 in absurd (omega (arith, e))
decides_read asked bytes (negsuc (suc n)) = ((λ h. cc), back)
  where
    back : Read asked bytes (negsuc (suc n)) → false ≡ true
    back (inl h) = let e : suc n ≡ 0 = ap size_of h.0 in absurd (omega (arith, e))
    back (inr h) = let e : 1 ≡ 0 = ap side h.0 in absurd (omega (arith, e))
decides_read asked bytes (pos n) =
    Decides-like (answers_read asked bytes (pos n)) forth back (Decides-and (nat_eq n (length bytes)) (nat_le n asked && fits_int (pos n)) (Decides-eqb n (length bytes)) (Decides-and (nat_le n asked) (fits_int (pos n)) (decides_le n asked) (decides_fits (pos n))))
  where
    forth : (n ≡ length bytes) × ((n ≤ asked) × FitsSigned w32 (pos n)) → Read asked bytes (pos n)
    forth h = let e = h.0 in let l = h.1.0 in inr (ap (λ k. pos k) e, omega (arith, e, l), h.1.1)

    back : Read asked bytes (pos n) → (n ≡ length bytes) × ((n ≤ asked) × FitsSigned w32 (pos n))
    back (inl h) = let e : 0 ≡ 1 = ap side h.0 in absurd (omega (arith, e))
    back (inr h) = let e : n ≡ length bytes = ap size_of h.0 in let l = h.1 in (e, (omega (arith, e, l), h.2))

decides_write : (asked : ℕ) (bytes : List ℕ) (z : ℤ) → Decides (answers_write asked bytes z) (AnswersWrite asked (record { value = z; bytes = bytes }))
decides_write asked bytes (negsuc zero) =
    Decides-like (is_empty bytes) (λ e. record { none = e; low = omega arith; high = omega arith; fits = grind (arith, ints) }) (λ h. h.none) (decides_empty bytes)
decides_write asked bytes (negsuc (suc n)) = ((λ h. cc), (λ h. let l = h.low in absurd (grind (arith, ints, l))))
decides_write asked bytes (pos n) =
    Decides-like (answers_write asked bytes (pos n)) (λ h. let l = h.1.0 in record { none = h.0; low = omega arith; high = grind (arith, ints, l); fits = h.1.1 }) (λ h. let l = h.high in (h.none, (grind (arith, ints, l), h.fits)))
    (Decides-and (is_empty bytes) (nat_le n asked && fits_int (pos n)) (decides_empty bytes) (Decides-and (nat_le n asked) (fits_int (pos n)) (decides_le n asked) (decides_fits (pos n))))

pub records_are_judged : RecordsAreJudged
records_are_judged zero asked r = decides_read asked r.bytes r.value
records_are_judged (suc zero) asked r = decides_write asked r.bytes r.value
records_are_judged (suc (suc x)) asked r =
    Decides-and (is_empty r.bytes) (fits_result (result_of (suc (suc x))) r.value) (decides_empty r.bytes) (decides_result (result_of (suc (suc x))) r.value)
