-- Where declarators and type names fail (C99 6.7.5, 6.7.6).
use Rattle.std.proofs.Common.{◌≡◌, ◌⊎◌, inl, inr, ◌≤◌, suc, List, ◌∷◌, ◌++◌, refl, sym, ap, ◌∙◌, subst, arith, ℕ, []}
use Rattle.c_lexer.specs.declared.token.Token.{Token}
use Rattle.c_lexer.specs.declared.punctuator.TheConstants.{LEFT_BRACKET, RIGHT_BRACKET, LEFT_PARENTHESIS, RIGHT_PARENTHESIS, ASTERISK, COMMA}
use Rattle.c_syntax.specs.Specifiers.{ReadsSpec}
use Rattle.c_syntax.specs.Tree.{Spec, Ident, Maybe, Declarator, nothing, named, Params, TypeName}
use Rattle.c_syntax.specs.Tokens.{Is, place}
use Rattle.c_syntax.specs.Grammar.{conditional_level, IsThere, HasName, HasNoName, ReadsSize, no_size, a_size, ReadsType, a_type}
use Rattle.c_syntax.specs.Grammar.{Declares, a_pointer, a_direct, ReadsCore, a_declared, declarator_in_parentheses, no_core, Lengthens, no_more, an_array, a_function, are_none, are_some, ReadsEach, last_param, next_param}
use Rattle.c_syntax.specs.Limits.{height_of_declarator, height_of_params, height_of_type, height_of_maybe}
use Rattle.c_syntax_printing.specs.Twins.{here, along, On}
use Rattle.c_syntax_printing.proofs.Twins.{after, glue}
use Rattle.c_syntax_printing.proofs.Ranks.{ranked, apart}
use Rattle.c_syntax_printing.specs.Starts.{start, EndsDeclarator}
use Rattle.c_syntax_printing.proofs.Ends.{started, started_name, parenthesis_ends_declarator, comma_ends_declarator}
use Rattle.c_syntax_printing.proofs.Begins.{lengthens_begin, lengthens_inside, direct_begins, declares_ends_spec, there_begins, nothing_stands}
use Rattle.c_syntax_printing.proofs.FrameGrammar.{declares_on, lengthens_on}
use Rattle.c_syntax_printing.proofs.Only.{OnlyCore}
use Rattle.c_syntax_printing.proofs.OneDeclarator.{moved_lengthens, only_declared, only_brackets}
use Rattle.c_syntax_printing.proofs.One.{same_declarator, lengthens_pass, only_declarator}
use Rattle.c_syntax_printing.specs.Fails.{Meets, at_end, at_token, Fails, Then, then, first, second, one, NotAt}
use Rattle.c_syntax_printing.specs.Phrases.{Bound, within, Fits, inner, ASpec, ADeclarator, AnExpr, Punctuator}
use Rattle.c_syntax_printing.specs.Operands.{AType, Past}
use Rattle.c_syntax_printing.specs.Specs.{AConsts, are_consts}
use Rattle.c_syntax_printing.specs.Declarators.{Carries, AnyName, ADeclared, SomeLengthens, NoCore, DeclaratorTail, SizeClosed, AParam, ParamsClosed, params_closed, EachClosed, closed_here, more_closed, Lengthened, Bare, Naming, with_name, without_name, either_way, Suited}
use Rattle.c_syntax_printing.proofs.Combine.{Fixes, on_as, fails_not_or, missing, fails_here, fails_as, fails_first, fails_later, fails_under, fails_under_alike, fails_under_begun, fails_beside, fails_past, alike, not_at_alike, twin_alike, fronted, then_fixes, Begins}
use Rattle.c_syntax_printing.proofs.Fixed.{start_alike, ends_declarator_alike, spec_fixes}
use Rattle.c_syntax_printing.proofs.StmtForms.{fits_part}
use Rattle.c_syntax_printing.proofs.BlockForms.{fits_under}
use Rattle.c_syntax_printing.proofs.ExprForms.{fits_enclosed}
use Rattle.c_syntax_printing.proofs.PrefixFails.{fits_low, behind_alike}
use Rattle.c_syntax_printing.proofs.SpecFails.{ends_no_const}

pub declared_fixes : (N : Declarator → Type 0) (b c : Bound) → Fixes (ADeclared N b) (ADeclared N c)
declared_fixes N b c = record {
  moves = λ i j a k m. on_as (declares_on a.reads k) (λ h r. record { depth = a.depth; tree = a.tree; reads = r; suits = a.suits; ends = ends_declarator_alike m a.ends; fits = a.fits });
  once = λ i j k a e. (same_declarator a.reads e.reads a.ends e.ends).1;
}

-- a declarator with a name, in its other form
pub declarator_fails_as : {b : Bound} {i r : List Token} → Fails (ADeclared HasName b) i r → Fails (ADeclarator b) i r
declarator_fails_as f = fails_as (λ k j m a. record { depth = a.depth; tree = a.tree; reads = a.reads; suits = a.named; ends = a.ends; fits = a.fits }) f

-- what declarators are made of

lengthens_rise : {d at : ℕ} {a e : Declarator} {i j : List Token} → Lengthens d at a e i j → height_of_declarator a ≤ height_of_declarator e
lengthens_rise no_more = omega arith
lengthens_rise (an_array o s c l) = omega (arith, lengthens_rise l)
lengthens_rise (a_function o s c l) = omega (arith, lengthens_rise l)

lengthens_carry : {N : Declarator → Type 0} {d at : ℕ} {a e : Declarator} {i j : List Token} → Carries N → Lengthens d at a e i j → N e → N a
lengthens_carry c no_more n = n
lengthens_carry c (an_array o s q l) n = c.of_array _ _ _ (lengthens_carry c l n)
lengthens_carry c (a_function o s q l) n = c.of_function _ _ _ (lengthens_carry c l n)

pub carries_name : Carries HasName
carries_name = record { of_pointer = λ at e n. n; of_array = λ at e s n. n; of_function = λ at e ps n. n }

pub carries_no_name : Carries HasNoName
carries_no_name = record { of_pointer = λ at e n. n; of_array = λ at e s n. n; of_function = λ at e ps n. n }

pub carries_any : Carries AnyName
carries_any = record { of_pointer = λ at e n. n; of_array = λ at e s n. n; of_function = λ at e ps n. n }

pub names_carry : (w : Naming) → Carries (Suited w)
names_carry with_name = carries_name
names_carry without_name = carries_no_name
names_carry either_way = carries_any

-- pointers (6.7.5.1)

pointer_reads : {N : Declarator → Type 0} (b : Bound) {d : ℕ} {e : Declarator} {t : Token} {i j : List Token} → Carries N → Is ASTERISK t → Declares d e (t ∷ i) j → N e → EndsDeclarator j → Fits b d (height_of_declarator e) → Then AConsts (ADeclared N (inner b)) i j
pointer_reads b c h (a_pointer o q r) n z f =
    then (are_consts q (ends_no_const (declares_ends_spec r z))) (record { depth = _; tree = _; reads = r; suits = c.of_pointer _ _ n; ends = z; fits = fits_part b f (omega arith) })
pointer_reads b c h (a_direct p q l) n z f = absurd ((direct_begins q l z).1 (started h))

-- what follows the *
pub pointer_fails : {N : Declarator → Type 0} {b : Bound} {t : Token} {i r : List Token} → Carries N → Is ASTERISK t → Fails (Then AConsts (ADeclared N (inner b))) i r → Fails (ADeclared N b) (t ∷ i) r
pointer_fails {b = b} c h f = fails_under (λ k j a. pointer_reads b c h a.reads a.suits a.ends a.fits) f

-- no declarator stands without a node, where nothing ends one
low_declarator : {d : ℕ} {e : Declarator} {i j : List Token} → Declares d e i j → EndsDeclarator j → height_of_declarator e ≤ 0 → EndsDeclarator i
low_declarator (a_pointer o q r) z l = absurd (omega arith)
low_declarator (a_direct p (a_declared n) l) z g = absurd (omega (arith, lengthens_rise l))
low_declarator (a_direct p (declarator_in_parentheses o r h c) l) z g = absurd (omega (arith, lengthens_rise l, there_tall r h))
  where
    there_tall : {d : ℕ} {e : Declarator} {i j : List Token} → Declares d e i j → IsThere e → 1 ≤ height_of_declarator e
    there_tall {e = nothing} r h = absurd h
    there_tall {e = e} r h = omega arith
low_declarator (a_direct p no_core no_more) z g = z
low_declarator (a_direct p no_core (an_array o s c l)) z g = absurd (omega (arith, lengthens_rise l))
low_declarator (a_direct p no_core (a_function o s c l)) z g = absurd (omega (arith, lengthens_rise l))

pub no_declarator_left : {N : Declarator → Type 0} {p : ℕ} (i : List Token) → 2 ≤ start i → Fails (ADeclared N (within p 0)) i i
no_declarator_left i l = fails_here (λ s m j a. omega (arith, l, start_alike m, low_declarator a.reads a.ends (fits_low a.fits).1))

-- names (6.7.5)

-- where no name may stand
pub named_fails : {N : Declarator → Type 0} {b : Bound} (i : List Token) → Carries N → ((at : ℕ) (x : Ident) → N (named at x) → ⊥) → start i ≡ 5 → Fails (ADeclared N b) i i
named_fails {N} i c f q = fails_here (λ s m j a. none (sym (start_alike m) ∙ q) a.reads a.suits a.ends)
  where
    none : {d : ℕ} {e : Declarator} {s j : List Token} → start s ≡ 5 → Declares d e s j → N e → EndsDeclarator j → ⊥
    none q (a_pointer o w r) n z = omega (arith, started o, q)
    none q (a_direct p (a_declared x) l) n z = f _ _ (lengthens_carry c l n)
    none q (a_direct p (declarator_in_parentheses o r h w) l) n z = omega (arith, started o, q)
    none q (a_direct p no_core l) n z = (lengthens_begin l z).1 q

-- where a name must stand
pub nameless_fails : {N : Declarator → Type 0} {b : Bound} (i : List Token) → Carries N → (N nothing → ⊥) → (start i ≡ 2 → ⊥) → (start i ≡ 4 → ⊥) → (start i ≡ 5 → ⊥) → Fails (ADeclared N b) i i
nameless_fails {N} i c f u v w = fails_here (λ s m j a. none (start_alike m) a.reads a.suits)
  where
    none : {d : ℕ} {e : Declarator} {s j : List Token} → start i ≡ start s → Declares d e s j → N e → ⊥
    none q (a_pointer o g r) n = u (q ∙ started o)
    none q (a_direct p (a_declared x) l) n = w (q ∙ started_name x.name)
    none q (a_direct p (declarator_in_parentheses o r h g) l) n = v (q ∙ started o)
    none q (a_direct p no_core l) n = f (lengthens_carry c l n)

-- declarators in parentheses

no_parameters : {N : Declarator → Type 0} {d at : ℕ} {e : Declarator} {t : Token} {i j : List Token} → Carries N → Is LEFT_PARENTHESIS t → (start i ≤ 6) ⊎ (N nothing → ⊥) → Lengthens d at nothing e (t ∷ i) j → N e → EndsDeclarator j → ⊥
no_parameters c h (inl g) l n z = omega (arith, g, lengthens_inside l z h)
no_parameters c h (inr g) l n z = g (lengthens_carry c l n)

tail_reads : {N : Declarator → Type 0} (b : Bound) {d : ℕ} {e : Declarator} {t : Token} {i j : List Token} → Carries N → Is LEFT_PARENTHESIS t → (start i ≤ 6) ⊎ (N nothing → ⊥) → Declares d e (t ∷ i) j → N e → EndsDeclarator j → Fits b d (height_of_declarator e) → DeclaratorTail N b i j
tail_reads b c h u (a_pointer o q r) n z f = absurd (omega (arith, started h, started o))
tail_reads b c h u (a_direct p (a_declared x) l) n z f = absurd (omega (arith, started h, started_name x.name))
tail_reads b c h u (a_direct p (declarator_in_parentheses o r g q) l) n z f =
    then
    (record { depth = _; tree = _; reads = r; suits = lengthens_carry c l n; ends = parenthesis_ends_declarator q; fits = fits_enclosed b (fits_under b f (lengthens_rise l)) })
    (then (one q) (record { depth = _; at = _; core = _; tree = _; reads = l; ends = z; fits = f }))
tail_reads b c h u (a_direct p no_core l) n z f = absurd (no_parameters c h u l n z)

turned : (N : Declarator → Type 0) {i k : List Token} → Meets i k → (start i ≤ 6) ⊎ (N nothing → ⊥) → (start k ≤ 6) ⊎ (N nothing → ⊥)
turned N m (inl g) = inl (omega (arith, g, start_alike m))
turned N m (inr g) = inr g

-- what follows the parenthesis, where parameters cannot
pub declarator_tail_fails : {N : Declarator → Type 0} {b : Bound} {t : Token} {i r : List Token} → Carries N → Is LEFT_PARENTHESIS t → (start i ≤ 6) ⊎ (N nothing → ⊥) → Fails (DeclaratorTail N b) i r → Fails (ADeclared N b) (t ∷ i) r
declarator_tail_fails {N} {b} c h u f = fails_under_alike (λ k j m a. tail_reads b c h (turned N m u) a.reads a.suits a.ends a.fits) f

-- nothing stands in the parentheses
pub nothing_inside : {N : Declarator → Type 0} {b : Bound} {t : Token} {i : List Token} → Is LEFT_PARENTHESIS t → start i ≤ 1 → Fails (ADeclared N b) (t ∷ i) i
nothing_inside {t = t} {i = i} h l = record { front = t ∷ []; is = refl; none = λ s m j a. none h (omega (arith, l, start_alike m)) a.reads a.ends }
  where
    none : {d : ℕ} {e : Declarator} {t : Token} {s j : List Token} → Is LEFT_PARENTHESIS t → start s ≤ 1 → Declares d e (t ∷ s) j → EndsDeclarator j → ⊥
    none h l (a_pointer o q r) z = omega (arith, started h, started o)
    none h l (a_direct p (a_declared x) v) z = omega (arith, started h, started_name x.name)
    none h l (a_direct p (declarator_in_parentheses o r g q) v) z = subst IsThere (nothing_stands r l).0 g
    none h l (a_direct p no_core v) z = omega (arith, lengthens_inside v z h)

-- a parenthesis for which no pair is left

no_pair_reads : {N : Declarator → Type 0} {d : ℕ} {e : Declarator} {t : Token} {i j : List Token} → Carries N → Is LEFT_PARENTHESIS t → (start i ≤ 6) ⊎ (N nothing → ⊥) → d ≤ 0 → Declares d e (t ∷ i) j → N e → EndsDeclarator j → ⊥
no_pair_reads c h u q (a_pointer o w r) n z = omega (arith, started h, started o)
no_pair_reads c h u q (a_direct p (a_declared x) l) n z = omega (arith, started h, started_name x.name)
no_pair_reads c h u q (a_direct p (declarator_in_parentheses o r g w) l) n z = omega arith
no_pair_reads c h u q (a_direct p no_core l) n z = no_parameters c h u l n z

-- the token after the parenthesis begins a declarator
pub no_pair_for_declarator : {N : Declarator → Type 0} {n : ℕ} {t : Token} {i : List Token} → Carries N → Is LEFT_PARENTHESIS t → start i ≤ 6 → Fails (ADeclared N (within 0 n)) (t ∷ i) i
no_pair_for_declarator {N} {t = t} c h l = record { front = t ∷ []; is = refl; none = λ s m j a. no_pair_reads c h (turned N m (inl l)) (fits_low a.fits).0 a.reads a.suits a.ends }

-- a name must stand in it
pub no_pair_for_name : {N : Declarator → Type 0} {n : ℕ} {t : Token} {i : List Token} → Carries N → (N nothing → ⊥) → Is LEFT_PARENTHESIS t → Fails (ADeclared N (within 0 n)) (t ∷ i) (t ∷ i)
no_pair_for_name {N} {n} c f h = fails_here (λ s m j a. none h m a)
  where
    none : {t : Token} {i s j : List Token} → Is LEFT_PARENTHESIS t → Meets (t ∷ i) s → ADeclared N (within 0 n) s j → ⊥
    none h at_token a = no_pair_reads c h (inr f) (fits_low a.fits).0 a.reads a.suits a.ends

pub core_on : {d : ℕ} {a : Declarator} {i j : List Token} → ReadsCore d a i j → (k : List Token) → On (ReadsCore d a) i j k
core_on (a_declared {t = t} n) k = record { tokens = t ∷ k; twin = along here; reads = a_declared n }
core_on (declarator_in_parentheses {t = t} {u = u} o r h c) k = let x = declares_on r (u ∷ k) in record { tokens = t ∷ x.tokens; twin = along (after x.twin); reads = declarator_in_parentheses o x.reads h c }
core_on no_core k = record { tokens = k; twin = here; reads = no_core }

-- array sizes and parameters (6.7.5.2, 6.7.5.3)

pub place_alike : {i k : List Token} → Meets i k → place i ≡ place k
place_alike at_end = refl
place_alike at_token = refl

lengthened_on : {d : ℕ} {e : Declarator} {i j : List Token} → Lengthened d e i j → (k : List Token) → Meets j k → On (Lengthened d e) i j k
lengthened_on a k m =
    let x = lengthens_on a.lengthens k in
    let y = core_on a.core x.tokens in
    let w = glue x.twin y.twin in
    record {
      tokens = y.tokens;
      twin = w;
      reads = record { at = a.at; middle = a.middle; after = x.tokens; begins = a.begins ∙ place_alike (twin_alike w m); core = y.reads; stands = a.stands; lengthens = x.reads };
    }

only_there : {d : ℕ} {a : Declarator} {i j : List Token} → ReadsCore d a i j → IsThere a → OnlyCore a i j
only_there (a_declared n) h = only_declared n
only_there (declarator_in_parentheses o r g c) h = only_brackets o r g (only_declarator r (parenthesis_ends_declarator c))
only_there no_core h = absurd h

core_start : {d : ℕ} {a : Declarator} {i j : List Token} → ReadsCore d a i j → IsThere a → start i ≡ 2 → ⊥
core_start (a_declared n) h q = omega (arith, started_name n.name, q)
core_start (declarator_in_parentheses o r g c) h q = omega (arith, started o, q)
core_start no_core h q = absurd h

lengthened_passes : {d x : ℕ} {e f : Declarator} {i j k : List Token} → Lengthened d e i j → Declares x f i k → EndsDeclarator k → (at : ℕ) × Lengthens x at e f j k
lengthened_passes a (a_pointer o q r) z = absurd (core_start a.core a.stands (started o))
lengthened_passes a (a_direct p c l) z = let u = (only_there a.core a.stands).is _ _ _ _ _ _ c l z in (a.at, (lengthens_pass a.lengthens).is _ _ _ (moved_lengthens (a.begins ∙ sym p) u.0 u.1 l) z)

-- what follows fails
pub lengthened_fails : {N : Declarator → Type 0} {b : Bound} {d : ℕ} {e : Declarator} {i j r : List Token} → Lengthened d e i j → Fails (SomeLengthens b) j r → Fails (ADeclared N b) i r
lengthened_fails {N} {b} {d} {e} a f =
    fails_past {R = Lengthened d e} {C = SomeLengthens b} (λ k m. lengthened_on a k m)
    (λ h k l m v y. let w = lengthened_passes v y.reads y.ends in record { rest = l; reads = record { depth = y.depth; at = w.0; core = _; tree = y.tree; reads = w.1; ends = y.ends; fits = y.fits } })
    f

lengthens_raise : {d at : ℕ} {a e : Declarator} {i j : List Token} → 2 ≤ start i → Lengthens d at a e i j → EndsDeclarator j → suc (height_of_declarator a) ≤ height_of_declarator e
lengthens_raise q no_more z = absurd (omega (arith, q))
lengthens_raise q (an_array o s c l) z = omega (arith, lengthens_rise l)
lengthens_raise q (a_function o s c l) z = omega (arith, lengthens_rise l)

-- it is as high as nodes may be
pub lengthened_too_high : {N : Declarator → Type 0} {p n d : ℕ} {e : Declarator} {i j : List Token} → Lengthened d e i j → 2 ≤ start j → n ≤ height_of_declarator e → Fails (ADeclared N (within p n)) i j
lengthened_too_high {N} {p} {n} {d} {e} a q g =
    fails_beside {R = Lengthened d e} (λ k m. lengthened_on a k m)
    (λ h k l m v y. let w = lengthened_passes v y.reads y.ends in omega (arith, g, (fits_low y.fits).1, lengthens_raise (omega (arith, q, start_alike m)) w.1 y.ends))

-- where no name stands

no_core_alike : {i r s : List Token} (front : List Token) → i ≡ front ++ r → Meets r s → Past i r → NoCore i → NoCore (front ++ s)
no_core_alike front q m p n = record {
  no_star = λ h. n.no_star (ap start q ∙ start_alike (alike front m) ∙ h);
  no_name = λ h. n.no_name (ap start q ∙ start_alike (alike front m) ∙ h);
  no_opening = behind_alike (λ z. 7 ≤ z) front q m p n.no_opening;
}

-- what stands there is made of nothing
bare_reads : {d : ℕ} {e : Declarator} {i j : List Token} → NoCore i → Declares d e i j → (at : ℕ) × (at ≡ place i) × Lengthens d at nothing e i j
bare_reads n (a_pointer o q r) = absurd (n.no_star (started o))
bare_reads n (a_direct p (a_declared x) l) = absurd (n.no_name (started_name x.name))
bare_reads n (a_direct p (declarator_in_parentheses o r h c) l) = absurd (omega (arith, n.no_opening _ _ refl o, there_begins r h))
bare_reads n (a_direct p no_core l) = (_, p, l)

-- the first array size or parameters fail
pub bare_fails : {N : Declarator → Type 0} {b : Bound} {i r : List Token} → NoCore i → Past i r → Fails (SomeLengthens b) i r → Fails (ADeclared N b) i r
bare_fails n p f = record {
  front = f.front;
  is = f.is;
  none = λ s m j a.
      let w = bare_reads (no_core_alike f.front f.is m p n) a.reads in
      f.none s m j (record { depth = a.depth; at = w.0; core = nothing; tree = a.tree; reads = w.2; ends = a.ends; fits = a.fits });
}

record MovedBare (d : ℕ) (e : Declarator) (i j h k : List Token) : Type 0 where
  bare : Bare d e h k
  none : NoCore h

bare_on : {d : ℕ} {e : Declarator} {i j : List Token} → NoCore i → Past i j → Bare d e i j → (k : List Token) → Meets j k → On (MovedBare d e i j) i j k
bare_on n p a k m =
    let x = lengthens_on a.lengthens k in
    let f = fronted x.twin in
    record {
      tokens = x.tokens;
      twin = x.twin;
      reads = record {
        bare = record { at = a.at; begins = a.begins ∙ place_alike (twin_alike x.twin m); lengthens = x.reads };
        none = subst NoCore (sym f.2) (no_core_alike f.0 f.1 m p n);
      };
    }

bare_passes : {d x : ℕ} {e f : Declarator} {i j k : List Token} → NoCore i → Bare d e i j → Declares x f i k → EndsDeclarator k → (at : ℕ) × Lengthens x at e f j k
bare_passes n a r z = let w = bare_reads n r in (a.at, (lengthens_pass a.lengthens).is _ _ _ (moved_lengthens (a.begins ∙ sym w.1) refl refl w.2) z)

-- what follows fails
pub bare_later_fails : {N : Declarator → Type 0} {b : Bound} {d : ℕ} {e : Declarator} {i j r : List Token} → NoCore i → Past i j → Bare d e i j → Fails (SomeLengthens b) j r → Fails (ADeclared N b) i r
bare_later_fails {N} {b} {d} {e} {i} {j} n p a f =
    fails_past {R = MovedBare d e i j} {C = SomeLengthens b} (λ k m. bare_on n p a k m)
    (λ h k l m v y. let w = bare_passes v.none v.bare y.reads y.ends in record { rest = l; reads = record { depth = y.depth; at = w.0; core = _; tree = y.tree; reads = w.1; ends = y.ends; fits = y.fits } })
    f

-- it is as high as nodes may be
pub bare_too_high : {N : Declarator → Type 0} {p n d : ℕ} {e : Declarator} {i j : List Token} → NoCore i → Past i j → Bare d e i j → 2 ≤ start j → n ≤ height_of_declarator e → Fails (ADeclared N (within p n)) i j
bare_too_high {N} {p} {n} {d} {e} {i} {j} c y a q g =
    fails_beside {R = MovedBare d e i j} (λ k m. bare_on c y a k m)
    (λ h k l m v u. let w = bare_passes v.none v.bare u.reads u.ends in omega (arith, g, (fits_low u.fits).1, lengthens_raise (omega (arith, q, start_alike m)) w.1 u.ends))

-- neither a size nor parameters stand where nothing ends a declarator
pub lengthens_wrong : {b : Bound} (i : List Token) → 2 ≤ start i → NotAt (Is LEFT_BRACKET) i → NotAt (Is LEFT_PARENTHESIS) i → Fails (SomeLengthens b) i i
lengthens_wrong i l f g = fails_here (λ s m j a. none (omega (arith, l, start_alike m)) (not_at_alike m f) (not_at_alike m g) a.reads a.ends)
  where
    none : {d at : ℕ} {a e : Declarator} {s j : List Token} → 2 ≤ start s → NotAt (Is LEFT_BRACKET) s → NotAt (Is LEFT_PARENTHESIS) s → Lengthens d at a e s j → EndsDeclarator j → ⊥
    none l f g no_more z = omega (arith, l)
    none l f g (an_array o s c w) z = f _ _ refl o
    none l f g (a_function o s c w) z = g _ _ refl o

array_reads : (b : Bound) {d at : ℕ} {a e : Declarator} {t : Token} {i j : List Token} → Is LEFT_BRACKET t → Lengthens d at a e (t ∷ i) j → EndsDeclarator j → Fits b d (height_of_declarator e) → Begins (SizeClosed (inner b)) i
array_reads b h no_more z f = absurd (omega (arith, started h))
array_reads b h (an_array o s c l) z f = sized s c (fits_part b f (omega (arith, lengthens_rise l)))
  where
    sized : {c : Bound} {d : ℕ} {size : Maybe} {u : Token} {i j : List Token} → ReadsSize d size i (u ∷ j) → Is RIGHT_BRACKET u → Fits c d (height_of_maybe size) → Begins (SizeClosed c) i
    sized no_size c f = record { rest = _; reads = first (one c) }
    sized (a_size r) c f = record { rest = _; reads = second (then (record { depth = _; tree = _; reads = r; stops = omega (arith, ranked c); fits = f }) (one c)) }
array_reads b h (a_function o s c l) z f = absurd (omega (arith, apart h o))

-- what follows the bracket
pub array_fails : {b : Bound} {t : Token} {i r : List Token} → Is LEFT_BRACKET t → Fails (SizeClosed (inner b)) i r → Fails (SomeLengthens b) (t ∷ i) r
array_fails {b} h f = fails_under_begun (λ k j a. array_reads b h a.reads a.ends a.fits) f

-- where no bracket ends the size
pub size_fails : {b : Bound} {i r : List Token} → NotAt (Is RIGHT_BRACKET) i → Fails (Then (AnExpr b conditional_level) (Punctuator RIGHT_BRACKET)) i r → Fails (SizeClosed b) i r
size_fails n f = fails_not_or (missing _ n) f

function_reads : (b : Bound) {d at : ℕ} {a e : Declarator} {t : Token} {i j : List Token} → Is LEFT_PARENTHESIS t → Lengthens d at a e (t ∷ i) j → EndsDeclarator j → Fits b d (height_of_declarator e) → Begins (ParamsClosed (inner b)) i
function_reads b h no_more z f = absurd (omega (arith, started h))
function_reads b h (an_array o s c l) z f = absurd (omega (arith, apart h o))
function_reads b h (a_function o s c l) z f = record { rest = _; reads = params_closed s c (fits_part b f (omega (arith, lengthens_rise l))) }

-- what follows the parenthesis
pub function_fails : {b : Bound} {t : Token} {i r : List Token} → Is LEFT_PARENTHESIS t → Fails (ParamsClosed (inner b)) i r → Fails (SomeLengthens b) (t ∷ i) r
function_fails {b} h f = fails_under_begun (λ k j a. function_reads b h a.reads a.ends a.fits) f

a_param : {b : Bound} {d : ℕ} {s : Spec} {e : Declarator} {i j k : List Token} → ReadsSpec s i j → Declares d e j k → EndsDeclarator k → Fits b d (height_of_declarator e) → AParam b i k
a_param s e z f = then (record { tree = _; reads = s; ends = declares_ends_spec e z }) (record { depth = _; tree = _; reads = e; suits = tt; ends = z; fits = f })

each_reads : (b : Bound) {d : ℕ} {ps : Params} {u : Token} {i j : List Token} → ReadsEach d ps i (u ∷ j) → Is RIGHT_PARENTHESIS u → Fits b d (height_of_params ps) → Then (AParam b) (EachClosed b) i j
each_reads b (last_param p s e) c f = then (a_param s e (parenthesis_ends_declarator c) (fits_under b f (omega arith))) (closed_here c)
each_reads b (next_param p s e h r) c f = then (a_param s e (comma_ends_declarator h) (fits_under b f (omega arith))) (more_closed h r c (fits_under b f (omega arith)))

params_reads : (b : Bound) {i j : List Token} → ParamsClosed b i j → Then (AParam b) (EachClosed b) i j
params_reads b (params_closed (are_none s) c f) = then (a_param {e = nothing} s (a_direct refl no_core no_more) (parenthesis_ends_declarator c) f) (closed_here c)
params_reads b (params_closed (are_some r n) c f) = each_reads b r c f

each_goes : (b : Bound) {t : Token} {i j : List Token} → Is COMMA t → EachClosed b (t ∷ i) j → Then (AParam b) (EachClosed b) i j
each_goes b h (closed_here c) = absurd (omega (arith, apart h c))
each_goes b h (more_closed o r c f) = each_reads b r c f

pub param_fixes : (b c : Bound) → Fixes (AParam b) (AParam c)
param_fixes b c = then_fixes spec_fixes (declared_fixes AnyName b c)

-- the first parameter fails
pub first_param_fails : {b : Bound} {i r : List Token} → Fails (AParam b) i r → Fails (ParamsClosed b) i r
first_param_fails {b} f = fails_as (λ k j m a. params_reads b a) (fails_first f)

-- the first parameter stands
pub first_param_leads : {b c : Bound} {i j r : List Token} → AParam c i j → Fails (EachClosed b) j r → Fails (ParamsClosed b) i r
first_param_leads {b} {c} a f = fails_as (λ k j m a. params_reads b a) (fails_later (param_fixes c b) a f)

-- after a comma the next one fails
pub next_param_fails : {b : Bound} {t : Token} {i r : List Token} → Is COMMA t → Fails (AParam b) i r → Fails (EachClosed b) (t ∷ i) r
next_param_fails {b} h f = fails_under (λ k j a. each_goes b h a) (fails_first f)

-- after a comma the next one stands
pub next_param_leads : {b c : Bound} {t : Token} {i j r : List Token} → Is COMMA t → AParam c i j → Fails (EachClosed b) j r → Fails (EachClosed b) (t ∷ i) r
next_param_leads {b} {c} h a f = fails_under (λ k j a. each_goes b h a) (fails_later (param_fixes c b) a f)

-- neither a comma nor a parenthesis follows
pub params_unclosed : {b : Bound} (i : List Token) → NotAt (Is COMMA) i → NotAt (Is RIGHT_PARENTHESIS) i → Fails (EachClosed b) i i
params_unclosed {b} i f g = fails_here (λ s m j a. none (not_at_alike m f) (not_at_alike m g) a)
  where
    none : {s j : List Token} → NotAt (Is COMMA) s → NotAt (Is RIGHT_PARENTHESIS) s → EachClosed b s j → ⊥
    none f g (closed_here c) = g _ _ refl c
    none f g (more_closed h r c q) = f _ _ refl h

-- type names (6.7.6)

type_reads : (b : Bound) {d : ℕ} {n : TypeName} {i j : List Token} → ReadsType d n i j → EndsDeclarator j → Fits b d (height_of_type n) → Then ASpec (ADeclared HasNoName b) i j
type_reads b (a_type p s e h) z f = then (record { tree = _; reads = s; ends = declares_ends_spec e z }) (record { depth = _; tree = _; reads = e; suits = h; ends = z; fits = f })

-- specifiers fail, or stand and the declarator fails
pub type_fails : {b : Bound} {i r : List Token} → Fails (Then ASpec (ADeclared HasNoName b)) i r → Fails (AType b) i r
type_fails {b} f = fails_as (λ k j m a. type_reads b a.reads a.ends a.fits) f
