-- The temporaries of an expression whose marked calls call something of a type that declarators make.
use Rattle.std.proofs.Common.{◌≡◌, ◌≢◌, ◌⊎◌, inl, inr, ℕ, suc, ◌+◌, ◌≤◌, ◌<◌, length, length-append, arith, Bool, true, false, if◌then◌else◌, List, [], ◌∷◌, ◌++◌, Option, Some, None, append-nil, refl, ap, sym, subst, ◌∙◌, true≢false}
use Rattle.std.proofs.lemmas.Bool.{cond_both}
use Rattle.c_tree.specs.Tree.{CType, void, integer, pointer, CTypes, no_types, more_types}
use Rattle.c_syntax.specs.Tree.{Expr, comma, cast, call, member, postfix, prefix, unary, index, binary, assign, conditional, Exprs, no_exprs, more_exprs, pre_increment, pre_decrement}
use Rattle.c_rules.specs.Names.{Name}
use Rattle.c_rules.specs.Types.{is_scalar, is_result, count}
use Rattle.c_rules.specs.Counts.{calls, calls_of_all}
use Rattle.c_rules_laws.proofs.Holding.{each_both}
use Rattle.null_calls_laws.specs.TemporaryNames.{limit, HaveOtherNames}
use Rattle.null_calls_laws.proofs.NameLemmas.{names_differ}
use Rattle.null_calls_laws.specs.MarkedCalls.{Called, Sites}
use Rattle.null_calls_laws.specs.Temporaries.{Temporary, designator_kept, arguments_kept, result_kept, designator_name, argument_name, result_name, is_kept, temporaries_where}
use Rattle.null_calls_laws.specs.InstrumentedExpressions.{is_void_type, is_address_of_indirection, kept, kept_of_arguments, kept_of_members}
use Rattle.null_calls_laws.specs.WrittenTypes.{Written, AllWritten}
use Rattle.null_calls_laws.specs.Scopes.{AreWrittenTemporaries, IsOfSite, AreOfSites, DiffersFrom, AllDiffer, AreTemporaries}

-- ## What an expression keeps

-- What holds of no temporaries, of those of two parts and of those of a call holds of all that are kept. P is told the first site of a part,
-- and how many calls there are in it.
module _ (sites : Sites) (P : (lo n : ℕ) → List Temporary → Type 0) (none : (lo : ℕ) → P lo 0 []) (joined : (lo m n : ℕ) (xs ys : List Temporary) → P lo m xs → P (lo + m) n ys → P lo (m + n) (xs ++ ys)) (called : (site : ℕ) (wanted : Bool) → P site 1 (temporaries_where site wanted (sites site))) where
  -- the property of the operand of a unary
  abbrev Operand : (before : ℕ) → Expr → Type 0
  Operand b (unary at op e) = P b (calls e) (kept sites b false e)
  Operand b e = Unit {0}

  unary_has : (at op : ℕ) (e : Expr) (b : ℕ) (wanted : Bool) → P b (calls e) (kept sites b true e) → Operand b e → P b (calls e) (kept sites b wanted (unary at op e))
  unary_has at op e b true h k = h
  unary_has at op (unary p o e) b false h k = cond_both (is_address_of_indirection op o) (kept sites b false e) (kept sites b true e) (P b (calls e)) (λ _. k) (λ _. h)
  unary_has at op e b false h k = h

  mutual
    pub kept_has : (x : Expr) (b : ℕ) (wanted : Bool) → P b (calls x) (kept sites b wanted x)
    kept_has (comma at es) b wanted = members_have es b wanted
    kept_has (cast at t e) b wanted = cond_both (is_void_type t) (kept sites b false e) (kept sites b true e) (P b (calls e)) (λ _. kept_has e b false) (λ _. kept_has e b true)
    kept_has (call at d es) b wanted =
        let s : ℕ = b + calls d in
        let n : ℕ = calls_of_all es in
        let ys : List Temporary = kept_of_arguments sites (suc s) es in
        let one : s + 1 ≡ suc s = omega arith in
        let more : 1 + n ≡ suc n = omega arith in
        joined b (calls d) (suc n) (kept sites b true d) (temporaries_where s wanted (sites s) ++ ys) (kept_has d b true)
        (subst (λ k. P s k (temporaries_where s wanted (sites s) ++ ys)) more (joined s 1 n (temporaries_where s wanted (sites s)) ys (called s wanted) (subst (λ k. P k n ys) (sym one) (arguments_have es (suc s)))))
    kept_has (member at how e x) b wanted = kept_has e b true
    kept_has (postfix at op e) b wanted = kept_has e b true
    kept_has (prefix at pre_increment e) b wanted = kept_has e b true
    kept_has (prefix at pre_decrement e) b wanted = kept_has e b true
    kept_has (unary at op e) b wanted = unary_has at op e b wanted (kept_has e b true) (operand_has e b)
    kept_has (index at e f) b wanted = joined b (calls e) (calls f) (kept sites b true e) (kept sites (b + calls e) true f) (kept_has e b true) (kept_has f (b + calls e) true)
    kept_has (binary at op e f) b wanted = joined b (calls e) (calls f) (kept sites b true e) (kept sites (b + calls e) true f) (kept_has e b true) (kept_has f (b + calls e) true)
    kept_has (assign at op e f) b wanted = joined b (calls e) (calls f) (kept sites b true e) (kept sites (b + calls e) true f) (kept_has e b true) (kept_has f (b + calls e) true)
    kept_has (conditional at c e f) b wanted =
        joined b (calls c) (calls e + calls f) (kept sites b true c) (kept sites (b + calls c) true e ++ kept sites (b + calls c + calls e) true f) (kept_has c b true)
        (joined (b + calls c) (calls e) (calls f) (kept sites (b + calls c) true e) (kept sites (b + calls c + calls e) true f) (kept_has e (b + calls c) true) (kept_has f (b + calls c + calls e) true))
    kept_has x b wanted = none b

    operand_has : (x : Expr) (b : ℕ) → Operand b x
    operand_has (unary at op e) b = kept_has e b false
    operand_has x b = tt

    arguments_have : (es : Exprs) (b : ℕ) → P b (calls_of_all es) (kept_of_arguments sites b es)
    arguments_have no_exprs b = none b
    arguments_have (more_exprs e es) b = joined b (calls e) (calls_of_all es) (kept sites b true e) (kept_of_arguments sites (b + calls e) es) (kept_has e b true) (arguments_have es (b + calls e))

    members_have : (es : Exprs) (b : ℕ) (wanted : Bool) → P b (calls_of_all es) (kept_of_members sites b wanted es)
    members_have no_exprs b wanted = none b
    members_have (more_exprs e no_exprs) b wanted = (let z : calls e ≡ calls e + 0 = omega arith in subst (λ n. P b n (kept sites b wanted e)) z (kept_has e b wanted))
    members_have (more_exprs e (more_exprs f es)) b wanted = joined b (calls e) (calls_of_all (more_exprs f es)) (kept sites b false e) (kept_of_members sites (b + calls e) wanted (more_exprs f es)) (kept_has e b false) (members_have (more_exprs f es) (b + calls e) wanted)

-- ## Lists of temporaries

sites_later : (lo n low m : ℕ) → low ≤ lo → lo + n ≤ low + m → (xs : List Temporary) → AreOfSites lo n xs → AreOfSites low m xs
sites_later lo n low m h k [] s = tt
sites_later lo n low m h k (x ∷ xs) s =
    let y = s.0 in
    let a = y.least in
    let b = y.most in
    (record { site = y.site; argument = y.argument; least = omega (arith, a, h); most = omega (arith, b, k); low = y.low; few = y.few; named = y.named }, sites_later lo n low m h k xs s.1)

written_both : (enums tags stood : List Name) (xs ys : List Temporary) → AreWrittenTemporaries enums tags stood xs → AreWrittenTemporaries enums tags stood ys → AreWrittenTemporaries enums tags stood (xs ++ ys)
written_both enums tags stood [] ys h k = k
written_both enums tags stood (x ∷ xs) ys h k = (h.0, h.1, written_both enums tags stood xs ys h.2 k)

-- temporaries of two sites have different names
other_site : (s t i j : ℕ) (x y : Name) → s < t → s < limit → t < limit → i < limit → j < limit → (x ≡ designator_name s) ⊎ ((x ≡ argument_name s i) ⊎ (x ≡ result_name s)) → (y ≡ designator_name t) ⊎ ((y ≡ argument_name t j) ⊎ (y ≡ result_name t)) → x ≢ y
other_site s t i j x y less a b c d h k e =
    let n : HaveOtherNames s t i j = names_differ s t i j a b c d in
    let m : HaveOtherNames t s j i = names_differ t s j i b a d c in
    elim h as (λ _. ⊥) [
      | inl p ↦ elim k as (λ _. ⊥) [ inl q ↦ (let z : s ≡ t = n.designators (sym p ∙ (e ∙ q)) in omega (arith, z, less)) | inr q ↦ elim q as (λ _. ⊥) [ inl r ↦ n.designator_argument (sym p ∙ (e ∙ r)) | inr r ↦ n.designator_result (sym p ∙ (e ∙ r)) ] ]
      | inr p ↦ elim p as (λ _. ⊥) [
        | inl o ↦ elim k as (λ _. ⊥) [ inl q ↦ m.designator_argument (sym q ∙ (sym e ∙ o)) | inr q ↦ elim q as (λ _. ⊥) [ inl r ↦ (let z : s ≡ t = (n.arguments (sym o ∙ (e ∙ r))).0 in omega (arith, z, less)) | inr r ↦ n.argument_result (sym o ∙ (e ∙ r)) ] ]
        | inr o ↦ elim k as (λ _. ⊥) [ inl q ↦ m.designator_result (sym q ∙ (sym e ∙ o)) | inr q ↦ elim q as (λ _. ⊥) [ inl r ↦ m.argument_result (sym r ∙ (sym e ∙ o)) | inr r ↦ (let z : s ≡ t = n.results (sym o ∙ (e ∙ r)) in omega (arith, z, less)) ] ]
      ]
    ]

differs_later : (lo m n : ℕ) (x : Temporary) (ys : List Temporary) → IsOfSite lo m x → AreOfSites (lo + m) n ys → DiffersFrom x ys
differs_later lo m n x [] h k = tt
differs_later lo m n x (y ∷ ys) h k =
    let z = k.0 in
    let a = h.most in
    let b = z.least in
    (other_site h.site z.site h.argument z.argument x.name y.name (omega (arith, a, b)) h.low z.low h.few z.few h.named z.named, differs_later lo m n x ys h k.1)

differs_both : (x : Temporary) (xs ys : List Temporary) → DiffersFrom x xs → DiffersFrom x ys → DiffersFrom x (xs ++ ys)
differs_both x = each_both (λ (y : Temporary). x.name ≢ y.name)

all_differ : (lo m n : ℕ) (xs ys : List Temporary) → AreOfSites lo m xs → AreOfSites (lo + m) n ys → AllDiffer xs → AllDiffer ys → AllDiffer (xs ++ ys)
all_differ lo m n [] ys h k a b = b
all_differ lo m n (x ∷ xs) ys h k a b = (differs_both x xs ys a.0 (differs_later lo m n x ys h.0 k), all_differ lo m n xs ys h.1 k a.1 b)

module _ (enums tags stood : List Name) where
  abbrev W : CType → Type 0
  W = Written enums tags stood

  abbrev Good : (lo n : ℕ) → List Temporary → Type 0
  Good = AreTemporaries enums tags stood

  pub none_kept : {lo : ℕ} → Good lo 0 []
  none_kept = record { written = tt; sites = tt; differ = tt; few = omega arith; within = λ h. omega (arith, h) }

  pub good_both : {lo m n : ℕ} (xs ys : List Temporary) → Good lo m xs → Good (lo + m) n ys → Good lo (m + n) (xs ++ ys)
  good_both {lo} {m} {n} xs ys h k = record {
    written = written_both enums tags stood xs ys h.written k.written;
    sites = each_both (IsOfSite lo (m + n)) xs ys (sites_later lo m lo (m + n) (omega arith) (omega arith) xs h.sites) (sites_later (lo + m) n lo (m + n) (omega arith) (omega arith) ys k.sites);
    differ = all_differ lo m n xs ys h.sites k.sites h.differ k.differ;
    few = (let l : length (xs ++ ys) ≡ length xs + length ys = length-append xs ys in let a = h.few in let b = k.few in omega (arith, l, a, b));
    within = λ z. (let a = h.within z in let b = k.within a in omega (arith, b));
  }

  abbrev pub PointerGood : Option CType → Type 0
  PointerGood None = Unit {0}
  PointerGood (Some t) = (is_scalar t ≡ true) × W t

  -- what is called at a site
  abbrev pub CalledGood : ℕ → Option Called → Type 0
  CalledGood site None = site < 10000
  CalledGood site (Some c) = PointerGood c.pointer_type × AllWritten enums tags stood c.parameters × W c.returns × (is_result c.returns ≡ true) × (count c.parameters ≤ 16) × (site < 10000)

  result_scalar : (wanted : Bool) (t : CType) → is_result t ≡ true → is_kept wanted t ≡ true → is_scalar t ≡ true
  result_scalar wanted void h k = absurd (true≢false (sym k))
  result_scalar wanted (integer i) h k = refl
  result_scalar wanted (pointer t) h k = refl
  result_scalar wanted t h k = absurd (true≢false (sym h))

  -- a temporary of a call alone
  at_site : (site i : ℕ) (x : Temporary) → site < limit → i < limit → (x.name ≡ designator_name site) ⊎ ((x.name ≡ argument_name site i) ⊎ (x.name ≡ result_name site)) → IsOfSite site 1 x
  at_site site i x l m h = record { site = site; argument = i; least = omega arith; most = omega arith; low = l; few = m; named = h }

  arguments_at : (site i : ℕ) (ts : CTypes) → site < limit → i + count ts ≤ limit → AreOfSites site 1 (arguments_kept site i ts)
  arguments_at site i no_types l m = tt
  arguments_at site i (more_types t ts) l m = (at_site site i (record { name = argument_name site i; ctype = t }) l (omega (arith, m)) (inr (inl refl)), arguments_at site (suc i) ts l (omega (arith, m)))

  argument_differs : (site i j : ℕ) (t : CType) (ts : CTypes) → site < limit → i < j → j + count ts ≤ limit → DiffersFrom (record { name = argument_name site i; ctype = t }) (arguments_kept site j ts)
  argument_differs site i j t no_types l m n = tt
  argument_differs site i j t (more_types u ts) l m n =
      ((λ e. (let z : i ≡ j = ((names_differ site site i j l l (omega (arith, m, n)) (omega (arith, n))).arguments e).1 in omega (arith, z, m))), argument_differs site i (suc j) t ts l (omega (arith, m)) (omega (arith, n)))

  arguments_differ : (site i : ℕ) (ts : CTypes) → site < limit → i + count ts ≤ limit → AllDiffer (arguments_kept site i ts)
  arguments_differ site i no_types l m = tt
  arguments_differ site i (more_types t ts) l m = (argument_differs site i (suc i) t ts l (omega arith) (omega (arith, m)), arguments_differ site (suc i) ts l (omega (arith, m)))

  arguments_written : (site i : ℕ) (ts : CTypes) → AllWritten enums tags stood ts → AreWrittenTemporaries enums tags stood (arguments_kept site i ts)
  arguments_written site i no_types h = tt
  arguments_written site i (more_types t ts) h = (h.0, h.2, arguments_written site (suc i) ts h.3)

  arguments_long : (site i : ℕ) (ts : CTypes) → length (arguments_kept site i ts) ≡ count ts
  arguments_long site i no_types = refl
  arguments_long site i (more_types t ts) = ap suc (arguments_long site (suc i) ts)

  -- the designator differs from the arguments and the result, and an argument from the result
  pointer_differs : (site i : ℕ) (u : CType) (ts : CTypes) → site < limit → i + count ts ≤ limit → DiffersFrom (record { name = designator_name site; ctype = u }) (arguments_kept site i ts)
  pointer_differs site i u no_types l m = tt
  pointer_differs site i u (more_types t ts) l m = ((names_differ site site 0 i l l (omega (arith, l)) (omega (arith, m))).designator_argument, pointer_differs site (suc i) u ts l (omega (arith, m)))

  with_result : (site i : ℕ) (u : CType) (ts : CTypes) → site < limit → i + count ts ≤ limit → AllDiffer (arguments_kept site i ts) → AllDiffer (arguments_kept site i ts ++ record { name = result_name site; ctype = u } ∷ [])
  with_result site i u no_types l m h = (tt, tt)
  with_result site i u (more_types t ts) l m h =
      (differs_both (record { name = argument_name site i; ctype = t }) (arguments_kept site (suc i) ts) (record { name = result_name site; ctype = u } ∷ []) h.0 ((names_differ site site i 0 l l (omega (arith, m)) (omega (arith, l))).argument_result, tt), with_result site (suc i) u ts l (omega (arith, m)) h.1)

  -- the arguments and the result
  values_good : (site : ℕ) (wanted : Bool) (ts : CTypes) (t : CType) (b : Bool) → is_kept wanted t ≡ b → site < limit → count ts ≤ 16 → AllWritten enums tags stood ts → W t → is_result t ≡ true → (zs : List Temporary) → zs ≡ (if b then record { name = result_name site; ctype = t } ∷ [] else [])
      → AreWrittenTemporaries enums tags stood (arguments_kept site 0 ts ++ zs) × AreOfSites site 1 (arguments_kept site 0 ts ++ zs) × AllDiffer (arguments_kept site 0 ts ++ zs) × (length (arguments_kept site 0 ts ++ zs) ≤ 17) × ((u : CType) → DiffersFrom (record { name = designator_name site; ctype = u }) (arguments_kept site 0 ts ++ zs))
  values_good site wanted ts t true e l m h w r zs q =
      let x : Temporary = record { name = result_name site; ctype = t } in
      let few : 0 + count ts ≤ limit = omega (arith, m) in
      let long : length (arguments_kept site 0 ts ++ (x ∷ [])) ≡ length (arguments_kept site 0 ts) + 1 = length-append (arguments_kept site 0 ts) (x ∷ []) in
      let n : length (arguments_kept site 0 ts) ≡ count ts = arguments_long site 0 ts in
      subst (λ zs. AreWrittenTemporaries enums tags stood (arguments_kept site 0 ts ++ zs) × AreOfSites site 1 (arguments_kept site 0 ts ++ zs) × AllDiffer (arguments_kept site 0 ts ++ zs) × (length (arguments_kept site 0 ts ++ zs) ≤ 17) × ((u : CType) → DiffersFrom (record { name = designator_name site; ctype = u }) (arguments_kept site 0 ts ++ zs))) (sym q) (
        written_both enums tags stood (arguments_kept site 0 ts) (x ∷ []) (arguments_written site 0 ts h) (result_scalar wanted t r e, w, tt),
        each_both (IsOfSite site 1) (arguments_kept site 0 ts) (x ∷ []) (arguments_at site 0 ts l few) (at_site site 0 x l (omega (arith, l)) (inr (inr refl)), tt),
        with_result site 0 t ts l few (arguments_differ site 0 ts l few),
        omega (arith, long, n, m),
        λ u. differs_both (record { name = designator_name site; ctype = u }) (arguments_kept site 0 ts) (x ∷ []) (pointer_differs site 0 u ts l few) ((names_differ site site 0 0 l l (omega (arith, l)) (omega (arith, l))).designator_result, tt),
      )
  values_good site wanted ts t false e l m h w r zs q =
      let few : 0 + count ts ≤ limit = omega (arith, m) in
      let n : length (arguments_kept site 0 ts) ≡ count ts = arguments_long site 0 ts in
      subst (λ zs. AreWrittenTemporaries enums tags stood (arguments_kept site 0 ts ++ zs) × AreOfSites site 1 (arguments_kept site 0 ts ++ zs) × AllDiffer (arguments_kept site 0 ts ++ zs) × (length (arguments_kept site 0 ts ++ zs) ≤ 17) × ((u : CType) → DiffersFrom (record { name = designator_name site; ctype = u }) (arguments_kept site 0 ts ++ zs))) (sym q)
      (subst (λ ys. AreWrittenTemporaries enums tags stood ys × AreOfSites site 1 ys × AllDiffer ys × (length ys ≤ 17) × ((u : CType) → DiffersFrom (record { name = designator_name site; ctype = u }) ys)) (sym (append-nil (arguments_kept site 0 ts)))
      (arguments_written site 0 ts h, arguments_at site 0 ts l few, arguments_differ site 0 ts l few, omega (arith, n, m), λ u. pointer_differs site 0 u ts l few))

  called_by : (site : ℕ) (wanted : Bool) (o : Option CType) (ts : CTypes) (t : CType) → CalledGood site (Some (record { pointer_type = o; returns = t; parameters = ts })) → Good site 1 (designator_kept site o ++ (arguments_kept site 0 ts ++ result_kept site wanted t))
  called_by site wanted None ts t h = (let v = values_good site wanted ts t (is_kept wanted t) refl (let k = h.5 in omega (arith, k)) h.4 h.1 h.2 h.3 (result_kept site wanted t) refl in let n = v.3 in record { written = v.0; sites = v.1; differ = v.2; few = omega (arith, n); within = λ _. (let k = h.5 in omega (arith, k)) })
  called_by site wanted (Some u) ts t h =
      let k = h.5 in
      let l : site < limit = omega (arith, k) in
      let v = values_good site wanted ts t (is_kept wanted t) refl l h.4 h.1 h.2 h.3 (result_kept site wanted t) refl in
      let n = v.3 in
      record { written = (h.0.0, h.0.1, v.0); sites = (at_site site 0 (record { name = designator_name site; ctype = u }) l (omega (arith, l)) (inl refl), v.1); differ = (v.4 u, v.2); few = omega (arith, n); within = λ _. (let k = h.5 in omega (arith, k)) }

  called_good : (site : ℕ) (wanted : Bool) (o : Option Called) → CalledGood site o → Good site 1 (temporaries_where site wanted o)
  called_good site wanted None h = record { written = tt; sites = tt; differ = tt; few = omega arith; within = λ _. omega (arith, h) }
  called_good site wanted (Some c) h = called_by site wanted c.pointer_type c.parameters c.returns h

  -- what is called at each of n sites
  abbrev pub CallsGood : Sites → (lo n : ℕ) → Type 0
  CallsGood sites lo n = (site : ℕ) → lo ≤ site → site < lo + n → CalledGood site (sites site)

  pub kept_good : (sites : Sites) (x : Expr) (b : ℕ) (wanted : Bool) → CallsGood sites b (calls x) → Good b (calls x) (kept sites b wanted x)
  kept_good sites x b wanted h =
      kept_has sites (λ lo n xs. CallsGood sites lo n → Good lo n xs) (λ lo _. none_kept)
      (λ lo m n xs ys f g h. good_both xs ys (f (λ s l k. h s l (omega (arith, k)))) (g (λ s l k. h s (omega (arith, l)) (omega (arith, k)))))
      (λ s wanted h. called_good s wanted (sites s) (h s (omega arith) (omega arith))) x b wanted h
