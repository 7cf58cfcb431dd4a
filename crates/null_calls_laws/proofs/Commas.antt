-- A comma expression goes where its members do.
use Rattle.std.proofs.Common.{◌≡◌, ℕ, ◌+◌, Bool, true, false, if◌then◌else◌, List, [], ◌∷◌, ◌++◌, length, refl, ap, ap₂, sym, subst, ◌∙◌}
use Rattle.c_tree.specs.Tree.{CType, void, pointer, array, struct, function, type_of, Program}
use Rattle.c_tree.specs.Tree as typed
use Rattle.c_tree.specs.Operands.{IsResult}
use Rattle.c_syntax.specs.Tree.{Expr, comma, Exprs, no_exprs, more_exprs}
use Rattle.c_rules.specs.Checked.{Checked, fine, faulty, both, gives}
use Rattle.c_rules.specs.Scopes.{Env, Before}
use Rattle.c_rules.specs.Counts.{place_of, calls, after}
use Rattle.c_rules.specs.TypedExpression.{Form, a_value, not_constant, TypedExpression, typed_value, tree_of}
use Rattle.c_rules.specs.Conversions.{few_parts, loaded, valued_as}
use Rattle.c_rules.specs.Assignments.{trees_of, last_type, comma_of}
use Rattle.c_rules.specs.Expressions.{value_at, tree, trees, value}
use Rattle.c_meaning.specs.Mentions.{Direct, Through}
use Rattle.c_meaning.specs.CallGraph.{is_marked}
use Rattle.null_calls_laws.specs.MarkedCalls.{Sites}
use Rattle.null_calls_laws.specs.Temporaries.{Temporary}
use Rattle.null_calls_laws.specs.InstrumentedExpressions.{expr, members, kept, kept_of_members}
use Rattle.null_calls_laws.specs.InstrumentedPrograms as with_null_calls
use Rattle.null_calls_laws.specs.WithoutSites.{unsited, unsited_all}
use Rattle.c_rules_laws.specs.TypedAlike.{More, plain_scope, instrumented_scope}
use Rattle.null_calls_laws.specs.Remade.{remade, Follows}
use Rattle.null_calls_laws.proofs.Operands.{operand}
use Rattle.null_calls_laws.specs.Counts.{AreNamed, AllNamed, Near}
use Rattle.null_calls_laws.proofs.ExpressionCounts.{places_near}
use Rattle.null_calls_laws.specs.Tabled.{AreTabled, AllTabled, AreFound}
use Rattle.null_calls_laws.specs.Follow.{types_of, UnusedFollows, Goes, AllGo}
use Rattle.null_calls_laws.proofs.Leaves.{Holds, demand_holds}
use Rattle.null_calls_laws.proofs.BehindArguments.{cons, result_value}
use Rattle.null_calls_laws.proofs.TreeTypes.{ValueTyped, value_typed}
use Rattle.null_calls_laws.proofs.Forms.{types_both, found_first, found_rest, value_goes}
use Rattle.null_calls_laws.proofs.Unsited.{type_same}

-- ## Types of values

-- the type of a value
abbrev HasPlainType : TypedExpression → Type 0
HasPlainType g = IsResult g.ctype

loaded_type : (g : TypedExpression) (f : Form) → IsResult g.ctype → HasPlainType (loaded g f)
loaded_type g (a_value e) h = h
loaded_type g f h = h

valued_plain : (env : Env) (at : ℕ) (g : TypedExpression) (t : CType) → g.ctype ≡ t → Holds HasPlainType (valued_as env at g t)
valued_plain env at g (array t n) q = tt
valued_plain env at g (struct s) q = tt
valued_plain env at g (function t ts) q = demand_holds HasPlainType (few_parts (pointer g.ctype)) 13 at (typed_value (pointer g.ctype) (typed.decay (pointer g.ctype) (tree_of g)) g.constant) tt
valued_plain env at g t q = loaded_type g g.form (subst IsResult (sym q) tt)

value_plain : (env : Env) (at : ℕ) (r : Checked TypedExpression) → Holds HasPlainType (value_at env at r)
value_plain env at (fine g) = valued_plain env at g g.ctype refl
value_plain env at (faulty f fs) = tt

-- ## Types of trees

module _ (p : Program) where
  by_mark : (b : Bool) (x y z v : typed.Expr) → type_of x ≡ type_of z → type_of y ≡ type_of v → type_of (if b then x else y) ≡ type_of (if b then z else v)
  by_mark true x y z v h l = h
  by_mark false x y z v h l = l

  -- it doesn't depend on the numbers of temporaries
  type_anywhere : (e : typed.Expr) (k : ℕ) (wanted : Bool) → type_of (with_null_calls.expr p k wanted e) ≡ type_of (with_null_calls.expr p 0 wanted e)
  type_anywhere (typed.call t s f es) k wanted = by_mark (is_marked p (Direct f)) _ _ _ _ refl refl
  type_anywhere (typed.call_through t s a es) k wanted = by_mark (is_marked p (Through (type_of a))) _ _ _ _ refl refl
  type_anywhere e k wanted = refl

  -- ## Members

  -- a member, whose value is wanted or not
  record PartGoes (wanted : Bool) (k : ℕ) (ts : List CType) (g h : TypedExpression) : Type 0 where
    pub types : with_null_calls.kept p wanted (tree_of g) ≡ ts
    pub tree : unsited (tree_of h) ≡ with_null_calls.expr p k wanted (tree_of g)
    pub ctype : wanted ≡ true → h.ctype ≡ g.ctype

  abbrev PartFollows : Bool → ℕ → List CType → Checked TypedExpression → Checked TypedExpression → Type 0
  PartFollows wanted k ts (fine g) s = (h : TypedExpression) × (s ≡ fine h) × PartGoes wanted k ts g h
  PartFollows wanted k ts (faulty f fs) s = Unit {0}

  part_wanted : (k : ℕ) (ts : List CType) (r s : Checked TypedExpression) → Follows p k ts r s → PartFollows true k ts r s
  part_wanted k ts (fine g) s h = (let o = operand p k ts g h.0 h.2 in (remade g h.0, h.1, record { types = o.types; tree = o.tree; ctype = λ _. refl }))
  part_wanted k ts (faulty f fs) s h = tt

  part_unused : (k : ℕ) (ts : List CType) (r s : Checked TypedExpression) → UnusedFollows p k ts r s → PartFollows false k ts r s
  part_unused k ts (fine g) s h = (h.0, h.1, record { types = h.2; tree = h.3; ctype = λ e. absurd (let q : false ≡ true = e in cc) })
  part_unused k ts (faulty f fs) s h = tt

  -- members, of which there is one at least
  record MembersGo (wanted : Bool) (k : ℕ) (ts : List CType) (g : TypedExpression) (gs hs : List TypedExpression) : Type 0 where
    pub types : with_null_calls.kept_of_members p wanted (trees_of (g ∷ gs)) ≡ ts
    pub trees : unsited_all (trees_of hs) ≡ with_null_calls.members p k wanted (trees_of (g ∷ gs))
    pub last : (t u : CType) → with_null_calls.type_of_members p wanted t (trees_of (g ∷ gs)) ≡ last_type u hs
    pub same : wanted ≡ true → (t u : CType) → last_type t hs ≡ last_type u (g ∷ gs)
    pub plain : (t : CType) → IsResult (last_type t (g ∷ gs))
    pub plain_too : (t : CType) → IsResult (last_type t hs)

  abbrev ListFollows : Bool → ℕ → List CType → Checked (List TypedExpression) → Checked (List TypedExpression) → Type 0
  ListFollows wanted k ts (fine gs) s = (g : TypedExpression) × (rest : List TypedExpression) × (hs : List TypedExpression) × (gs ≡ g ∷ rest) × (s ≡ fine hs) × MembersGo wanted k ts g rest hs
  ListFollows wanted k ts (faulty f fs) s = Unit {0}

  last_goes : (wanted : Bool) (k : ℕ) (ts : List CType) (r s : Checked TypedExpression) → PartFollows wanted k ts r s → Holds ValueTyped s → Holds HasPlainType r → Holds HasPlainType s → ListFollows wanted k ts (both r (fine []) cons) (both s (fine []) cons)
  last_goes wanted k ts (fine g) s h n l m =
      let h0 : TypedExpression = h.0 in
      let v : ValueTyped h0 = subst (Holds ValueTyped) h.1 n in
      let w : HasPlainType h0 = subst (Holds HasPlainType) h.1 m in
      let t : type_of (with_null_calls.expr p 0 wanted (tree_of g)) ≡ h0.ctype = sym (type_anywhere (tree_of g) k wanted) ∙ (sym (ap type_of h.2.tree) ∙ (type_same (tree_of h0) ∙ v)) in (
        g,
        [],
        h0 ∷ [],
        refl,
        ap (λ z. both z (fine []) cons) h.1,
        record {
          types = h.2.types;
          trees = ap (λ e. typed.more_exprs e typed.no_exprs) h.2.tree;
          last = λ _ _. t;
          same = λ q _ _. h.2.ctype q;
          plain = λ _. l;
          plain_too = λ _. w;
        },
      )
  last_goes wanted k ts (faulty f fs) s h n l m = tt

  join : (wanted : Bool) (k : ℕ) (ts us : List CType) (r s : Checked TypedExpression) (q v : Checked (List TypedExpression)) → PartFollows false k ts r s → ListFollows wanted (k + length ts) us q v → ListFollows wanted k (ts ++ us) (both r q cons) (both s v cons)
  join wanted k ts us (fine g) s (fine gs) v h l =
      let h0 : TypedExpression = h.0 in
      let m = l.5 in (
        g,
        l.0 ∷ l.1,
        h0 ∷ l.2,
        ap (λ z. g ∷ z) l.3,
        ap (λ z. both z v cons) h.1 ∙ ap (λ z. both (fine h0) z cons) l.4,
        record {
          types = ap₂ (λ xs ys. xs ++ ys) h.2.types m.types;
          trees = ap₂ (λ e es. typed.more_exprs e es) h.2.tree (m.trees ∙ ap (λ vs. with_null_calls.members p (k + length vs) wanted (trees_of (l.0 ∷ l.1))) (sym h.2.types));
          last = λ t u. m.last t h0.ctype;
          same = λ e t u. m.same e h0.ctype g.ctype;
          plain = λ t. m.plain g.ctype;
          plain_too = λ t. m.plain_too h0.ctype;
        },
      )
  join wanted k ts us r s q v h l = tt

module _ (p : Program) (sites : Sites) (env : Env) (w : More) where
  abbrev Left : Env
  Left = plain_scope env

  abbrev Right : Env
  Right = instrumented_scope env w

  -- one member
  part_goes : (wanted : Bool) (e : Expr) → Goes p sites env w e → (b b' : Before) (k : ℕ) → AreNamed sites b.sites e → AreTabled p sites Left b e → AreFound w.names k (kept sites b.sites wanted e) → Near b b' → PartFollows p wanted k (types_of (kept sites b.sites wanted e)) (value Left b e) (value Right b' (expr sites b.sites wanted e))
  part_goes true e h b b' k n t f r = part_wanted p k (types_of (kept sites b.sites true e)) (value Left b e) (value Right b' (expr sites b.sites true e)) (value_goes p sites env w e h.wanted b b' k n t f r)
  part_goes false e h b b' k n t f r = part_unused p k (types_of (kept sites b.sites false e)) (value Left b e) (value Right b' (expr sites b.sites false e)) (h.unused b b' k n t f r)

  members_go : (es : Exprs) (wanted : Bool) (e : Expr) → Goes p sites env w e → AllGo p sites env w es → (b b' : Before) (k : ℕ) → AllNamed sites b.sites (more_exprs e es) → AllTabled p sites Left b (more_exprs e es) → AreFound w.names k (kept_of_members sites b.sites wanted (more_exprs e es)) → Near b b'
      → ListFollows p wanted k (types_of (kept_of_members sites b.sites wanted (more_exprs e es))) (trees Left b (more_exprs e es)) (trees Right b' (members sites b.sites wanted (more_exprs e es)))
  members_go no_exprs wanted e h l b b' k n t f r =
      last_goes p wanted k (types_of (kept sites b.sites wanted e)) (value Left b e) (value Right b' (expr sites b.sites wanted e)) (part_goes wanted e h b b' k n.0 t.0 f r) (value_typed (expr sites b.sites wanted e) Right b') (value_plain Left (place_of e) (tree Left b e)) (value_plain Right (place_of (expr sites b.sites wanted e)) (tree Right b' (expr sites b.sites wanted e)))
  members_go (more_exprs g es) wanted e h l b b' k n t f r =
      let xs : List Temporary = kept sites b.sites false e in
      let ys : List Temporary = kept_of_members sites (b.sites + calls e) wanted (more_exprs g es) in
      let e1 : Expr = expr sites b.sites false e in
      let b1 : Before = after b' e1 in
      let rest : Exprs = members sites (b.sites + calls e) wanted (more_exprs g es) in
      subst (λ ts. ListFollows p wanted k ts (trees Left b (more_exprs e (more_exprs g es))) (trees Right b' (more_exprs e1 rest))) (sym (types_both xs ys))
      (join p wanted k (types_of xs) (types_of ys) (value Left b e) (value Right b' e1) (trees Left (after b e) (more_exprs g es)) (trees Right b1 rest)
      (part_goes false e h b b' k n.0 t.0 (found_first w.names k xs ys f) r)
      (members_go es wanted g l.0 l.1 (after b e) b1 (k + length (types_of xs)) n.1 t.1 (found_rest w.names k xs ys f) (places_near sites b b' false e n.0 r)))

  -- ## The comma expression

  comma_wanted : (k : ℕ) (ts : List CType) (r s : Checked (List TypedExpression)) → ListFollows p true k ts r s → Follows p k ts (gives r comma_of) (gives s comma_of)
  comma_wanted k ts (fine gs) s h =
      let hs : List TypedExpression = h.2 in
      let m = h.5 in
      let x : typed.Expr = typed.comma (last_type void hs) (trees_of hs) in
      subst (λ z. Follows p k ts (fine (comma_of z)) (gives s comma_of)) (sym h.3) (
        x,
        ap (λ z. gives z comma_of) h.4 ∙ ap (λ t. fine (typed_value t x not_constant)) (m.same refl void void),
        record {
          types = m.types;
          tree = ap₂ (λ t es. typed.comma t es) (sym (m.last (last_type void (h.0 ∷ h.1)) void)) m.trees;
          none = λ c. absurd c;
        },
      )
  comma_wanted k ts (faulty f fs) s h = tt

  comma_unused : (at k : ℕ) (ts : List CType) (r s : Checked (List TypedExpression)) → ListFollows p false k ts r s → UnusedFollows p k ts (value_at Left at (gives r comma_of)) (value_at Right at (gives s comma_of))
  comma_unused at k ts (fine gs) s h =
      let hs : List TypedExpression = h.2 in
      let m = h.5 in
      let g0 : TypedExpression = comma_of (h.0 ∷ h.1) in
      let left : value_at Left at (fine g0) ≡ fine g0 = result_value Left at (last_type void (h.0 ∷ h.1)) (typed.comma (last_type void (h.0 ∷ h.1)) (trees_of (h.0 ∷ h.1))) (m.plain void) in
      let right : value_at Right at (fine (comma_of hs)) ≡ fine (comma_of hs) = result_value Right at (last_type void hs) (typed.comma (last_type void hs) (trees_of hs)) (m.plain_too void) in
      subst (λ z. UnusedFollows p k ts (value_at Left at (fine (comma_of z))) (value_at Right at (gives s comma_of))) (sym h.3)
      (subst (λ z. UnusedFollows p k ts z (value_at Right at (gives s comma_of))) (sym left)
      (comma_of hs, ap (λ z. value_at Right at (gives z comma_of)) h.4 ∙ right, m.types, ap₂ (λ t es. typed.comma t es) (sym (m.last (last_type void (h.0 ∷ h.1)) void)) m.trees))
  comma_unused at k ts (faulty f fs) s h = tt

  pub comma_goes : (at : ℕ) (es : Exprs) → AllGo p sites env w es → Goes p sites env w (comma at es)
  comma_goes at no_exprs l = record {
    wanted = λ b b' k n t f r. (typed.comma void typed.no_exprs, refl, record { types = refl; tree = refl; none = λ c. absurd c });
    unused = λ b b' k n t f r. (comma_of [], refl, refl, refl);
  }
  comma_goes at (more_exprs e es) l = record {
    wanted = λ b b' k n t f r. comma_wanted k (types_of (kept_of_members sites b.sites true (more_exprs e es))) (trees Left b (more_exprs e es)) (trees Right b' (members sites b.sites true (more_exprs e es))) (members_go es true e l.0 l.1 b b' k n t f r);
    unused = λ b b' k n t f r. comma_unused at k (types_of (kept_of_members sites b.sites false (more_exprs e es))) (trees Left b (more_exprs e es)) (trees Right b' (members sites b.sites false (more_exprs e es))) (members_go es false e l.0 l.1 b b' k n t f r);
  }
