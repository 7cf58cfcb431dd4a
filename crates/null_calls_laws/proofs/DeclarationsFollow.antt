-- Declarations in blocks follow.
use Rattle.std.proofs.Common.{◌≡◌, ℕ, zero, ◌+◌, ◌*◌, ◌≤◌, false, List, [], ◌++◌, append-nil, length, Option, Some, None, refl, ap, ap₂, sym, subst, ◌∙◌, arith, nat_le}
use Rattle.c_tree.specs.Tree.{CType, Program}
use Rattle.c_tree.specs.Tree as typed
use Rattle.c_syntax.specs.Tree.{Ident, Spec, Declarator, one, list, MaybeInit, no_init, an_init, Parts, no_parts, more_parts, Decl, decl, first_absent, first_expr, first_decl, no_block_items, block_decl}
use Rattle.c_rules.specs.Checked.{Checked, fine, fault, on, Met, gives, demand}
use Rattle.c_rules.specs.Names.{Name, is_reserved}
use Rattle.c_rules.specs.Scopes.{Env, Binding, Meaning, a_local, with_name, meaning_or_unknown, Before}
use Rattle.c_rules.specs.Declarators.{name_of, place_or, new_name}
use Rattle.c_rules.specs.Expressions.{type_declared}
use Rattle.c_rules.specs.Initialisers.{held_by, calls_of_maybe_init, initialised_local, text_fits}
use Rattle.c_rules.specs.Objects.{Object, sized_by_one, with_size, of_known_size, object_declared}
use Rattle.c_rules.specs.Variables.{name_or_empty, Next, number_in, calls_of_decl, names_of_decl, past_names}
use Rattle.c_rules.specs.Blocks.{within_local, behind_named, behind_part, past_part, behind_parts, held_by_object, held_by_named, held_by_part, held_by_parts, held_by_decl, after_part, StatementTree, one_more, local_of, local_named, local_part, local_parts, is_given, local}
use Rattle.c_rules.specs.Codes.{C13}
use Rattle.c_rules.specs.Limits.{most_cells}
use Rattle.null_calls_laws.specs.MarkedCalls.{Sites}
use Rattle.null_calls_laws.specs.Temporaries.{Temporary}
use Rattle.null_calls_laws.specs.InstrumentedStatements.{maybe_init, parts, declaration, kept_of_maybe_init, kept_of_parts}
use Rattle.null_calls_laws.specs.TypedAlike.{More, plain_scope, instrumented_scope, AreUnreserved, MeanAlike, beside}
use Rattle.null_calls_laws.proofs.Leads.{Leads, fine_leads, first_fine, on_fine, alone_fine}
use Rattle.null_calls_laws.proofs.Names.{new_name_leads, new_name_plain}
use Rattle.null_calls_laws.proofs.Parts.{object_leads}
use Rattle.null_calls_laws.specs.Counts.{Near}
use Rattle.null_calls_laws.specs.CountedStatements.{MaybeInitNamed, PartsNamed, DeclNamed}
use Rattle.null_calls_laws.proofs.ExpressionCounts.{places_near}
use Rattle.null_calls_laws.proofs.StatementCounts.{blocks_stay}
use Rattle.null_calls_laws.specs.Tabled.{AreFound}
use Rattle.null_calls_laws.specs.Follow.{types_of}
use Rattle.null_calls_laws.proofs.Forms.{types_both, found_first, found_rest}
use Rattle.null_calls_laws.specs.InstrumentedCalls.{NullCallsStand}
use Rattle.null_calls_laws.proofs.AllCalls.{all_expressions_go}
use Rattle.null_calls_laws.specs.Standing.{ReservedMeanAlike, StandBeside, stand_beside}
use Rattle.null_calls_laws.specs.Initialisers.{MaybeInitTabled, CellsFollow}
use Rattle.null_calls_laws.proofs.InitialisersFollow.{text_same, count_same, init_few, held_same, near_past, initialisers_go}
use Rattle.null_calls_laws.proofs.Reserved.{temporaries_stay}
use Rattle.null_calls_laws.proofs.Scopes.{named_stand, unadded}
use Rattle.null_calls_laws.specs.DeclarationsBeside.{NamedTabled, PartsTabled, StatementTreeFollow, SameNumber, DeclarationsGo, FirstsGo}
use Rattle.null_calls_laws.proofs.StatementTree.{named_follows, behind_part_follows, variable_follows, nothing_follows, expression_follows, alone_follows}
use Rattle.null_calls_laws.proofs.Nodes.{one_follows}
use Rattle.null_calls_laws.specs.StatementsBeside.{StatementTreeFollows}
use Rattle.null_calls_laws.proofs.Numbers.{past_same, numbers_stay, number_same}

-- ## What is declared

module _ (sites : Sites) where
  size_same : (name b : ℕ) (m : MaybeInit) (t : CType) → with_size name (maybe_init sites b m) t ≡ with_size name m t
  size_same name b m (typed.array t zero) = by_init m
    where
      by_init : (m : MaybeInit) → with_size name (maybe_init sites b m) (typed.array t zero) ≡ with_size name m (typed.array t zero)
      by_init no_init = refl
      by_init (an_init (one at e)) = ap (λ o. on (text_fits at o) (λ _. sized_by_one at t o)) (text_same sites e b)
      by_init (an_init (list at is)) = ap (λ n. demand (nat_le n most_cells) C13 name (typed.array t n)) (count_same sites is b)
  size_same name b m x = refl

  -- the object is the same with the instrumented initialiser
  object_same : (env : Env) (b at : ℕ) (s : Spec) (d : Declarator) (x : Ident) (m : MaybeInit) → object_declared env at s d x (maybe_init sites b m) ≡ object_declared env at s d x m
  object_same env b at s d x m =
      ap (on (type_declared env at s d)) (λ i t. on (size_same x.at b m t i) (λ u. on (of_known_size env (place_or at d) x.at u) (λ v. fine (record { seen = t; whole = v }))))

  object_alike : (env : Env) (w : More) → AreUnreserved env.names → MeanAlike env.names w.names → (b at : ℕ) (s : Spec) (d : Declarator) (x : Ident) (m : MaybeInit)
      → Leads (object_declared (plain_scope env) at s d x m) (object_declared (instrumented_scope env w) at s d x (maybe_init sites b m))
  object_alike env w u a b at s d x m =
      subst (λ r. Leads (object_declared (plain_scope env) at s d x m) r) (sym (object_same (instrumented_scope env w) b at s d x m)) (object_leads _ _ (beside env w u a) at s d x m)

  maybe_few : (m : MaybeInit) (b : ℕ) → MaybeInitNamed sites b m → calls_of_maybe_init (maybe_init sites b m) ≤ 3 * calls_of_maybe_init m
  maybe_few no_init b h = omega arith
  maybe_few (an_init i) b h = init_few sites i b h

  held_by_same : (env : Env) (w : More) (m : MaybeInit) (t : CType) (b : ℕ) → MaybeInitNamed sites b m → held_by (instrumented_scope env w) t (maybe_init sites b m) ≡ held_by (plain_scope env) t m
  held_by_same env w no_init t b h = refl
  held_by_same env w (an_init i) t b h = held_same sites env w i t b h

  -- names and calls, of which blocks have as many
  decl_few : (d : Decl) (b : ℕ) → DeclNamed sites b d → calls_of_decl (declaration sites b d) ≤ 3 * calls_of_decl d
  decl_few d b h = (let r = (blocks_stay sites b (block_decl d no_block_items) (h, tt)).calls_most in omega (arith, r))

  decl_names : (d : Decl) (b : ℕ) → DeclNamed sites b d → names_of_decl (declaration sites b d) ≡ names_of_decl d
  decl_names d b h = sym (append-nil (names_of_decl (declaration sites b d))) ∙ ((blocks_stay sites b (block_decl d no_block_items) (h, tt)).names_same ∙ append-nil (names_of_decl d))

-- ## Scopes

-- what a name means within its initialiser and behind it, where it is fine
meaning_fine : (pick : Object → CType) (env : Env) (n : ℕ) (x : Ident) (r : Checked Object) (o : Object) (a : Met) → r ≡ fine o → new_name env x ≡ fine a → on r (λ q. gives (new_name env x) (λ _. a_local n (pick q) q.whole)) ≡ fine (a_local n (pick o) o.whole)
meaning_fine pick env n x r o a g h = ap₂ (λ y z. on y (λ q. gives z (λ _. a_local n (pick q) q.whole))) g h

module _ (p : Program) (names : List Binding) (env : Env) (w : More) (u : AreUnreserved env.names) (m : MeanAlike env.names w.names) (stand : NullCallsStand p env w) (s : ReservedMeanAlike names w.names) where
  -- with a name that means the same on both sides
  meant_stand : (x : Name) (n : Meaning) (q r : Checked Meaning) → is_reserved x ≡ false → q ≡ fine n → r ≡ fine n → StandBeside p names (with_name (plain_scope env) x (meaning_or_unknown q)) (with_name (instrumented_scope env w) x (meaning_or_unknown r))
  meant_stand x n q r h e f =
      subst (λ y. StandBeside p names (with_name (plain_scope env) x (meaning_or_unknown y)) (with_name (instrumented_scope env w) x (meaning_or_unknown r))) (sym e)
      (subst (λ z. StandBeside p names (with_name (plain_scope env) x n) (with_name (instrumented_scope env w) x (meaning_or_unknown z))) (sym f) (named_stand p names env w u m stand s x n h))

  module _ (next next' : Next) (same : SameNumber next next') (x : Ident) (r r' : Checked Object) (o : Object) (a : Met) (e : r ≡ fine o) (e' : r' ≡ fine o) (new : new_name (plain_scope env) x ≡ fine a) where
    new' : new_name (instrumented_scope env w) x ≡ fine a
    new' = fine_leads (new_name (plain_scope env) x) (new_name (instrumented_scope env w) x) a (new_name_leads env w m x) new

    plain : is_reserved x.name ≡ false
    plain = new_name_plain env x a new

    number : number_in next' x.name ≡ number_in next x.name
    number = number_same next next' x.name (unadded x.name plain) same

    local_stand : (pick : Object → CType)
        → StandBeside p names (with_name (plain_scope env) x.name (meaning_or_unknown (on r (λ q. gives (new_name (plain_scope env) x) (λ _. a_local (number_in next x.name) (pick q) q.whole))))) (with_name (instrumented_scope env w) x.name (meaning_or_unknown (on r' (λ q. gives (new_name (instrumented_scope env w) x) (λ _. a_local (number_in next' x.name) (pick q) q.whole)))))
    local_stand pick =
        meant_stand x.name (a_local (number_in next x.name) (pick o) o.whole) _ _ plain (meaning_fine pick (plain_scope env) (number_in next x.name) x r o a e new) (meaning_fine pick (instrumented_scope env w) (number_in next' x.name) x r' o a e' new' ∙ ap (λ n. fine (a_local n (pick o) o.whole)) number)

-- ## Initialisers that may be left out

local_cells : (p : Program) (sites : Sites) (names : List Binding) (e f : Env) → StandBeside p names e f → (b b' : Before) (k : ℕ) (t : CType) (m : MaybeInit) → MaybeInitNamed sites b.sites m → MaybeInitTabled p sites e b t m → AreFound names k (kept_of_maybe_init sites b.sites m) → Near b b'
    → CellsFollow p k (types_of (kept_of_maybe_init sites b.sites m)) (initialised_local e b t m) (initialised_local f b' t (maybe_init sites b.sites m))
local_cells p sites names e f st b b' k t no_init n c h r = ([], refl, record { types = λ cell. refl; trees = λ cell. refl })
local_cells p sites names e f st b b' k t (an_init i) n c h r = (initialisers_go p sites names e f st b b' k t i n c h r).cells

-- ## One declarator

-- where the plain one is fine, the scopes behind the two stand beside each other, and what is held is the same
record NamedGoes (p : Program) (sites : Sites) (names : List Binding) (e f : Env) (b b' : Before) (next next' : Next) (k at : ℕ) (s : Spec) (d : Declarator) (m : MaybeInit) (o : Option Ident) : Type 0 where
  laid : StatementTreeFollows p k (types_of (kept_of_maybe_init sites b.sites m)) (local_named e b next at s d m o) (local_named f b' next' at s d (maybe_init sites b.sites m) o)
  scopes : (q : StatementTree typed.Stmt) → local_named e b next at s d m o ≡ fine q → StandBeside p names (behind_named e next at s d m o) (behind_named f next' at s d (maybe_init sites b.sites m) o)
  held : (q : StatementTree typed.Stmt) → local_named e b next at s d m o ≡ fine q → held_by_named f at s d (maybe_init sites b.sites m) o ≡ held_by_named e at s d m o

module _ (p : Program) (sites : Sites) (names : List Binding) (env : Env) (w : More) (u : AreUnreserved env.names) (a : MeanAlike env.names w.names) (n : NullCallsStand p env w) (z : ReservedMeanAlike names w.names) (b b' : Before) (next next' : Next) (k at : ℕ) (s : Spec) (d : Declarator) (m : MaybeInit) (x : Ident) where
  abbrev made : MaybeInit
  made = maybe_init sites b.sites m

  abbrev object : Checked Object
  object = object_declared (plain_scope env) at s d x m

  abbrev made_object : Checked Object
  made_object = object_declared (instrumented_scope env w) at s d x made

  lead : Leads object made_object
  lead = object_alike sites env w u a b.sites at s d x m

  -- where it is fine, the object and its name are
  found_fine : (q : StatementTree typed.Stmt) → local_named (plain_scope env) b next at s d m (Some x) ≡ fine q → (o : Object) × (t : Met) × (object ≡ fine o) × (new_name (plain_scope env) x ≡ fine t)
  found_fine q h =
      let c = first_fine (new_name (plain_scope env) x) _ (λ _ q. fine q) q (alone_fine (is_given (plain_scope env) x.name (type_declared (plain_scope env) at s d)) 3 (place_or at d) (local (plain_scope env) b next x m object) q h) in
      let o = on_fine object (local_of (within_local (plain_scope env) next x object) b next x m) c.1 c.3 in
      (o.0, c.0, o.1, c.2)

  variable_goes : MaybeInitNamed sites b.sites m → NamedTabled p sites (plain_scope env) b next at s d m (Some x) → AreFound names k (kept_of_maybe_init sites b.sites m) → Near b b' → SameNumber next next' → NamedGoes p sites names (plain_scope env) (instrumented_scope env w) b b' next next' k at s d m (Some x)
  variable_goes named tabled found near same =
      let ts : List CType = types_of (kept_of_maybe_init sites b.sites m) in
      record {
        laid = alone_follows p k ts (is_given (plain_scope env) x.name (type_declared (plain_scope env) at s d)) _ 3 _ _ _ _ (named_follows p k ts _ _ _ _ (new_name_leads env w a x)
            (λ t new. behind_part_follows p k ts object made_object _ _ lead
            (λ o e. let q = fine_leads object made_object o lead e in variable_follows p k ts x.name _ _ o.whole _ _ (unadded x.name (new_name_plain env x t new)) (number p names env w u a n z next next' same x object made_object o t e q new)
            (local_cells p sites names _ _ (local_stand p names env w u a n z next next' same x object made_object o t e q new (λ q. q.seen)) b b' k o.whole m named (tabled o e) found near))));
        scopes = λ q h. (let c = found_fine q h in local_stand p names env w u a n z next next' same x object made_object c.0 c.1 c.2 (fine_leads object made_object c.0 lead c.2) c.3 (λ q. q.whole));
        held = λ q h. (let c = found_fine q h in ap (held_by_object (instrumented_scope env w) made) (fine_leads object made_object c.0 lead c.2) ∙ (held_by_same sites env w m c.0.whole b.sites named ∙ sym (ap (held_by_object (plain_scope env) m) c.2)));
      }

module _ (p : Program) (sites : Sites) (names : List Binding) where
  named_goes : (e f : Env) → StandBeside p names e f → (b b' : Before) (next next' : Next) (k at : ℕ) (s : Spec) (d : Declarator) (m : MaybeInit) (o : Option Ident)
      → MaybeInitNamed sites b.sites m → NamedTabled p sites e b next at s d m o → AreFound names k (kept_of_maybe_init sites b.sites m) → Near b b' → SameNumber next next' → NamedGoes p sites names e f b b' next next' k at s d m o
  named_goes e f (stand_beside env w u a n z) b b' next next' k at s d m None named tabled found near same =
      record { laid = tt; scopes = λ q h. absurd (let no : fault 3 (place_or at d) ≡ fine q = h in cc); held = λ q h. refl }
  named_goes e f (stand_beside env w u a n z) b b' next next' k at s d m (Some x) named tabled found near same = variable_goes p sites names env w u a n z b b' next next' k at s d m x named tabled found near same

  -- ## Declarators

  record PartsGo (e f : Env) (b b' : Before) (next next' : Next) (k at : ℕ) (s : Spec) (ps : Parts) : Type 0 where
    laid : StatementTreeFollow p k (types_of (kept_of_parts sites b.sites ps)) (local_parts e b next at s ps) (local_parts f b' next' at s (parts sites b.sites ps))
    scopes : (q : StatementTree typed.Stmts) → local_parts e b next at s ps ≡ fine q → StandBeside p names (behind_parts e next at s ps) (behind_parts f next' at s (parts sites b.sites ps))
    held : (q : StatementTree typed.Stmts) → local_parts e b next at s ps ≡ fine q → held_by_parts f next' at s (parts sites b.sites ps) ≡ held_by_parts e next at s ps

  parts_go : (ps : Parts) (e f : Env) → StandBeside p names e f → (b b' : Before) (next next' : Next) (k at : ℕ) (s : Spec)
      → PartsNamed sites b.sites ps → PartsTabled p sites e b next at s ps → AreFound names k (kept_of_parts sites b.sites ps) → Near b b' → SameNumber next next' → PartsGo e f b b' next next' k at s ps
  parts_go no_parts e f st b b' next next' k at s named tabled found near same = record { laid = nothing_follows p k; scopes = λ q h. st; held = λ q h. refl }
  parts_go (more_parts d m ps) e f st b b' next next' k at s named tabled found near same =
      let xs : List Temporary = kept_of_maybe_init sites b.sites m in
      let ys : List Temporary = kept_of_parts sites (b.sites + calls_of_maybe_init m) ps in
      let m' : MaybeInit = maybe_init sites b.sites m in
      let one : NamedGoes p sites names e f b b' next next' k at s d m (name_of d) = named_goes e f st b b' next next' k at s d m (name_of d) named.0 tabled.0 (found_first names k xs ys found) near same in
      let others : (q : StatementTree typed.Stmt) → local_part e b next at s d m ≡ fine q → PartsGo (behind_part e next at s d m) (behind_part f next' at s d m') (after_part e b at s d m) (after_part f b' at s d m') (past_part next d) (past_part next' d) (k + length (types_of xs)) at s ps =
      λ q h. parts_go ps (behind_part e next at s d m) (behind_part f next' at s d m') (one.scopes q h) (after_part e b at s d m) (after_part f b' at s d m') (past_part next d) (past_part next' d) (k + length (types_of xs)) at s named.1 tabled.1 (found_rest names k xs ys found)
      (near_past b b' (calls_of_maybe_init m) (calls_of_maybe_init m') (held_by_part e at s d m) (held_by_part f at s d m') near (maybe_few sites m b.sites named.0) (one.held q h)) (past_same next next' (name_or_empty (name_of d)) same)
      in
      record {
        laid = one_follows p k (types_of xs) (types_of ys) _ (sym (types_both xs ys)) _ _ _ _ one.laid (λ o h. (others o h).laid);
        scopes = λ o h. (let c = first_fine _ _ (λ y z. fine (one_more y z)) o h in (others c.0 c.2).scopes c.1 c.3);
        held = λ o h. (let c = first_fine _ _ (λ y z. fine (one_more y z)) o h in ap₂ (λ vs ws. vs ++ ws) (one.held c.0 c.2) ((others c.0 c.2).held c.1 c.3));
      }

-- ## Declarations, and what stands first in the head of a for

pub declarations_go : DeclarationsGo
declarations_go p sites names e f st b b' next next' k (decl at class s ps) named tabled found near same =
    let o : PartsGo p sites names e f b b' next next' k at s ps = parts_go p sites names ps e f st b b' next next' k at s named tabled found near same in
    let d : Decl = decl at class s ps in
    record {
      laid = o.laid;
      scopes = o.scopes;
      near = λ q h. near_past b b' (calls_of_decl d) (calls_of_decl (declaration sites b.sites d)) (held_by_decl e next d) (held_by_decl f next' (declaration sites b.sites d)) near (decl_few sites d b.sites named) (o.held q h);
      numbers = subst (λ xs. SameNumber (past_names next (names_of_decl d)) (past_names next' xs)) (sym (decl_names sites d b.sites named)) (numbers_stay next next' (names_of_decl d) same);
    }

pub firsts_go : FirstsGo
firsts_go p sites names e f st b b' next next' k first_absent named tabled found near same =
    record { laid = nothing_follows p k; scopes = λ q h. st; near = λ q h. near_past b b' 0 0 [] [] near (omega arith) refl; numbers = same }
firsts_go p sites names e f (stand_beside env w u a n z) b b' next next' k (first_expr x) named tabled found near same =
    record {
      laid = expression_follows p k _ _ _ ((all_expressions_go p sites env w u a n x).unused b b' k named tabled (temporaries_stay sites names w.names z b.sites k false x found) near);
      scopes = λ q h. stand_beside env w u a n z;
      near = λ q h. places_near sites b b' false x named near;
      numbers = same;
    }
firsts_go p sites names e f st b b' next next' k (first_decl d) named tabled found near same =
    let o = declarations_go p sites names e f st b b' next next' k d named tabled found near same in
    record { laid = o.laid; scopes = o.scopes; near = o.near; numbers = o.numbers }
