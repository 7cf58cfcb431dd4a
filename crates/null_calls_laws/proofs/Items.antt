-- What stands at file scope, functions aside, gives the same in both units.
use Rattle.std.proofs.Common.{◌≡◌, ℕ, ◌+◌, pos, Bool, true, false, not, ◌&&◌, List, ◌++◌, Option, Some, None, refl, ap, sym, subst, ◌∙◌, arith}
use Rattle.c_tree.specs.Tree.{CType}
use Rattle.c_syntax.specs.Tree.{Ident, Storage, Spec, Declarator, MaybeInit, Parts, no_parts, more_parts, Decl, decl}
use Rattle.c_syntax.specs.Tree.{Members}
use Rattle.c_syntax.specs.Tree.{Tag, no_tag, tag, Item, struct_item, enum_item, tag_item, decl_item, function_item}
use Rattle.c_rules.specs.Checked.{Checked, fine, faulty, gives}
use Rattle.c_rules.specs.Names.{Name, is_among, is_reserved}
use Rattle.c_rules.specs.Scopes.{Env, a_static, evaluated, Struct, Before, declared_here, with_struct}
use Rattle.c_rules.specs.Counts.{past, string_cells}
use Rattle.c_rules.specs.Tags.{tags_of_enumerators, tags_of_item}
use Rattle.c_rules.specs.TypedExpression.{TypedExpression}
use Rattle.c_rules.specs.Declarators.{name_of}
use Rattle.c_rules.specs.Initialisers.{calls_of_maybe_init, held_by, initialised_static}
use Rattle.c_rules.specs.Objects.{Object, object_declared}
use Rattle.c_rules.specs.Functions.{declares_function, is_defined_by, function_declared}
use Rattle.c_rules.specs.Items.{Output, no_output, with_output, struct_definition, struct_or_unknown, tag_declaration, enumerators, behind_enumerators, new_enum, behind_enum_tag, defines, global_declared, meaning_of_global, seen_of_global, behind_global, within_global, static_of, after_object, definition_of, global, without_init, declared_part, named_part, behind_declared, behind_named_part, behind_file_part, after_global, after_declared, after_file_part, file_parts, behind_file_parts, after_file_parts, file_decl, behind_file_decl, after_file_decl, item, with_tags, behind_item, after_item}
use Rattle.c_rules_laws.specs.TypedAlike.{More, AreUnreserved, MeanAlike}
use Rattle.c_rules_laws.proofs.Leads.{Leads, LeadsTo, same_leads, fine_leads, with_fact, on_leads, both_leads, gives_leads, first_fine, on_fine, fact, without}
use Rattle.c_rules_laws.proofs.Names.{left, right}
use Rattle.c_rules_laws.proofs.Holding.{held}
use Rattle.null_calls_laws.specs.OtherItems.{IsOther, OtherItemsGo}
use Rattle.null_calls_laws.specs.FileScopes.{HasNullCalls, FilesBeside, files_beside, at_site}
use Rattle.null_calls_laws.proofs.FileNames.{files_alike, behind_name, named_files, function_declared_leads, function_files}
use Rattle.c_rules.proofs.ModeNames.{here_same}
use Rattle.c_rules.proofs.ModeBlocks.{both_to, weaken, always, moved, held_same, static_init_leads, object_leads}
use Rattle.c_rules_laws.proofs.Names as names
use Rattle.null_calls_laws.proofs.Silent.{static_silent, static_alone, global_silent}
use Rattle.c_rules.proofs.ModeItems.{global_fine, struct_leads, tag_declaration_leads, new_enum_leads, enumerators_lead, global_declared_leads, global_plain, same_object}
use Rattle.c_rules_laws.proofs.DistinctNames.{among_left, among_right}
use Rattle.null_calls_laws.proofs.FunctionTags.{among_cases}

-- ## Structs

struct_twin : (e f : Env) → FilesBeside e f → (x : Ident) (ms : Members) (s : Struct) → struct_definition e x ms ≡ fine s → FilesBeside (with_struct e x.name (struct_or_unknown (struct_definition e x ms))) (with_struct f x.name (struct_or_unknown (struct_definition f x ms)))
struct_twin e f (files_beside env more p q l) x ms s g =
    subst (λ y. FilesBeside (with_struct (left env) x.name (struct_or_unknown y)) (with_struct (right env more) x.name (struct_or_unknown (struct_definition (right env more) x ms)))) (sym g)
    (subst (λ z. FilesBeside (with_struct (left env) x.name s) (with_struct (right env more) x.name (struct_or_unknown z))) (sym (fine_leads _ _ s (struct_leads _ _ (files_alike _ _ (files_beside env more p q l)) x ms) g)) (files_beside (with_struct env x.name s) more p q (record { runs = l.runs; nulls = l.nulls; fresh = l.fresh; functions = l.functions; tags = l.tags })))

-- ## Enums

enum_tag_files : (e f : Env) → FilesBeside e f → (t : Tag) → FilesBeside (behind_enum_tag e t) (behind_enum_tag f t)
enum_tag_files e f (files_beside env more p q l) no_tag = files_beside env more p q l
enum_tag_files e f (files_beside env more p q l) (tag x) = files_beside (behind_enum_tag env (tag x)) more p q (record { runs = l.runs; nulls = l.nulls; fresh = l.fresh; functions = l.functions; tags = l.tags })

-- ## Static objects

module _ (env : Env) (more : More) (p : AreUnreserved env.names) (q : MeanAlike env.names more.names) (l : HasNullCalls env more) (d : Bool) (x : Ident) (r s : Checked Object) (o : Object) (h : Leads r s) (g : r ≡ fine o) (u : is_reserved x.name ≡ false) where
  global_files : FilesBeside (behind_global (left env) d x r) (behind_global (right env more) d x s)
  global_files =
      named_files env more p q l x.name (meaning_of_global (left env) d x r) (meaning_of_global (right env more) d x s) (a_static o.whole o.whole (is_defined_by d (declared_here (left env) x.name))) u
      (ap (λ y. gives y (λ (q : Object). a_static q.whole q.whole (is_defined_by d (declared_here (left env) x.name)))) g)
      (ap (λ y. gives y (λ (q : Object). a_static q.whole q.whole (is_defined_by d (declared_here (right env more) x.name)))) (fine_leads r s o h g) ∙ ap (λ z. fine (a_static o.whole o.whole (is_defined_by d z))) (here_same env (names.more more) q x.name u))

  seen_files : FilesBeside (within_global (left env) d x r) (within_global (right env more) d x s)
  seen_files =
      named_files env more p q l x.name (seen_of_global (left env) d x r) (seen_of_global (right env more) d x s) (a_static o.seen o.whole (is_defined_by d (declared_here (left env) x.name))) u
      (ap (λ y. gives y (λ (q : Object). a_static q.seen q.whole (is_defined_by d (declared_here (left env) x.name)))) g)
      (ap (λ y. gives y (λ (q : Object). a_static q.seen q.whole (is_defined_by d (declared_here (right env more) x.name)))) (fine_leads r s o h g) ∙ ap (λ z. fine (a_static o.seen o.whole (is_defined_by d z))) (here_same env (names.more more) q x.name u))

files_run : (e f : Env) → FilesBeside e f → e.context ≡ evaluated
files_run e f (files_beside env more p q l) = l.runs

-- an initialiser that is fine has no calls, and gives the same however many calls stand before it
static_both : (e f : Env) → FilesBeside e f → (b : Before) (n : ℕ) (t : CType) (m : MaybeInit) → Leads (initialised_static e b t m) (initialised_static f (at_site b n) t m)
static_both e f w b n t m = by_result (initialised_static e b t m) refl
  where
    by_result : (r : Checked (List TypedExpression)) → initialised_static e b t m ≡ r → Leads r (initialised_static f (at_site b n) t m)
    by_result (fine gs) g =
        let z : calls_of_maybe_init m ≡ 0 = held (λ _. calls_of_maybe_init m ≡ 0) (initialised_static e b t m) gs (static_silent m e (files_run e f w) b t) g in
        (static_alone f m b n t z ∙ fine_leads (initialised_static e b t m) (initialised_static f b t m) gs (static_init_leads e f (files_alike e f w) b t m) g, tt)
    by_result (faulty x xs) g = tt

after_object_same : (e f : Env) → FilesBeside e f → (b : Before) (n : ℕ) (t : CType) → after_object f (at_site b n) t ≡ at_site (after_object e b t) n
after_object_same e f (files_beside env more p q l) b n t = refl

static_leads : (e f : Env) → FilesBeside e f → (b : Before) (n : ℕ) (m : MaybeInit) (o : Object) → Leads (definition_of e b m o) (definition_of f (at_site b n) m o)
static_leads e f w b n m o =
    gives_leads _ _ (static_of o) (moved (Unit {0}) _ (λ y. initialised_static f y o.whole m) (at_site (after_object e b o.whole) n) (after_object f (at_site b n) o.whole) (sym (after_object_same e f w b n o.whole)) (static_both e f w (after_object e b o.whole) n o.whole m))

global_leads : (e f : Env) → FilesBeside e f → (d : Bool) (b : Before) (n at : ℕ) (s : Spec) (c : Declarator) (x : Ident) (m : MaybeInit) → Leads (global e d b x m (global_declared e d b at s c x m)) (global f d (at_site b n) x m (global_declared f d (at_site b n) at s c x m))
global_leads e f w false b n at s c x m = gives_leads _ _ (λ _. no_output) (global_declared_leads e f (files_alike e f w) false b n at s c x m)
global_leads e f (files_beside env more p q l) true b n at s c x m =
    let r : Checked Object = global_declared (left env) true b at s c x m in
    let z : Checked Object = global_declared (right env more) true (at_site b n) at s c x m in
    let h : Leads r z = global_declared_leads _ _ (files_alike _ _ (files_beside env more p q l)) true b n at s c x m in
    on_leads r z (definition_of (within_global (left env) true x r) b m) (definition_of (within_global (right env more) true x z) (at_site b n) m) h
    (λ o g. static_leads (within_global (left env) true x r) (within_global (right env more) true x z) (seen_files env more p q l true x r z o h g (global_plain env true b at s c x m o g)) b n m o)

-- What stands behind a part, and how much before what follows it: as many calls as before the part, on both sides.
abbrev FileFacts : Env → Env → (start n : ℕ) → Before → Before → Type 0
FileFacts e f start n b c = FilesBeside e f × (c ≡ at_site b n) × (b.sites ≡ start)

past_calls : (b : Before) (n k : ℕ) (ws vs : List (List ℕ)) → k ≡ 0 → ws ≡ vs → past (at_site b n) k vs ≡ at_site (past b k ws) n
past_calls b n k ws vs e h =
    let s : n + k ≡ n = omega (arith, e) in
    let g : vs ≡ ws = sym h in
    λ i. record { sites = s i; strings = b.strings ++ g i; cells = b.cells + string_cells (g i) }

after_fine : (e f : Env) → FilesBeside e f → (b : Before) (n : ℕ) (m : MaybeInit) (r s : Checked Object) (o : Object) → calls_of_maybe_init m ≡ 0 → r ≡ fine o → s ≡ fine o → (after_global f (at_site b n) m s ≡ at_site (after_global e b m r) n) × ((after_global e b m r).sites ≡ b.sites)
after_fine e f w b n m r s o z g h =
    let k : calls_of_maybe_init m ≡ 0 = z in
    let first : after_global f (at_site b n) m s ≡ past (at_site (after_object e b o.whole) n) (calls_of_maybe_init m) (held_by f o.whole m) = ap (after_global f (at_site b n) m) h ∙ ap (λ y. past y (calls_of_maybe_init m) (held_by f o.whole m)) (after_object_same e f w b n o.whole) in
    let second : past (at_site (after_object e b o.whole) n) (calls_of_maybe_init m) (held_by f o.whole m) ≡ at_site (past (after_object e b o.whole) (calls_of_maybe_init m) (held_by e o.whole m)) n
    = past_calls (after_object e b o.whole) n (calls_of_maybe_init m) (held_by e o.whole m) (held_by f o.whole m) k (held_same e f (files_alike e f w) o.whole m) in
    let third : at_site (past (after_object e b o.whole) (calls_of_maybe_init m) (held_by e o.whole m)) n ≡ at_site (after_global e b m r) n = ap (λ y. at_site (after_global e b m y) n) (sym g) in
    let none : b.sites + calls_of_maybe_init m ≡ b.sites = omega (arith, k) in
    (first ∙ (second ∙ third), ap (λ y. (after_global e b m y).sites) g ∙ none)

global_behind : (e f : Env) → FilesBeside e f → (t : Bool) (b : Before) (n at : ℕ) (s : Spec) (d : Declarator) (x : Ident) (m : MaybeInit) (o : Object) → global_declared e t b at s d x m ≡ fine o → FilesBeside (behind_global e t x (global_declared e t b at s d x m)) (behind_global f t x (global_declared f t (at_site b n) at s d x m))
global_behind e f (files_beside env more p q l) t b n at s d x m o g = global_files env more p q l t x _ _ o (global_declared_leads _ _ (files_alike _ _ (files_beside env more p q l)) t b n at s d x m) g (global_plain env t b at s d x m o g)

object_after : (e f : Env) → FilesBeside e f → (b : Before) (n at : ℕ) (s : Spec) (d : Declarator) (m : MaybeInit) (x : Ident) (t : Bool) (c : Output) → global e t b x m (global_declared e t b at s d x m) ≡ fine c
    → (after_declared f (at_site b n) at s d m t (Some x) ≡ at_site (after_declared e b at s d m t (Some x)) n) × ((after_declared e b at s d m t (Some x)).sites ≡ b.sites)
object_after e f w b n at s d m x false c g = (refl, refl)
object_after e f w b n at s d m x true c g =
    let k = global_fine e true b x m (global_declared e true b at s d x m) c g in
    let o : object_declared e at s d x m ≡ fine k.0 = same_object e true b at s d x m k.0 k.1 in
    after_fine e f w b n m (object_declared e at s d x m) (object_declared f at s d x m) k.0 (global_silent e (files_run e f w) b at s d x m c g) o (fine_leads _ _ k.0 (object_leads e f (files_alike e f w) at s d x m) o)

declared_part_leads : (e f : Env) → FilesBeside e f → (b : Before) (n at : ℕ) (class : Storage) (s : Spec) (d : Declarator) (m : MaybeInit) (x : Ident) (t : Bool)
    → LeadsTo (FileFacts (behind_declared e b at class s d m t x) (behind_declared f (at_site b n) at class s d m t x) b.sites n (after_declared e b at s d m (not t && defines class m) (Some x)) (after_declared f (at_site b n) at s d m (not t && defines class m) (Some x))) (declared_part e b at class s d m t x) (declared_part f (at_site b n) at class s d m t x)
declared_part_leads e f w b n at class s d m x true =
    with_fact _ _ _ (both_leads (function_declared e false at s d x) (function_declared f false at s d x) (without_init m) (without_init m) (λ _ _. fine no_output) (λ _ _. fine no_output) (function_declared_leads e f w false at s d x) (λ _ _. same_leads (without_init m)) (λ _ _. (refl, tt)))
    (λ c g. let k = first_fine (function_declared e false at s d x) (without_init m) (λ _ _. fine no_output) c g in (function_files e f w false at s d x k.0 k.2, refl, refl))
declared_part_leads e f w b n at class s d m x false =
    with_fact _ _ _ (global_leads e f w (defines class m) b n at s d x m)
    (λ c g. let k = global_fine e (defines class m) b x m (global_declared e (defines class m) b at s d x m) c g in
    let v = object_after e f w b n at s d m x (defines class m) c g in
    (global_behind e f w (defines class m) b n at s d x m k.0 k.1, v.0, v.1))

part_leads : (e f : Env) → FilesBeside e f → (b : Before) (n at : ℕ) (class : Storage) (s : Spec) (d : Declarator) (m : MaybeInit) (o : Option Ident)
    → LeadsTo (FileFacts (behind_named_part e b at class s d m o) (behind_named_part f (at_site b n) at class s d m o) b.sites n (after_declared e b at s d m (not (declares_function d) && defines class m) o) (after_declared f (at_site b n) at s d m (not (declares_function d) && defines class m) o)) (named_part e b at class s d m o) (named_part f (at_site b n) at class s d m o)
part_leads e f w b n at class s d m None = tt
part_leads e f w b n at class s d m (Some x) = declared_part_leads e f w b n at class s d m x (declares_function d)

parts_lead : (ps : Parts) (e f : Env) → FilesBeside e f → (b : Before) (n at : ℕ) (class : Storage) (s : Spec) → LeadsTo (FileFacts (behind_file_parts e b at class s ps) (behind_file_parts f (at_site b n) at class s ps) b.sites n (after_file_parts e b at class s ps) (after_file_parts f (at_site b n) at class s ps)) (file_parts e b at class s ps) (file_parts f (at_site b n) at class s ps)
parts_lead no_parts e f w b n at class s = (refl, (w, refl, refl))
parts_lead (more_parts d m ps) e f w b n at class s =
    let e' : Env = behind_file_part e b at class s d m in
    let f' : Env = behind_file_part f (at_site b n) at class s d m in
    let b' : Before = after_file_part e b at class s d m in
    let c' : Before = after_file_part f (at_site b n) at class s d m in
    let Q : Before → Type 0 = (λ y. FileFacts (behind_file_parts e' b' at class s ps) (behind_file_parts f' y at class s ps) b'.sites n (after_file_parts e' b' at class s ps) (after_file_parts f' y at class s ps)) in
    weaken (FileFacts e' f' b.sites n b' c' × Q c') _ _ _ (λ h. (h.1.0, h.1.1, h.1.2 ∙ h.0.2))
    (both_to (FileFacts e' f' b.sites n b' c') (Q c') (named_part e b at class s d m (name_of d)) (named_part f (at_site b n) at class s d m (name_of d)) (file_parts e' b' at class s ps) (file_parts f' c' at class s ps) (λ p q. fine (with_output p q)) (λ p q. fine (with_output p q))
    (part_leads e f w b n at class s d m (name_of d))
    (λ _ _ h. subst (λ y. LeadsTo (Q y) (file_parts e' b' at class s ps) (file_parts f' y at class s ps)) (sym h.1) (parts_lead ps e' f' h.0 b' n at class s))
    (λ p q. (refl, tt)))

decl_leads : (d : Decl) (e f : Env) → FilesBeside e f → (b : Before) (n : ℕ) → LeadsTo (FileFacts (behind_file_decl e b d) (behind_file_decl f (at_site b n) d) b.sites n (after_file_decl e b d) (after_file_decl f (at_site b n) d)) (file_decl e b d) (file_decl f (at_site b n) d)
decl_leads (decl at class s ps) e f w b n = parts_lead ps e f w b n at class s

-- ## Items that are no functions

pub more_among : (xs ys zs : List Name) (x : Name) → (is_among ys x ≡ true → is_among zs x ≡ true) → is_among (xs ++ ys) x ≡ true → is_among (xs ++ zs) x ≡ true
more_among xs ys zs x h e = among_cases (is_among (xs ++ zs) x ≡ true) xs ys x e (among_left xs zs x) (λ k. among_right xs zs x (h k))

-- with tags that stand in an item
pub tags_files : (e f : Env) → FilesBeside e f → (i j : Item) → ((x : Name) → is_among (tags_of_item false j ++ f.tags) x ≡ true → is_among (tags_of_item false i ++ e.tags) x ≡ true) → FilesBeside (with_tags e i) (with_tags f j)
tags_files e f (files_beside env more p q l) i j h = files_beside (with_tags env i) (record { names = more.names; functions = more.functions; tags = tags_of_item false j ++ more.tags }) p q (record { runs = l.runs; nulls = l.nulls; fresh = l.fresh; functions = l.functions; tags = h })

pub files_tags : (e f : Env) → FilesBeside e f → (x : Name) → is_among f.tags x ≡ true → is_among e.tags x ≡ true
files_tags e f (files_beside env more p q l) x h = l.tags x h

pub same_tags : (e f : Env) → FilesBeside e f → (i : Item) → FilesBeside (with_tags e i) (with_tags f i)
same_tags e f w i = tags_files e f w i i (λ x h. more_among (tags_of_item false i) f.tags e.tags x (files_tags e f w x) h)

abbrev pub ItemFacts : Env → Env → Before → (n : ℕ) → Item → Type 0
ItemFacts e f b n i = FilesBeside (behind_item e b i) (behind_item f (at_site b n) i) × (after_item f (at_site b n) i ≡ at_site (after_item e b i) n) × ((after_item e b i).sites ≡ b.sites)

pub other_item_leads : (e f : Env) → FilesBeside e f → (b : Before) (n : ℕ) (i : Item) → IsOther i → LeadsTo (ItemFacts e f b n i) (item e b i) (item f (at_site b n) i)
other_item_leads e f w b n (struct_item at x ms) o =
    with_fact _ _ _ (gives_leads (struct_definition e x ms) (struct_definition f x ms) (λ _. no_output) (struct_leads e f (files_alike e f w) x ms))
    (λ c g. let k = on_fine (struct_definition e x ms) (λ _. fine no_output) c g in (same_tags _ _ (struct_twin e f w x ms k.0 k.1) (struct_item at x ms), refl, refl))
other_item_leads e f w b n (enum_item at x es) o =
    let e' : Env = behind_enumerators e (fine (pos 0)) es in
    let f' : Env = behind_enumerators f (fine (pos 0)) es in
    let Q : Type 0 = FilesBeside e' f' in
    let ts : List Name = tags_of_enumerators es in
    weaken (Unit {0} × Q) _ _ _ (λ h. (same_tags _ _ (enum_tag_files e' f' h.1 x) (enum_item at x es), refl, refl))
    (both_to (Unit {0}) Q (new_enum e x ts) (new_enum f x ts) (enumerators e (fine (pos 0)) es) (enumerators f (fine (pos 0)) es) (λ _ _. fine no_output) (λ _ _. fine no_output)
    (new_enum_leads e f (files_alike e f w) (files_tags e f w) x ts) (λ _ _ _. enumerators_lead FilesBeside files_alike behind_name es e f w (fine (pos 0)) (fine (pos 0)) (refl, tt)) (λ _ _. (refl, tt)))
other_item_leads e f w b n (tag_item at x) o = always _ _ _ (same_tags _ _ w (tag_item at x), refl, refl) (gives_leads (tag_declaration e x) (tag_declaration f x) (λ _. no_output) (tag_declaration_leads e f (files_alike e f w) x))
other_item_leads e f w b n (decl_item at d) o = weaken _ _ _ _ (λ h. (same_tags _ _ h.0 (decl_item at d), h.1, h.2)) (decl_leads d e f w b n)
other_item_leads e f w b n (function_item at class s d body) o = absurd o

pub other_items_go : OtherItemsGo
other_items_go e f w b n i o out h =
    let leads = other_item_leads e f w b n i o in
    let facts = fact (ItemFacts e f b n i) (item e b i) (item f (at_site b n) i) out leads h in
    record { follows = fine_leads (item e b i) (item f (at_site b n) i) out (without (ItemFacts e f b n i) (item e b i) (item f (at_site b n) i) leads) h; files = facts.0; after = facts.1; sites = facts.2 }
