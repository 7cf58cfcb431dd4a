-- Types at file scope are written with tags that stand before.
use Rattle.std.proofs.Common.{◌≡◌, ℕ, zero, suc, Bool, true, false, not, ◌&&◌, cond, List, [], ◌∷◌, ◌++◌, map, Option, Some, None, slice_get, slice_set, unwrap_or, refl, ap, sym, subst, ◌∙◌, true≢false}
use Rattle.std.specs.Prelude.{bytes_eq}
use Rattle.dm_base.specs.declared.mode.Mode.TheVariants.{Plain}
use Rattle.c_tree.specs.Tree.{CType}
use Rattle.c_syntax.specs.Tree.{Ident, Storage, Spec, Declarator, MaybeInit, no_init, Parts, no_parts, more_parts, Decl, decl, Declarators, no_declarators, more_declarators, Members, no_members, more_members, Enumerators, no_enumerators, more_enumerators, Tag, no_tag, tag, Item, struct_item, enum_item, tag_item, decl_item, function_item}
use Rattle.c_rules.specs.Checked.{Checked, fine, faulty, on, demand, met}
use Rattle.c_rules.specs.Names.{Name, is_among, with_new}
use Rattle.c_rules.specs.Scopes.{Env, Binding, Meaning, a_static, a_local, a_function, an_enumerator, Struct, incomplete, defined_struct, Member, type_of_member, lookup, with_name, meaning_or_unknown, struct_of, with_struct, tag_number, Before}
use Rattle.c_rules.specs.Conversions.{complete}
use Rattle.c_rules.specs.Declarators.{name_of, place_or, new_name}
use Rattle.c_rules.specs.Expressions.{type_declared}
use Rattle.c_rules.specs.Objects.{Object, object_declared, with_size}
use Rattle.c_rules.specs.Tags.{tags_of_spec, tags_of_declarator, tags_of_parts, tags_of_decl, tags_of_declarators, tags_of_members, tags_of_enumerators, tags_of_stmt, tags_of_item}
use Rattle.c_rules.specs.Functions.{declares_function, function_meaning, is_defined_by, function_declared, behind_function}
use Rattle.c_rules.specs.Items.{Output, no_output, member_typed, new_member, member_named, member_declared, with_option, names_behind, members_declared, members, struct_laid, new_struct, struct_definition, struct_or_unknown, free_tag, enumerator_value, one_more_than, enumerator_meaning, behind_enumerator, enumerators, behind_enumerators, new_enum, behind_enum_tag, defines, global_object, global_declared, meaning_of_global, behind_global, behind_declared, behind_named_part, behind_file_part, after_file_part, behind_file_parts, behind_file_decl, behind_function_named, item, behind_by_form, behind_item}
use Rattle.c_rules_laws.proofs.Holding.{Holds, held, each_map, on_holds, both_hold, Any, anything, demand_holds, after_part, first_fine, and_left, and_right}
use Rattle.std.proofs.lemmas.Bool.{not-true}
use Rattle.c_rules_laws.specs.ClosedTypes.{MeaningHas, AllHave, ScopeHas}
use Rattle.null_calls_laws.specs.WrittenTypes.{Written}
use Rattle.null_calls_laws.proofs.Closed.{written_later}
use Rattle.null_calls_laws.proofs.FileNames.{other, among_past}
use Rattle.null_calls_laws.proofs.Declared.{part_tags, AreKnownTags, first_tags, rest_tags, both_tags, HasTags, type_written, with_size_written, ObjectWritten, object_written}
use Rattle.c_rules_laws.proofs.DistinctNames.{among_right as among_later}
use Rattle.c_rules_laws.proofs.Callers.{form_tags}

-- a scope at file scope of a plain unit
pub record IsWrittenFile (tags stood : List Name) (env : Env) : Type 0 where
  pub plain : env.whole.mode ≡ Plain
  pub tags_are : env.whole.tags ≡ tags
  pub has : ScopeHas (Written env.enums tags stood) env

-- ## Properties of types

meaning_map : (W V : CType → Type 0) → ((t : CType) → W t → V t) → (m : Meaning) → MeaningHas W m → MeaningHas V m
meaning_map W V f (a_static seen whole d) h = f seen h
meaning_map W V f (a_local n seen whole) h = f seen h
meaning_map W V f (a_function t d) h = f t h
meaning_map W V f m h = tt

scope_map : (W V : CType → Type 0) → ((t : CType) → W t → V t) → (env : Env) → ScopeHas W env → ScopeHas V env
scope_map W V f env h = record { names = λ x b e. meaning_map W V f b.means (h.names x b e); members = λ s ms e. each_map W V f (map type_of_member ms) (h.members s ms e) }

meant_has : (W : CType → Type 0) (r : Checked Meaning) → Holds (MeaningHas W) r → MeaningHas W (meaning_or_unknown r)
meant_has W (fine m) h = h
meant_has W (faulty f fs) h = tt

-- behind a name of such a type
pub scope_named : (W : CType → Type 0) (env : Env) (x : Name) (m : Meaning) → ScopeHas W env → MeaningHas W m → ScopeHas W (with_name env x m)
scope_named W env x m w h = record { names = λ y b e. by_test (bytes_eq x y) y b e; members = w.members }
  where
    by_test : (t : Bool) (y : Name) (b : Binding) → cond t (Some (record { name = x; depth = env.depth; means = m })) (lookup env.names y) ≡ Some b → MeaningHas W b.means
    by_test true y b e = subst (λ c. MeaningHas W c.means) (ap (λ o. unwrap_or o b) e) h
    by_test false y b e = w.names y b e

-- ## More tags, and more enums

pub more_stand : (tags stood more : List Name) (env : Env) → ((x : Name) → is_among stood x ≡ true → is_among more x ≡ true) → IsWrittenFile tags stood env → IsWrittenFile tags more env
more_stand tags stood more env f w = record {
  plain = w.plain;
  tags_are = w.tags_are;
  has = scope_map (Written env.enums tags stood) (Written env.enums tags more) (λ t h. written_later env.enums env.enums tags stood more (λ x _ n. n) f t h) env w.has;
}

enum_apart : (y : Name) (enums stood : List Name) → is_among stood y ≡ false → (x : Name) → is_among stood x ≡ true → is_among enums x ≡ false → is_among (y ∷ enums) x ≡ false
enum_apart y enums stood n x s e = among_past y x enums (other y x (λ q. true≢false (sym s ∙ (ap (is_among stood) (sym q) ∙ n)))) ∙ e

enum_stands : (tags stood : List Name) (env : Env) (x : Tag) → ((y : Ident) → x ≡ tag y → is_among stood y.name ≡ false) → IsWrittenFile tags stood env → IsWrittenFile tags stood (behind_enum_tag env x)
enum_stands tags stood env no_tag n w = w
enum_stands tags stood env (tag x) n w =
    let more : ScopeHas (Written (x.name ∷ env.enums) tags stood) env = scope_map (Written env.enums tags stood) (Written (x.name ∷ env.enums) tags stood) (λ t h. written_later env.enums (x.name ∷ env.enums) tags stood stood (enum_apart x.name env.enums stood (n x refl)) (λ _ k. k) t h) env w.has in
    record { plain = w.plain; tags_are = w.tags_are; has = record { names = more.names; members = more.members } }

module _ (tags stood : List Name) where
  abbrev File : Env → Type 0
  File = IsWrittenFile tags stood

  -- ## Names

  named_file : (env : Env) (x : Name) (m : Meaning) → File env → MeaningHas (Written env.enums tags stood) m → File (with_name env x m)
  named_file env x m w h = record { plain = w.plain; tags_are = w.tags_are; has = scope_named (Written env.enums tags stood) env x m w.has h }

  functions_file : (env : Env) (fs : List Name) → File env → File (record env { functions = fs })
  functions_file env fs w = record { plain = w.plain; tags_are = w.tags_are; has = record { names = w.has.names; members = w.has.members } }

  pub file_tags : (env : Env) → File env → HasTags env.enums tags stood env
  file_tags env w = record { enums_are = refl; tags_are = w.tags_are }

  -- ## Functions and objects

  function_written : (env : Env) → File env → (k : Bool) (at : ℕ) (s : Spec) (d : Declarator) (x : Ident) → AreKnownTags env.enums tags stood (tags_of_spec s ++ tags_of_declarator d) → Holds (MeaningHas (Written env.enums tags stood)) (function_declared env k at s d x)
  function_written env w k at s d x h =
      on_holds (Written env.enums tags stood) (MeaningHas (Written env.enums tags stood)) (type_declared env at s d) (function_meaning env k x) (type_written env.enums tags stood env (file_tags env w) at s d h)
      (λ t l. after_part (MeaningHas (Written env.enums tags stood)) _ (λ _. fine (a_function t (is_defined_by k _))) (λ _. l))

  pub function_file : (env : Env) → File env → (k : Bool) (at : ℕ) (s : Spec) (d : Declarator) (x : Ident) → AreKnownTags env.enums tags stood (tags_of_spec s ++ tags_of_declarator d) → File (behind_function env x.name (function_declared env k at s d x))
  function_file env w k at s d x h =
      named_file (record env { functions = with_new env.functions x.name }) x.name (meaning_or_unknown (function_declared env k at s d x)) (functions_file env (with_new env.functions x.name) w)
      (meant_has (Written env.enums tags stood) (function_declared env k at s d x) (function_written env w k at s d x h))

  global_file : (env : Env) → File env → (k : Bool) (b : Before) (at : ℕ) (s : Spec) (d : Declarator) (x : Ident) (m : MaybeInit) → AreKnownTags env.enums tags stood (tags_of_spec s ++ tags_of_declarator d) → File (behind_global env k x (global_declared env k b at s d x m))
  global_file env w k b at s d x m h =
      let W : CType → Type 0 = Written env.enums tags stood in
      let r : Checked Object = global_declared env k b at s d x m in
      named_file env x.name (meaning_or_unknown (meaning_of_global env k x r)) w
      (meant_has W (meaning_of_global env k x r)
      (on_holds (ObjectWritten env.enums tags stood) (MeaningHas W) r (λ o. fine (a_static o.whole o.whole (is_defined_by k _)))
      (on_holds (ObjectWritten env.enums tags stood) (ObjectWritten env.enums tags stood) (object_declared env at s d x m) (global_object env k b x) (object_written env.enums tags stood env (file_tags env w) at s d x m h)
      (λ o l. after_part (ObjectWritten env.enums tags stood) _ (λ _. fine o) (λ _. l)))
      (λ o l. l.1)))

  part_file : (env : Env) → File env → (b : Before) (at : ℕ) (class : Storage) (s : Spec) (d : Declarator) (m : MaybeInit) (o : Option Ident) → AreKnownTags env.enums tags stood (tags_of_spec s ++ tags_of_declarator d) → File (behind_named_part env b at class s d m o)
  part_file env w b at class s d m None h = w
  part_file env w b at class s d m (Some x) h = by_kind (declares_function d)
    where
      by_kind : (t : Bool) → File (behind_declared env b at class s d m t x)
      by_kind true = function_file env w false at s d x h
      by_kind false = global_file env w (defines class m) b at s d x m h

  known : (enums others : List Name) (xs : List Name) → AreKnownTags enums tags stood xs → AreKnownTags others tags stood xs
  known enums others xs h = record { numbered = h.numbered; stand = h.stand }

  parts_file : (ps : Parts) (env : Env) → File env → (b : Before) (at : ℕ) (class : Storage) (s : Spec) → AreKnownTags env.enums tags stood (tags_of_spec s ++ tags_of_parts ps) → File (behind_file_parts env b at class s ps)
  parts_file no_parts env w b at class s h = w
  parts_file (more_parts d m ps) env w b at class s h =
      let inner : Env = behind_file_part env b at class s d m in
      let own = part_tags env.enums tags stood s d m ps h in
      parts_file ps inner (part_file env w b at class s d m (name_of d) own.0) (after_file_part env b at class s d m) at class s (known env.enums inner.enums (tags_of_spec s ++ tags_of_parts ps) own.1)

  decl_file : (d : Decl) (env : Env) → File env → (b : Before) → AreKnownTags env.enums tags stood (tags_of_decl false d) → File (behind_file_decl env b d)
  decl_file (decl at class s ps) env w b h = parts_file ps env w b at class s h

  -- ## Structs

  abbrev StructHas : (enums : List Name) → Struct → Type 0
  StructHas enums (defined_struct ms) = AllHave (Written enums tags stood) (map type_of_member ms)
  StructHas enums s = Unit {0}

  set_entry : (P : Struct → Type 0) (xs : List Struct) (n k : ℕ) (v : Struct) → P v → P (unwrap_or (slice_get xs k) incomplete) → P (unwrap_or (slice_get (slice_set xs n v) k) incomplete)
  set_entry P (x ∷ xs) zero zero v h l = h
  set_entry P (x ∷ xs) (suc n) (suc k) v h l = set_entry P xs n k v h l
  set_entry P xs n k v h l = l

  struct_has : (enums : List Name) (s : Struct) → ((ms : List Member) → s ≡ defined_struct ms → AllHave (Written enums tags stood) (map type_of_member ms)) → StructHas enums s
  struct_has enums (defined_struct ms) h = h ms refl
  struct_has enums s h = tt

  struct_file : (env : Env) (x : Name) (s : Struct) → File env → StructHas env.enums s → File (with_struct env x s)
  struct_file env x s w h = record { plain = w.plain; tags_are = w.tags_are; has = record { names = w.has.names; members = λ k ms e. subst (StructHas env.enums) e (set_entry (StructHas env.enums) env.structs (tag_number env x) k s h (struct_has env.enums (struct_of env k) (w.has.members k))) } }

  module _ (env : Env) (w : File env) where
    abbrev W : CType → Type 0
    W = Written env.enums tags stood

    abbrev MembersHave : List Member → Type 0
    MembersHave ms = AllHave W (map type_of_member ms)

    member_written : (place name : ℕ) (t : CType) → W t → Holds W (member_typed env place name t)
    member_written place name t h = on_holds W W (with_size name no_init t) _ (with_size_written env.enums tags stood name no_init t h) (λ u k. after_part W (complete env place u) _ (λ _. k))

    named_written : (earlier : List Name) (at : ℕ) (s : Spec) (d : Declarator) (o : Option Ident) → AreKnownTags env.enums tags stood (tags_of_spec s ++ tags_of_declarator d) → Holds (λ m. W m.ctype) (member_named env earlier at s d o)
    named_written earlier at s d None h = tt
    named_written earlier at s d (Some x) h =
        both_hold Any W (λ m. W m.ctype) (new_member env earlier x) (on (type_declared env at s d) (member_typed env (place_or at d) x.at)) _ (anything (new_member env earlier x))
        (on_holds W W (type_declared env at s d) (member_typed env (place_or at d) x.at) (type_written env.enums tags stood env (file_tags env w) at s d h) (λ t k. member_written (place_or at d) x.at t k)) (λ _ t _ k. k)

    declared_written : (earlier : List Name) (at : ℕ) (s : Spec) (ds : Declarators) → AreKnownTags env.enums tags stood (tags_of_spec s) → AreKnownTags env.enums tags stood (tags_of_declarators ds) → Holds MembersHave (members_declared env earlier at s ds)
    declared_written earlier at s no_declarators k h = tt
    declared_written earlier at s (more_declarators d ds) k h =
        both_hold (λ m. W m.ctype) MembersHave MembersHave (member_declared env earlier at s d) (members_declared env (with_option (name_of d) earlier) at s ds) _
        (named_written earlier at s d (name_of d) (both_tags env.enums tags stood (tags_of_spec s) (tags_of_declarator d) k (first_tags env.enums tags stood (tags_of_declarator d) (tags_of_declarators ds) h)))
        (declared_written (with_option (name_of d) earlier) at s ds k (rest_tags env.enums tags stood (tags_of_declarator d) (tags_of_declarators ds) h)) (λ m ms a c. (a, c))

    have_both : (ms ns : List Member) → MembersHave ms → MembersHave ns → MembersHave (ms ++ ns)
    have_both [] ns h k = k
    have_both (m ∷ ms) ns h k = (h.0, have_both ms ns h.1 k)

    members_written : (earlier : List Name) (ms : Members) → AreKnownTags env.enums tags stood (tags_of_members ms) → Holds MembersHave (members env earlier ms)
    members_written earlier no_members h = tt
    members_written earlier (more_members at s ds rest) h =
        let others = rest_tags env.enums tags stood (tags_of_spec s) (tags_of_declarators ds ++ tags_of_members rest) h in
        both_hold MembersHave MembersHave MembersHave (members_declared env earlier at s ds) (members env (names_behind earlier ds) rest) _
        (declared_written earlier at s ds (first_tags env.enums tags stood (tags_of_spec s) (tags_of_declarators ds ++ tags_of_members rest) h) (first_tags env.enums tags stood (tags_of_declarators ds) (tags_of_members rest) others))
        (members_written (names_behind earlier ds) rest (rest_tags env.enums tags stood (tags_of_declarators ds) (tags_of_members rest) others)) (λ ms ns a c. have_both ms ns a c)

    definition_written : (x : Ident) (ms : Members) → AreKnownTags env.enums tags stood (tags_of_members ms) → Holds (StructHas env.enums) (struct_definition env x ms)
    definition_written x ms h =
        both_hold Any (StructHas env.enums) (StructHas env.enums) (new_struct env x) (on (members env [] ms) (struct_laid env x)) _ (anything (new_struct env x))
        (on_holds MembersHave (StructHas env.enums) (members env [] ms) (struct_laid env x) (members_written [] ms h) (λ ms k. after_part (StructHas env.enums) _ (λ _. fine (defined_struct ms)) (λ _. k))) (λ _ s _ k. k)

    struct_or_has : (r : Checked Struct) → Holds (StructHas env.enums) r → StructHas env.enums (struct_or_unknown r)
    struct_or_has (fine s) h = h
    struct_or_has (faulty f fs) h = tt

    struct_item_file : (x : Ident) (ms : Members) → AreKnownTags env.enums tags stood (tags_of_members ms) → File (with_struct env x.name (struct_or_unknown (struct_definition env x ms)))
    struct_item_file x ms h = struct_file env x.name (struct_or_unknown (struct_definition env x ms)) w (struct_or_has (struct_definition env x ms) (definition_written x ms h))

  -- ## Enumerators

  enumerator_written : (env : Env) (x : Ident) (r : Checked _) → Holds (MeaningHas (Written env.enums tags stood)) (enumerator_meaning env x r)
  enumerator_written env x r = both_hold Any Any (MeaningHas (Written env.enums tags stood)) (new_name env x) r (λ _ z. fine (an_enumerator z)) (anything (new_name env x)) (anything r) (λ _ _ _ _. tt)

  enumerators_file : (es : Enumerators) (env : Env) → File env → (before : Checked _) → File (behind_enumerators env before es)
  enumerators_file no_enumerators env w before = w
  enumerators_file (more_enumerators x m es) env w before =
      let r = enumerator_value env before x m in
      enumerators_file es (behind_enumerator env x r) (named_file env x.name (meaning_or_unknown (enumerator_meaning env x r)) w (meant_has (Written env.enums tags stood) (enumerator_meaning env x r) (enumerator_written env x r))) (one_more_than r)

-- ## Items

-- an enum's tag stands nowhere before
new_enum_apart : (env : Env) (x : Tag) (ts : List Name) → Holds (λ _. (y : Ident) → x ≡ tag y → is_among env.tags y.name ≡ false) (new_enum env x ts)
new_enum_apart env no_tag ts = λ y e. absurd (cc)
new_enum_apart env (tag x) ts =
    let new : Bool = not (is_among env.enums x.name) in
    let apart : Bool = not (is_among env.tags x.name) in
    let within : Bool = not (is_among ts x.name) in
    both_hold Any (λ _. (y : Ident) → tag x ≡ tag y → is_among env.tags y.name ≡ false) (λ _. (y : Ident) → tag x ≡ tag y → is_among env.tags y.name ≡ false) (free_tag env x) (demand (new && (apart && within)) 2 x.at met) (λ _ _. fine met) (anything (free_tag env x))
    (demand_holds (λ _. (y : Ident) → tag x ≡ tag y → is_among env.tags y.name ≡ false) (new && (apart && within)) 2 x.at met
    (λ q y e. subst (λ z. is_among env.tags z.name ≡ false) (same y e) (not-true (is_among env.tags x.name) (and_left apart within (and_right new (apart && within) q)))))
    (λ _ _ _ k. k)
  where
    same : (y : Ident) → tag x ≡ tag y → x ≡ y
    same y e = cc

form_file : (tags : List Name) (i : Item) (env : Env) (b : Before) (out : Output) → IsWrittenFile tags env.tags env → AreKnownTags env.enums tags (tags_of_item false i ++ env.tags) (tags_of_item false i) → item env b i ≡ fine out → IsWrittenFile tags (tags_of_item false i ++ env.tags) (behind_by_form env b i)
form_file tags (struct_item at x ms) env b out w k e =
    let stood : List Name = tags_of_item false (struct_item at x ms) ++ env.tags in
    struct_item_file tags stood env (more_stand tags env.tags stood env (λ y h. among_later (tags_of_item false (struct_item at x ms)) env.tags y h) w) x ms (rest_tags env.enums tags stood (x.name ∷ []) (tags_of_members ms) k)
form_file tags (enum_item at x es) env b out w k e =
    let stood : List Name = tags_of_item false (enum_item at x es) ++ env.tags in
    let i = first_fine (new_enum env x (tags_of_enumerators es)) (enumerators env (fine _) es) (λ _ _. fine no_output) out e in
    let inner : Env = behind_enumerators env (fine _) es in
    let apart = held (λ _. (y : Ident) → x ≡ tag y → is_among env.tags y.name ≡ false) (new_enum env x (tags_of_enumerators es)) i.0 (new_enum_apart env x (tags_of_enumerators es)) i.2 in
    more_stand tags env.tags stood (behind_enum_tag inner x) (λ y h. among_later (tags_of_item false (enum_item at x es)) env.tags y h) (enum_stands tags env.tags inner x apart (enumerators_file tags env.tags es env w (fine _)))
form_file tags (tag_item at x) env b out w k e = more_stand tags env.tags (tags_of_item false (tag_item at x) ++ env.tags) env (λ y h. among_later (tags_of_item false (tag_item at x)) env.tags y h) w
form_file tags (decl_item at d) env b out w k e =
    let stood : List Name = tags_of_item false (decl_item at d) ++ env.tags in
    decl_file tags stood d env (more_stand tags env.tags stood env (λ y h. among_later (tags_of_item false (decl_item at d)) env.tags y h) w) b k
form_file tags (function_item at class s d body) env b out w k e =
    let stood : List Name = tags_of_item false (function_item at class s d body) ++ env.tags in
    by_name (name_of d) (more_stand tags env.tags stood env (λ y h. among_later (tags_of_item false (function_item at class s d body)) env.tags y h) w)
    (both_tags env.enums tags stood (tags_of_spec s) (tags_of_declarator d) (first_tags env.enums tags stood (tags_of_spec s) (tags_of_declarator d ++ tags_of_stmt false body) k)
    (first_tags env.enums tags stood (tags_of_declarator d) (tags_of_stmt false body) (rest_tags env.enums tags stood (tags_of_spec s) (tags_of_declarator d ++ tags_of_stmt false body) k)))
  where
    by_name : (o : Option Ident) → IsWrittenFile tags (tags_of_item false (function_item at class s d body) ++ env.tags) env → AreKnownTags env.enums tags (tags_of_item false (function_item at class s d body) ++ env.tags) (tags_of_spec s ++ tags_of_declarator d)
        → IsWrittenFile tags (tags_of_item false (function_item at class s d body) ++ env.tags) (behind_function_named env at s d o)
    by_name None v h = v
    by_name (Some x) v h = function_file tags (tags_of_item false (function_item at class s d body) ++ env.tags) env v true at s d x h

-- behind an item that is fine
pub item_file : (tags : List Name) (i : Item) (env : Env) (b : Before) (out : Output) → IsWrittenFile tags env.tags env → AreKnownTags env.enums tags (tags_of_item false i ++ env.tags) (tags_of_item false i) → item env b i ≡ fine out → IsWrittenFile tags (behind_item env b i).tags (behind_item env b i)
item_file tags i env b out w k e =
    let v : IsWrittenFile tags (tags_of_item false i ++ env.tags) (behind_by_form env b i) = form_file tags i env b out w k e in
    let u : IsWrittenFile tags (tags_of_item false i ++ env.tags) (behind_item env b i) = record { plain = v.plain; tags_are = v.tags_are; has = record { names = v.has.names; members = v.has.members } } in
    subst (λ ts. IsWrittenFile tags (tags_of_item false i ++ ts) (behind_item env b i)) (sym (form_tags i env b)) u
