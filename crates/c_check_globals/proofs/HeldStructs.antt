-- A struct whose definition is fine: its members hold structs with definitions alone, and are within the limit on cells.
use Rattle.std.proofs.Common.{◌≡◌, ◌≤◌, ℕ, zero, suc, List, [], ◌∷◌, ◌++◌, length, map, Bool, true, false, Option, Some, None, slice_get, refl, ap, subst, ◌∙◌}
use Rattle.std.specs.Prelude.{nat_le, not, unwrap_or}
use Rattle.c_check_globals.proofs.Moves.{at_most}
use Rattle.c_check_globals.proofs.Turns.{not_fine, same_value}
use Rattle.c_check_scopes.specs.Held.{AllIn, AllInAll, IsDefined}
use Rattle.c_rules.specs.Checked.{fine, and_also, demand, on, gives, Met, met}
use Rattle.c_rules.specs.Codes.{C1, C2, C3, C13}
use Rattle.c_rules.specs.Conversions.{complete, few_parts, is_defined}
use Rattle.c_rules.specs.Declarators.{array_of, function_of, name_of, place_or, pointer_to, type_of_spec, within_parts}
use Rattle.c_rules.specs.Expressions.{declared, parameters, size_in, type_declared}
use Rattle.c_rules.specs.Items.{member_declared, member_named, member_typed, members, members_declared, names_behind, new_member, new_struct, struct_definition, struct_laid, with_option}
use Rattle.c_rules.specs.Limits.{most_cells, most_members, most_parameters}
use Rattle.c_rules.specs.Names.{Name, is_among}
use Rattle.c_rules.specs.Objects.{with_size}
use Rattle.c_rules.specs.Scopes.{Env, Member, Struct, defined_struct, incomplete, inside, layout_of, tag_number, type_of_member, types_of_struct, unknown_struct}
use Rattle.c_rules.proofs.Modes.{demand_met, first_fine as parts_fine, on_fine}
use Rattle.c_rules.specs.Types.{count, is_result}
use Rattle.c_syntax.specs.Tree as syntax
use Rattle.c_syntax.specs.Tree.{Ident, no_init, no_members, more_members, no_declarators, more_declarators}
use Rattle.c_tree.specs.declared.value.IntType.TheVariants.{Char, Uchar, Int, Uint}
use Rattle.c_tree.specs.Layout.{cells_of_all}
use Rattle.c_tree.specs.Tree.{CType, CTypes, void, integer, pointer, array, struct, function}

demand_gives : {A : Type 0} (t : Bool) (code at : ℕ) (a b : A) → demand t code at a ≡ fine b → a ≡ b
demand_gives true code at a b h = same_value a b h
demand_gives false code at a b h = absurd (not_fine _ _ b h)

-- ## A type

entry : (xs : List Struct) (s at : ℕ) (u : Met) → is_defined at (unwrap_or (slice_get xs s) incomplete) ≡ fine u → IsDefined (map types_of_struct xs) s
entry [] s at u h = absurd (not_fine _ _ u h)
entry (incomplete ∷ xs) zero at u h = absurd (not_fine _ _ u h)
entry (unknown_struct f fs ∷ xs) zero at u h = absurd (not_fine f fs u h)
entry (defined_struct ms ∷ xs) zero at u h = (map type_of_member ms, refl)
entry (x ∷ xs) (suc s) at u h = entry xs s at u h

module _ (env : Env) where
  -- the structs that objects of the type hold have definitions
  abbrev pub IsKnown : CType → Type 0
  IsKnown t = AllIn (IsDefined (layout_of env)) t

  -- so it is with an array's elements
  abbrev HasElements : CType → Type 0
  HasElements void = Unit {0}
  HasElements (integer i) = Unit {0}
  HasElements (pointer t) = Unit {0}
  HasElements (array t n) = IsKnown t
  HasElements (struct s) = Unit {0}
  HasElements (function t ts) = Unit {0}

  complete_known : (at : ℕ) (t : CType) (u : Met) → HasElements t → complete env at t ≡ fine u → IsKnown t
  complete_known at (array t n) u e h = e
  complete_known at (struct s) u e h = entry env.structs s at u h
  complete_known at t u e h = tt

  elements_of : (at : ℕ) (t : CType) (size : ℕ) (u : CType) → HasElements t → on (complete env at t) (λ _. within_parts at (array t size)) ≡ fine u → HasElements u
  elements_of at t size u e h =
      let w = on_fine (complete env at t) (λ _. within_parts at (array t size)) u h in
      subst HasElements (demand_gives (few_parts (array t size)) C13 at (array t size) u w.2) (complete_known at t w.0 e w.1)

  array_elements : (at : ℕ) (t : CType) (size : ℕ) (u : CType) → array_of env at t size ≡ fine u → HasElements u
  array_elements at void size u h = elements_of at void size u tt h
  array_elements at (integer i) size u h = elements_of at (integer i) size u tt h
  array_elements at (pointer t) size u h = elements_of at (pointer t) size u tt h
  array_elements at (array t n) size u h = absurd (not_fine _ _ u h)
  array_elements at (struct s) size u h = elements_of at (struct s) size u tt h
  array_elements at (function t ts) size u h = elements_of at (function t ts) size u tt h

  pointer_elements : (at : ℕ) (t u : CType) → pointer_to at t ≡ fine u → HasElements u
  pointer_elements at void u h = absurd (not_fine _ _ u h)
  pointer_elements at (integer i) u h = subst HasElements (demand_gives (few_parts (pointer (integer i))) C13 at (pointer (integer i)) u h) tt
  pointer_elements at (pointer t) u h = subst HasElements (demand_gives (few_parts (pointer (pointer t))) C13 at (pointer (pointer t)) u h) tt
  pointer_elements at (array t n) u h = absurd (not_fine _ _ u h)
  pointer_elements at (struct s) u h = subst HasElements (demand_gives (few_parts (pointer (struct s))) C13 at (pointer (struct s)) u h) tt
  pointer_elements at (function t ts) u h = subst HasElements (demand_gives (few_parts (pointer (function t ts))) C13 at (pointer (function t ts)) u h) tt

  function_elements : (at : ℕ) (t : CType) (ts : CTypes) (u : CType) → function_of at t ts ≡ fine u → HasElements u
  function_elements at t ts u h =
      let few = demand (nat_le (count ts) most_parameters) C13 at met in
      let w = on_fine (demand (is_result t) C3 at met) (λ _. on few (λ _. within_parts at (function t ts))) u h in
      let v = on_fine few (λ _. within_parts at (function t ts)) u w.2 in
      subst HasElements (demand_gives (few_parts (function t ts)) C13 at (function t ts) u v.2) tt

  declared_elements : (d : syntax.Declarator) (t u : CType) → HasElements t → declared env d t ≡ fine u → HasElements u
  declared_elements syntax.nothing t u e h = subst HasElements (same_value t u h) e
  declared_elements (syntax.named at x) t u e h = subst HasElements (same_value t u h) e
  declared_elements (syntax.pointer at d) t u e h =
      let w = on_fine (pointer_to at t) (declared env d) u h in declared_elements d w.0 u (pointer_elements at t w.0 w.1) w.2
  declared_elements (syntax.array at d size) t u e h =
      let w = on_fine (on (size_in env size) (array_of env at t)) (declared env d) u h in
      let v = on_fine (size_in env size) (array_of env at t) w.0 w.1 in
      declared_elements d w.0 u (array_elements at t v.0 w.0 v.2) w.2
  declared_elements (syntax.function at d ps) t u e h =
      let w = on_fine (on (parameters (inside env) 0 ps) (function_of at t)) (declared env d) u h in
      let v = on_fine (parameters (inside env) 0 ps) (function_of at t) w.0 w.1 in
      declared_elements d w.0 u (function_elements at t v.0 w.0 v.2) w.2

  spec_elements : (at : ℕ) (s : syntax.Spec) (t : CType) → type_of_spec env at s ≡ fine t → HasElements t
  spec_elements at syntax.void t h = subst HasElements (same_value void t h) tt
  spec_elements at syntax.char t h = subst HasElements (same_value (integer Char) t h) tt
  spec_elements at syntax.unsigned_char t h = subst HasElements (same_value (integer Uchar) t h) tt
  spec_elements at syntax.int t h = subst HasElements (same_value (integer Int) t h) tt
  spec_elements at syntax.unsigned_int t h = subst HasElements (same_value (integer Uint) t h) tt
  spec_elements at (syntax.struct x) t h = subst HasElements (demand_gives (not (is_among env.enums x.name)) C2 x.at (struct (tag_number env x.name)) t h) tt
  spec_elements at (syntax.enum x) t h = subst HasElements (demand_gives (is_among env.enums x.name) C1 at (integer Int) t h) tt

  type_elements : (at : ℕ) (s : syntax.Spec) (d : syntax.Declarator) (t : CType) → type_declared env at s d ≡ fine t → HasElements t
  type_elements at s d t h = let w = on_fine (type_of_spec env at s) (declared env d) t h in declared_elements d w.0 t (spec_elements at s w.0 w.1) w.2

  -- ## Members

  sized_same : (name : ℕ) (t u : CType) → with_size name no_init t ≡ fine u → t ≡ u
  sized_same name void u h = same_value void u h
  sized_same name (integer i) u h = same_value (integer i) u h
  sized_same name (pointer t) u h = same_value (pointer t) u h
  sized_same name (array t zero) u h = absurd (not_fine _ _ u h)
  sized_same name (array t (suc n)) u h = same_value (array t (suc n)) u h
  sized_same name (struct s) u h = same_value (struct s) u h
  sized_same name (function t ts) u h = same_value (function t ts) u h

  member_known : (place name : ℕ) (t u : CType) → HasElements t → member_typed env place name t ≡ fine u → IsKnown u
  member_known place name t u e h =
      let w = on_fine (with_size name no_init t) (λ v. gives (complete env place v) (λ _. v)) u h in
      let c = on_fine (complete env place w.0) (λ _. fine w.0) u w.2 in
      subst IsKnown (same_value w.0 u c.2) (complete_known place w.0 c.0 (subst HasElements (sized_same name t w.0 w.1) e) c.1)

  named_known : (earlier : List Name) (at : ℕ) (s : syntax.Spec) (d : syntax.Declarator) (o : Option Ident) (m : Member) → member_named env earlier at s d o ≡ fine m → IsKnown m.ctype
  named_known earlier at s d None m h = absurd (not_fine _ _ m h)
  named_known earlier at s d (Some x) m h =
      let w = parts_fine (new_member env earlier x) (on (type_declared env at s d) (member_typed env (place_or at d) x.at)) (λ _ t. fine (record { name = x.name; ctype = t })) m h in
      let t = on_fine (type_declared env at s d) (member_typed env (place_or at d) x.at) w.1 w.3 in
      subst IsKnown (ap (λ (n : Member). n.ctype) (same_value (record { name = x.name; ctype = w.1 }) m w.4)) (member_known (place_or at d) x.at t.0 w.1 (type_elements at s d t.0 t.1) t.2)

  abbrev AreKnown : List Member → Type 0
  AreKnown ms = AllInAll (IsDefined (layout_of env)) (map type_of_member ms)

  declared_known : (earlier : List Name) (at : ℕ) (s : syntax.Spec) (ds : syntax.Declarators) (ms : List Member) → members_declared env earlier at s ds ≡ fine ms → AreKnown ms
  declared_known earlier at s no_declarators ms h = subst AreKnown (same_value [] ms h) tt
  declared_known earlier at s (more_declarators d ds) ms h =
      let w = parts_fine (member_declared env earlier at s d) (members_declared env (with_option (name_of d) earlier) at s ds) (λ x xs. fine (x ∷ xs)) ms h in
      subst AreKnown (same_value (w.0 ∷ w.1) ms w.4) (named_known earlier at s d (name_of d) w.0 w.2, declared_known (with_option (name_of d) earlier) at s ds w.1 w.3)

  joined_known : (ms ns : List Member) → AreKnown ms → AreKnown ns → AreKnown (ms ++ ns)
  joined_known [] ns h k = k
  joined_known (m ∷ ms) ns h k = (h.0, joined_known ms ns h.1 k)

  members_known : (earlier : List Name) (listed : syntax.Members) (ms : List Member) → members env earlier listed ≡ fine ms → AreKnown ms
  members_known earlier no_members ms h = subst AreKnown (same_value [] ms h) tt
  members_known earlier (more_members at s ds rest) ms h =
      let w = parts_fine (members_declared env earlier at s ds) (members env (names_behind earlier ds) rest) (λ xs ys. fine (xs ++ ys)) ms h in
      subst AreKnown (same_value (w.0 ++ w.1) ms w.4) (joined_known w.0 w.1 (declared_known earlier at s ds w.0 w.2) (members_known (names_behind earlier ds) rest w.1 w.3))

  -- ## The struct

  same_members : (ms ns : List Member) → defined_struct ms ≡ defined_struct ns → ms ≡ ns
  same_members ms ns h = cc

  -- its members stand there, and their cells are within the limit
  laid_known : (x : Ident) (ms ns : List Member) (s : Struct) → struct_laid env x ms ≡ fine s → s ≡ defined_struct ns → AreKnown ms → AreKnown ns × (cells_of_all (layout_of env) (map type_of_member ns) ≤ most_cells)
  laid_known x ms ns s h is known =
      let first = demand (nat_le (length ms) most_members) C13 x.at met in
      let second = demand (nat_le (cells_of_all (layout_of env) (map type_of_member ms)) most_cells) C13 x.at met in
      let w = on_fine (and_also first second) (λ _. fine (defined_struct ms)) s h in
      let parts = parts_fine first second (λ _ _. fine met) w.0 w.1 in
      let few = at_most (cells_of_all (layout_of env) (map type_of_member ms)) most_cells (demand_met (nat_le (cells_of_all (layout_of env) (map type_of_member ms)) most_cells) C13 x.at met parts.1 parts.3) in
      subst (λ xs. AreKnown xs × (cells_of_all (layout_of env) (map type_of_member xs) ≤ most_cells)) (same_members ms ns (same_value (defined_struct ms) s w.2 ∙ is)) (known, few)

  pub struct_known : (x : Ident) (listed : syntax.Members) (ms : List Member) → struct_definition env x listed ≡ fine (defined_struct ms) → AllInAll (IsDefined (layout_of env)) (map type_of_member ms) × (cells_of_all (layout_of env) (map type_of_member ms) ≤ most_cells)
  struct_known x listed ms h =
      let outer = parts_fine (new_struct env x) (on (members env [] listed) (struct_laid env x)) (λ _ r. fine r) (defined_struct ms) h in
      let w = on_fine (members env [] listed) (struct_laid env x) outer.1 outer.3 in
      laid_known x w.0 ms outer.1 w.2 (same_value outer.1 (defined_struct ms) outer.4) (members_known [] listed w.0 w.1)
