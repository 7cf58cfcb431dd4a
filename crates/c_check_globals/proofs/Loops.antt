-- Members, declarators and items, one after another.
use Rattle.std.proofs.Common.{◌≡◌, ℕ, ◌+◌, ◌<◌, ◌≤◌, List, [], ◌∷◌, ◌++◌, length, drop, get_or, ap, sym, subst, ◌∙◌, append_assoc, append-nil}
use Rattle.std.proofs.lemmas.List.{drop_all}
use Rattle.c_check_units.specs.CheckError.{CheckError}
use Rattle.c_check_units.specs.Agreement.{Names}
use Rattle.c_check_units.proofs.PartsOfTypes.{at_place}
use Rattle.c_rules.specs.Checked.{Checked, fine, faults, both, gives}
use Rattle.c_rules.specs.Declarators.{name_of}
use Rattle.c_rules.specs.Items.{Output, no_output, with_output, member_declared, members_declared, members, with_option, names_behind, named_part, behind_file_part, after_file_part, file_parts, behind_file_parts, after_file_parts, item, behind_item, after_item, items, behind_items, after_items}
use Rattle.c_rules.specs.Names.{Name}
use Rattle.c_rules.specs.Scopes.{Env, Member, Before}
use Rattle.c_syntax.specs.declared.tree.Declarator.{Declarator as DeclaratorTree}
use Rattle.c_syntax.specs.declared.tree.DeclPart.{DeclPart}
use Rattle.c_syntax.specs.declared.tree.Item.{Item as ItemTree}
use Rattle.c_syntax.specs.declared.tree.Member.{Member as MemberTree}
use Rattle.c_syntax.specs.Tree.{Spec, Storage}
use Rattle.c_syntax.specs.UnitView.{declarators_of, maybe_init_of, members_of, parts_of, item_at, items_of}
use Rattle.c_syntax.specs.View.{declarator_of, spec_of}
use Rattle.c_check_units.proofs.OutputLemmas.{with_nothing}
use Rattle.c_check_globals.proofs.Turns.{given_twice, first_one, goes_on, fails, ends}

with_assoc : (p q r : Output) → with_output (with_output p q) r ≡ with_output p (with_output q r)
with_assoc p q r = λ i. record { functions = append_assoc p.functions q.functions r.functions i; statics = append_assoc p.statics q.statics r.statics i }

abbrev put : List Member → List Member → List Member
put a b = a ++ b

abbrev one : Member → List Member
one m = m ∷ []

put_assoc : (a b c : List Member) → put (put a b) c ≡ put a (put b c)
put_assoc a b c = append_assoc a b c

-- ## The members of one declaration

module _ (env : Env) (earlier : List Name) (at : ℕ) (s : Spec) (ds : List DeclaratorTree) (i : ℕ) (d : DeclaratorTree) (old : List Member) (all : Checked (List Member)) where
  abbrev rest : Checked (List Member)
  rest = members_declared env (with_option (name_of (declarator_of d)) earlier) at s (declarators_of (drop (i + 1) ds))

  abbrev listed : Checked (List Member)
  listed = members_declared env earlier at s (declarators_of (drop i ds))

  node : i < length ds → d ≡ get_or ds i d → listed ≡ both (gives (member_declared env earlier at s (declarator_of d)) one) rest (λ a b. fine (put a b))
  node lt is = ap (λ l. members_declared env earlier at s (declarators_of l)) (at_place ds i d lt is) ∙ first_one (member_declared env earlier at s (declarator_of d)) rest

  given : (r : Checked Member) → gives (gives r one) (put old) ≡ gives r (λ m. old ++ m ∷ [])
  given r = given_twice r one (put old)

  pub member_more : (env' : Env) (earlier' : List Name) (mid : List Member) → i < length ds → d ≡ get_or ds i d → all ≡ gives listed (put old) → gives (member_declared env earlier at s (declarator_of d)) (λ m. old ++ m ∷ []) ≡ fine mid
      → earlier' ≡ with_option (name_of (declarator_of d)) earlier → env' ≡ env → all ≡ gives (members_declared env' earlier' at s (declarators_of (drop (i + 1) ds))) (put mid)
  member_more env' earlier' mid lt is before step named same =
      goes_on put put_assoc old mid all listed (gives (member_declared env earlier at s (declarator_of d)) one) rest before (node lt is) (given (member_declared env earlier at s (declarator_of d)) ∙ step)
      ∙ (λ j. gives (members_declared (sym same j) (sym named j) at s (declarators_of (drop (i + 1) ds))) (put mid))

  pub member_fails : (e : CheckError) → i < length ds → d ≡ get_or ds i d → all ≡ gives listed (put old) → Names e (faults (gives (member_declared env earlier at s (declarator_of d)) (λ m. old ++ m ∷ []))) → Names e (faults all)
  member_fails e lt is before h =
      fails put e old all listed (gives (member_declared env earlier at s (declarator_of d)) one) rest before (node lt is) (subst (λ r. Names e (faults r)) (sym (given (member_declared env earlier at s (declarator_of d)))) h)

  pub names_more : (earlier' names : List Name) → i < length ds → d ≡ get_or ds i d → names ≡ names_behind earlier (declarators_of (drop i ds)) → earlier' ≡ with_option (name_of (declarator_of d)) earlier → names ≡ names_behind earlier' (declarators_of (drop (i + 1) ds))
  names_more earlier' names lt is before named =
      before ∙ (ap (λ l. names_behind earlier (declarators_of l)) (at_place ds i d lt is) ∙ (λ j. names_behind (sym named j) (declarators_of (drop (i + 1) ds))))

-- ## The members of a struct

module _ (env : Env) (earlier : List Name) (ms : List MemberTree) (i : ℕ) (m : MemberTree) (old : List Member) (all : Checked (List Member)) where
  abbrev own : Checked (List Member)
  own = members_declared env earlier m.at (spec_of m.spec) (declarators_of m.declarators.items)

  abbrev further : Checked (List Member)
  further = members env (names_behind earlier (declarators_of m.declarators.items)) (members_of (drop (i + 1) ms))

  abbrev left : Checked (List Member)
  left = members env earlier (members_of (drop i ms))

  members_node : i < length ms → m ≡ get_or ms i m → left ≡ both own further (λ a b. fine (put a b))
  members_node lt is = ap (λ l. members env earlier (members_of l)) (at_place ms i m lt is)

  pub members_more : (env' : Env) (earlier' : List Name) (mid : List Member) → i < length ms → m ≡ get_or ms i m → all ≡ gives left (put old) → gives own (put old) ≡ fine mid → earlier' ≡ names_behind earlier (declarators_of m.declarators.items) → env' ≡ env
      → all ≡ gives (members env' earlier' (members_of (drop (i + 1) ms))) (put mid)
  members_more env' earlier' mid lt is before step named same =
      goes_on put put_assoc old mid all left own further before (members_node lt is) step ∙ (λ j. gives (members (sym same j) (sym named j) (members_of (drop (i + 1) ms))) (put mid))

  pub members_fail : (e : CheckError) → i < length ms → m ≡ get_or ms i m → all ≡ gives left (put old) → Names e (faults (gives own (put old))) → Names e (faults all)
  members_fail e lt is before h = fails put e old all left own further before (members_node lt is) h

-- ## The declarators of a declaration at file scope

module _ (env : Env) (b : Before) (at : ℕ) (class : Storage) (s : Spec) (ps : List DeclPart) (i : ℕ) (p : DeclPart) where
  abbrev part : Checked Output
  part = named_part env b at class s (declarator_of p.declarator) (maybe_init_of p.init) (name_of (declarator_of p.declarator))

  abbrev env_behind : Env
  env_behind = behind_file_part env b at class s (declarator_of p.declarator) (maybe_init_of p.init)

  abbrev before_behind : Before
  before_behind = after_file_part env b at class s (declarator_of p.declarator) (maybe_init_of p.init)

  abbrev others : Checked Output
  others = file_parts env_behind before_behind at class s (parts_of (drop (i + 1) ps))

  abbrev these : Checked Output
  these = file_parts env b at class s (parts_of (drop i ps))

  parts_node : i < length ps → p ≡ get_or ps i p → these ≡ both part others (λ x y. fine (with_output x y))
  parts_node lt is = ap (λ l. file_parts env b at class s (parts_of l)) (at_place ps i p lt is)

  pub part_more : (env' : Env) (b' : Before) (old mid : Output) (all : Checked Output) → i < length ps → p ≡ get_or ps i p → all ≡ gives these (with_output old) → gives part (with_output old) ≡ fine mid → env' ≡ env_behind → b' ≡ before_behind
      → all ≡ gives (file_parts env' b' at class s (parts_of (drop (i + 1) ps))) (with_output mid)
  part_more env' b' old mid all lt is before step next counted =
      goes_on with_output with_assoc old mid all these part others before (parts_node lt is) step ∙ (λ j. gives (file_parts (sym next j) (sym counted j) at class s (parts_of (drop (i + 1) ps))) (with_output mid))

  pub part_fails : (e : CheckError) (old : Output) (all : Checked Output) → i < length ps → p ≡ get_or ps i p → all ≡ gives these (with_output old) → Names e (faults (gives part (with_output old))) → Names e (faults all)
  part_fails e old all lt is before h = fails with_output e old all these part others before (parts_node lt is) h

  pub part_behind : (env' listed : Env) (b' : Before) → i < length ps → p ≡ get_or ps i p → listed ≡ behind_file_parts env b at class s (parts_of (drop i ps)) → env' ≡ env_behind → b' ≡ before_behind
      → listed ≡ behind_file_parts env' b' at class s (parts_of (drop (i + 1) ps))
  part_behind env' listed b' lt is before next counted =
      before ∙ (ap (λ l. behind_file_parts env b at class s (parts_of l)) (at_place ps i p lt is) ∙ (λ j. behind_file_parts (sym next j) (sym counted j) at class s (parts_of (drop (i + 1) ps))))

  pub part_after : (env' : Env) (b' listed : Before) → i < length ps → p ≡ get_or ps i p → listed ≡ after_file_parts env b at class s (parts_of (drop i ps)) → env' ≡ env_behind → b' ≡ before_behind
      → listed ≡ after_file_parts env' b' at class s (parts_of (drop (i + 1) ps))
  part_after env' b' listed lt is before next counted =
      before ∙ (ap (λ l. after_file_parts env b at class s (parts_of l)) (at_place ps i p lt is) ∙ (λ j. after_file_parts (sym next j) (sym counted j) at class s (parts_of (drop (i + 1) ps))))

-- ## Items

module _ (env : Env) (b : Before) (is : List ItemTree) (i : ℕ) (x : ItemTree) where
  abbrev tree : Checked Output
  tree = item env b (item_at x.at x.kind)

  abbrev env_past : Env
  env_past = behind_item env b (item_at x.at x.kind)

  abbrev before_past : Before
  before_past = after_item env b (item_at x.at x.kind)

  abbrev later : Checked Output
  later = items env_past before_past (items_of (drop (i + 1) is))

  abbrev now : Checked Output
  now = items env b (items_of (drop i is))

  items_node : i < length is → x ≡ get_or is i x → now ≡ both tree later (λ p q. fine (with_output p q))
  items_node lt at = ap (λ l. items env b (items_of l)) (at_place is i x lt at)

  pub item_more : (env' : Env) (b' : Before) (old mid : Output) (all : Checked Output) → i < length is → x ≡ get_or is i x → all ≡ gives now (with_output old) → gives tree (with_output old) ≡ fine mid → env' ≡ env_past → b' ≡ before_past
      → all ≡ gives (items env' b' (items_of (drop (i + 1) is))) (with_output mid)
  item_more env' b' old mid all lt at before step next counted =
      goes_on with_output with_assoc old mid all now tree later before (items_node lt at) step ∙ (λ j. gives (items (sym next j) (sym counted j) (items_of (drop (i + 1) is))) (with_output mid))

  pub item_fails : (e : CheckError) (old : Output) (all : Checked Output) → i < length is → x ≡ get_or is i x → all ≡ gives now (with_output old) → Names e (faults (gives tree (with_output old))) → Names e (faults all)
  item_fails e old all lt at before h = fails with_output e old all now tree later before (items_node lt at) h

  pub item_behind : (env' listed : Env) (b' : Before) → i < length is → x ≡ get_or is i x → listed ≡ behind_items env b (items_of (drop i is)) → env' ≡ env_past → b' ≡ before_past → listed ≡ behind_items env' b' (items_of (drop (i + 1) is))
  item_behind env' listed b' lt at before next counted =
      before ∙ (ap (λ l. behind_items env b (items_of l)) (at_place is i x lt at) ∙ (λ j. behind_items (sym next j) (sym counted j) (items_of (drop (i + 1) is))))

  pub item_after : (env' : Env) (b' listed : Before) → i < length is → x ≡ get_or is i x → listed ≡ after_items env b (items_of (drop i is)) → env' ≡ env_past → b' ≡ before_past → listed ≡ after_items env' b' (items_of (drop (i + 1) is))
  item_after env' b' listed lt at before next counted =
      before ∙ (ap (λ l. after_items env b (items_of l)) (at_place is i x lt at) ∙ (λ j. after_items (sym next j) (sym counted j) (items_of (drop (i + 1) is))))

-- ## Ends

pub member_end : (env : Env) (earlier : List Name) (at : ℕ) (s : Spec) (ds : List DeclaratorTree) (i : ℕ) (old : List Member) (all : Checked (List Member)) → length ds ≤ i → all ≡ gives (members_declared env earlier at s (declarators_of (drop i ds))) (put old) → all ≡ fine old
member_end env earlier at s ds i old all over before =
    ends put old [] all (members_declared env earlier at s (declarators_of (drop i ds))) before (ap (λ l. members_declared env earlier at s (declarators_of l)) (drop_all i ds over)) (append-nil old)

pub names_end : (earlier names : List Name) (ds : List DeclaratorTree) (i : ℕ) → length ds ≤ i → names ≡ names_behind earlier (declarators_of (drop i ds)) → names ≡ earlier
names_end earlier names ds i over before = before ∙ ap (λ l. names_behind earlier (declarators_of l)) (drop_all i ds over)

pub members_end : (env : Env) (earlier : List Name) (ms : List MemberTree) (i : ℕ) (old : List Member) (all : Checked (List Member)) → length ms ≤ i → all ≡ gives (members env earlier (members_of (drop i ms))) (put old) → all ≡ fine old
members_end env earlier ms i old all over before =
    ends put old [] all (members env earlier (members_of (drop i ms))) before (ap (λ l. members env earlier (members_of l)) (drop_all i ms over)) (append-nil old)

module _ (env : Env) (b : Before) (at : ℕ) (class : Storage) (s : Spec) (ps : List DeclPart) (i : ℕ) where
  pub parts_end : (old : Output) (all : Checked Output) → length ps ≤ i → all ≡ gives (file_parts env b at class s (parts_of (drop i ps))) (with_output old) → all ≡ fine old
  parts_end old all over before =
      ends with_output old no_output all (file_parts env b at class s (parts_of (drop i ps))) before (ap (λ l. file_parts env b at class s (parts_of l)) (drop_all i ps over)) (with_nothing old)

  pub behind_end : (last : Env) → length ps ≤ i → last ≡ behind_file_parts env b at class s (parts_of (drop i ps)) → last ≡ env
  behind_end last over before = before ∙ ap (λ l. behind_file_parts env b at class s (parts_of l)) (drop_all i ps over)

  pub after_end : (last : Before) → length ps ≤ i → last ≡ after_file_parts env b at class s (parts_of (drop i ps)) → last ≡ b
  after_end last over before = before ∙ ap (λ l. after_file_parts env b at class s (parts_of l)) (drop_all i ps over)

module _ (env : Env) (b : Before) (is : List ItemTree) (i : ℕ) where
  pub items_end : (old : Output) (all : Checked Output) → length is ≤ i → all ≡ gives (items env b (items_of (drop i is))) (with_output old) → all ≡ fine old
  items_end old all over before = ends with_output old no_output all (items env b (items_of (drop i is))) before (ap (λ l. items env b (items_of l)) (drop_all i is over)) (with_nothing old)

  pub past_end : (last : Env) → length is ≤ i → last ≡ behind_items env b (items_of (drop i is)) → last ≡ env
  past_end last over before = before ∙ ap (λ l. behind_items env b (items_of l)) (drop_all i is over)

  pub counted_end : (last : Before) → length is ≤ i → last ≡ after_items env b (items_of (drop i is)) → last ≡ b
  counted_end last over before = before ∙ ap (λ l. after_items env b (items_of l)) (drop_all i is over)
