-- What holds of a designator, of arguments and of what the instrumenter adds holds of the members of a marked call.
use Rattle.std.proofs.Common.{ℕ, suc, Bool, true, false, Option, None, Some}
use Rattle.dm_base.specs.Name.{IsName}
use Rattle.c_tree.specs.Tree.{CType}
use Rattle.c_syntax.specs.Tree.{Expr, a_name, call, Exprs, no_exprs, more_exprs}
use Rattle.c_syntax_printing.specs.Fine.{AreSeveral}
use Rattle.c_rules.specs.Names.{Name}
use Rattle.null_calls_laws.specs.MarkedCalls.{Called}
use Rattle.null_calls_laws.specs.Temporaries.{pre_name, post_name, designator_name, argument_name, result_name, is_kept}
use Rattle.null_calls_laws.specs.InstrumentedExpressions.{kept_in, keep_designator, keep_arguments, kept_arguments, kept_designator, null_call, call_and_post}
use Rattle.null_calls_laws.proofs.NamesAreIdentifiers.{pre_named, post_named, designator_named, argument_named, result_named}

-- the null call before the call, and what stands behind it
abbrev call_between : (at site : ℕ) → (wanted : Bool) → Called → Expr → Exprs → Exprs
call_between at site wanted c d es =
    more_exprs (null_call at pre_name site) (call_and_post at site (is_kept wanted c.returns) (call at (kept_designator at site c.pointer_type d) (kept_arguments at site 0 es)))

-- the members of a marked call
abbrev pub members_of_call : (at site : ℕ) → (wanted : Bool) → Called → Expr → Exprs → Exprs
members_of_call at site wanted c d es = keep_designator at site c.pointer_type d (keep_arguments at site 0 es (call_between at site wanted c d es))

module _ (P : Expr → Type 0) (All : Exprs → Type 0) (none : All no_exprs) (more : (e : Expr) (es : Exprs) → P e → All es → All (more_exprs e es)) (parts : (e : Expr) (es : Exprs) → All (more_exprs e es) → P e × All es) (called : (at : ℕ) (d : Expr) (es : Exprs) → P d → All es → P (call at d es)) (name : (at : ℕ) (x : Name) → IsName x → P (a_name at x)) (keep : (at : ℕ) (x : Name) (e : Expr) → IsName x → P e → P (kept_in at x e)) (at site : ℕ) (null : (x : Name) → IsName x → P (null_call at x site)) where
  kept : (i : ℕ) (es rest : Exprs) → All es → All rest → All (keep_arguments at site i es rest)
  kept i no_exprs rest h k = k
  kept i (more_exprs e es) rest h k =
      let b = parts e es h in
      more (kept_in at (argument_name site i) e) (keep_arguments at site (suc i) es rest) (keep at (argument_name site i) e (argument_named site i) b.0) (kept (suc i) es rest b.1 k)

  names : (i : ℕ) (es : Exprs) → All (kept_arguments at site i es)
  names i no_exprs = none
  names i (more_exprs e es) =
      more (a_name at (argument_name site i)) (kept_arguments at site (suc i) es) (name at (argument_name site i) (argument_named site i)) (names (suc i) es)

  post : (k : Bool) (e : Expr) → P e → All (call_and_post at site k e)
  post true e h =
      more (kept_in at (result_name site) e) (more_exprs (null_call at post_name site) (more_exprs (a_name at (result_name site)) no_exprs)) (keep at (result_name site) e (result_named site) h) (more (null_call at post_name site) (more_exprs (a_name at (result_name site)) no_exprs) (null post_name post_named) (more (a_name at (result_name site)) no_exprs (name at (result_name site) (result_named site)) none))
  post false e h =
      more e (more_exprs (null_call at post_name site) no_exprs) h (more (null_call at post_name site) no_exprs (null post_name post_named) none)

  designator : (o : Option CType) (d : Expr) (rest : Exprs) → P d → All rest → All (keep_designator at site o d rest)
  designator None d rest h k = k
  designator (Some t) d rest h k = more (kept_in at (designator_name site) d) rest (keep at (designator_name site) d (designator_named site) h) k

  kept_called : (o : Option CType) (d : Expr) → P d → P (kept_designator at site o d)
  kept_called None d h = h
  kept_called (Some t) d h = name at (designator_name site) (designator_named site)

  pub of_call : (wanted : Bool) (c : Called) (d : Expr) (es : Exprs) → P d → All es → All (members_of_call at site wanted c d es)
  of_call wanted c d es h k =
      let inner : Expr = call at (kept_designator at site c.pointer_type d) (kept_arguments at site 0 es) in
      let made = called at (kept_designator at site c.pointer_type d) (kept_arguments at site 0 es) (kept_called c.pointer_type d h) (names 0 es) in
      designator c.pointer_type d (keep_arguments at site 0 es (call_between at site wanted c d es)) h (kept 0 es (call_between at site wanted c d es) k (more (null_call at pre_name site) (call_and_post at site (is_kept wanted c.returns) inner) (null pre_name pre_named) (post (is_kept wanted c.returns) inner made)))

-- ## There are two of them and more

more_several : (x : Expr) (es : Exprs) → AreSeveral es → AreSeveral (more_exprs x es)
more_several x no_exprs h = absurd h
more_several x (more_exprs a es) h = tt

kept_several : (at site i : ℕ) (es rest : Exprs) → AreSeveral rest → AreSeveral (keep_arguments at site i es rest)
kept_several at site i no_exprs rest h = h
kept_several at site i (more_exprs e es) rest h = more_several (kept_in at (argument_name site i) e) (keep_arguments at site (suc i) es rest) (kept_several at site (suc i) es rest h)

pub several_of_call : (at site : ℕ) (wanted : Bool) (c : Called) (d : Expr) (es : Exprs) → AreSeveral (members_of_call at site wanted c d es)
several_of_call at site wanted c d es =
    by_designator c.pointer_type (keep_arguments at site 0 es (call_between at site wanted c d es)) (kept_several at site 0 es (call_between at site wanted c d es) (by_kept (is_kept wanted c.returns) _))
  where
    by_kept : (k : Bool) (e : Expr) → AreSeveral (more_exprs (null_call at pre_name site) (call_and_post at site k e))
    by_kept true e = tt
    by_kept false e = tt

    by_designator : (o : Option CType) (rest : Exprs) → AreSeveral rest → AreSeveral (keep_designator at site o d rest)
    by_designator None rest h = h
    by_designator (Some t) rest h = more_several (kept_in at (designator_name site) d) rest h
