use Rattle.std.proofs.Common.{ap, sym, subst, arith, length}
use Rattle.c_tree.specs.View.{ctype_of}
use Rattle.dm_base.specs.Adding.{Adds}
use Rattle.flow_graph.specs.Saying.{mention_of}
use Rattle.flow_graph.specs.Types.{types_at, first_place, IsThrough}
use Rattle.flow_graph.proofs.TypesLemmas.{types_many}
use Rattle.flow_graph.proofs.NamingLemmas.{adds_type, adds_known_type}
use Rattle.flow_graph.proofs.types.add_type.Goals as goal

pub returns-then-place_of-len : goal.returns-then-place_of-len
returns-then-place_of-len c = let m = types_many c.args.types.now.items in let e = ap (λ ts. first_place (ctype_of c.in-Through.ctype.now) (types_at ts)) c.deref.ensures.value in let l = ap length c.deref.ensures.value in adds_known_type (types_at c.args.types.now.items) (ctype_of c.in-Through.ctype.now) (mention_of c.args.m.now) c.in-Through.site (ap mention_of c.in-Through.is) (omega (arith, m, e, l, c.deref.ensures.len, c.place_of.ensures, c.if-place_of-len.true, c.len.ensures))

pub returns-in_ok-push-in-Through : goal.returns-in_ok-push-in-Through
returns-in_ok-push-in-Through c = subst (λ xs. Adds (types_at c.args.types.now.items) (types_at xs) (λ u. IsThrough u (mention_of c.args.m.now))) (sym c.in_ok-push-in-Through.ensures.items) (adds_type c.args.types.now.items c.in-Through.ctype (mention_of c.args.m.now) c.in-Through.site (ap mention_of c.in-Through.is))
