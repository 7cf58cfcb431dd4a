-- What the code's mentions stand for.
use Rattle.std.specs.Prelude.{List, map}
use Rattle.c_tree.specs.View.{ctype_of}
use Rattle.c_meaning.specs.Mentions as term
use Rattle.c_meaning.specs.Mentions.{Direct, Through}
use Rattle.flow_graph.specs.declared.mention.Mention.{Mention}
use Rattle.flow_graph.specs.declared.mention.Mention.TheVariants as m

abbrev pub mention_of : Mention → term.Mention
mention_of (m.Named f) = term.Named f
mention_of (m.Direct s f) = term.Calls s (Direct f)
mention_of (m.Through s t) = term.Calls s (Through (ctype_of t.now))

abbrev pub said : List Mention → List term.Mention
said ms = map mention_of ms
