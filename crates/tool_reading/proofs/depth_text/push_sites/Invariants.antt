use Rattle.std.proofs.Common.{◌≡◌, ◌∷◌, ◌++◌, take, flat_map, decimal}
use Rattle.tool_reading.proofs.depth_text.push_sites.Given as goal

abbrev pub invariant-loop-site : goal.invariant-loop-site
invariant-loop-site l = l.text.items ≡ l.fn.text.items ++ flat_map (λ s. 32 ∷ decimal s) (take l.site-index l.sites)
