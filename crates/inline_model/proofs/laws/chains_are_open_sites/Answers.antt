use Rattle.inline_model.proofs.ChainLemmas.{greatest_excludes}
use Rattle.inline_model.proofs.DepthLemmas.{chain_word, open_sites, greatest_depth, no_greatest_depth}
use Rattle.inline_model.proofs.laws.chains_are_open_sites.Goals as goal

pub returns : goal.returns
returns c = record {
  excluded = greatest_excludes;
  words = λ g valid sites chain. chain_word valid sites chain;
  open_sites = open_sites;
  greatest = greatest_depth;
  unbounded = no_greatest_depth;
}
