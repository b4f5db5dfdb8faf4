use Rattle.pgr_numbers.proofs.Slots.{links_in-listed}
use Rattle.pgr_numbers.proofs.link_source.ListedLinks.of.Goals as goal

pub returns-clause-links : goal.returns-clause-links
returns-clause-links c = links_in-listed c.args.links.now
