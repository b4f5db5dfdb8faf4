use Rattle.pgr_numbers.proofs.Walks.{once_numbered, once_named, Fits-numbered}
use Rattle.pgr_numbers.proofs.laws.numbered_links_fit.Goals as goal

pub returns-clause-repeats : goal.returns-clause-repeats
returns-clause-repeats c = λ names links numbers numbered.
    (once_numbered names links numbers numbered, once_named names links numbers numbered)

pub returns-clause-fits : goal.returns-clause-fits
returns-clause-fits c = λ names links numbers numbered. Fits-numbered names links numbers numbered
