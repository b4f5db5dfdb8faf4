use Rattle.pgr_outside.proofs.FilesByName.{content_of-Contains, content_of-absent}
use Rattle.pgr_outside.proofs.memory_store.MemoryStore.new.Goals as goal

pub returns-clause-told : goal.returns-clause-told
returns-clause-told c = λ name bytes given. content_of-Contains _ name bytes c.requires.names given

pub returns-clause-untold : goal.returns-clause-untold
returns-clause-untold c = λ name absent. content_of-absent _ name absent
