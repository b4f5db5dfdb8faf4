use Rattle.std.proofs.Common.{rules, refl, inl, inr}
use Rattle.pgr_outside.proofs.FailingCalls.{Contains-found}
use Rattle.pgr_outside.proofs.FilesByName.{ReadsAt-copy}
use Rattle.pgr_outside.proofs.memory_store.MemoryStoreStore.read_at.Goals as goal
use Rattle.pgr_outside.proofs.memory_store.MemoryStoreStore.read_at.Goals.{in_default-via-in-Some+else-not-is_to_fail, in_default-via-in_default}

pub returns-in-Some-clause-bytes : goal.returns-in-Some-clause-bytes
returns-in-Some-clause-bytes c =
    ReadsAt-copy _ c.in-Some.bytes.now c.args.buf.now c.copy_front.new.buf c.args.at c.self.inside.most _ (search rules) c.self.invariant (search rules) (search rules)
    (search rules)

pub returns-in_default-clause-fails : goal.returns-in_default-clause-fails
returns-in_default-clause-fails c = (
  λ _. elim c.in_default.branch [
    | in_default-via-in-Some+else-not-is_to_fail w ↦
        inl (Contains-found _ _ _ _ _ c.contains-is_to_fail.ensures.cases (search rules) (search rules) (search rules))
    | in_default-via-in_default w ↦ inr (search rules)
  ],
  λ _. refl,
)
