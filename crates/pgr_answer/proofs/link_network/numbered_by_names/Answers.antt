use Rattle.pgr_answer.proofs.link_network.numbered_by_names.Goals as goal

pub numbered-requires : goal.numbered-requires
numbered-requires c = rw c.as_slice-2.ensures.value (rw c.as_slice.ensures.value at c.in_ok-names.ensures.named)
