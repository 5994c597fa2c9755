-- `buffer`: one byte more than the longest sheet has. The lemma's arguments are written out, so that the zeros are not counted one by one.
use Rattle.std.proofs.Common.{ℕ, ◌+◌, sym}
use Rattle.std.proofs.lemmas.List.{length-replicate}
use Rattle.sheet.specs.Rule.{longest, record_size}
use Rattle.reader.proofs.store.buffer.Goals as goal

pub returns : goal.returns
unfolding record_size
returns c = sym (length-replicate {A = ℕ} (longest + 1) 0)
