-- An accepted list's jobs are proper, and of proper jobs all is promised. Rests on image's AcceptedList and promises' Main.
use Rattle.std.specs.Prelude.{ℕ, List}
use Rattle.image.proofs.AcceptedList.{accepted_jobs}
use Rattle.promises.proofs.Main.{document_promised}
use Rattle.lists.specs.Lists.{ListPromised}

pub list_promised : (s : List ℕ) → ListPromised s
list_promised s b e = document_promised _ (accepted_jobs s b e).proper
