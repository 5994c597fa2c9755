-- What the code makes of a tag and its number is what the rule says of them. Assumes nothing.
use mathlib.Core.Path.{◌≡◌, ap, ◌∙◌}
use mathlib.Core.Bool.{true, false}
use mathlib.Core.Logic.{⊎_elim}
use Prim.Native.Nat.{ℕ}
use Rattle.laws.specs.Tests.{true-or-false}
use Rattle.laws.specs.Lists.{among}
use Rattle.records.specs.Rule.{Tags, Fault, tagged_fault}
use Rattle.records.specs.Answer.{use_of, use_fault}
use Rattle.records.specs.declared.tags.Use.{Use}

pub use-fault-is-tagged-fault : (tags : Tags) (tag n place : ℕ) → use_fault (use_of tags tag) n place ≡ tagged_fault tags tag n place
unfolding tagged_fault
use-fault-is-tagged-fault tags tag n place =
    ⊎_elim
    (λ (e : among tags.carrying tag ≡ true). rw e)
    (λ (e : among tags.carrying tag ≡ false).
    ⊎_elim
    (λ (f : among tags.bare tag ≡ true). rw (e, f))
    (λ (f : among tags.bare tag ≡ false). rw (e, f))
    (true-or-false (among tags.bare tag)))
    (true-or-false (among tags.carrying tag))

-- the same of what a look at a tag found
pub tagged-fault-of-use : (tags : Tags) (tag n place : ℕ) (u : Use) (f : Fault) → f ≡ use_fault u n place → u ≡ use_of tags tag → f ≡ tagged_fault tags tag n place
tagged-fault-of-use tags tag n place u f p q = p ∙ ap (λ (v : Use). use_fault v n place) q ∙ use-fault-is-tagged-fault tags tag n place
