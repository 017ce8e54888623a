-- The groups, every carry added in, with the octets swapped.
use mathlib.Core.Path.{sym, ◌∙◌}
use Rattle.checksum.proofs.Reduced.{swapped≡reduced}
use Rattle.checksum.proofs.Groups.{ones_sum≡reduced-groups}
use Rattle.checksum.proofs.ones_sum.Goals as goal

pub returns : goal.returns
returns c =
    c.swap_bytes.ensures
    ∙ swapped≡reduced c.group_sum.result c.carries_added.result c.carries_added.ensures
    ∙ rw c.group_sum.ensures.0 (sym (ones_sum≡reduced-groups c.args.s.now λ i. (c.type_inv.s i).fits))
