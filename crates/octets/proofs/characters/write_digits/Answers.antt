-- Writing the i digits of what is left makes the text that writing all digits would have made.
use Rattle.std.proofs.Common.{◌≡◌, ◌%◌, ◌<◌, sym, ◌∙◌, arith}
use native.Mathlib.Nat.{mod-lt, zero-add}
use Rattle.octets.specs.Digits.{digits}
use Rattle.octets.proofs.Overwrite.{overwrite-nothing, overwrite-all}
use Rattle.octets.proofs.Text.{length-map-digits, overwrite-map-digits}
use Rattle.octets.proofs.characters.write_digits.Goals as goal

pub loop-i-init : goal.loop-i-init
loop-i-init g c char acts = overwrite-all c.args.text.now _ (length-map-digits char g.row.BASE _ _)

pub loop-i-preserved : goal.loop-i-preserved
loop-i-preserved g c char acts =
    let l = c.loop-i in
    let small : l.left % g.row.BASE < g.row.BASE = mod-lt l.left (omega arith) in
    rw (acts _ _ small c.character.ensures)
    (rw zero-add at (overwrite-map-digits char g.row.BASE l.text 0 l.i l.left (omega arith) (omega arith))
    ∙ l.invariant char acts)

pub returns : goal.returns
unfolding digits
returns g c char acts =
    let l = c.loop-i in
    let done : l.i ≡ 0 = omega arith in
    sym (overwrite-nothing l.text 0) ∙ rw done at (l.invariant char acts)
