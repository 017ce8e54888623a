-- The front of the digits, as many as were written, is the number's text.
use Rattle.std.proofs.Common.{◌≡◌, ℕ, ◌+◌, ◌≤◌, List, length, length-take, take, zero-add, arith}
use Rattle.octets.specs.Overwrite.{overwrite}
use Rattle.octets.proofs.Overwrite.{overwrite-there}
use Rattle.report.specs.Text.{decimal_text}
use Rattle.report.proofs.Text.{length-decimal_text≤20}
use Rattle.script.proofs.Output.put_decimal.Goals as goal

text_in-front :
    (l m text : List ℕ) (n : ℕ) → length text ≤ length l → (n ≡ 0 + length text) × (m ≡ overwrite l 0 text) → take n m ≡ text
text_in-front l m text n fits written =
    rw (written.1, written.0, zero-add) (overwrite-there l 0 text (rw zero-add fits))

pub put_decimal-n-requires : goal.put_decimal-n-requires
put_decimal-n-requires g c = omega (arith, length-decimal_text≤20 c.args.v)

pub slice_bounds-digits-end : goal.slice_bounds-digits-end
slice_bounds-digits-end g c = omega (arith, length-decimal_text≤20 c.args.v)

pub slice_bounds-put_bytes-end : goal.slice_bounds-put_bytes-end
slice_bounds-put_bytes-end g c = omega (arith, length-decimal_text≤20 c.args.v, length-take {A = ℕ})

pub returns-clause-held_after : goal.returns-clause-held_after
returns-clause-held_after g c =
    let v = c.args.v in
    let text = text_in-front _ _ (decimal_text v) _ (length-decimal_text≤20 v) c.put_decimal-n.ensures in
    rw text at c.put_bytes.ensures.held_after

pub returns-clause-written : goal.returns-clause-written
returns-clause-written g c =
    let v = c.args.v in
    let text = text_in-front _ _ (decimal_text v) _ (length-decimal_text≤20 v) c.put_decimal-n.ensures in
    rw text at c.put_bytes.ensures.written
