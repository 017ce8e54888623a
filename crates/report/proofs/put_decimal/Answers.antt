-- The digits that were counted are those that are written.
use Rattle.std.proofs.Common.{◌≡◌, ◌+◌, ◌-◌, ap, ◌∙◌, length, take, drop, length-take, length-drop, arith, rules}
use Rattle.octets.specs.Overwrite.{overwrite}
use Rattle.octets.proofs.Overwrite.{part≡overwrite}
use Rattle.report.specs.Text.{decimal_digits, decimal_text}
use Rattle.report.proofs.Text.{length-decimal_text}
use Rattle.report.proofs.put_decimal.Goals as goal

pub slice_bounds-write_digits-end : goal.slice_bounds-write_digits-end
slice_bounds-write_digits-end c = omega (arith, length-decimal_text c.args.value)

pub returns : goal.returns
unfolding decimal_digits decimal_text
returns c =
    let a = c.args in
    let n = c.digit_count.result in
    let count : n ≡ length (decimal_text a.value) = omega (arith, length-decimal_text a.value) in
    let size : length (take (a.at + n - a.at) (drop a.at a.out.now)) ≡ length (decimal_text a.value) = simp (length-take, length-drop) (omega arith) in
    let text : c.write_digits.new.text ≡ decimal_text a.value =
    c.write_digits.ensures (λ d. 48 + d) (λ d r small e. search rules) ∙ ap (λ k. decimal_digits k a.value) (size ∙ length-decimal_text a.value) in
    (ap (λ k. a.at + k) count, part≡overwrite a.out.now a.at (a.at + n - a.at) c.write_digits.new.text (ap length text ∙ omega arith) ∙ ap (overwrite a.out.now a.at) text)
