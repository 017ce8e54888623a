use Rattle.std.proofs.Common.{ℕ, length-append, refl, sym, ap, ◌∙◌, arith}
use Rattle.std.proofs.lemmas.Bool.{false≢true}
use Rattle.std.proofs.lemmas.List.{take_all}
use Rattle.report.specs.Text.{decimal_text}
use Rattle.script.specs.Output.{with_bytes}
use Rattle.script.specs.Fields.{spaced, fields_text}
use Rattle.script.proofs.Collected.{with_bytes-append, with_bytes-spaced-next, next_number-fits, length-with_byte}
use Rattle.script.proofs.Written.{Appends-then, put_spaced-none, put_spaced-next, put_spaced-all}
use Rattle.script.proofs.Output.put_fields.Goals as goal

pub loop-v-init : goal.loop-v-init
unfolding with_bytes spaced
loop-v-init g c = record { held = refl; written = put_spaced-none _ c.args.rest.now }

pub loop-v-preserved : goal.loop-v-preserved
loop-v-preserved g c =
    let rest = c.args.rest.now in
    let l = c.loop-v in
    let space = c.in_ok-put.ensures in
    let number = c.in_ok-put_decimal-2.ensures in
    record {
      held = with_bytes-spaced-next _ _ _ _ rest l.v-index (omega arith) l.invariant.held space.held_after number.held_after;
      written = put_spaced-next _ _ _ _ rest l.v-index (omega arith) l.invariant.written space.written number.written;
    }

pub returns-clause-held_after : goal.returns-clause-held_after
unfolding fields_text
returns-clause-held_after g c =
    let rest = c.args.rest.now in
    let l = c.loop-v in
    let all = take_all l.v-index rest (omega arith) in
    rw all at l.invariant.held
    ∙ ap (λ held. with_bytes held (spaced rest)) c.in_ok-put_decimal.ensures.held_after
    ∙ sym (with_bytes-append c.args.self.now.held.items (decimal_text c.args.first) (spaced rest))

pub returns-clause-written : goal.returns-clause-written
unfolding fields_text
returns-clause-written g c =
    let rest = c.args.rest.now in
    let l = c.loop-v in
    Appends-then _ _ _ (decimal_text c.args.first) (spaced rest) c.in_ok-put_decimal.ensures.written (put_spaced-all _ _ rest l.v-index (omega arith) l.invariant.written)

pub returns-in_err-put_decimal-clause-fits : goal.returns-in_err-put_decimal-clause-fits
unfolding fields_text
returns-in_err-put_decimal-clause-fits g c = λ room. absurd (false≢true (c.in_err-put_decimal.ensures.fits (omega (arith, length-append {A = ℕ}))))

pub returns-in_err-put-clause-fits : goal.returns-in_err-put-clause-fits
returns-in_err-put-clause-fits g c = λ room.
    let a = c.args in
    let l = c.loop-v in
    let next = next_number-fits a.self.now.held.items _ _ a.first a.rest.now l.v-index (omega arith) room c.in_ok-put_decimal.ensures.held_after l.invariant.held in
    absurd (false≢true (c.in_err-put.ensures.fits (omega arith)))

pub returns-in_err-put_decimal-2-clause-fits : goal.returns-in_err-put_decimal-2-clause-fits
returns-in_err-put_decimal-2-clause-fits g c = λ room.
    let a = c.args in
    let l = c.loop-v in
    let next = next_number-fits a.self.now.held.items _ _ a.first a.rest.now l.v-index (omega arith) room c.in_ok-put_decimal.ensures.held_after l.invariant.held in
    let space = length-with_byte _ _ 32 (omega arith) c.in_ok-put.ensures.held_after in
    absurd (false≢true (c.in_err-put_decimal-2.ensures.fits (omega arith)))
