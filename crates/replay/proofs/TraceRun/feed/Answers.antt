-- The rest of the piece, from the memory so far, comes to the same as the piece from the memory at entry.
use Rattle.std.proofs.Common.{◌≡◌, ◌+◌, ◌-◌, ◌<◌, length, take, drop, length-drop, take_all, sym, ap, ◌∙◌, arith}
use Rattle.replay.specs.Feed.{with_line, after_piece}
use Rattle.replay.specs.Run.{memory_of}
use Rattle.replay.proofs.Line.{after_piece-line, after_piece-end, after_piece-newline}
use Rattle.replay.proofs.TraceRun.feed.Goals as goal

pub returns-then-end-rest-clause-result_after : goal.returns-then-end-rest-clause-result_after
returns-then-end-rest-clause-result_after c =
    let l = c.loop-rest in
    let kept = after_piece-line (memory_of l.self) l.rest.now c.before_newline-end.result (omega arith) c.before_newline-end.ensures.0 in
    c.keep.ensures.result_after ∙ sym (after_piece-end _ l.rest.now c.before_newline-end.result (omega arith)) ∙ sym kept ∙ l.invariant.rest

pub loop-rest-preserved : goal.loop-rest-preserved
unfolding with_line
loop-rest-preserved c =
    let l = c.loop-rest in
    let end = c.before_newline-end.result in
    let rest = l.rest.now in
    let found = c.before_newline-end.ensures.0 in
    let inside : c.before_newline-end.result < length l.rest.now = omega arith in
    let left : take (length l.rest.now - (c.before_newline-end.result + 1)) (drop (c.before_newline-end.result + 1) l.rest.now) ≡ drop (c.before_newline-end.result + 1) l.rest.now =
    take_all _ _ (simp length-drop (omega arith)) in
    let kept = after_piece-line (memory_of l.self) rest end (omega arith) found in
    let ended =
    ap (λ m. after_piece m (drop (end + 1) rest)) c.end_line.ensures.result_after
    ∙ sym (after_piece-newline (memory_of c.keep.new.self) rest end found inside)
    ∙ ap (λ m. after_piece m (drop end rest)) c.keep.ensures.result_after
    ∙ sym kept
    ∙ l.invariant.rest in
    let kept_used = ap (λ m. m.progress.used) c.keep.ensures.result_after in
    let kept_out = ap (λ m. length m.out) c.keep.ensures.result_after in
    let short : length (drop (c.before_newline-end.result + 1) l.rest.now) + c.before_newline-end.result + 1 ≡ length l.rest.now = simp length-drop (omega arith) in
    record {
      out_room = c.end_line.ensures.same_room ∙ kept_out ∙ l.invariant.out_room;
      used = rw left (omega (arith, short, kept_used, kept_out));
      rest = rw left ended;
    }
