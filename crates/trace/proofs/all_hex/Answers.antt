-- The worst byte is 0 only if each byte is a hex digit.
use Rattle.std.proofs.Common.{◌≡◌, max, cond, fold, rules}
use Rattle.trace.specs.Hex.{is_hex}
use Rattle.trace.proofs.Read.{hex-worst}
use Rattle.trace.proofs.all_hex.Goals as goal

pub returns : goal.returns
returns c e =
    let worst : c.fold-worst.result ≡ fold (λ v b. max v (cond (is_hex b) 0 1)) 0 c.args.bytes.now = search rules in
    (hex-worst c.args.bytes.now 0 (search rules)).1
