-- A cause of row 10 has the flags' offset.
use Rattle.std.proofs.Common.{arith}
use Rattle.choice.proofs.Choice.{when_cond}
use Rattle.std.proofs.lemmas.Grind.{common_steps}
use Rattle.packet.specs.Header.{control_bits}
use Rattle.packet.specs.Read.{payload, tcp_rows}
use Rattle.packet.proofs.Flags.{flags-offset}
use Rattle.packet.proofs.TcpBytes.read.Goals as goal

pub returns-in_err-map_err : goal.returns-in_err-map_err
unfolding tcp_rows
returns-in_err-map_err c =
    let b = c.args.self in
    let at = flags-offset b.begin (control_bits b.packet.now b.begin) (payload b.packet.now b.begin b.end) in
    simp when_cond (grind (arith, common_steps, at))
