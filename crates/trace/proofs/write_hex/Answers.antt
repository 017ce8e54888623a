use Rattle.std.proofs.Common.{rules}
use Rattle.trace.specs.Hex.{hex_digit, hex_digits}
use Rattle.trace.proofs.write_hex.Goals as goal

pub returns : goal.returns
unfolding hex_digits
returns c = c.write_digits.ensures hex_digit (λ d r small e. search rules)
