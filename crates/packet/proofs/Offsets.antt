-- A refusal's offset points into the packet.
use Prim.Native.Nat.{ℕ, ◌-◌, ◌≤◌, ◌<◌}
use mathlib.Core.Path.{◌≡◌, refl, subst}
use mathlib.Core.Logic.{inl, inr}
use mathlib.Core.List.{List}
use native.Mathlib.Omega.{arith}
use lib.ListN.{length}
use borrow.Author.Tests.{ltb-false}
use Rattle.std.specs.Prelude.{Result, Ok, Err, ⊤}
use Rattle.choice.proofs.Choice.{when-either, when-cases}
use Rattle.address.specs.declared.Version.{Version}
use Rattle.packet.specs.Header.{header_length, total_length, control_bits}
use Rattle.packet.specs.Read.{IpRead, PacketRead, refused_at, rows6to8, ipv4_header, payload, row10, on_flags, tcp_rows, on_header}
use Rattle.packet.specs.Reader.{PointsInto}
use Rattle.packet.specs.declared.Cause.{Cause}
use Rattle.packet.proofs.Flags.{flags-offset}

-- what an IP header carries begins within 60 bytes and ends in the packet
abbrev pub HeaderPoints : List ℕ → IpRead → Type 0
HeaderPoints p (Err e) = PointsInto p e.cause e.offset
HeaderPoints p (Ok (h, t)) = (h ≤ 60) × (h ≤ t) × (t ≤ length p)

abbrev ReadPoints : List ℕ → PacketRead → Type 0
ReadPoints p (Err e) = PointsInto p e.cause e.offset
ReadPoints p (Ok _) = Unit {0}

inside : {p : List ℕ} {cause : Cause} {offset : ℕ} → offset < length p → offset < 120 → PointsInto p cause offset
inside given below = record { given = inl given; below_120 = below }

-- Rows 9, 16 and 10, of every version

module _ (v : Version) (addresses : ℕ) (p : List ℕ) (h t : ℕ) (short : h ≤ 60) (behind : h ≤ t) (given : t ≤ length p) where
  flags-point :
      (read : PacketRead) (check : Result ⊤ Cause) → row10 (control_bits p h) (payload p h t) ≡ check → 20 ≤ t - h → ReadPoints p read →
      ReadPoints p (on_flags h check read)
  flags-point read (Err cause) bad room points =
      let at = flags-offset h (control_bits p h) (payload p h t) cause bad in
      inside (omega (arith, at)) (omega (arith, at))
  flags-point read (Ok _) fine room points = points

  tcp_rows-point : ReadPoints p (tcp_rows v addresses p h t)
  unfolding tcp_rows
  tcp_rows-point =
      when-cases (ReadPoints p) _ _ _ (λ _. record { given = inr (inr refl, omega arith); below_120 = omega arith }) λ e.
      let room : 20 ≤ t - h = ltb-false (t - h) 20 e in
      when-either (ReadPoints p) _ _ _ (inside (omega arith) (omega arith))
      (when-either (ReadPoints p) _ _ _ (inside (omega arith) (omega arith))
      (when-either (ReadPoints p) _ _ _ (inside (omega arith) (omega arith))
      (flags-point _ (row10 (control_bits p h) (payload p h t)) refl room tt)))

pub header-points :
    (v : Version) (addresses : ℕ) (p : List ℕ) (r : IpRead) → HeaderPoints p r →
    (cause : Cause) (offset : ℕ) → on_header v addresses p r ≡ refused_at cause offset → PointsInto p cause offset
header-points v addresses p (Err refused) points cause offset e = subst (ReadPoints p) e points
header-points v addresses p (Ok (h, t)) points cause offset e =
    subst (ReadPoints p) e (tcp_rows-point v addresses p h t points.0 points.1 points.2)

-- Rows 5 to 8, of IPv4

module _ (p : List ℕ) where
  rows6to8-point : (h t : ℕ) → h ≤ 60 → h ≤ t → t ≤ length p → 20 ≤ length p → HeaderPoints p (rows6to8 p h t)
  unfolding rows6to8
  rows6to8-point h t short behind given whole =
      when-either (HeaderPoints p) _ _ _ (inside (omega arith) (omega arith))
      (when-either (HeaderPoints p) _ _ _ (inside (omega arith) (omega arith))
      (when-either (HeaderPoints p) _ _ _ (inside (omega arith) (omega arith))
      (short, behind, given)))

  pub ipv4_header-points : HeaderPoints p (ipv4_header p)
  unfolding ipv4_header
  ipv4_header-points =
      let h : ℕ = header_length p in
      let t : ℕ = total_length p in
      when-cases (HeaderPoints p) _ _ _ (λ _. record { given = inr (inl refl, omega arith); below_120 = omega arith }) λ whole.
      let room : 20 ≤ length p = ltb-false (length p) 20 whole in
      when-either (HeaderPoints p) _ _ _ (inside (omega arith) (omega arith))
      (when-either (HeaderPoints p) _ _ _ (inside (omega arith) (omega arith))
      (when-cases (HeaderPoints p) _ _ _ (λ _. inside (omega arith) (omega arith)) λ behind.
      when-cases (HeaderPoints p) _ _ _ (λ _. inside (omega arith) (omega arith)) λ given.
      rows6to8-point h t (omega arith) (ltb-false t h behind) (ltb-false (length p) t given) room))
