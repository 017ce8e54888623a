-- Every flow and segment that reading a packet gives is within its fields, the segment readable, and a refusal points into the packet.
use Prim.Native.Nat.{ℕ, ◌+◌, ◌-◌, ◌*◌, ◌/◌, ◌^◌, ◌<◌}
use mathlib.Core.Path.{◌≡◌, refl, sym, ap, ◌∙◌}
use mathlib.Core.Bool.{Bool, true, false}
use mathlib.Core.List.{List}
use native.Mathlib.Omega.{arith}
use borrow.Author.Tests.{eq-eqb, eqb-true, eqb-false, not-false}
use Rattle.std.specs.Prelude.{Result, Ok, Err, ⊤}
use Rattle.choice.specs.Choice.{when◌then◌else◌, ◌=ᵇ◌}
use Rattle.choice.proofs.Tests.{||-false, false-true}
use Rattle.octets.specs.Octets.{Octets}
use Rattle.octets.proofs.BigEndian.{big_endian<256^n}
use Rattle.address.specs.Address.{flow_at}
use Rattle.address.specs.declared.Flow.{Flow}
use Rattle.address.specs.declared.Version.{Version}
use Rattle.address.specs.declared.Version.TheVariants.{V4}
use Rattle.address.proofs.Laws.{fits-flow_at}
use Rattle.segment.specs.Flags.{fin, syn, rst, ack, control}
use Rattle.segment.specs.Readable.{Readable}
use Rattle.segment.specs.declared.Segment.{Segment}
use Rattle.packet.specs.Header.{control_bits, header_length, total_length}
use Rattle.packet.specs.Read.{IpRead, PacketRead, refused_at, rows6to8, ipv4_header, ipv4_addresses, payload, segment_of, row10, on_flags, tcp_rows, on_header, read_ipv4}
use Rattle.packet.specs.Reader.{ReaderOf}
use Rattle.packet.specs.declared.Cause.{Cause}
use Rattle.packet.proofs.Flags.{bit-clear}
use Rattle.packet.proofs.Offsets.{HeaderPoints, header-points, ipv4_header-points}

-- What a list gives that took none of its lines

past-refusal :
    {f : Flow} {g : Segment} {rest : PacketRead} (t : Bool) (cause : Cause) (offset : ℕ) → (when t then refused_at cause offset else rest) ≡ Ok (f, g) →
    rest ≡ Ok (f, g)
unfolding when◌then◌else◌
past-refusal true cause offset e = false-true cc
past-refusal false cause offset e = e

past-bad : {t : Bool} {check : Result ⊤ Cause} (cause : Cause) → (when t then Err cause else check) ≡ Ok tt → (t ≡ false) × (check ≡ Ok tt)
unfolding when◌then◌else◌
past-bad {t = true} cause e = false-true cc
past-bad {t = false} cause e = (refl, e)

past-check :
    {f : Flow} {g : Segment} (h : ℕ) (read : PacketRead) (check : Result ⊤ Cause) → on_flags h check read ≡ Ok (f, g) →
    (check ≡ Ok tt) × (read ≡ Ok (f, g))
past-check h read (Err cause) e = false-true cc
past-check h read (Ok _) e = (refl, e)

past-bad-header :
    {h t : ℕ} {rest : IpRead} (b : Bool) (cause : Cause) (offset : ℕ) → (when b then refused_at cause offset else rest) ≡ Ok (h, t) →
    rest ≡ Ok (h, t)
unfolding when◌then◌else◌
past-bad-header true cause offset e = false-true cc
past-bad-header false cause offset e = e

carries-both : (h t j u : ℕ) → ◌≡◌ {A = IpRead} (Ok (h, t)) (Ok (j, u)) → (h ≡ j) × (t ≡ u)
carries-both h t j u e = let both : ◌≡◌ {A = ℕ × ℕ} (h, t) (j, u) = cc in (ap (λ r. r.0) both, ap (λ r. r.1) both)

-- The IPv4 header

-- where TCP's header begins, and where the packet ends
pub ipv4-carries : (p : List ℕ) (h t : ℕ) → ipv4_header p ≡ Ok (h, t) → (header_length p ≡ h) × (total_length p ≡ t)
unfolding rows6to8 ipv4_header
ipv4-carries p h t e =
    let past-1 = past-bad-header _ _ _ e in
    let past-row5 = past-bad-header _ _ _ (past-bad-header _ _ _ (past-bad-header _ _ _ (past-bad-header _ _ _ past-1))) in
    carries-both _ _ h t (past-bad-header _ _ _ (past-bad-header _ _ _ (past-bad-header _ _ _ past-row5)))

-- at most 65,535 octets follow it
ipv4-span : (p : List ℕ) (h t : ℕ) → Octets p → ipv4_header p ≡ Ok (h, t) → t - h < 2 ^ 16
ipv4-span p h t octets e = omega (arith, (ipv4-carries p h t e).1, big_endian<256^n 2 p 2 octets)

-- The flags

module _ (x : ℕ) where
  control-quarter : control x / 4 ≡ rst x + 4 * ack x
  control-quarter = omega arith

  control-sixteenth : control x / 16 ≡ ack x
  control-sixteenth = omega arith

  fin-control : fin (control x) ≡ fin x
  fin-control = omega arith

  syn-control : syn (control x) ≡ syn x
  syn-control = omega arith

  rst-control : rst (control x) ≡ rst x
  rst-control = rw control-quarter (omega arith)

  ack-control : ack (control x) ≡ ack x
  ack-control = rw control-sixteenth (omega arith)

  control-control : control (control x) ≡ control x
  control-control = rw (fin-control, syn-control, rst-control, ack-control)

module _ (f n : ℕ) (fine : row10 f n ≡ Ok tt) where
  row10-no-syn-fin : syn f ≡ 1 → (fin f ≡ 0) × (rst f ≡ 0)
  unfolding row10
  row10-no-syn-fin s =
      let none = ||-false (fin f =ᵇ 1) (rst f =ᵇ 1) (rw (eq-eqb (syn f) 1 s) at (past-bad _ fine).0) in
      (omega (arith, eqb-false (fin f) 1 none.0), omega (arith, eqb-false (rst f) 1 none.1))

  row10-some-bit : syn f ≡ 0 → ack f ≡ 0 → rst f ≡ 1
  unfolding row10
  row10-some-bit s a =
      eqb-true (rst f) 1 (not-false _ (rw (bit-clear (syn f) s, bit-clear (ack f) a) at (past-bad _ (past-bad _ fine).1).0))

  row10-syn-alone : syn f ≡ 1 → n ≡ 0
  unfolding row10
  row10-syn-alone s =
      eqb-true n 0 (not-false _ (rw (eq-eqb (syn f) 1 s) at (past-bad _ (past-bad _ (past-bad _ fine).1).1).0))

-- The segment

segment_of-readable :
    (p : List ℕ) (h t : ℕ) → Octets p → t - h < 65536 → row10 (control_bits p h) (payload p h t) ≡ Ok tt →
    Readable (segment_of p h t)
segment_of-readable p h t octets small fine =
    let x : ℕ = control_bits p h in
    let n : ℕ = payload p h t in
    let syn-x : syn (control x) ≡ 1 → syn x ≡ 1 = λ s. sym (syn-control x) ∙ s in
    record {
      seq_fits = big_endian<256^n 4 p (h + 4) octets;
      ack_fits = big_endian<256^n 4 p (h + 8) octets;
      window_fits = omega (arith, big_endian<256^n 2 p (h + 14) octets);
      octets_fit = omega arith;
      bits = control-control x;
      syn_alone = λ s. omega (arith, syn-x s, (row10-no-syn-fin x n fine (syn-x s)).0, row10-syn-alone x n fine (syn-x s));
      some_bit = λ s a. rst-control x ∙ row10-some-bit x n fine (sym (syn-control x) ∙ s) (sym (ack-control x) ∙ a);
      no_syn_fin = λ s. let none = row10-no-syn-fin x n fine (syn-x s) in (fin-control x ∙ none.0, rst-control x ∙ none.1);
    }

-- The reader of any version

-- where a packet's flow and segment stand
record Stands (v : Version) (addresses : ℕ) (p : List ℕ) (r : IpRead) (k : Flow) (g : Segment) : Type 0 where
  h : ℕ
  t : ℕ
  carries : r ≡ Ok (h, t)
  fine : row10 (control_bits p h) (payload p h t) ≡ Ok tt
  flow : k ≡ flow_at v p addresses h
  segment : g ≡ segment_of p h t

module _ (v : Version) (addresses : ℕ) (p : List ℕ) (k : Flow) (g : Segment) where
  past-tcp_rows :
      (h t : ℕ) → tcp_rows v addresses p h t ≡ Ok (k, g) →
      (row10 (control_bits p h) (payload p h t) ≡ Ok tt) × (◌≡◌ {A = PacketRead} (Ok (flow_at v p addresses h, segment_of p h t)) (Ok (k, g)))
  unfolding tcp_rows
  past-tcp_rows h t e = past-check _ _ _ (past-refusal _ _ _ (past-refusal _ _ _ (past-refusal _ _ _ (past-refusal _ _ _ e))))

  stands : (r : IpRead) → on_header v addresses p r ≡ Ok (k, g) → Stands v addresses p r k g
  stands (Err refused) e = false-true cc
  stands (Ok (h, t)) e =
      let both = past-tcp_rows h t e in
      let carried = both.1 in
      let same : ◌≡◌ {A = Flow × Segment} (k, g) (flow_at v p addresses h, segment_of p h t) = cc in
      record { h = h; t = t; carries = refl; fine = both.0; flow = ap (λ r. r.0) same; segment = ap (λ r. r.1) same }

-- a version's reader by its rows 5 to 8, if they let at most 65,535 octets follow the IP header, and point into the packet
reader-of :
    (v : Version) (addresses : ℕ) (header : List ℕ → IpRead) →
    ((p : List ℕ) (h t : ℕ) → Octets p → header p ≡ Ok (h, t) → t - h < 2 ^ 16) → ((p : List ℕ) → HeaderPoints p (header p)) →
    ReaderOf v (λ p. on_header v addresses p (header p))
reader-of v addresses header span points = record {
  flow = λ p k g octets e.
      let s = stands v addresses p k g (header p) e in
      rw s.flow (fits-flow_at v p addresses s.h octets);
  segment = λ p k g octets e.
      let s = stands v addresses p k g (header p) e in
      rw s.segment (segment_of-readable p s.h s.t octets (span p s.h s.t octets s.carries) s.fine);
  points = λ p. header-points v addresses p (header p) (points p);
}

pub ipv4-reader : ReaderOf V4 read_ipv4
ipv4-reader = reader-of V4 ipv4_addresses ipv4_header ipv4-span ipv4_header-points
