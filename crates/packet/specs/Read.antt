-- What reading a packet gives: answers 5 to 10 of document 01 in its order, with 16 of document 02, item 5, after 9; 15 causes told apart, each
-- with the byte offset that document 02, items 2 and 5, gives it; or the flow and the segment.
-- The IP version decides rows 5 to 8 and where the addresses stand; rows 9, 16 and 10 are TCP's, and the same for every version.
-- p is the packet's bytes, h its IP header's length, t its total length.
use Rattle.std.specs.Prelude.{ℕ, ◌+◌, ◌-◌, ◌&&◌, ◌||◌, not, List, length, take, Result, Ok, Err, ⊤}
use Rattle.choice.specs.Choice.{when◌then◌else◌, ◌<ᵇ◌, ◌=ᵇ◌, ◌≠ᵇ◌}
use Rattle.address.specs.Address.{flow_at}
use Rattle.address.specs.declared.Flow.{Flow}
use Rattle.address.specs.declared.Version.{Version}
use Rattle.address.specs.declared.Version.TheVariants.{V4}
use Rattle.segment.specs.Flags.{fin, syn, rst, ack, control}
use Rattle.segment.specs.declared.Segment.{Segment}
use Rattle.packet.specs.Header.{version, header_length, total_length, more_fragments, fragment_offset, protocol, sequence_number, acknowledgment_number, data_offset, control_bits, window}
use Rattle.packet.specs.TcpSum.{tcp_sum}
use Rattle.checksum.specs.Sum.{ones_sum}
use Rattle.packet.specs.declared.Cause.{Cause}
use Rattle.packet.specs.declared.Cause.TheVariants.{Short, OtherVersion, HeaderLength, TotalBelowHeader, TotalAboveGiven, HeaderSum, Fragment, Protocol, TcpShort, DataOffsetBelowFive, DataOffsetPastTotal, TcpSum, SynFinRst, NoSynAckRst, SynPayload}
use Rattle.packet.specs.declared.PacketError.{PacketError}

-- what an IP header says: where TCP's header begins and where the packet ends, or a refusal
abbrev pub IpRead : Type 0
IpRead = Result (ℕ × ℕ) PacketError

-- what reading a packet gives: the flow and the segment, or a refusal
abbrev pub PacketRead : Type 0
PacketRead = Result (Flow × Segment) PacketError

-- Causes

-- the documents' number of each cause
abbrev pub cause_number : Cause → ℕ
cause_number Short = 5
cause_number OtherVersion = 5
cause_number HeaderLength = 5
cause_number TotalBelowHeader = 5
cause_number TotalAboveGiven = 5
cause_number HeaderSum = 6
cause_number Fragment = 7
cause_number Protocol = 8
cause_number TcpShort = 9
cause_number DataOffsetBelowFive = 9
cause_number DataOffsetPastTotal = 9
cause_number TcpSum = 16
cause_number SynFinRst = 10
cause_number NoSynAckRst = 10
cause_number SynPayload = 10

-- document 02, item 2, "where it broke": the offset of each cause from the packet's first byte; 5 to 8 as IPv4's header has its fields, 9, 16
-- and 10 as TCP's has, whatever version carries it
abbrev pub cause_offset : ℕ → Cause → ℕ
-- "5: 0 for the first three causes, 2 for total length"
cause_offset h Short = 0
cause_offset h OtherVersion = 0
cause_offset h HeaderLength = 0
cause_offset h TotalBelowHeader = 2
cause_offset h TotalAboveGiven = 2
-- "6: 10; 7: 6; 8: 9"
cause_offset h HeaderSum = 10
cause_offset h Fragment = 6
cause_offset h Protocol = 9
-- "9: h if under 20 bytes follow, else h + 12"
cause_offset h TcpShort = h
cause_offset h DataOffsetBelowFive = h + 12
cause_offset h DataOffsetPastTotal = h + 12
-- item 5: "offset h + 16"
cause_offset h TcpSum = h + 16
-- "10: h + 13"
cause_offset h SynFinRst = h + 13
cause_offset h NoSynAckRst = h + 13
cause_offset h SynPayload = h + 13

-- a refusal, by the IP header or of the packet, has its cause and its offset
abbrev pub refused_at : {A : Type 0} → Cause → ℕ → Result A PacketError
refused_at cause offset = Err (record { cause = cause; offset = offset })

abbrev pub refusal : {A : Type 0} → ℕ → Cause → Result A PacketError
refusal h cause = refused_at cause (cause_offset h cause)

-- Each list: the first line that applies wins

-- IPv4: rows 5 to 8, or where TCP's header begins and where the packet ends

unfoldable pub rows6to8 : List ℕ → ℕ → ℕ → IpRead
rows6to8 p h t =
    -- 6: the header's ones' complement 16-bit sum is not ffff
    when ones_sum (take h p) ≠ᵇ 0xffff then refusal h HeaderSum
    -- 7: more-fragments set or fragment offset not 0
    else when (more_fragments p =ᵇ 1) || (fragment_offset p ≠ᵇ 0) then refusal h Fragment
    -- 8: protocol is not 6
    else when protocol p ≠ᵇ 6 then refusal h Protocol
    else Ok (h, t)

unfoldable pub ipv4_header : List ℕ → IpRead
ipv4_header p =
    let h : ℕ = header_length p in
    let t : ℕ = total_length p in
    -- 5: under 20 bytes; version not 4; header length under 20; total length below header length or above the bytes given
    when length p <ᵇ 20 then refusal h Short
    else when version p ≠ᵇ 4 then refusal h OtherVersion
    else when h <ᵇ 20 then refusal h HeaderLength
    else when t <ᵇ h then refusal h TotalBelowHeader
    else when length p <ᵇ t then refusal h TotalAboveGiven
    else rows6to8 p h t

-- where its source address begins; the destination's follows it
abbrev pub ipv4_addresses : ℕ
ipv4_addresses = 12

-- TCP, whatever IP version carries it

-- payload octets
abbrev pub payload : List ℕ → ℕ → ℕ → ℕ
payload p h t = t - h - data_offset p h

abbrev pub segment_of : List ℕ → ℕ → ℕ → Segment
segment_of p h t = record {
  seq = record { 0 = sequence_number p h };
  ack = record { 0 = acknowledgment_number p h };
  window = record { 0 = window p h };
  flags = control (control_bits p h);
  octets = record { 0 = payload p h t + syn (control_bits p h) + fin (control_bits p h) };
}

-- 10, of the flags f and n payload octets
unfoldable pub row10 : ℕ → ℕ → Result ⊤ Cause
row10 f n =
    -- 10: SYN with FIN or RST; none of SYN, ACK, RST; SYN with payload
    when (syn f =ᵇ 1) && ((fin f =ᵇ 1) || (rst f =ᵇ 1)) then Err SynFinRst
    else when not ((syn f =ᵇ 1) || ((ack f =ᵇ 1) || (rst f =ᵇ 1))) then Err NoSynAckRst
    else when (syn f =ᵇ 1) && (n ≠ᵇ 0) then Err SynPayload
    else Ok tt

abbrev pub on_flags : ℕ → Result ⊤ Cause → PacketRead → PacketRead
on_flags h (Err cause) read = refusal h cause
on_flags h (Ok _) read = read

-- 9, 16 and 10, or the flow, by where the version has its addresses, and the segment
unfoldable pub tcp_rows : Version → ℕ → List ℕ → ℕ → ℕ → PacketRead
tcp_rows v addresses p h t =
    let k : Flow = flow_at v p addresses h in
    -- 9: under 20 bytes follow the IP header within total length; TCP data offset under 5 words or past total length
    when t - h <ᵇ 20 then refusal h TcpShort
    else when data_offset p h <ᵇ 20 then refusal h DataOffsetBelowFive
    else when t - h <ᵇ data_offset p h then refusal h DataOffsetPastTotal
    -- 16: the whole sum, with the pseudo-header, isn't ffff (document 02, item 5: "after 9 and before 10")
    else when tcp_sum v k p h t ≠ᵇ 0xffff then refusal h TcpSum
    else on_flags h (row10 (control_bits p h) (payload p h t)) (Ok (k, segment_of p h t))

-- The whole: what the IP header refuses, and then what TCP's does

abbrev pub on_header : Version → ℕ → List ℕ → IpRead → PacketRead
on_header v addresses p (Err e) = Err e
on_header v addresses p (Ok (h, t)) = tcp_rows v addresses p h t

abbrev pub read_ipv4 : List ℕ → PacketRead
read_ipv4 p = on_header V4 ipv4_addresses p (ipv4_header p)

-- the documents' answer and offset of a refusal; 0 and 0 where there is none
abbrev pub answer_and_offset : PacketRead → ℕ × ℕ
answer_and_offset (Err e) = (cause_number e.cause, e.offset)
answer_and_offset (Ok _) = (0, 0)
