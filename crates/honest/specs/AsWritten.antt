-- A list that is legal in document 02's own words (`LegalAsWritten`), with lost resets and overtaken segments: the two ends alone, on a fresh
-- table of one place.
use Rattle.std.specs.Prelude.{List, [], ◌∷◌, ◌++◌, reverse}
use Rattle.segment.specs.Flags.{ACK, FIN+ACK, RST, ACK+RST}
use Rattle.honest.specs.Witness.{Piece, opener's, answerer's, Seen, sends}
use Rattle.honest.specs.Needed.{first_ack, comes, got, syn_ack_through}

-- the opener's sending 1, the answerer's 2, counted from 0
abbrev openers_abort : Piece
openers_abort = opener's ACK+RST 1 10 1 65535 tt

abbrev answerers_abort : Piece
answerers_abort = answerer's RST 101 0 0 0 tt

-- oldest first
abbrev aborted_story : List Seen
aborted_story =
    syn_ack_through
    -- in stage 2 the opener sends a reset; it passes twice and is lost past the filter, and so its ACK comes, at the last millisecond of stage 6
    ++ (sends openers_abort
    ∷ comes 1 100 openers_abort
    ∷ comes 1 200 openers_abort
    ∷ sends first_ack
    ∷ comes 2 10199 first_ack
    ∷ got 2 first_ack
    ∷ sends (answerer's ACK 1 100 1 1000 tt)
    ∷ comes 1 10300 (answerer's ACK 1 100 1 1000 tt)
    ∷ got 1 (answerer's ACK 1 100 1 1000 tt)
    -- then the answerer sends one, lost too; what it overtook comes again, at the last millisecond
    ∷ sends answerers_abort
    ∷ comes 2 20000 answerers_abort
    ∷ comes 1 29999 (answerer's ACK 1 100 1 1000 tt)
    -- the opener's FIN overtakes its octets
    ∷ sends (opener's ACK 1 10 101 1000 tt)
    ∷ sends (opener's FIN+ACK 11 1 101 1000 tt)
    ∷ comes 4 30000 (opener's FIN+ACK 11 1 101 1000 tt)
    ∷ comes 3 30100 (opener's ACK 1 10 101 1000 tt)
    ∷ [])

abbrev pub aborted : List Seen
aborted = reverse aborted_story
