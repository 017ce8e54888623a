-- An answer and a place as one number.
use Rattle.std.specs.Prelude.{ℕ, ◌+◌, ◌*◌, ◌/◌, ◌%◌, ◌≡◌, List}
use Rattle.filter.specs.Call.{ipv4_outcome, reply_of}
use Rattle.filter.specs.declared.Reply.{Reply}

-- answer·65,536 + place
abbrev pub packed : Reply → ℕ
packed r = r.answer * 65536 + r.place

-- quotient and remainder give them back, as qb_answer and qb_place in the header take them
abbrev pub Unpacked : Type 0
Unpacked =
    (side clock : ℕ) (t packet : List ℕ) →
    (packed (reply_of (ipv4_outcome side clock t packet)) / 65536 ≡ (reply_of (ipv4_outcome side clock t packet)).answer)
    × (packed (reply_of (ipv4_outcome side clock t packet)) % 65536 ≡ (reply_of (ipv4_outcome side clock t packet)).place)
