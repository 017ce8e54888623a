-- Soundness is kept, whatever the traffic: no honesty is asked, only what every packet has (`Placeable`).
use Rattle.std.specs.Prelude.{ℕ, ◌≤◌, ◌<◌, ◌≡◌, true}
use Rattle.segment.specs.Flags.{rst}
use Rattle.segment.specs.declared.Segment.{Segment}
use Rattle.connection.specs.Decision.{pass, verdict_on, opened, passed}
use Rattle.connection.specs.Sound.{sound_connection}
use Rattle.connection.specs.declared.Connection.{Connection}
use Rattle.connection.specs.declared.End.{End}
use Rattle.history.specs.History.{Placeable}
use Rattle.history.specs.Records.{TwoEnds}

-- an opening is sound
abbrev pub OpenedSound : Type 0
OpenedSound =
    (side : ℕ) (g : Segment) (now : ℕ) → side ≤ 1 → Placeable g →
    sound_connection now (opened side g now) ≡ true

-- a pass of a sound connection leaves it sound, by the clock used; so does a reset from stage 2 on, while one in stage 1 frees it (`passed`)
abbrev pub PassedSound : Type 0
PassedSound =
    (clock : ℕ) (c : Connection) (x : ℕ → End) → TwoEnds c x → sound_connection clock c ≡ true → (i : ℕ) → i < 2 → (g : Segment) →
    Placeable g → (now : ℕ) → verdict_on c i g ≡ pass → (rst g.flags ≡ 1 → 2 ≤ c.stage) →
    sound_connection now (passed c i g now) ≡ true
