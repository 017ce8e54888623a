-- Stages and their lives (document 01, "Stages" and "The table"; stage 6 is document 02's, item 6).
use Rattle.std.specs.Prelude.{ℕ, ◌+◌, ◌/◌, ◌%◌, ◌&&◌, ◌||◌}
use Rattle.choice.specs.Choice.{when◌then◌else◌, ◌≤ᵇ◌, ◌=ᵇ◌}
use Rattle.segment.specs.Flags.{fin, syn, ack}
use Rattle.connection.specs.Ends.{opener}

-- the longest life of a stage, in ms: that of stage 3
abbrev pub longest_life : ℕ
longest_life = 432000000

-- life of a stage, in ms: 1 and 2: 60,000; 3: 432,000,000; 4: 3,600,000; 5: 240,000; 6: 10,000. No sound entry has another stage; stage 0,
-- a free connection's, has no life
unfoldable pub life_of : ℕ → ℕ
life_of stage =
    when (1 ≤ᵇ stage) && (stage ≤ᵇ 2) then 60000
    else when stage =ᵇ 3 then longest_life
    else when stage =ᵇ 4 then 3600000
    else when stage =ᵇ 5 then 240000
    else when stage =ᵇ 6 then 10000
    else 0

-- the FIN bits with sender i's set: bit 0 the opener's, bit 1 the answerer's
unfoldable pub with_fin : ℕ → ℕ → ℕ
with_fin fins i =
    when i =ᵇ opener then (when fins % 2 =ᵇ 1 then fins else fins + 1)
    else (when fins / 2 % 2 =ᵇ 1 then fins else fins + 2)

-- from stage 2: a passed FIN sets its sender's bit; f the segment's flags
unfoldable pub fins_after : ℕ → ℕ → ℕ → ℕ
fins_after fins i f = when fin f =ᵇ 1 then with_fin fins i else fins

-- with no FIN bit: 3 if it was 3 or the opener sent ACK without SYN, else 2; and from stage 6 it returns to 3 (document 02, item 6)
unfoldable pub open_stage : ℕ → ℕ → ℕ → ℕ
open_stage stage i f =
    when (stage =ᵇ 3) || (stage =ᵇ 6) then 3
    else when (i =ᵇ opener) && ((ack f =ᵇ 1) && (syn f =ᵇ 0)) then 3
    else 2

-- new stage, by the FIN bits after the segment: 5 with both bits, 4 with one, else 3 or 2
unfoldable pub stage_after : ℕ → ℕ → ℕ → ℕ → ℕ
stage_after stage fins i f =
    when fins =ᵇ 3 then 5
    else when (1 ≤ᵇ fins) && (fins ≤ᵇ 2) then 4
    else open_stage stage i f
