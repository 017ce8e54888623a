-- Laws of writing: the fields of a line, and the answer where all fits.
use Prim.Native.Nat.{ℕ, ◌+◌, ◌*◌, ◌^◌, ◌≤◌, ◌<◌}
use mathlib.Core.Path.{◌≡◌, refl, sym, ap, ◌∙◌}
use mathlib.Core.List.{List, [], ◌∷◌, ◌++◌, append_assoc}
use native.Mathlib.Omega.{arith}
use Rattle.std.proofs.Common.{Ok}
use lib.ListN.{length, get_or, take, drop, set, length-append}
use borrow.Author.Tests.{le-ltb, lt-leb, ne_eqb}
use Rattle.choice.proofs.Choice.{when-false}
use Rattle.octets.specs.Overwrite.{overwrite}
use Rattle.octets.proofs.Overwrite.{overwrite-all, part≡overwrite, set≡overwrite, set-set≡overwrite, length-overwrite, overwrite-join}
use Rattle.trace.specs.Hex.{hex_digits, hex_pairs}
use Rattle.trace.specs.Line.{LegalValues, line_of}
use Rattle.trace.specs.Write.{write_line}
use Rattle.trace.proofs.Hex.{length-hex_digits, length-hex_pairs, hex_pairs-drop}
use Rattle.trace.proofs.Line.{length-line_of}

pub write_line-written :
    (side clock n room : ℕ) → side < 2 → clock < 2 ^ 48 → 1 ≤ n → n ≤ 2048 → 15 + 2 * n ≤ room →
    write_line side clock n room ≡ Ok (15 + 2 * n)
unfolding write_line
write_line-written side clock n room known early some most fits =
    when-false _ _ _ (le-ltb 1 side (omega arith))
    ∙ when-false _ _ _ (lt-leb (2 ^ 48) clock early)
    ∙ when-false _ _ _ (ne_eqb n 0 (λ e. omega arith))
    ∙ when-false _ _ _ (le-ltb 2048 n most)
    ∙ when-false _ _ _ (le-ltb room (15 + 2 * n) fits)

pub write_line-legal :
    (side clock : ℕ) (packet : List ℕ) (room : ℕ) → LegalValues side clock packet → 15 + 2 * length packet ≤ room →
    write_line side clock (length packet) room ≡ Ok (15 + 2 * length packet)
write_line-legal side clock packet room legal fits =
    write_line-written side clock (length packet) room legal.side_known legal.clock_fits legal.some legal.most fits

-- a pair, written, leaves the pairs after it to be written
pub overwrite-hex_pairs :
    (l bs : List ℕ) (i : ℕ) (pair : List ℕ) → i < length bs → 2 * i + 2 ≤ length l → pair ≡ hex_digits 2 (get_or bs i 0) →
    overwrite (overwrite l (2 * i) pair) (2 * (i + 1)) (hex_pairs (drop (i + 1) bs)) ≡ overwrite l (2 * i) (hex_pairs (drop i bs))
overwrite-hex_pairs l bs i pair inside fits is =
    let next : 2 * (i + 1) ≡ 2 * i + 2 = omega arith in
    rw (is, next, hex_pairs-drop bs i inside)
    (overwrite-join l (2 * i) 2 (hex_digits 2 (get_or bs i 0)) (hex_pairs (drop (i + 1) bs)) (length-hex_digits 2 (get_or bs i 0)) fits)

-- side, space, clock, space and packet, written one after the other, are the line
pub overwrite-line_of :
    (side clock : ℕ) (packet l m : List ℕ) → 15 ≤ length l → m ≡ overwrite (set (set l 0 (48 + side)) 1 32) 2 (hex_digits 12 clock) →
    overwrite (set m 14 32) 15 (hex_pairs packet) ≡ overwrite l 0 (line_of side clock packet)
unfolding line_of
overwrite-line_of side clock packet l m long e =
    let front : List ℕ = (48 + side) ∷ 32 ∷ hex_digits 12 clock in
    let size : length front ≡ 14 = rw (length-hex_digits 12 clock) in
    let start : m ≡ overwrite l 0 front =
    e ∙ rw (set-set≡overwrite l 0 (48 + side) 32 (omega arith)) (overwrite-join l 0 2 ((48 + side) ∷ 32 ∷ []) (hex_digits 12 clock) refl (omega arith)) in
    let space : set m 14 32 ≡ overwrite l 0 (front ++ (32 ∷ [])) =
    rw start
    (set≡overwrite (overwrite l 0 front) 14 32 (rw (length-overwrite l 0 front (omega arith)) long)
    ∙ overwrite-join l 0 14 front (32 ∷ []) size (omega arith)) in
    rw space
    (overwrite-join l 0 15 (front ++ (32 ∷ [])) (hex_pairs packet) (length-append front (32 ∷ []) ∙ rw size) long
    ∙ ap (overwrite l 0) (append_assoc front (32 ∷ []) (hex_pairs packet)))

-- the same, as these parts come back from where they were lent
pub parts-line_of :
    (side clock n k : ℕ) (packet l text pairs : List ℕ) → length l ≡ 15 + 2 * length packet → text ≡ hex_digits n clock → n ≡ 12 → pairs ≡ hex_pairs packet →
    k ≡ 2 * length packet → let start = set (set l 0 (48 + side)) 1 32 in let mid = set (take 2 start ++ (text ++ drop 12 (drop 2 start))) 14 32 in
    take 15 mid ++ (pairs ++ drop k (drop 15 mid)) ≡ line_of side clock packet
parts-line_of side clock n k packet l text pairs long first size second rest =
    let start : List ℕ = set (set l 0 (48 + side)) 1 32 in
    let m : List ℕ = take 2 start ++ (text ++ drop 12 (drop 2 start)) in
    let is : text ≡ hex_digits 12 clock = rw size at first in
    let written : m ≡ overwrite start 2 (hex_digits 12 clock) = part≡overwrite start 2 12 text (ap length is ∙ length-hex_digits 12 clock) ∙ rw is in
    part≡overwrite (set m 14 32) 15 k pairs (ap length second ∙ length-hex_pairs packet ∙ sym rest)
    ∙ rw second (overwrite-line_of side clock packet l m (omega arith) written)
    ∙ overwrite-all l (line_of side clock packet) (length-line_of side clock packet ∙ sym long)
